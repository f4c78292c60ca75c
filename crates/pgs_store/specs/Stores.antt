-- Stores: which copy of which object is there.
use Rattle.std.specs.Prelude.{ℕ, Bool, ◌≡◌, List, Option, Some, None, is_some, if◌then◌else◌}
use Rattle.pgs_name.specs.Families.{same_family}
use Rattle.pgs_name.specs.Families.{Family}
use Rattle.pgs_name.specs.declared.object_id.ObjectId.{ObjectId}
use Rattle.pgs_copy.specs.Copies.{no_copies, after_effects, after_damage, copy_bytes}
use Rattle.pgs_copy.specs.declared.obj_copy.ObjCopy.{ObjCopy}
use Rattle.pgs_copy.specs.declared.effect.Effect.{Effect}
use Rattle.pgs_copy.specs.declared.damage.Damage.{Damage}

-- a store is seen as the copies of each family, by snap
abbrev pub Stored : Type 0
Stored = Family → ℕ → Option ObjCopy

-- nothing is stored
abbrev pub nothing_stored : Stored
nothing_stored = λ f. no_copies

-- a copy is stored at a position
abbrev pub is_stored : Stored → ObjectId → Bool
is_stored stored id = is_some (stored id.family id.snap)

-- two stores hold the same
abbrev pub AreSame : Stored → Stored → Type 0
AreSame a b = (f : Family) (q : ℕ) → a f q ≡ b f q

-- a store after effects on the copies of one family: all others stay
abbrev pub affected : Family → List (ℕ × Effect) → Stored → Stored
affected family effects stored f q = if same_family family f then after_effects effects (stored f) q else stored f q

-- a store after damage to one copy of a family
abbrev pub harmed : Family → ℕ → Damage → Stored → Stored
harmed family snap damage stored f q = if same_family family f then after_damage snap damage (stored f) q else stored f q

-- the bytes of a copy, in all its parts: none where it isn't there
abbrev pub copy_size : Option ObjCopy → ℕ
copy_size None = 0
copy_size (Some copy) = copy_bytes copy
