-- When effects are applied where the copies lie, with nothing that can fail behind the first of them.
use Rattle.std.specs.Prelude.{ℕ, ◌≡◌, Bool, true, false, not, ◌&&◌, List, Option, Some, None, is_some}
use Rattle.std.specs.List.{list_all, AllByRecursion}
use Rattle.pgs_bytes.specs.Texts.{same_text}
use Rattle.pgs_copy.specs.Pairs.{value_at}
use Rattle.pgs_copy.specs.declared.obj_copy.ObjCopy.{ObjCopy}
use Rattle.pgs_copy.specs.declared.effect.Effect.{Effect}
use Rattle.pgs_copy.specs.declared.effect.Effect.TheVariants.{Clear, SetAttr, RmAttr, Clone, Remove, Install}

-- the effect is on one part of a copy
abbrev pub is_edit : Effect → Bool
is_edit Clear = false
is_edit (Clone info) = false
is_edit Remove = false
is_edit (Install copy) = false
is_edit _ = true

-- the effect doesn't take this attribute away
abbrev pub keeps_attr : Effect → List ℕ → Bool
keeps_attr (RmAttr name) other = not (same_text name other)
keeps_attr _ other = true

-- a copy is there and has this attribute
abbrev pub has_attr : Option ObjCopy → List ℕ → Bool
has_attr None name = false
has_attr (Some copy) name = is_some (value_at name copy.attrs)

-- an effect gives another value to an attribute that the copy at its snap has, and that the first effect doesn't take away
abbrev pub is_change : Effect → Option ObjCopy → Effect → Bool
is_change first copy (SetAttr name value) = keeps_attr first name && has_attr copy name
is_change first copy _ = false

-- effects that are applied in place: the first is on a part of a copy that is there, and all others change attributes that are there
abbrev pub is_in_place : ℕ × Effect → List (ℕ × Effect) → (ℕ → Option ObjCopy) → Bool
is_in_place first rest copies = is_edit first.1 && is_some (copies first.0) && list_all (λ e. is_change first.1 (copies e.0) e.1) rest

-- an effect gives another value to an attribute that the copy at its snap has
abbrev pub IsThere : Option ObjCopy → Effect → Type 0
IsThere copy (SetAttr name value) = has_attr copy name ≡ true
IsThere copy _ = ⊥

-- all effects do so
abbrev pub AreThere : List (ℕ × Effect) → (ℕ → Option ObjCopy) → Type 0
AreThere effects copies = AllByRecursion (λ e. IsThere (copies e.0) e.1) effects
