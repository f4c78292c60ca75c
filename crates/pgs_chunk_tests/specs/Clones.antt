-- Clones of one object.
use Rattle.std.specs.Prelude.{ℕ, ◌≡◌, ◌≤◌, List, [], ◌∷◌}
use Rattle.std.specs.List.{AllByRecursion}
use Rattle.pgs_name.specs.Families.{family_named}
use Rattle.pgs_name.specs.declared.object_id.ObjectId.{ObjectId}

-- a position of a family with the key k
pub record IsNamed (name : List ℕ) (snap : ℕ) (id : ObjectId) : Type 0 where
  pub family : id.family ≡ family_named [] (107 ∷ []) name
  pub at : id.snap ≡ snap

-- a clone of the object a, up to a snap
pub record IsClone (most : ℕ) (id : ObjectId) : Type 0 where
  pub which : IsNamed (97 ∷ []) id.snap id
  pub upto : id.snap ≤ most

abbrev pub AreClones : ℕ → List ObjectId → Type 0
AreClones most ids = AllByRecursion (IsClone most) ids
