-- The first of the copies that pass a test.
use Rattle.std.specs.Prelude.{ℕ, Bool, true, ◌≡◌, nat_lt, Option, Some, None, is_some}
use Rattle.std.specs.List.{find}
use Rattle.std.specs.Ordering.{is_le, is_lt, nat_cmp}
use Rattle.std.specs.BTreeMap.{BTreeMap, btree_map_len}
use Rattle.std.specs.BTreeMap.Range.{entries_between}
use Rattle.std.specs.declared.ops.Bound.{Bound as End}
use Rattle.std.specs.declared.ops.Bound.TheVariants.{Unbounded}
use Rattle.pgs_name.specs.Families.{Family}
use Rattle.pgs_name.specs.Order.{family_cmp}
use Rattle.pgs_name.specs.Positions.{position_cmp}
use Rattle.pgs_name.specs.declared.object_id.ObjectId.{ObjectId}
use Rattle.pgs_copy.specs.declared.obj_copy.ObjCopy.{ObjCopy}

-- of the positions that are held, the least one that passes a test, or none where there is none
abbrev pub IsFirst : (ObjectId → Bool) → (ObjectId → Bool) → Option ObjectId → Type 0
IsFirst held test None = (other : ObjectId) → held other ≡ true → test other ≡ true → ⊥
IsFirst held test (Some id) =
    (held id ≡ true) × (test id ≡ true) × ((other : ObjectId) → held other ≡ true → test other ≡ true → is_le (position_cmp id other) ≡ true)

-- of the copies of one family, the least snap above another, or none where there is none
abbrev pub IsNextSnap : (ℕ → Option ObjCopy) → ℕ → Option ℕ → Type 0
IsNextSnap copies snap None = (q : ℕ) → is_some (copies q) ≡ true → is_lt (nat_cmp snap q) ≡ true → ⊥
IsNextSnap copies snap (Some next) =
    (is_some (copies next) ≡ true) × (is_lt (nat_cmp snap next) ≡ true) × ((q : ℕ) → is_some (copies q) ≡ true → is_lt (nat_cmp snap q) ≡ true → is_le (nat_cmp next q) ≡ true)

-- a family with its copies has a copy
abbrev pub has_copies : Family × BTreeMap ℕ ObjCopy → Bool
has_copies entry = nat_lt 0 (btree_map_len entry.1)

-- the first family from a start on that has a copy
abbrev pub first_filled : BTreeMap Family (BTreeMap ℕ ObjCopy) → End Family → Option (Family × BTreeMap ℕ ObjCopy)
first_filled families start = find has_copies (entries_between family_cmp start Unbounded families.entries)

-- a family and a snap as a position
abbrev pub at_snap : Family → ℕ → ObjectId
at_snap family snap = record { family = family; snap = snap }
