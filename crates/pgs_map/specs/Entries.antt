-- Entries of stored copies.
use Rattle.std.specs.Prelude.{ℕ, Bool, true, false, ◌≡◌, List, length, Option, Some, None, if◌then◌else◌}
use Rattle.std.specs.List.{AllByRecursion, find}
use Rattle.std.specs.List.Sorted.{IsStrictlySortedBy}
use Rattle.pgs_crc.specs.Digest.{crc}
use Rattle.pgs_name.specs.Positions.{position_cmp, same_position}
use Rattle.pgs_name.specs.declared.object_id.ObjectId.{ObjectId}
use Rattle.pgs_range.specs.Ranges.{in_range}
use Rattle.pgs_range.specs.declared.family_range.FamilyRange.{FamilyRange}
use Rattle.pgs_copy.specs.declared.obj_copy.ObjCopy.{ObjCopy}
use Rattle.pgs_map.specs.Digests.{omap_digest}
use Rattle.pgs_map.specs.declared.entry.Entry.{Entry}

-- both digests of a copy, where its data and omap are read
abbrev pub digests_of : Bool → ObjCopy → Option ℕ × Option ℕ
digests_of deep copy = if deep then (Some (crc copy.bytes), Some (omap_digest copy)) else (None, None)

-- what is told of a whole copy: its size and its attributes, and both digests where its data and omap are read
abbrev pub entry_of : Bool → ObjectId → ObjCopy → Entry
entry_of deep id copy = record {
  id = id;
  stat_failed = false;
  read_failed = false;
  size = length copy.bytes;
  attrs = copy.attrs;
  data_digest = (digests_of deep copy).0;
  omap_digest = (digests_of deep copy).1;
}

-- the entry of a position
abbrev pub entry_at : ObjectId → List Entry → Option Entry
entry_at id entries = find (λ entry. same_position id entry.id) entries

-- each entry's position stands before those of all behind it
abbrev pub AreAscending : List Entry → Type 0
AreAscending entries = IsStrictlySortedBy (λ a b. position_cmp a.id b.id) entries

-- entries ascend, and are of families of the range
pub record AreInRange (range : FamilyRange) (entries : List Entry) : Type 0 where
  pub ascending : AreAscending entries
  pub within : AllByRecursion (λ entry. in_range range entry.id.family ≡ true) entries
