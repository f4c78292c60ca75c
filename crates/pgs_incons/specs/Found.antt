-- Findings by position, and those of a range replaced by new ones.
use Rattle.std.specs.Prelude.{Bool, true, not, ◌≡◌, ◌&&◌, ◌++◌, List}
use Rattle.std.specs.List.{filter, AllByRecursion}
use Rattle.std.specs.List.Sorted.{IsStrictlySortedBy}
use Rattle.pgs_name.specs.Positions.{position_cmp}
use Rattle.pgs_name.specs.Families.{Family}
use Rattle.pgs_name.specs.declared.object_id.ObjectId.{ObjectId}
use Rattle.pgs_range.specs.Ranges.{in_range, is_at_most}
use Rattle.pgs_range.specs.declared.family_range.FamilyRange.{FamilyRange}
use Rattle.pgs_find.specs.declared.snap_finding.SnapFinding.{SnapFinding}
use Rattle.pgs_incons.specs.declared.finding.Finding.{Finding}

-- where a finding stands
abbrev pub finding_id : Finding → ObjectId
finding_id finding = finding.id

abbrev pub snap_id : SnapFinding → ObjectId
snap_id finding = finding.id

-- what stands by position, each position once and in order
abbrev pub Ascends : {A : Type 0} → (A → ObjectId) → List A → Type 0
Ascends id_of xs = IsStrictlySortedBy (λ a b. position_cmp (id_of a) (id_of b)) xs

-- all of it is of families of a range
abbrev pub AreWithin : {A : Type 0} → (A → ObjectId) → FamilyRange → List A → Type 0
AreWithin id_of range xs = AllByRecursion (λ x. in_range range (id_of x).family ≡ true) xs

-- those that are of families of a range
abbrev pub of_range : {A : Type 0} → (A → ObjectId) → FamilyRange → List A → List A
of_range id_of range xs = filter (λ x. in_range range (id_of x).family) xs

-- a family is below a range's start
abbrev pub is_below : FamilyRange → Family → Bool
is_below range f = not (is_at_most range.from f)

-- a family is neither below a range's start nor below its end
abbrev pub is_behind : FamilyRange → Family → Bool
is_behind range f = is_at_most range.from f && is_at_most range.to f

-- what is of families below a range, new ones in the place of what was of its own families, and what is of families behind it
abbrev pub replaced : {A : Type 0} → (A → ObjectId) → FamilyRange → List A → List A → List A
replaced id_of range new old =
    filter (λ x. is_below range (id_of x).family) old ++ (new ++ filter (λ x. is_behind range (id_of x).family) old)

-- In other words: in the range there are exactly the new ones, outside of it exactly the old ones in their order, and all stand by
-- position.
pub record IsReplaced {A : Type 0} (id_of : A → ObjectId) (range : FamilyRange) (new old found : List A) : Type 0 where
  pub within : filter (λ x. in_range range (id_of x).family) found ≡ new
  pub outside : filter (λ x. not (in_range range (id_of x).family)) found ≡ filter (λ x. not (in_range range (id_of x).family)) old
  pub ascends : Ascends id_of found
