-- The conditions on a position among those of its family, one for each name.
use Rattle.std.specs.Prelude.{ℕ, Bool, false, not, ◌==◌, ◌&&◌, if◌then◌else◌, List, [], ◌∷◌, length, map, Option, Some, None, is_none}
use Rattle.std.specs.List.{filter, find, list_any}
use Rattle.std.specs.BTreeSet.{insert_key}
use Rattle.std.specs.Ordering.{nat_cmp}
use Rattle.pgs_name.specs.declared.object_id.TheConstants.{HEAD}
use Rattle.pgs_snapset.specs.WellFormed.{is_well_formed}
use Rattle.pgs_snapset.specs.declared.snapset.SnapSet.{SnapSet}
use Rattle.pgs_facts.specs.Facts.{misses_info, has_bad_info, misses_snapset, has_bad_snapset, has_wrong_size}
use Rattle.pgs_facts.specs.declared.copy_facts.CopyFacts.{CopyFacts}
use Rattle.pgs_find.specs.declared.snap_error.SnapError.{SnapError}
use Rattle.pgs_find.specs.declared.snap_error.SnapError.TheVariants as names
use Rattle.pgs_snapcheck.specs.declared.view.View.{View}

-- ---- a family

abbrev pub is_head : View → Bool
is_head view = view.id.snap == HEAD

-- the head of a family, if it is there
abbrev pub head_of : List View → Option View
head_of family = find is_head family

-- the snaps of the clones that are there; the head is none
abbrev pub clones_there : List View → List ℕ
clones_there family = map (λ v. v.id.snap) (filter (λ v. not (is_head v)) family)

-- the snapset that a copy holds, if it is there and reads
abbrev pub snapset_in : Option CopyFacts → Option SnapSet
snapset_in None = None
snapset_in (Some facts) = facts.snapset

-- that of a head
abbrev pub snapset_at : Option View → Option SnapSet
snapset_at None = None
snapset_at (Some head) = snapset_in head.facts

-- ---- what a snapset lists

abbrev pub is_in : ℕ → List ℕ → Bool
is_in snap snaps = list_any (λ s. s == snap) snaps

-- a snapset lists a clone
abbrev pub is_listed : SnapSet → ℕ → Bool
is_listed set snap = list_any (λ c. c.snap == snap) set.clones

-- numbers each once and ascending, and some more put to them
abbrev pub with_numbers : List ℕ → List ℕ → List ℕ
with_numbers found [] = found
with_numbers found (n ∷ ns) = with_numbers (insert_key nat_cmp found n) ns

-- numbers, each once and ascending
abbrev pub ascending : List ℕ → List ℕ
ascending ns = with_numbers [] ns

-- the clones that a snapset lists and that aren't there, each once and ascending
abbrev pub missing_of : List ℕ → SnapSet → List ℕ
missing_of there set = ascending (map (λ c. c.snap) (filter (λ c. not (is_in c.snap there)) set.clones))

-- the clones that are there and that a snapset doesn't list
abbrev pub extra_of : List ℕ → SnapSet → List ℕ
extra_of there set = filter (λ snap. not (is_listed set snap)) there

-- the same of a snapset that may not be there, or not read: it lists none, and none is extra beside it
abbrev pub missing_by : List ℕ → Option SnapSet → List ℕ
missing_by there None = []
missing_by there (Some set) = missing_of there set

abbrev pub extra_by : List ℕ → Option SnapSet → List ℕ
extra_by there None = []
extra_by there (Some set) = extra_of there set

-- the clones that a head lists and that aren't there; none that a clone does
abbrev pub missing_from : List ℕ → View → List ℕ
missing_from there view = if is_head view then missing_by there (snapset_in view.facts) else []

-- the clones that are there and that a head doesn't list; none that a clone doesn't
abbrev pub extra_beside : List ℕ → View → List ℕ
extra_beside there view = if is_head view then extra_by there (snapset_in view.facts) else []

-- a snapset lists a clone with another size
abbrev pub lists_other_size : ℕ → ℕ → Option SnapSet → Bool
lists_other_size snap size None = false
lists_other_size snap size (Some set) = list_any (λ c. (c.snap == snap) && not (c.size == size)) set.clones

-- a snapset is there, and isn't well formed
abbrev pub is_ill_formed : Option SnapSet → Bool
is_ill_formed None = false
is_ill_formed (Some set) = not (is_well_formed set)

-- ---- the conditions

-- a copy could be looked at, and passes a test
abbrev pub has_facts : (CopyFacts → Bool) → Option CopyFacts → Bool
has_facts test None = false
has_facts test (Some facts) = test facts

abbrev pub is_some_number : List ℕ → Bool
is_some_number ns = not (length ns == 0)

-- a head has no snapset
abbrev pub lacks_snapset : View → Bool
lacks_snapset view = is_head view && has_facts misses_snapset view.facts

-- a head's snapset is there, and doesn't read
abbrev pub holds_bad_snapset : View → Bool
holds_bad_snapset view = is_head view && has_facts has_bad_snapset view.facts

-- a head's snapset reads, and isn't well formed
abbrev pub holds_ill_formed : View → Bool
holds_ill_formed view = is_head view && is_ill_formed (snapset_in view.facts)

-- a clone of a family without a head
abbrev pub is_headless : Option View → View → Bool
is_headless head view = not (is_head view) && is_none head

-- a head's size isn't that which its own info records, or a clone's isn't the one that the head's snapset lists
abbrev pub has_other_size : Option View → View → Bool
has_other_size head view =
    if is_head view then has_facts has_wrong_size view.facts
    else has_facts (λ facts. lists_other_size view.id.snap facts.size (snapset_at head)) view.facts

-- whether a name holds of a view beside the head of its family, where such clones are missing from it and such are extra beside it
abbrev pub holds : Option View → List ℕ → List ℕ → View → SnapError → Bool
holds head missing extra view names.Headless = is_headless head view
holds head missing extra view names.SnapsetMissing = lacks_snapset view
holds head missing extra view names.SnapsetCorrupted = holds_bad_snapset view
holds head missing extra view names.SnapsetError = holds_ill_formed view
holds head missing extra view names.InfoMissing = has_facts misses_info view.facts
holds head missing extra view names.InfoCorrupted = has_facts (has_bad_info view.id) view.facts
holds head missing extra view names.SizeMismatch = has_other_size head view
holds head missing extra view names.CloneMissing = is_some_number missing
holds head missing extra view names.ExtraClones = is_some_number extra
