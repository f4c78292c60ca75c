-- What is found stands in the order of the positions, and of all findings' positions holds what holds of all positions.
use Rattle.std.proofs.Common.{◌≡◌, Bool, true, false, not, List, [], ◌∷◌}
use Rattle.std.specs.Bool.{then_some}
use Rattle.std.specs.declared.cmp.Ordering.TheVariants.{Less}
use Rattle.std.specs.List.{AllByRecursion, cons_option, filter_map}
use Rattle.std.specs.List.Sorted.{IsStrictlySortedBy}
use Rattle.pgs_name.specs.Positions.{position_cmp}
use Rattle.pgs_name.specs.declared.object_id.ObjectId.{ObjectId}
use Rattle.pgs_find.specs.SnapNames.{is_no_snap}
use Rattle.pgs_find.specs.declared.snap_finding.SnapFinding.{SnapFinding}
use Rattle.pgs_snapcheck.specs.Conditions.{head_of, clones_there}
use Rattle.pgs_snapcheck.specs.Check.{AreAscending, AreFoundAscending, of_family, checked, snap_finding, snap_findings}
use Rattle.pgs_snapcheck.specs.declared.view.View.{View}

abbrev finding_in : List View → View → SnapFinding
finding_in all view = checked (head_of (of_family view.id.family all)) (clones_there (of_family view.id.family all)) view

abbrev found_in : List View → List View → List SnapFinding
found_in all views = filter_map (λ view. snap_finding (of_family view.id.family all) view) views

kept_all : (P : SnapFinding → Type 0) (b : Bool) (x : SnapFinding) (xs : List SnapFinding) → P x → AllByRecursion P xs → AllByRecursion P (cons_option (then_some b x) xs)
kept_all P true x xs h k = (h, k)
kept_all P false x xs h k = k

all_found : (P : ObjectId → Type 0) (all views : List View) → AllByRecursion (λ v. P v.id) views → AllByRecursion (λ f. P f.id) (found_in all views)
all_found P all [] h = tt
all_found P all (v ∷ views) h =
    let f : SnapFinding = finding_in all v in
    kept_all (λ g. P g.id) (not (is_no_snap f.errors)) f (found_in all views) h.0 (all_found P all views h.1)

kept_up : (b : Bool) (x : SnapFinding) (xs : List SnapFinding) → AllByRecursion (λ f. position_cmp x.id f.id ≡ Less) xs → AreFoundAscending xs
    → AreFoundAscending (cons_option (then_some b x) xs)
unfolding IsStrictlySortedBy
kept_up true x xs h k = (h, k)
kept_up false x xs h k = k

up_found : (all views : List View) → AreAscending views → AreFoundAscending (found_in all views)
unfolding IsStrictlySortedBy
up_found all [] h = tt
up_found all (v ∷ views) h =
    let f : SnapFinding = finding_in all v in
    kept_up (not (is_no_snap f.errors)) f (found_in all views) (all_found (λ id. position_cmp v.id id ≡ Less) all views h.0) (up_found all views h.1)

-- what is found ascends as the views do
pub found_ascends : (views : List View) → AreAscending views → AreFoundAscending (snap_findings views)
found_ascends views h = up_found views views h

-- what holds of the positions of all views holds of those of all that is found
pub found_within : (P : ObjectId → Type 0) (views : List View) → AllByRecursion (λ v. P v.id) views → AllByRecursion (λ f. P f.id) (snap_findings views)
found_within P views h = all_found P views views h

-- one view alone ascends
pub one_ascends : (view : View) → AreAscending (view ∷ [])
unfolding IsStrictlySortedBy
one_ascends view = (tt, tt)

pub none_ascend : AreAscending []
unfolding IsStrictlySortedBy
none_ascend = tt
