-- What the check of the snapshots finds: a table over all views.
use Rattle.std.specs.Prelude.{ℕ, not, List, Option}
use Rattle.std.specs.Bool.{then_some}
use Rattle.std.specs.List.{filter, filter_map}
use Rattle.std.specs.List.Sorted.{IsStrictlySortedBy}
use Rattle.pgs_name.specs.Positions.{position_cmp}
use Rattle.pgs_name.specs.Families.{Family, same_family}
use Rattle.pgs_find.specs.SnapNames.{snap_where, is_no_snap}
use Rattle.pgs_find.specs.declared.snap_finding.SnapFinding.{SnapFinding}
use Rattle.pgs_snapcheck.specs.Conditions.{head_of, clones_there, holds, missing_from, extra_beside}
use Rattle.pgs_snapcheck.specs.declared.view.View.{View}

-- views stand by position, each position once
abbrev pub AreAscending : List View → Type 0
AreAscending views = IsStrictlySortedBy (λ a b. position_cmp a.id b.id) views

-- the same of findings
abbrev pub AreFoundAscending : List SnapFinding → Type 0
AreFoundAscending found = IsStrictlySortedBy (λ a b. position_cmp a.id b.id) found

-- the views of a family
abbrev pub of_family : Family → List View → List View
of_family family views = filter (λ view. same_family family view.id.family) views

-- what would be found of a view beside the head of its family and the clones that are there
abbrev pub checked : Option View → List ℕ → View → SnapFinding
checked head there view = record {
  id = view.id;
  errors = snap_where (holds head (missing_from there view) (extra_beside there view) view);
  missing = missing_from there view;
  extra = extra_beside there view;
}

-- it is a finding exactly where some name holds
abbrev pub if_any : SnapFinding → Option SnapFinding
if_any finding = then_some (not (is_no_snap finding.errors)) finding

-- what is found of a view among those of its family
abbrev pub snap_finding : List View → View → Option SnapFinding
snap_finding family view = if_any (checked (head_of family) (clones_there family) view)

-- The findings of views: each view is held against all views of its family.
abbrev pub snap_findings : List View → List SnapFinding
snap_findings views = filter_map (λ view. snap_finding (of_family view.id.family views) view) views
