use Rattle.std.proofs.Common.{◌≡◌, ◌++◌, map, drop}
use Rattle.std.specs.List.{list_any, filter_map}
use Rattle.pgs_find.specs.ObjectNames.{all_object}
use Rattle.pgs_select.specs.Judging.{told}
use Rattle.pgs_compare.specs.Objects.{differs, object_errors}
use Rattle.pgs_compare.specs.Parts.{entries_seen}
use Rattle.pgs_compare.proofs.objects.object_errors.Given as goal

abbrev pub invariant-loop-row : goal.invariant-loop-row
invariant-loop-row l =
    let others = filter_map told (entries_seen l.front ++ entries_seen l.behind) in
    all_object (λ name. list_any (λ other. differs l.id l.chosen other name) others) (map (λ row. row.name) (drop l.row-index l.row-items)) l.errors
    ≡ object_errors l.id l.chosen others
