use Rattle.std.proofs.Common.{◌≡◌, ◌++◌, ◌∙◌, List, subst}
use Rattle.std.specs.Prelude.{IfOk}
use Rattle.std.specs.List.{filter_map}
use Rattle.pgs_map.specs.declared.entry.Entry.{Entry}
use Rattle.pgs_select.specs.Judging.{told}
use Rattle.pgs_compare.specs.Objects.{object_errors}
use Rattle.pgs_compare.specs.Parts.{entries_seen}
use Rattle.pgs_compare.proofs.Others.{all_others}
use Rattle.pgs_compare.proofs.finding.errors_beside.Goals as goal

pub returns : goal.returns
returns c =
    let P : List Entry → Type 0 = λ others. IfOk c.object_errors.result (λ errors. errors ≡ object_errors c.args.id.now c.args.chosen.now others) in
    subst P
    ((λ i. filter_map told (entries_seen (c.before-front.ensures i) ++ entries_seen (c.behind-back.ensures i))) ∙ all_others c.args.place c.args.entries.now)
    c.object_errors.ensures
