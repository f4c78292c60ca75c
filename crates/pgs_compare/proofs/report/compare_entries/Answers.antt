use Rattle.std.proofs.Common.{◌≡◌, ◌∙◌, ap}
use Rattle.pgs_select.specs.Choice.{chosen_place}
use Rattle.pgs_select.specs.Best.{best_place}
use Rattle.pgs_select.proofs.Judgings.{best_chosen}
use Rattle.pgs_snapcheck.specs.declared.view.View.{View}
use Rattle.pgs_compare.specs.Parts.{entries_seen, facts_seen}
use Rattle.pgs_compare.specs.Report.{view_of}
use Rattle.pgs_compare.proofs.Choosing.{facts_chosen}
use Rattle.pgs_compare.proofs.report.compare_entries.Goals as goal

pub finding-requires-clause-chosen : goal.finding-requires-clause-chosen
finding-requires-clause-chosen c =
    c.choose-place.ensures.place ∙ ap best_place (c.as_slice-copies.ensures.value ∙ c.in_ok-judged.ensures) ∙ best_chosen c.args.id (entries_seen c.args.entries.now)

pub returns-clause-view : goal.returns-clause-view
returns-clause-view c =
    let entries = entries_seen c.args.entries.now in
    let placed : c.choose-place.result ≡ chosen_place c.args.id entries =
    c.choose-place.ensures.place ∙ ap best_place (c.as_slice-copies.ensures.value ∙ c.in_ok-judged.ensures) ∙ best_chosen c.args.id entries in
    let facts : c.facts_seen-facts.result ≡ (view_of c.args.id entries).facts =
    c.facts_seen-facts.ensures ∙ ap (λ copies. facts_seen copies c.choose-place.result) c.in_ok-judged.ensures ∙ facts_chosen c.args.id entries c.choose-place.result placed in
    let view : View = view_of c.args.id entries in
    λ i. record view { facts = facts i }
