use Rattle.std.proofs.Common.{◌∙◌, ap, rules}
use Rattle.pgs_slots.specs.Rows.{slots_of, release_answer}
use Rattle.pgs_slots.proofs.Places.{release_some, release_others}
use Rattle.pgs_slots.proofs.slot_list.SlotList.release.Goals as goal

pub returns-in-Some-clause-answer : goal.returns-in-Some-clause-answer
returns-in-Some-clause-answer c =
    release_some c.args.osd c.self.inside.rows.items c.in-Some.at (search rules) c.index_mut-row.result.now (search rules) c.args.holder c.release.result c.release.ensures.answer
    ∙ ap (λ rows. release_answer rows c.args.osd c.args.holder) c.self.view_is

pub returns-in-Some-clause-others : goal.returns-in-Some-clause-others
returns-in-Some-clause-others c = λ other apart.
    release_others c.args.osd c.self.inside.rows.items c.in-Some.at (search rules) c.index_mut-row.result.now (search rules) c.release.new.self c.args.holder c.release.ensures.kept other apart
    ∙ ap (λ rows. slots_of rows other) c.self.view_is
