use Rattle.std.proofs.Common.{sym, ◌∙◌}
use Rattle.pgs_growth.proofs.GrowthLaws.{grown}
use Rattle.pgs_growth.proofs.edits.growth.Goals as goal

pub returns-clause-grown : goal.returns-clause-grown
returns-clause-grown c = grown c.args.effects.now c.args.copy.now c.in_ok-taken.taken c.in_ok-added.added (sym c.are_apart.ensures ∙ c.if-not-are_apart.false) c.in_ok-taken.ensures.ready c.in_ok-taken.ensures.value c.in_ok-added.ensures
