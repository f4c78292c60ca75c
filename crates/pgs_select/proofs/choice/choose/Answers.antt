use Rattle.pgs_select.proofs.BestLaws.{best_law}
use Rattle.pgs_select.proofs.choice.choose.Goals as goal

pub returns-clause-law : goal.returns-clause-law
returns-clause-law c = best_law c.args.judged.now c.first_best.result c.first_best.ensures
