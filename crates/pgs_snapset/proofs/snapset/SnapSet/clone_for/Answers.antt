use Rattle.pgs_snapset.proofs.Newer.{none_told}
use Rattle.pgs_snapset.proofs.snapset.SnapSet.clone_for.Goals as goal

pub returns-clause-none : goal.returns-clause-none
returns-clause-none c = none_told c.args.self.now c.args.seq c.args.snaps.now c.args.size c.clone_made.result c.clone_made.ensures
