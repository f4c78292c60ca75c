use Rattle.pgs_copy.proofs.SizeLaws.{no_more}
use Rattle.pgs_copy.proofs.pairs.Pairs.size.Goals as goal

pub returns : goal.returns
returns c = no_more c.loop-name.size c.loop-name.name-iterator c.args.self.now c.in-None.ensures.steps.0 c.loop-name.invariant.2 c.loop-name.invariant.3
