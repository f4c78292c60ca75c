use Rattle.pgs_top.proofs.Worlds.{fits}
use Rattle.pgs_top.proofs.keep.keep.Goals as goal

pub world_of-requires-clause-fit : goal.world_of-requires-clause-fit
world_of-requires-clause-fit c = fits c.args.settings c.args.script _ c.as_slice.ensures c.requires.stride c.requires.ordered
