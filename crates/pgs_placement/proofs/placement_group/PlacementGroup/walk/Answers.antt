use Rattle.std.proofs.Common.{sym, ◌∙◌}
use Rattle.pgs_placement.proofs.Sweeps.{walking_next}
use Rattle.pgs_placement.proofs.placement_group.PlacementGroup.walk.Goals as goal

pub loop-preserved : goal.loop-preserved
loop-preserved c =
    walking_next c.args.self.now c.args.group c.most-most.result c.loop.counter c.loop.self c.scrub_chunk.new.self c.loop.invariant c.loop-test.true
    c.in_ok-scrub_chunk.ensures.after (sym c.in_ok-scrub_chunk.ensures.going ∙ c.if-not-branch.false)
