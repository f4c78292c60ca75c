use Rattle.pgs_placement.proofs.Settles.{settling_next}
use Rattle.pgs_placement.proofs.placement_group.PlacementGroup.settle.Goals as goal

pub loop-osd-preserved : goal.loop-osd-preserved
loop-osd-preserved c = settling_next _ _ _ _ _ _ _ c.loop-osd.invariant c.loop-osd-test.true c.in_ok-settle_member.ensures
