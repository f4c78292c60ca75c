use Rattle.pgs_placement.proofs.Sweeps.{IsClaiming}
use Rattle.pgs_placement.proofs.placement_group.PlacementGroup.claim_all.Given as goal

abbrev pub invariant-loop-place : goal.invariant-loop-place
invariant-loop-place l = IsClaiming l.fn.self l.group l.osds l.place l.self
