use Rattle.pgs_placement.proofs.Sweeps.{IsWalking}
use Rattle.pgs_placement.proofs.placement_group.PlacementGroup.walk.Given as goal

abbrev pub invariant-loop : goal.invariant-loop
invariant-loop l = IsWalking l.fn.self l.group l.most l.counter l.self
