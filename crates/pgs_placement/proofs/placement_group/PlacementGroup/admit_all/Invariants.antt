use Rattle.std.proofs.Common.{length}
use Rattle.pgs_history.specs.Parked.{parked}
use Rattle.pgs_placement.proofs.Admissions.{IsAdmitting}
use Rattle.pgs_placement.proofs.placement_group.PlacementGroup.admit_all.Given as goal

abbrev pub invariant-loop-self : goal.invariant-loop-self
invariant-loop-self l = IsAdmitting l.fn.self l.self

abbrev pub decreases-loop-self : goal.decreases-loop-self
decreases-loop-self l = length (parked l.self.past)
