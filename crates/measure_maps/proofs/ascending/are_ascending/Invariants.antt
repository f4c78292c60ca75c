use Rattle.std.proofs.Common.{length, ◌-◌, ◌≤◌}
use Rattle.measure_maps.proofs.Turns.{AreBelow}
use Rattle.measure_maps.proofs.ascending.are_ascending.Given as goal

-- so far each entry stands before the next
abbrev pub invariant-loop-at : goal.invariant-loop-at
invariant-loop-at l = (1 ≤ l.at) × AreBelow l.entries l.at

abbrev pub decreases-loop-at : goal.decreases-loop-at
decreases-loop-at l = length l.entries - l.at
