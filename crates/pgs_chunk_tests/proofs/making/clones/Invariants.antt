use Rattle.std.proofs.Common.{◌≤◌, ◌-◌}
use Rattle.pgs_chunk.specs.Positions.{Ascends}
use Rattle.pgs_chunk_tests.specs.Clones.{AreClones}
use Rattle.pgs_chunk_tests.proofs.making.clones.Given as goal

-- the clones up to this snap are made, in their order
abbrev pub invariant-loop-snap : goal.invariant-loop-snap
invariant-loop-snap l = Ascends l.ids × AreClones l.snap l.ids × (l.snap ≤ l.fn.count)

abbrev pub decreases-loop-snap : goal.decreases-loop-snap
decreases-loop-snap l = l.fn.count - l.snap
