use Rattle.std.proofs.Common.{◌≡◌, drop}
use Rattle.pgs_snapset.specs.WellFormed.{goes_down}
use Rattle.pgs_snapset.proofs.forming.goes_down.Given as goal

abbrev pub invariant-loop-snap : goal.invariant-loop-snap
invariant-loop-snap l = goes_down l.bound l.before (drop l.snap-index l.snaps) ≡ goes_down l.bound l.first l.snaps
