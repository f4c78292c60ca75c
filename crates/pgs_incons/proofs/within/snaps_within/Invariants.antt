use Rattle.std.proofs.Common.{◌≡◌, ◌++◌, drop}
use Rattle.pgs_incons.specs.Found.{snap_id, of_range}
use Rattle.pgs_incons.proofs.within.snaps_within.Given as goal

-- those so far, and those of the findings that are left
abbrev pub invariant-loop-snap : goal.invariant-loop-snap
invariant-loop-snap l = l.within ++ of_range snap_id l.range (drop l.snap-index l.snaps) ≡ of_range snap_id l.range l.snaps
