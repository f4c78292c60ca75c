use Rattle.std.proofs.Common.{◌≡◌, take}
use Rattle.pgs_copy.proofs.in_place.copied.Given as goal

abbrev pub invariant-loop-snap : goal.invariant-loop-snap
invariant-loop-snap l = l.copy.items ≡ take l.snap-index l.effects
