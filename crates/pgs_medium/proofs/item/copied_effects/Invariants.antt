use Rattle.std.proofs.Common.{◌≡◌, take}
use Rattle.pgs_medium.proofs.item.copied_effects.Given as goal

abbrev pub invariant-loop-snap : goal.invariant-loop-snap
invariant-loop-snap l = l.copy ≡ take l.snap-index l.effects
