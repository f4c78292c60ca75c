use Rattle.std.proofs.Common.{◌≡◌, take}
use Rattle.std.specs.Prelude.{nat_lt}
use Rattle.std.specs.List.{filter}
use Rattle.pgs_snapset.proofs.cloning.newer.Given as goal

abbrev pub invariant-loop-snap : goal.invariant-loop-snap
invariant-loop-snap l = l.found ≡ filter (λ s. nat_lt l.seq s) (take l.snap-index l.snaps)
