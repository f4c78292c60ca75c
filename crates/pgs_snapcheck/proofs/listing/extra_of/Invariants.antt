use Rattle.std.proofs.Common.{◌≡◌, ◌++◌, drop}
use Rattle.pgs_snapcheck.specs.Conditions.{extra_of}
use Rattle.pgs_snapcheck.proofs.listing.extra_of.Given as goal

abbrev pub invariant-loop-snap : goal.invariant-loop-snap
invariant-loop-snap l = l.snaps ++ extra_of (drop l.snap-index l.there) l.set ≡ extra_of l.there l.set
