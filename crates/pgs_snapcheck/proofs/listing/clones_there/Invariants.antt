use Rattle.std.proofs.Common.{◌≡◌, ◌++◌, drop}
use Rattle.pgs_snapcheck.specs.Conditions.{clones_there}
use Rattle.pgs_snapcheck.proofs.listing.clones_there.Given as goal

abbrev pub invariant-loop-view : goal.invariant-loop-view
invariant-loop-view l = l.snaps ++ clones_there (drop l.view-index l.family) ≡ clones_there l.family
