use Rattle.std.proofs.Common.{◌≡◌, drop}
use Rattle.pgs_snapset.specs.WellFormed.{are_clones}
use Rattle.pgs_snapset.proofs.forming.are_clones.Given as goal

abbrev pub invariant-loop-clone : goal.invariant-loop-clone
invariant-loop-clone l = are_clones l.before (drop l.clone-index l.clones) ≡ are_clones 0 l.clones
