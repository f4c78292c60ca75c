use Rattle.std.proofs.Common.{◌≡◌, ◌++◌, length}
use Rattle.pgs_snapcheck.specs.Check.{AreAscending, snap_findings}
use Rattle.pgs_snapcheck.proofs.checking.check.Given as goal

-- what is left ascends, and its findings are those that are left
abbrev pub invariant-loop-family : goal.invariant-loop-family
invariant-loop-family l = AreAscending l.rest × (l.found ++ snap_findings l.rest ≡ snap_findings l.fn.views)

abbrev pub decreases-loop-family : goal.decreases-loop-family
decreases-loop-family l = length l.rest
