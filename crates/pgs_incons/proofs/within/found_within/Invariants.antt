use Rattle.std.proofs.Common.{◌≡◌, ◌++◌, drop}
use Rattle.pgs_incons.specs.Found.{finding_id, of_range}
use Rattle.pgs_incons.proofs.within.found_within.Given as goal

-- those so far, and those of the findings that are left
abbrev pub invariant-loop-finding : goal.invariant-loop-finding
invariant-loop-finding l = l.within ++ of_range finding_id l.range (drop l.finding-index l.found) ≡ of_range finding_id l.range l.found
