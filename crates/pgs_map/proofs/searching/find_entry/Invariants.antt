use Rattle.std.proofs.Common.{length}
use Rattle.pgs_map.proofs.Found.{IsLeft}
use Rattle.pgs_map.proofs.searching.find_entry.Given as goal

-- what is left is all that matters
abbrev pub invariant-loop-front : goal.invariant-loop-front
invariant-loop-front l = IsLeft l.fn.id l.fn.entries l.rest

abbrev pub decreases-loop-front : goal.decreases-loop-front
decreases-loop-front l = length l.rest
