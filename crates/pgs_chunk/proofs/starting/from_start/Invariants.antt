use Rattle.std.proofs.Common.{◌≡◌, length}
use Rattle.pgs_chunk.specs.Positions.{Ascends}
use Rattle.pgs_chunk.specs.Selection.{from_start}
use Rattle.pgs_chunk.proofs.starting.from_start.Given as goal

-- what is left ascends, and what is counted of it is what is counted of all
abbrev pub invariant-loop-first : goal.invariant-loop-first
invariant-loop-first l = Ascends l.rest × (from_start l.fn.start l.rest ≡ from_start l.fn.start l.fn.listed)

abbrev pub decreases-loop-first : goal.decreases-loop-first
decreases-loop-first l = length l.rest
