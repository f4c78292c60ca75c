use Rattle.std.proofs.Common.{length, reverse}
use Rattle.pgs_shard.proofs.Listings.{ahead}
use Rattle.pgs_shard.proofs.Sums.{IsSummed}
use Rattle.pgs_shard.proofs.holding.held.Given as goal

-- what was summed so far, and what is still ahead
abbrev pub invariant-loop-cursor : goal.invariant-loop-cursor
invariant-loop-cursor g l = IsSummed (reverse l.fn.events) l.held l.cursor

abbrev pub decreases-loop-cursor : goal.decreases-loop-cursor
decreases-loop-cursor g l = length (ahead (reverse l.fn.events) l.cursor)
