use Rattle.std.proofs.Common.{length, reverse}
use Rattle.pgs_shard.proofs.Listings.{IsOn, ahead}
use Rattle.pgs_shard.proofs.listing.list_on.Given as goal

-- what was listed so far, and what is still ahead
abbrev pub invariant-loop-medium : goal.invariant-loop-medium
invariant-loop-medium g l = IsOn l.fn.limit l.fn.start (reverse l.fn.events) (g.M.Medium.device l.fn.medium) (g.M.Medium.device l.medium) l.listed l.cursor

abbrev pub decreases-loop-medium : goal.decreases-loop-medium
decreases-loop-medium g l = length (ahead (reverse l.fn.events) l.cursor)
