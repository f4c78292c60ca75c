use Rattle.std.proofs.Common.{◌≡◌, ◌++◌, length}
use Rattle.pgs_snapcheck.proofs.listing.in_order.Given as goal

abbrev pub invariant-loop-number : goal.invariant-loop-number
invariant-loop-number l = l.list ++ l.set.keys ≡ l.initial.set.keys

abbrev pub decreases-loop-number : goal.decreases-loop-number
decreases-loop-number l = length l.set.keys
