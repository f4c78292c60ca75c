use Rattle.std.proofs.Common.{◌≡◌, length}
use Rattle.pgs_order.specs.Order.{are_distinct}
use Rattle.pgs_order.proofs.members.are_distinct.Given as goal

-- what is left is distinct where all is
abbrev pub invariant-loop-first : goal.invariant-loop-first
invariant-loop-first l = are_distinct l.rest ≡ are_distinct l.fn.numbers

abbrev pub decreases-loop-first : goal.decreases-loop-first
decreases-loop-first l = length l.rest
