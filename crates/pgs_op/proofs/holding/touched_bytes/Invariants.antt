use Rattle.std.proofs.Common.{◌≡◌, ◌+◌, length}
use Rattle.std.specs.Ordering.{nat_cmp}
use Rattle.std.specs.BTreeMap.{get}
use Rattle.pgs_op.specs.Held.{touched_bytes}
use Rattle.pgs_op.proofs.holding.touched_bytes.Given as goal

abbrev pub invariant-loop-first : goal.invariant-loop-first
invariant-loop-first l = l.bytes + touched_bytes l.left (get nat_cmp l.copies) ≡ touched_bytes l.fn.effects (get nat_cmp l.copies)

abbrev pub decreases-loop-first : goal.decreases-loop-first
decreases-loop-first l = length l.left
