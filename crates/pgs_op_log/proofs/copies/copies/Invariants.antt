use Rattle.std.proofs.Common.{◌≡◌, take}
use Rattle.pgs_op_log.proofs.copies.copies.Given as goal

abbrev pub invariant-loop-item : goal.invariant-loop-item
invariant-loop-item l = l.copies ≡ take l.item-index l.items
