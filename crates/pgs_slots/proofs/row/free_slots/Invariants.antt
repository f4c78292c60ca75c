use Rattle.std.proofs.Common.{◌≡◌, None, replicate}
use Rattle.pgs_slots.proofs.row.free_slots.Given as goal

abbrev pub invariant-loop : goal.invariant-loop
invariant-loop l = l.slots ≡ replicate l.counter None
