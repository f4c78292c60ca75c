use Rattle.std.proofs.Common.{◌≡◌, ◌++◌, drop}
use Rattle.pgs_slots.specs.Slots.{holders_of}
use Rattle.pgs_slots.proofs.row.holders_of.Given as goal

abbrev pub invariant-loop-slot : goal.invariant-loop-slot
invariant-loop-slot l = l.holders ++ holders_of (drop l.slot-index l.slots) ≡ holders_of l.slots
