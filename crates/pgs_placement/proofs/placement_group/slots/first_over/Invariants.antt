use Rattle.std.proofs.Common.{◌≡◌, drop}
use Rattle.std.specs.Prelude.{find}
use Rattle.pgs_slots.specs.Slots.{holders_of}
use Rattle.pgs_placement.specs.Scrubs.{is_over}
use Rattle.pgs_placement.proofs.placement_group.slots.first_over.Given as goal

abbrev pub invariant-loop-slot : goal.invariant-loop-slot
invariant-loop-slot l = find (is_over l.group.made l.group.past) (holders_of (drop l.slot-index l.slots)) ≡ find (is_over l.group.made l.group.past) (holders_of l.slots)
