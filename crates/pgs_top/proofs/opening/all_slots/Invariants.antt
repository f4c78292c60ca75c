use Rattle.std.proofs.Common.{◌≡◌, ◌++◌, drop}
use Rattle.pgs_top.specs.Opening as opening
use Rattle.pgs_top.proofs.opening.all_slots.Given as goal

-- what was made and what is left to make are all
abbrev pub invariant-loop-osd : goal.invariant-loop-osd
invariant-loop-osd l = l.slots.items ++ opening.all_slots (drop l.osd-index l.osds) ≡ opening.all_slots l.fn.osds
