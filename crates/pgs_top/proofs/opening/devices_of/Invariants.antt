use Rattle.std.proofs.Common.{◌≡◌, ◌++◌, drop}
use Rattle.pgs_top.specs.Opening as opening
use Rattle.pgs_top.proofs.opening.devices_of.Given as goal

-- what was made and what is left to make are all
abbrev pub invariant-loop-osd : goal.invariant-loop-osd
invariant-loop-osd l =
    l.devices.items ++ opening.devices_of l.declared.fails l.group (drop l.osd-index l.osds)
    ≡ opening.devices_of l.fn.declared.fails l.fn.group l.fn.osds
