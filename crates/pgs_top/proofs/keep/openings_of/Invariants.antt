use Rattle.std.proofs.Common.{◌≡◌, ◌++◌, drop, map}
use Rattle.pgs_top.specs.Histories.{opening_of}
use Rattle.pgs_top.proofs.keep.openings_of.Given as goal

-- what was made and what is left to make are all
abbrev pub invariant-loop-group : goal.invariant-loop-group
invariant-loop-group l =
    l.openings.items ++ map (opening_of l.settings l.declared) (drop l.group-index l.groups)
    ≡ map (opening_of l.fn.settings l.fn.declared) l.fn.groups
