use Rattle.std.proofs.Common.{◌≡◌, ◌++◌, drop}
use Rattle.pgs_done.specs.Contexts.{marked}
use Rattle.pgs_done.proofs.printing.contexts.push_snaps.Given as goal

-- what was appended and what is left, behind the next mark, are all snaps behind the first
abbrev pub invariant-loop-snap : goal.invariant-loop-snap
invariant-loop-snap l = l.out.items ++ marked l.mark (drop l.snap-index l.snaps) ≡ l.fn.out.items ++ marked 58 l.fn.snaps
