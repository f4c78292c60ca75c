use Rattle.std.proofs.Common.{◌≡◌, ◌++◌, drop}
use Rattle.pgs_top.specs.Output as output
use Rattle.pgs_top.proofs.text.lines.Given as goal

abbrev pub invariant-loop-one : goal.invariant-loop-one
invariant-loop-one l = l.text.items ++ output.lines l.lists (drop l.one-index l.done) ≡ output.lines l.lists l.done
