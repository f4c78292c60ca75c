use Rattle.std.proofs.Common.{◌≡◌, ◌++◌, drop}
use Rattle.pgs_top.specs.Opening as opening
use Rattle.pgs_top.proofs.opening.calls_of.Given as goal

-- what was made and what is left to make are all
abbrev pub invariant-loop-fail : goal.invariant-loop-fail
invariant-loop-fail l = l.calls ++ opening.calls_of (drop l.fail-index l.fails) ≡ opening.calls_of l.fn.fails
