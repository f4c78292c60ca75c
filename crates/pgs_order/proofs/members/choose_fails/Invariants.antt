use Rattle.std.proofs.Common.{◌≡◌, ◌++◌, drop}
use Rattle.pgs_order.specs.Order.{fails_of}
use Rattle.pgs_order.proofs.members.choose_fails.Given as goal

-- what was found and what is left to choose are all
abbrev pub invariant-loop-fail : goal.invariant-loop-fail
invariant-loop-fail l = l.found ++ fails_of l.group l.osd (drop l.fail-index l.fails) ≡ fails_of l.fn.group l.fn.osd l.fn.fails
