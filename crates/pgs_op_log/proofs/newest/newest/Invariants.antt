use Rattle.std.proofs.Common.{◌≡◌, ◌≤◌, length, take, reverse}
use Rattle.pgs_op_log.specs.Logs.{newest_in}
use Rattle.pgs_op_log.proofs.newest.newest.Given as goal

abbrev pub invariant-loop-left : goal.invariant-loop-left
invariant-loop-left l = record {
  within : l.left ≤ length l.items;
  rest : newest_in l.range (reverse (take l.left l.items)) ≡ newest_in l.range (reverse l.items);
}

abbrev pub decreases-loop-left : goal.decreases-loop-left
decreases-loop-left l = l.left
