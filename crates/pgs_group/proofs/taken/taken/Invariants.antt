use Rattle.std.proofs.Common.{◌≡◌, ◌≤◌, length, take, reverse}
use Rattle.pgs_history.specs.Scrubs.{taken}
use Rattle.pgs_group.proofs.taken.taken.Given as goal

abbrev pub invariant-loop-left : goal.invariant-loop-left
invariant-loop-left l = record {
  within : l.left ≤ length l.events;
  rest : taken (reverse (take l.left l.events)) l.chunk l.osd ≡ taken (reverse l.events) l.chunk l.osd;
}

abbrev pub decreases-loop-left : goal.decreases-loop-left
decreases-loop-left l = l.left
