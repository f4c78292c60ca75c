use Rattle.std.proofs.Common.{◌≡◌, ◌≤◌, length, drop}
use Rattle.pgs_queue.specs.Jobs.{least_ripe}
use Rattle.pgs_queue.proofs.searches.least_ripe.Given as goal

abbrev pub invariant-loop-left : goal.invariant-loop-left
invariant-loop-left l = record {
  within : l.left ≤ length l.jobs;
  least : l.least ≡ least_ripe l.now (drop l.left l.jobs);
}

abbrev pub decreases-loop-left : goal.decreases-loop-left
decreases-loop-left l = l.left
