use Rattle.std.proofs.Common.{◌≡◌}
use Rattle.pgs_compare.specs.Parts.{first_facts}
use Rattle.pgs_compare.proofs.judging.first_facts.Given as goal

abbrev pub invariant-loop-copy : goal.invariant-loop-copy
invariant-loop-copy l = record {
  next : (goal.iterator-loop-copy).can_next l.copy-iterator;
  ends : (goal.iterator-loop-copy).is_finite l.copy-iterator;
  left : first_facts l.copy-iterator.rest.items ≡ first_facts l.fn.judged.items;
}
