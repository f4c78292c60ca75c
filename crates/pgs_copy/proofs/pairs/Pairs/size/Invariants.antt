use Rattle.std.proofs.Common.{◌≡◌, ◌+◌, ◌<◌, ◌^◌}
use Rattle.pgs_copy.specs.Pairs.{pairs_size}
use Rattle.pgs_copy.proofs.pairs.Pairs.size.Given as goal

abbrev pub invariant-loop-name : goal.invariant-loop-name
invariant-loop-name l =
    (goal.iterator-loop-name).can_next l.name-iterator × (goal.iterator-loop-name).is_finite l.name-iterator
    × (l.size + pairs_size l.name-iterator ≡ pairs_size l.self) × (l.size < 2 ^ 64)
