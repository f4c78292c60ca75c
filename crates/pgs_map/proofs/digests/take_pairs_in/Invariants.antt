use Rattle.std.proofs.Common.{◌≡◌}
use Rattle.pgs_crc.specs.Digest.{crc_from}
use Rattle.pgs_map.specs.Digests.{pairs_text}
use Rattle.pgs_map.proofs.digests.take_pairs_in.Given as goal

abbrev pub invariant-loop-key : goal.invariant-loop-key
invariant-loop-key l =
    (goal.iterator-loop-key).can_next l.key-iterator × (goal.iterator-loop-key).is_finite l.key-iterator
    × (crc_from l.digest (pairs_text l.key-iterator) ≡ crc_from l.fn.digest (pairs_text l.pairs))
