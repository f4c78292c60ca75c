use Rattle.std.proofs.Common.{◌≡◌}
use Rattle.pgs_crc.specs.Digest.{bits_shifted}
use Rattle.pgs_crc.proofs.shifts.one_byte.Given as goal

abbrev pub invariant-loop-bit : goal.invariant-loop-bit
invariant-loop-bit l = l.shifted ≡ bits_shifted l._bit l.fn.word
