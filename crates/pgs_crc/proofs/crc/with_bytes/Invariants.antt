use Rattle.std.proofs.Common.{◌≡◌, drop}
use Rattle.pgs_crc.specs.Digest.{crc_from}
use Rattle.pgs_crc.proofs.crc.with_bytes.Given as goal

abbrev pub invariant-loop-byte : goal.invariant-loop-byte
invariant-loop-byte g l = crc_from l.value (drop l.byte-index l.piece) ≡ crc_from l.fn.value l.piece
