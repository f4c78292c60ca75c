use Rattle.std.proofs.Common.{◌≡◌, drop}
use Rattle.pgs_crc.specs.Digest.{crc_from}
use Rattle.pgs_name.proofs.hashing.feed_all.Given as goal

abbrev pub invariant-loop-byte : goal.invariant-loop-byte
invariant-loop-byte l = crc_from l.value (drop l.byte-index l.bytes) ≡ crc_from l.fn.value l.bytes
