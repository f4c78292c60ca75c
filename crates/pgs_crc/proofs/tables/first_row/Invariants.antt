use Rattle.std.proofs.Common.{ℕ, ◌≡◌, ◌<◌, length, get_or}
use Rattle.pgs_crc.specs.Table.{table_word}
use Rattle.pgs_crc.proofs.tables.first_row.Given as goal

abbrev pub invariant-loop-byte : goal.invariant-loop-byte
invariant-loop-byte l = record { full : length l.words.items ≡ l.byte; exact : (k : ℕ) → k < l.byte → get_or l.words.items k 0 ≡ table_word 0 k }
