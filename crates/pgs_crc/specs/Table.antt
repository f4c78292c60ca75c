-- The words of a table.
use Rattle.std.specs.Prelude.{ℕ, suc, replicate}
use Rattle.pgs_crc.specs.Digest.{crc_from}

-- the word of a byte in a row: what the byte becomes after one more byte of zeros than the row's number
abbrev pub table_word : ℕ → ℕ → ℕ
table_word row byte = crc_from byte (replicate (suc row) 0)
