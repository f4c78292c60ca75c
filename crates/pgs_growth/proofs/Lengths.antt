-- The length of what edits leave of the data.
use Rattle.std.proofs.Common.{ℕ, ◌≡◌, ◌+◌, ◌-◌, List, length, arith}
use Rattle.std.proofs.lemmas.Grind.{common_steps}
use Rattle.pgs_bytes.specs.Edits.{resized, written}

pub length_resized : (n : ℕ) (bytes : List ℕ) → length (resized n bytes) ≡ n
length_resized n bytes = grind (arith, common_steps)

pub length_written : (at : ℕ) (piece bytes : List ℕ) → length (written at piece bytes) ≡ at + length piece + (length bytes - (at + length piece))
length_written at piece bytes = grind (arith, common_steps, length_resized)
