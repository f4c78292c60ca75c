-- A text of a space, a byte and a key is taken in piece by piece.
use Rattle.std.proofs.Common.{ℕ, ◌≡◌, List, ◌∷◌, ◌++◌}
use Rattle.pgs_crc.specs.Digest.{crc, crc_from, fed}
use Rattle.pgs_crc.proofs.Steps.{crc_from-append}

pub in_pieces : (space key : List ℕ) (byte : ℕ) → crc (space ++ byte ∷ key) ≡ crc_from (fed (crc_from 0xFFFFFFFF space) byte) key
in_pieces space key byte = crc_from-append 0xFFFFFFFF space (byte ∷ key)
