-- The digests of a copy.
use Rattle.std.specs.Prelude.{ℕ, ◌%◌, ◌^◌, List, ◌++◌, length, flat_map}
use Rattle.std.specs.Int.{to_le_bytes, w32}
use Rattle.pgs_crc.specs.Digest.{crc}
use Rattle.pgs_copy.specs.Pairs.{Pairs}
use Rattle.pgs_copy.specs.declared.obj_copy.ObjCopy.{ObjCopy}

-- bytes behind their length, as four bytes with the lowest first
abbrev pub behind_length : List ℕ → List ℕ
behind_length bytes = to_le_bytes w32 (length bytes % 2 ^ 32) ++ bytes

-- each key and its value
abbrev pub pairs_text : Pairs → List ℕ
pairs_text pairs = flat_map (λ p. behind_length p.0 ++ behind_length p.1) pairs

-- what the omap's digest is of: the header, and every key and value in the order of the keys' bytes
abbrev pub omap_text : ObjCopy → List ℕ
omap_text copy = behind_length copy.header ++ pairs_text copy.omap

abbrev pub omap_digest : ObjCopy → ℕ
omap_digest copy = crc (omap_text copy)
