-- The digest of a text of bytes: CRC-32C with its bits reflected, from all ones, with no inversion at the end.
use Rattle.std.specs.Prelude.{ℕ, zero, suc, ◌/◌, ◌%◌, ◌==◌, if◌then◌else◌, List, [], ◌∷◌, bit_xor}

-- one bit further: shifted right by one, with the polynomial xored in where the bit shifted out is 1
unfoldable pub bit_shifted : ℕ → ℕ
bit_shifted c = if c % 2 == 1 then bit_xor (c / 2) 0x82F63B78 else c / 2

-- so many bits further
unfoldable pub bits_shifted : ℕ → ℕ → ℕ
bits_shifted zero c = c
bits_shifted (suc bits) c = bits_shifted bits (bit_shifted c)

-- a byte taken in: xored into the low 8 bits, and then eight bits further
unfoldable pub fed : ℕ → ℕ → ℕ
fed c byte = bits_shifted 8 (bit_xor c byte)

-- the bytes of a text taken in, from its front
abbrev pub crc_from : ℕ → List ℕ → ℕ
crc_from c [] = c
crc_from c (byte ∷ bytes) = crc_from (fed c byte) bytes

-- the digest of a text
abbrev pub crc : List ℕ → ℕ
crc bytes = crc_from 0xFFFFFFFF bytes
