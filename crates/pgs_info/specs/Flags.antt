-- The byte of an object info that tells whether it is a whiteout and which digests follow.
use Rattle.std.specs.Prelude.{ℕ, ◌+◌, ◌==◌, Bool, true, not, nat_lt, if◌then◌else◌, bit_and}
use Rattle.pgs_codec.specs.Fields.{Field, u8, such, seen}
use Rattle.pgs_info.specs.declared.flags.Flags.{Flags}

-- a byte has this bit
abbrev pub has_bit : ℕ → ℕ → Bool
has_bit byte bit = not (bit_and byte bit == 0)

-- a bit, where it is set
abbrev pub bit_where : Bool → ℕ → ℕ
bit_where set bit = if set then bit else 0

-- 1 of a whiteout, 2 where a data digest follows, 4 where an omap digest does
abbrev pub flags_in : ℕ → Flags
flags_in byte = record { whiteout = has_bit byte 1; data_digest = has_bit byte 2; omap_digest = has_bit byte 4 }

abbrev pub byte_of : Flags → ℕ
byte_of flags = bit_where flags.whiteout 1 + bit_where flags.data_digest 2 + bit_where flags.omap_digest 4

-- a byte with another bit isn't allowed
abbrev pub flags : Field Flags
flags = seen flags_in byte_of (λ f. true) (such (λ byte. nat_lt byte 8) u8)
