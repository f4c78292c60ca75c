-- Bytes that are spelled by hexadecimal digits in lower case.
use Rattle.std.specs.Prelude.{ℕ, ◌+◌, ◌-◌, ◌*◌, ◌/◌, ◌%◌, ◌&&◌, Bool, nat_lt, nat_le, if◌then◌else◌, List, [], ◌∷◌, Option, Some, None}
use Rattle.std.specs.List.{list_all}
use Rattle.pgs_words.specs.Forms.{◌>>=◌, Field, when}

-- the digit of a number below 16
abbrev pub hex_digit : ℕ → ℕ
hex_digit d = if nat_lt d 10 then 48 + d else 87 + d

-- the number of a digit
abbrev pub hex_value : ℕ → Option ℕ
hex_value b = if nat_le 48 b && nat_le b 57 then Some (b - 48) else when (nat_le 97 b && nat_le b 102) (b - 87)

-- the byte of two digits
abbrev pub hex_pair : ℕ → ℕ → Option ℕ
hex_pair a b = do
  high ← hex_value a
  low ← hex_value b
  Some (high * 16 + low)

abbrev pub is_byte : ℕ → Bool
is_byte n = nat_lt n 256

-- two digits for each byte
abbrev pub hex_spelled : List ℕ → List ℕ
hex_spelled [] = []
hex_spelled (b ∷ bs) = hex_digit (b / 16) ∷ hex_digit (b % 16) ∷ hex_spelled bs

unfoldable pub hex_read : List ℕ → Option (List ℕ)
hex_read [] = Some []
hex_read (a ∷ []) = None
hex_read (a ∷ b ∷ more) = do
  byte ← hex_pair a b
  bytes ← hex_read more
  Some (byte ∷ bytes)

-- bytes
abbrev pub hex : Field (List ℕ)
hex = record { fits = list_all is_byte; spell = hex_spelled; read = hex_read }

unfoldable pub hex_byte_read : List ℕ → Option ℕ
hex_byte_read [] = None
hex_byte_read (a ∷ []) = None
hex_byte_read (a ∷ b ∷ []) = hex_pair a b
hex_byte_read (a ∷ b ∷ c ∷ more) = None

-- one byte
abbrev pub hex_byte : Field ℕ
hex_byte = record { fits = is_byte; spell = λ n. hex_digit (n / 16) ∷ hex_digit (n % 16) ∷ []; read = hex_byte_read }
