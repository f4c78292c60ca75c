-- The values that words spell: numbers and names.
use Rattle.std.specs.Prelude.{ℕ, ◌==◌, ◌+◌, ◌-◌, ◌*◌, ◌^◌, ◌&&◌, Bool, nat_lt, nat_le, not, if◌then◌else◌, List, [], ◌∷◌, length, Option, Some, None}
use Rattle.std.specs.Fmt.{decimal}
pub use Rattle.pgs_bytes.specs.Texts.{plain_byte, is_plain}
use Rattle.pgs_words.specs.Forms.{◌>>=◌, Field, when, such, itself, same_text}

-- ---- numbers: decimal, without a leading zero unless it is 0, below a bound

-- the number that a digit more makes of n
abbrev pub digit_from : ℕ → ℕ → ℕ → Option ℕ
digit_from bound n b = when (nat_le 48 b && nat_le b 57 && nat_lt (n * 10 + (b - 48)) bound) (n * 10 + (b - 48))

unfoldable pub digits_from : ℕ → ℕ → List ℕ → Option ℕ
digits_from bound n [] = Some n
digits_from bound n (b ∷ bs) = do
  more ← digit_from bound n b
  digits_from bound more bs

unfoldable pub number_of : ℕ → List ℕ → Option ℕ
number_of bound [] = None
number_of bound (b ∷ bs) = if b == 48 then (if length bs == 0 then Some 0 else None) else digits_from bound 0 (b ∷ bs)

abbrev pub number_below : ℕ → Field ℕ
number_below bound = record { fits = λ n. nat_lt n bound; spell = decimal; read = number_of bound }

-- a number of 32 bits
abbrev pub number : Field ℕ
number = number_below (2 ^ 32)

-- a number of 32 bits that isn't 0
abbrev pub positive : Field ℕ
positive = such (λ n. nat_lt 0 n) number

-- a byte that isn't 0
abbrev pub positive_byte : Field ℕ
positive_byte = such (λ n. nat_le n 255) positive

-- ---- names

-- whether a word has so many bytes
abbrev pub has_length : ℕ → ℕ → List ℕ → Bool
has_length least most w = nat_le least (length w) && nat_le (length w) most

-- a word of so many bytes
abbrev pub word_of : ℕ → ℕ → Field (List ℕ)
word_of least most = itself (λ w. has_length least most w && is_plain w)

-- what spells the empty word
abbrev pub dash : List ℕ
dash = 45 ∷ []

abbrev pub dash_word : List ℕ → List ℕ
dash_word [] = dash
dash_word (b ∷ bs) = b ∷ bs

abbrev pub dash_read : ℕ → List ℕ → Option (List ℕ)
dash_read most w = if same_text w dash then Some [] else when (has_length 1 most w && is_plain w) w

-- a word of at most so many bytes; the empty one is spelled as a dash, and a dash isn't one
abbrev pub dash_or : ℕ → Field (List ℕ)
dash_or most = record {
  fits = λ w. has_length 0 most w && is_plain w && not (same_text w dash);
  spell = dash_word;
  read = dash_read most;
}
