-- The laws of hexadecimal digits.
use Rattle.std.proofs.Common.{◌≡◌, ℕ, suc, ◌+◌, ◌-◌, ◌*◌, ◌/◌, ◌%◌, ◌<◌, ◌≤◌, ◌==◌, ◌&&◌, ◌||◌, Bool, true, false, List, [], ◌∷◌, ◌++◌, Option, Some, None, length, drop, get_or, refl, sym, ◌∙◌, ap, subst, arith, inl, inr, append_assoc, append-nil}
use Rattle.std.specs.Prelude.{nat_lt, nat_le}
use Rattle.std.specs.List.{list_all}
use Rattle.std.proofs.lemmas.Bool.Decides.{nat_tests}
use Rattle.pgs_bytes.proofs.Facts.{none_some, some_same, both, joined, chosen}
use Rattle.pgs_words.specs.Forms.{◌>>=◌, when}
use Rattle.pgs_words.specs.Fields.{plain_byte}
use Rattle.pgs_words.specs.Hex.{hex_digit, hex_value, hex_pair, is_byte, hex_spelled, hex_read, hex, hex_byte_read, hex_byte}
use Rattle.pgs_words.proofs.Laws.{FieldLaws, step_of, when_some}

-- ---- one digit

abbrev pub is_hex_digit : ℕ → Bool
is_hex_digit b = nat_le 48 b && nat_le b 57 || nat_le 97 b && nat_le b 102

pub hex_plain : (b : ℕ) → is_hex_digit b ≡ true → plain_byte b ≡ true
hex_plain b e = grind (arith, nat_tests)

low_test : (d : ℕ) → d < 10 → nat_lt d 10 ≡ true
low_test d h = grind (arith, nat_tests)

high_test : (d : ℕ) → 10 ≤ d → nat_lt d 10 ≡ false
high_test d h = grind (arith, nat_tests)

low_digit : (d : ℕ) → d < 10 → (nat_le 48 (48 + d) && nat_le (48 + d) 57) ≡ true
low_digit d h = grind (arith, nat_tests)

high_no_digit : (d : ℕ) → 10 ≤ d → (nat_le 48 (87 + d) && nat_le (87 + d) 57) ≡ false
high_no_digit d h = grind (arith, nat_tests)

high_digit : (d : ℕ) → 10 ≤ d → d < 16 → (nat_le 97 (87 + d) && nat_le (87 + d) 102) ≡ true
high_digit d h k = grind (arith, nat_tests)

-- which side of ten a number is on
pub data Side (d : ℕ) : Type 0 where
  Low : d < 10 → Side d
  High : 10 ≤ d → Side d

side_by : (d : ℕ) (test : Bool) → nat_lt d 10 ≡ test → Side d
side_by d true e = Low (grind (arith, nat_tests))
side_by d false e = High (grind (arith, nat_tests))

side_of : (d : ℕ) → Side d
side_of d = side_by d (nat_lt d 10) refl

digit_again : (d : ℕ) → d < 16 → hex_value (hex_digit d) ≡ Some d
digit_again d small = elim (side_of d) [
  | Low h ↦ let value : 48 + d - 48 ≡ d = omega arith in rw (low_test d h, low_digit d h) (ap Some value)
  | High h ↦ let value : 87 + d - 87 ≡ d = omega arith in rw (high_test d h, high_no_digit d h, high_digit d h small) (ap Some value)
]

digit_keeps : (d : ℕ) → d < 16 → is_hex_digit (hex_digit d) ≡ true
digit_keeps d small = elim (side_of d) [
  | Low h ↦ rw (low_test d h) (grind (arith, nat_tests))
  | High h ↦ rw (high_test d h) (grind (arith, nat_tests))
]

-- what a digit that was read says
pub record Digit (b d : ℕ) : Type 0 where
  pub is : b ≡ hex_digit d
  pub small : d < 16

low_found : (b : ℕ) → (nat_le 48 b && nat_le b 57) ≡ true → Digit b (b - 48)
low_found b e =
    let h = both (nat_le 48 b) (nat_le b 57) e in
    let low = h.0 in let high = h.1 in
    let below : b - 48 < 10 = grind (arith, nat_tests) in
    let from : 48 ≤ b = grind (arith, nat_tests) in
    record { is = rw (low_test (b - 48) below) (omega arith); small = omega arith }

high_found : (b : ℕ) → (nat_le 97 b && nat_le b 102) ≡ true → Digit b (b - 87)
high_found b e =
    let h = both (nat_le 97 b) (nat_le b 102) e in
    let low = h.0 in let high = h.1 in
    let from : 97 ≤ b = grind (arith, nat_tests) in
    let to : b ≤ 102 = grind (arith, nat_tests) in
    record { is = rw (high_test (b - 87) (omega arith)) (omega arith); small = omega arith }

digit_found : (b d : ℕ) → hex_value b ≡ Some d → Digit b d
digit_found b d e =
    elim (chosen (nat_le 48 b && nat_le b 57) (Some (b - 48)) (when (nat_le 97 b && nat_le b 102) (b - 87)) (Some d) e) [
      | inl hit ↦ subst (Digit b) (some_same (b - 48) d hit.1) (low_found b hit.0)
      | inr miss ↦ let passed = when_some (nat_le 97 b && nat_le b 102) (b - 87) d miss.1 in subst (Digit b) passed.0 (high_found b passed.1)
    ]

-- ---- two digits

pair_again : (n : ℕ) → is_byte n ≡ true → hex_pair (hex_digit (n / 16)) (hex_digit (n % 16)) ≡ Some n
pair_again n e =
    let below : n < 256 = grind (arith, nat_tests) in
    let whole : n / 16 * 16 + n % 16 ≡ n = omega arith in
    rw (digit_again (n / 16) (omega arith), digit_again (n % 16) (omega arith)) (ap Some whole)

pub record Pair (a b n : ℕ) : Type 0 where
  pub first : a ≡ hex_digit (n / 16)
  pub second : b ≡ hex_digit (n % 16)
  pub fits : is_byte n ≡ true

pair_of : (a b x y n : ℕ) → Digit a x → Digit b y → x * 16 + y ≡ n → Pair a b n
pair_of a b x y n dx dy is =
    let small_x : x < 16 = dx.small in
    let small_y : y < 16 = dy.small in
    let high : x ≡ n / 16 = omega arith in
    let low : y ≡ n % 16 = omega arith in
    let below : n < 256 = omega arith in
    record { first = dx.is ∙ ap hex_digit high; second = dy.is ∙ ap hex_digit low; fits = grind (arith, nat_tests) }

pair_found : (a b n : ℕ) → hex_pair a b ≡ Some n → Pair a b n
pair_found a b n e =
    let s = step_of (hex_value a) (λ high. hex_value b >>= λ low. Some (high * 16 + low)) n e in
    let t = step_of (hex_value b) (λ low. Some (s.value * 16 + low)) n s.then in
    pair_of a b s.value t.value n (digit_found a s.value s.is) (digit_found b t.value t.is) (some_same (s.value * 16 + t.value) n t.then)

first_keeps : (n : ℕ) → is_byte n ≡ true → is_hex_digit (hex_digit (n / 16)) ≡ true
first_keeps n e = let below : n < 256 = grind (arith, nat_tests) in digit_keeps (n / 16) (omega arith)

second_keeps : (n : ℕ) → is_byte n ≡ true → is_hex_digit (hex_digit (n % 16)) ≡ true
second_keeps n e = digit_keeps (n % 16) (omega arith)

-- ---- one byte

byte_found : (w : List ℕ) (n : ℕ) → hex_byte_read w ≡ Some n → (w ≡ hex_digit (n / 16) ∷ hex_digit (n % 16) ∷ []) × (is_byte n ≡ true)
unfolding hex_byte_read
byte_found [] n e = absurd (none_some n e)
byte_found (a ∷ []) n e = absurd (none_some n e)
byte_found (a ∷ b ∷ []) n e = let p = pair_found a b n e in ((λ i. p.first i ∷ p.second i ∷ []), p.fits)
byte_found (a ∷ b ∷ c ∷ more) n e = absurd (none_some n e)

byte_again : (n : ℕ) → is_byte n ≡ true → hex_byte_read (hex_digit (n / 16) ∷ hex_digit (n % 16) ∷ []) ≡ Some n
unfolding hex_byte_read
byte_again n e = pair_again n e

pub hex_byte_laws : FieldLaws is_hex_digit hex_byte
hex_byte_laws = record {
  again = byte_again;
  found = byte_found;
  keeps = λ n e. joined _ _ (first_keeps n e) (joined _ true (second_keeps n e) refl);
}

-- ---- bytes

hex_again : (bs : List ℕ) → list_all is_byte bs ≡ true → hex_read (hex_spelled bs) ≡ Some bs
unfolding hex_read
hex_again [] e = refl
hex_again (b ∷ bs) e =
    let h : (is_byte b ≡ true) × (list_all is_byte bs ≡ true) = both (is_byte b) (list_all is_byte bs) e in
    rw (pair_again b h.0, hex_again bs h.1) refl

hex_found : (w bs : List ℕ) → hex_read w ≡ Some bs → (w ≡ hex_spelled bs) × (list_all is_byte bs ≡ true)
unfolding hex_read
hex_found [] bs e =
    let P : List ℕ → Type 0 = λ xs. ([] ≡ hex_spelled xs) × (list_all is_byte xs ≡ true) in
    subst P (some_same [] bs e) (refl, refl)
hex_found (a ∷ []) bs e = absurd (none_some bs e)
hex_found (a ∷ b ∷ more) bs e =
    let s = step_of (hex_pair a b) (λ byte. hex_read more >>= λ bytes. Some (byte ∷ bytes)) bs e in
    let t = step_of (hex_read more) (λ bytes. Some (s.value ∷ bytes)) bs s.then in
    let p : Pair a b s.value = pair_found a b s.value s.is in
    let rest = hex_found more t.value t.is in
    let P : List ℕ → Type 0 = λ xs. (a ∷ b ∷ more ≡ hex_spelled xs) × (list_all is_byte xs ≡ true) in
    subst P (some_same (s.value ∷ t.value) bs t.then) ((λ i. p.first i ∷ p.second i ∷ rest.0 i), joined (is_byte s.value) (list_all is_byte t.value) p.fits rest.1)

hex_keeps : (bs : List ℕ) → list_all is_byte bs ≡ true → list_all is_hex_digit (hex_spelled bs) ≡ true
hex_keeps [] e = refl
hex_keeps (b ∷ bs) e =
    let h : (is_byte b ≡ true) × (list_all is_byte bs ≡ true) = both (is_byte b) (list_all is_byte bs) e in
    joined _ _ (first_keeps b h.0) (joined _ _ (second_keeps b h.0) (hex_keeps bs h.1))

pub hex_laws : FieldLaws is_hex_digit hex
hex_laws = record { again = hex_again; found = hex_found; keeps = hex_keeps }

-- ---- texts as they are read

-- what was read before, and then what is read
abbrev pub behind : List ℕ → Option (List ℕ) → Option (List ℕ)
behind front None = None
behind front (Some xs) = Some (front ++ xs)

pub byte_of_two : (w : List ℕ) → length w ≡ 2 → hex_byte_read w ≡ hex_pair (get_or w 0 0) (get_or w 1 0)
unfolding hex_byte_read
byte_of_two [] e = absurd (omega arith)
byte_of_two (a ∷ []) e = absurd (omega arith)
byte_of_two (a ∷ b ∷ []) e = refl
byte_of_two (a ∷ b ∷ c ∷ more) e = absurd (omega arith)

pub byte_of_other : (w : List ℕ) → (length w ≡ 2 → ⊥) → hex_byte_read w ≡ None
unfolding hex_byte_read
byte_of_other [] e = refl
byte_of_other (a ∷ []) e = refl
byte_of_other (a ∷ b ∷ []) e = absurd (e refl)
byte_of_other (a ∷ b ∷ c ∷ more) e = refl

pub ruleset two_digits = (byte_of_two, byte_of_other)

pub hex_goes : (w : List ℕ) → 2 ≤ length w → hex_read w ≡ (hex_pair (get_or w 0 0) (get_or w 1 0) >>= λ byte. hex_read (drop 2 w) >>= λ bytes. Some (byte ∷ bytes))
unfolding hex_read
hex_goes [] e = absurd (omega arith)
hex_goes (a ∷ []) e = absurd (omega arith)
hex_goes (a ∷ b ∷ more) e = refl

pub hex_ends : (w : List ℕ) → length w < 2 → hex_read w ≡ when (length w == 0) []
unfolding hex_read
hex_ends [] e = refl
hex_ends (a ∷ []) e = refl
hex_ends (a ∷ b ∷ more) e = absurd (omega arith)

pub ruleset digits = (hex_goes, hex_ends)

one_pushed : (front : List ℕ) (byte : ℕ) (o : Option (List ℕ)) → behind (front ++ byte ∷ []) o ≡ behind front (o >>= λ bytes. Some (byte ∷ bytes))
one_pushed front byte None = refl
one_pushed front byte (Some xs) = ap Some (append_assoc front (byte ∷ []) xs)

-- a byte was read, and the loop goes on
pub hex_turn : (front rest text : List ℕ) (byte : ℕ) → behind front (hex_read rest) ≡ hex_read text → 2 ≤ length rest
    → hex_pair (get_or rest 0 0) (get_or rest 1 0) ≡ Some byte → behind (front ++ byte ∷ []) (hex_read (drop 2 rest)) ≡ hex_read text
hex_turn front rest text byte before long is =
    one_pushed front byte (hex_read (drop 2 rest))
    ∙ ap (λ o. behind front (o >>= λ b. hex_read (drop 2 rest) >>= λ bytes. Some (b ∷ bytes))) (sym is)
    ∙ ap (behind front) (sym (hex_goes rest long))
    ∙ before

-- nothing is left
pub hex_done : (front rest text : List ℕ) → behind front (hex_read rest) ≡ hex_read text → (length rest == 0) ≡ true → hex_read text ≡ Some front
unfolding hex_read
hex_done front [] text before none = sym before ∙ ap Some (append-nil front)
hex_done front (a ∷ rest) text before none = absurd (long (length rest) none)
  where
    long : (n : ℕ) → (suc n == 0) ≡ true → ⊥
    long n e = grind (arith, nat_tests)
