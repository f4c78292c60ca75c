-- Bits of names that share none: a number made of those that pass a test.
use Rattle.std.proofs.Common.{ℕ, suc, ◌≡◌, Bool, true, false, not, ◌&&◌, inl, inr, List, [], ◌∷◌, ◌++◌, take, drop, refl, sym, ap, ◌∙◌, arith}
use Rattle.std.specs.Prelude.{◌==◌, if◌then◌else◌, bit_and, bit_or}
use Rattle.std.specs.Int.Bits.{and_zero_l}
use Rattle.std.specs.List.{list_all}
use Rattle.std.proofs.lemmas.Bool.Decides.{nat_tests}
use Rattle.std.proofs.lemmas.Nat.{and_or_self, and_or_apart}
use Rattle.pgs_bytes.proofs.Facts.{both, true_false, true_or_false}

zero_is : (a : ℕ) → (a == 0) ≡ true → a ≡ 0
zero_is a e = grind (arith, nat_tests)

zero_test : (a : ℕ) → a ≡ 0 → (a == 0) ≡ true
zero_test a e = grind (arith, nat_tests)

not_zero : (a : ℕ) → (a ≡ 0 → ⊥) → (a == 0) ≡ false
not_zero a h = elim (true_or_false (a == 0)) [ inl e ↦ absurd (h (zero_is a e)) | inr e ↦ e ]

flipped : (b : Bool) → not b ≡ true → b ≡ false
flipped true e = sym e
flipped false e = refl

-- what has a bit isn't 0
with_bit : (a m : ℕ) → (m == 0) ≡ false → (bit_or a m == 0) ≡ false
with_bit a m n = not_zero (bit_or a m) (λ e.
    let none : m ≡ 0 = sym (and_or_self m a) ∙ ap (λ b. bit_and b m) e ∙ and_zero_l m in
    true_false (sym (zero_test m none) ∙ n))

module _ {N : Type 0} (bit : N → ℕ) (test : N → Bool) where
  -- a number with the bits of those that pass
  abbrev pub all_bits : List N → ℕ → ℕ
  all_bits [] b = b
  all_bits (n ∷ names) b = all_bits names (if test n then bit_or b (bit n) else b)

  all_front : (xs ys : List N) (b : ℕ) → all_bits (xs ++ ys) b ≡ all_bits ys (all_bits xs b)
  all_front [] ys b = refl
  all_front (x ∷ xs) ys b = all_front xs ys (if test x then bit_or b (bit x) else b)

  -- a number has the bit of a name
  abbrev pub has_bit : ℕ → N → Bool
  has_bit b n = not (bit_and b (bit n) == 0)

  -- a name's bit is none of another's
  abbrev pub is_apart : N → N → Bool
  is_apart m n = bit_and (bit n) (bit m) == 0

  apart_by : (m n : N) (b : ℕ) → is_apart m n ≡ true → (t : Bool) → bit_and (if t then bit_or b (bit n) else b) (bit m) ≡ bit_and b (bit m)
  apart_by m n b e true = and_or_apart (bit m) b (bit n) (zero_is (bit_and (bit n) (bit m)) e)
  apart_by m n b e false = refl

  -- other names' bits change nothing of a name's
  apart : (m : N) (names : List N) (b : ℕ) → list_all (is_apart m) names ≡ true → bit_and (all_bits names b) (bit m) ≡ bit_and b (bit m)
  apart m [] b e = refl
  apart m (n ∷ names) b e =
      let parts = both (is_apart m n) (list_all (is_apart m) names) e in
      apart m names (if test n then bit_or b (bit n) else b) parts.1 ∙ apart_by m n b parts.0 (test n)

  own_by : (m : N) (b : ℕ) → bit_and b (bit m) ≡ 0 → (bit m == 0) ≡ false → (t : Bool) → not (bit_and (if t then bit_or b (bit m) else b) (bit m) == 0) ≡ t
  own_by m b e n true = ap (λ a. not (a == 0)) (and_or_self (bit m) b) ∙ ap not n
  own_by m b e n false = ap (λ a. not (a == 0)) e

  own : (m : N) (front back : List N) → list_all (is_apart m) front ≡ true → list_all (is_apart m) back ≡ true → (bit m == 0) ≡ false
      → has_bit (all_bits (front ++ m ∷ back) 0) m ≡ test m
  own m front back f k n =
      let b : ℕ = all_bits front 0 in
      let none : bit_and b (bit m) ≡ 0 = apart m front 0 f ∙ and_zero_l (bit m) in
      ap (λ a. has_bit a m) (all_front front (m ∷ back) 0)
      ∙ ap (λ a. not (a == 0)) (apart m back (if test m then bit_or b (bit m) else b) k)
      ∙ own_by m b none n (test m)

  -- the name at a place, where no other shares its bit
  pub has_at : (m : N) (k : ℕ) (names : List N) → names ≡ take k names ++ m ∷ drop (suc k) names → list_all (is_apart m) (take k names) ≡ true
      → list_all (is_apart m) (drop (suc k) names) ≡ true → (bit m == 0) ≡ false → has_bit (all_bits names 0) m ≡ test m
  has_at m k names e f g n = ap (λ l. has_bit (all_bits l 0) m) e ∙ own m (take k names) (drop (suc k) names) f g n

  -- a number of none
  abbrev pub are_bits : List N → Bool
  are_bits names = list_all (λ n. not (bit n == 0)) names

  none_by : (b : ℕ) (n : N) (rest : Bool) → (bit n == 0) ≡ false → (t : Bool) → ((if t then bit_or b (bit n) else b) == 0 && rest) ≡ ((b == 0) && (not t && rest))
  none_by b n rest e true = ap (λ c. c && rest) (with_bit b (bit n) e) ∙ and_false (b == 0)
    where
      and_false : (c : Bool) → false ≡ (c && false)
      and_false true = refl
      and_false false = refl
  none_by b n rest e false = refl

  none_from : (names : List N) (b : ℕ) → are_bits names ≡ true → (all_bits names b == 0) ≡ ((b == 0) && list_all (λ n. not (test n)) names)
  none_from [] b e = and_true (b == 0)
    where
      and_true : (c : Bool) → c ≡ (c && true)
      and_true true = refl
      and_true false = refl
  none_from (n ∷ names) b e =
      let parts = both (not (bit n == 0)) (are_bits names) e in
      none_from names (if test n then bit_or b (bit n) else b) parts.1
      ∙ none_by b n (list_all (λ n. not (test n)) names) (flipped (bit n == 0) parts.0) (test n)

  pub none_at : (names : List N) → are_bits names ≡ true → (all_bits names 0 == 0) ≡ list_all (λ n. not (test n)) names
  none_at names e = none_from names 0 e
