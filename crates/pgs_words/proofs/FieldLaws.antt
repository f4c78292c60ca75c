-- The laws of numbers and names.
use Rattle.std.proofs.Common.{◌≡◌, ℕ, suc, ◌+◌, ◌-◌, ◌*◌, ◌/◌, ◌%◌, ◌^◌, ◌<◌, ◌≤◌, ◌==◌, ◌&&◌, Bool, true, false, cond, not, List, [], ◌∷◌, ◌++◌, Some, None, length, refl, sym, ◌∙◌, ap, subst, arith, inl, inr, append-nil, append_assoc}
use Rattle.std.specs.Prelude.{nat_lt, nat_le}
use Rattle.std.specs.List.{list_all}
use Rattle.std.specs.Fmt.{decimal}
use Rattle.std.proofs.lemmas.Fmt.{decimal_by_steps, decimal_step, decimal_digit}
use Rattle.std.proofs.lemmas.Bool.Decides.{eqb_tells, nat_tests}
use Rattle.pgs_bytes.proofs.Facts.{none_some, some_same, both, joined, true_false, chosen}
use Rattle.pgs_words.specs.Forms.{when, same_text}
use Rattle.pgs_words.specs.Fields.{digit_from, digits_from, number_of, number_below, number, positive, positive_byte, plain_byte, is_plain, has_length, word_of, dash, dash_word, dash_read, dash_or}
use Rattle.pgs_words.proofs.Laws.{FieldLaws, step_of, when_some, when_true, same_is, list_all_append}
use Rattle.pgs_words.proofs.FormLaws.{itself_laws, such_laws, weaker}

-- ---- names

pub word_of_laws : (least most : ℕ) → FieldLaws plain_byte (word_of least most)
word_of_laws least most = itself_laws plain_byte (λ w. has_length least most w && is_plain w) (λ w e. (both (has_length least most w) (is_plain w) e).1)

not_true : (a : Bool) → not a ≡ true → a ≡ false
not_true true e = sym e
not_true false e = refl

skip : {A : Type 0} (test : Bool) (x y : A) → test ≡ false → cond test x y ≡ y
skip true x y e = absurd (true_false e)
skip false x y e = refl

longer : (most n : ℕ) → (nat_le 0 (suc n) && nat_le (suc n) most) ≡ true → (nat_le 1 (suc n) && nat_le (suc n) most) ≡ true
longer most n e = grind (arith, nat_tests)

shorter_too : (most n : ℕ) → (nat_le 1 (suc n) && nat_le (suc n) most) ≡ true → (nat_le 0 (suc n) && nat_le (suc n) most) ≡ true
shorter_too most n e = grind (arith, nat_tests)

empty_fits : (most : ℕ) → (nat_le 0 0 && nat_le 0 most) ≡ true
empty_fits most = grind (arith, nat_tests)

dash_again : (most : ℕ) (w : List ℕ) → (has_length 0 most w && is_plain w && not (same_text w dash)) ≡ true → dash_read most (dash_word w) ≡ Some w
dash_again most [] e = refl
dash_again most (b ∷ bs) e =
    let h = both (has_length 0 most (b ∷ bs) && is_plain (b ∷ bs)) (not (same_text (b ∷ bs) dash)) e in
    let g = both (has_length 0 most (b ∷ bs)) (is_plain (b ∷ bs)) h.0 in
    let k : has_length 1 most (b ∷ bs) ≡ true = longer most (length bs) g.0 in
    skip (same_text (b ∷ bs) dash) (Some []) (when (has_length 1 most (b ∷ bs) && is_plain (b ∷ bs)) (b ∷ bs)) (not_true _ h.1)
    ∙ when_true _ (b ∷ bs) (joined (has_length 1 most (b ∷ bs)) (is_plain (b ∷ bs)) k g.1)

dash_other : (most : ℕ) (w : List ℕ) → same_text w dash ≡ false → (has_length 1 most w && is_plain w) ≡ true → (w ≡ dash_word w) × ((has_length 0 most w && is_plain w && not (same_text w dash)) ≡ true)
dash_other most [] differ e = absurd (true_false (sym e))
dash_other most (b ∷ bs) differ e =
    let g = both (has_length 1 most (b ∷ bs)) (is_plain (b ∷ bs)) e in
    (refl, joined (has_length 0 most (b ∷ bs) && is_plain (b ∷ bs)) _ (joined (has_length 0 most (b ∷ bs)) (is_plain (b ∷ bs)) (shorter_too most (length bs) g.0) g.1) (ap not differ))

dash_found : (most : ℕ) (w x : List ℕ) → dash_read most w ≡ Some x → (w ≡ dash_word x) × ((has_length 0 most x && is_plain x && not (same_text x dash)) ≡ true)
dash_found most w x e =
    let P : List ℕ → Type 0 = λ y. (w ≡ dash_word y) × ((has_length 0 most y && is_plain y && not (same_text y dash)) ≡ true) in
    elim (chosen (same_text w dash) (Some []) (when (has_length 1 most w && is_plain w) w) (Some x) e) [
      | inl hit ↦ subst P (some_same [] x hit.1) (same_is w dash hit.0, joined (has_length 0 most [] && true) true (joined (has_length 0 most []) true (empty_fits most) refl) refl)
      | inr miss ↦ let passed = when_some (has_length 1 most w && is_plain w) w x miss.1 in subst P passed.0 (dash_other most w miss.0 passed.1)
    ]

dash_keeps : (w : List ℕ) → is_plain w ≡ true → list_all plain_byte (dash_word w) ≡ true
dash_keeps [] e = refl
dash_keeps (b ∷ bs) e = e

pub dash_or_laws : (most : ℕ) → FieldLaws plain_byte (dash_or most)
dash_or_laws most = record {
  again = dash_again most;
  found = dash_found most;
  keeps = λ w e. dash_keeps w (both (has_length 0 most w) (is_plain w) (both (has_length 0 most w && is_plain w) _ e).0).1;
}

-- ---- numbers

abbrev pub is_digit : ℕ → Bool
is_digit b = nat_le 48 b && nat_le b 57

pub digit_plain : (b : ℕ) → is_digit b ≡ true → plain_byte b ≡ true
digit_plain b e = grind (arith, nat_tests)

digit_of : (bound n d : ℕ) → d < 10 → n * 10 + d < bound → digit_from bound n (48 + d) ≡ Some (n * 10 + d)
digit_of bound n d small within =
    let value : 48 + d - 48 ≡ d = omega arith in
    let test : (nat_le 48 (48 + d) && nat_le (48 + d) 57 && nat_lt (n * 10 + (48 + d - 48)) bound) ≡ true = rw value (grind (arith, nat_tests)) in
    when_true _ _ test ∙ ap (λ v. Some (n * 10 + v)) value

digits_append : (bound n : ℕ) (xs ys : List ℕ) (m : ℕ) → digits_from bound n xs ≡ Some m → digits_from bound n (xs ++ ys) ≡ digits_from bound m ys
unfolding digits_from
digits_append bound n [] ys m e = ap (λ v. digits_from bound v ys) (some_same n m e)
digits_append bound n (x ∷ xs) ys m e =
    let s = step_of (digit_from bound n x) (λ more. digits_from bound more xs) (m) e in
    rw s.is (digits_append bound s.value xs ys m s.then)

abbrev Read : ℕ → ℕ → List ℕ → Type 0
Read bound n ds = n < bound → digits_from bound 0 ds ≡ Some n

read_one : (bound n : ℕ) → n < 10 → Read bound n ((48 + n) ∷ [])
unfolding digits_from
read_one bound n small within = rw (digit_of bound 0 n small (omega arith)) (ap Some (omega arith))

read_more : (bound n : ℕ) (ds : List ℕ) → 10 ≤ n → Read bound (n / 10) ds → Read bound n (ds ++ ((48 + n % 10) ∷ []))
unfolding digits_from
read_more bound n ds large before within =
    let whole : n / 10 * 10 + n % 10 ≡ n = omega arith in
    let digit : digit_from bound (n / 10) (48 + n % 10) ≡ Some (n / 10 * 10 + n % 10) = digit_of bound (n / 10) (n % 10) (omega arith) (omega (arith, whole)) in
    digits_append bound 0 ds ((48 + n % 10) ∷ []) (n / 10) (before (omega arith))
    ∙ rw (digit, whole) refl

-- a leading zero stands for 0 alone
abbrev Leads : ℕ → List ℕ → Type 0
Leads n [] = ⊥
Leads n (b ∷ bs) = b ≡ 48 → (n ≡ 0) × (bs ≡ [])

leads_one : (n : ℕ) → n < 10 → Leads n ((48 + n) ∷ [])
leads_one n small e = (omega arith, refl)

leads_more : (n : ℕ) (ds : List ℕ) → 10 ≤ n → Leads (n / 10) ds → Leads n (ds ++ ((48 + n % 10) ∷ []))
leads_more n [] large before = absurd before
leads_more n (b ∷ bs) large before = λ e. let zero_front : n / 10 ≡ 0 = (before e).0 in absurd (omega arith)

number_leads : (bound n : ℕ) (ds : List ℕ) → Leads n ds → digits_from bound 0 ds ≡ Some n → number_of bound ds ≡ Some n
unfolding number_of
number_leads bound n [] leads e = absurd leads
number_leads bound n (b ∷ bs) leads e = elim (eqb_tells b 48) [
  | inl hit ↦ let none = leads hit.1 in rw (hit.0, none.1) (ap Some (sym none.0))
  | inr miss ↦ rw miss.0 e
]

number_again : (bound n : ℕ) → bound ≤ 2 ^ 64 → n < bound → number_of bound (decimal n) ≡ Some n
number_again bound n most within =
    let small : n < 2 ^ 64 = omega arith in
    number_leads bound n (decimal n) (decimal_by_steps Leads leads_one leads_more n small)
    (decimal_by_steps (Read bound) (read_one bound) (read_more bound) n small within)

abbrev Digits : ℕ → List ℕ → Type 0
Digits n ds = list_all is_digit ds ≡ true

digit_is : (d : ℕ) → d < 10 → is_digit (48 + d) ≡ true
digit_is d small = grind (arith, nat_tests)

digits_one : (n : ℕ) → n < 10 → Digits n ((48 + n) ∷ [])
digits_one n small = joined (is_digit (48 + n)) true (digit_is n small) refl

digits_more : (n : ℕ) (ds : List ℕ) → 10 ≤ n → Digits (n / 10) ds → Digits n (ds ++ ((48 + n % 10) ∷ []))
digits_more n ds large before = list_all_append is_digit ds ((48 + n % 10) ∷ []) before (joined (is_digit (48 + n % 10)) true (digit_is (n % 10) (omega arith)) refl)

-- what a digit that was read says
pub record Digit (bound n b more : ℕ) : Type 0 where
  pub low : 48 ≤ b
  pub high : b ≤ 57
  pub value : more ≡ n * 10 + (b - 48)
  pub within : more < bound

digit_found : (bound n b more : ℕ) → digit_from bound n b ≡ Some more → Digit bound n b more
digit_found bound n b more e =
    let passed = when_some (nat_le 48 b && nat_le b 57 && nat_lt (n * 10 + (b - 48)) bound) (n * 10 + (b - 48)) more e in
    let h = both (nat_le 48 b && nat_le b 57) (nat_lt (n * 10 + (b - 48)) bound) passed.1 in
    let g = both (nat_le 48 b) (nat_le b 57) h.0 in
    let low = g.0 in let high = g.1 in let below = h.1 in let is = passed.0 in
    record {
      low = grind (arith, nat_tests);
      high = grind (arith, nat_tests);
      value = sym is;
      within = grind (arith, nat_tests);
    }

-- behind the digits of a number that isn't 0, digits are those of the number that they make
digits_found : (bound m : ℕ) (bs : List ℕ) (n : ℕ) → bound ≤ 2 ^ 64 → 0 < m → m < bound → digits_from bound m bs ≡ Some n → (decimal n ≡ decimal m ++ bs) × (n < bound)
unfolding digits_from
digits_found bound m [] n most some within e =
    let is : m ≡ n = some_same m n e in
    (ap decimal (sym is) ∙ sym (append-nil (decimal m)), subst (λ v. v < bound) is within)
digits_found bound m (b ∷ bs) n most some within e =
    let s = step_of (digit_from bound m b) (λ more. digits_from bound more bs) n e in
    let more : ℕ = s.value in
    let d : Digit bound m b more = digit_found bound m b more s.is in
    let value : more ≡ m * 10 + (b - 48) = d.value in
    let low = d.low in let high = d.high in let below = d.within in
    let front : more / 10 ≡ m = omega arith in
    let end : 48 + more % 10 ≡ b = omega arith in
    let step : decimal more ≡ decimal (more / 10) ++ ((48 + more % 10) ∷ []) = decimal_step more (omega arith) (omega arith) in
    let rest = digits_found bound more bs n most (omega arith) below s.then in
    (rest.0 ∙ ap (λ v. v ++ bs) (step ∙ (λ i. decimal (front i) ++ (end i ∷ []))) ∙ append_assoc (decimal m) (b ∷ []) bs, rest.1)

suc_not_zero : (n : ℕ) → (suc n == 0) ≡ false
suc_not_zero n = grind (arith, nat_tests)

number_found : (bound : ℕ) (w : List ℕ) (n : ℕ) → 0 < bound → bound ≤ 2 ^ 64 → number_of bound w ≡ Some n → (w ≡ decimal n) × (n < bound)
unfolding number_of digits_from
number_found bound [] n some most e = absurd (none_some n e)
number_found bound (b ∷ bs) n some most e = elim (eqb_tells b 48) [
  | inl hit ↦ zero_found bound b bs n some hit.1 (rw hit.0 at e)
  | inr miss ↦
      let s = step_of (digit_from bound 0 b) (λ more. digits_from bound more bs) n (rw miss.0 at e) in
      let more : ℕ = s.value in
      let d : Digit bound 0 b more = digit_found bound 0 b more s.is in
      let value : more ≡ 0 * 10 + (b - 48) = d.value in
      let low = d.low in let high = d.high in
      let other : b ≡ 48 → ⊥ = miss.1 in
      let one : decimal more ≡ (48 + more) ∷ [] = decimal_digit more (omega arith) in
      let byte : 48 + more ≡ b = omega arith in
      let rest = digits_found bound more bs n most (omega arith) d.within s.then in
      (sym (rest.0 ∙ ap (λ v. v ++ bs) (one ∙ (λ i. byte i ∷ []))), rest.1)
]
  where
    zero_found : (bound b : ℕ) (bs : List ℕ) (n : ℕ) → 0 < bound → b ≡ 48 → cond (length bs == 0) (Some 0) None ≡ Some n → (b ∷ bs ≡ decimal n) × (n < bound)
    zero_found bound b [] n some is e =
        let none : 0 ≡ n = some_same 0 n e in
        ((λ i. is i ∷ []) ∙ sym (decimal_digit 0 (omega arith)) ∙ ap decimal none, subst (λ v. v < bound) none some)
    zero_found bound b (c ∷ bs) n some is e = absurd (none_some n (rw (suc_not_zero (length bs)) at e))

pub number_laws : (bound : ℕ) → 0 < bound → bound ≤ 2 ^ 64 → FieldLaws is_digit (number_below bound)
number_laws bound some most = record {
  again = λ n e. number_again bound n most (grind (arith, nat_tests));
  found = λ w n e. let f = number_found bound w n some most e in let below = f.1 in (f.0, grind (arith, nat_tests));
  keeps = λ n e. let within : n < bound = grind (arith, nat_tests) in decimal_by_steps Digits digits_one digits_more n (omega arith);
}

-- ---- the numbers that lines have, as words

pub number_word : FieldLaws plain_byte number
number_word = weaker is_digit plain_byte number digit_plain (number_laws (2 ^ 32) (omega arith) (omega arith))

pub positive_word : FieldLaws plain_byte positive
positive_word = such_laws plain_byte (λ n. nat_lt 0 n) number number_word

pub positive_byte_word : FieldLaws plain_byte positive_byte
positive_byte_word = such_laws plain_byte (λ n. nat_le n 255) positive positive_word
