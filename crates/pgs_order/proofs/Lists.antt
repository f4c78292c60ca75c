-- Lists that grow at their end, and numbers of which no two are alike.
use Rattle.std.proofs.Common.{◌≡◌, ℕ, suc, ◌==◌, ◌<◌, ◌≤◌, ◌||◌, Bool, true, false, List, [], ◌∷◌, ◌++◌, map, length, refl, sym, subst, ap, inl, inr, arith}
use Rattle.std.specs.Prelude.{nat_eq}
use Rattle.std.specs.List.{AllByRecursion, IsDistinct, list_any, list_all}
use Rattle.std.proofs.lemmas.Bool.Decides.{nat_tests}
use Rattle.std.proofs.lemmas.Map.Steps.{length-le_from_distinct_below}
use Rattle.pgs_bytes.proofs.Facts.{both, joined, true_false, true_or_false}

-- ---- tests

pub neither : (a b : Bool) → (a || b) ≡ false → (a ≡ false) × (b ≡ false)
neither true b e = absurd (true_false e)
neither false b e = (refl, e)

pub same : (n m : ℕ) → (n == m) ≡ true → n ≡ m
same n m e = grind (arith, nat_tests)

swapped : (n m : ℕ) → (n == m) ≡ false → nat_eq m n ≡ false
swapped n m e = grind (arith, nat_tests)

-- ---- lists that grow

pub longer : {A : Type 0} (xs : List A) (x : A) → length (xs ++ x ∷ []) ≡ suc (length xs)
longer [] x = refl
longer (y ∷ xs) x = ap (λ n. suc n) (longer xs x)

pub all_more : {A : Type 0} (P : A → Type 0) (xs : List A) (x : A) → AllByRecursion P xs → P x → AllByRecursion P (xs ++ x ∷ [])
all_more P [] x all p = (p, tt)
all_more P (y ∷ xs) x all p = (all.0, all_more P xs x all.1 p)

pub all_turned : {A : Type 0} (P Q : A → Type 0) → ((x : A) → P x → Q x) → (xs : List A) → AllByRecursion P xs → AllByRecursion Q xs
all_turned P Q turn [] all = tt
all_turned P Q turn (x ∷ xs) all = (turn x all.0, all_turned P Q turn xs all.1)

pub any_more : {A : Type 0} (p : A → Bool) (xs ys : List A) → list_any p xs ≡ true → list_any p (xs ++ ys) ≡ true
any_more p [] ys e = absurd (true_false (sym e))
any_more p (x ∷ xs) ys e = one (p x) (list_any p xs) (list_any p (xs ++ ys)) e (any_more p xs ys)
  where
    one : (a b c : Bool) → (a || b) ≡ true → (b ≡ true → c ≡ true) → (a || c) ≡ true
    one true b c e h = refl
    one false b c e h = h e

pub all_passed : {A : Type 0} (p q : A → Bool) → ((x : A) → p x ≡ true → q x ≡ true) → (xs : List A) → list_all p xs ≡ true → list_all q xs ≡ true
all_passed p q turn [] e = refl
all_passed p q turn (x ∷ xs) e = let h = both (p x) (list_all p xs) e in joined (q x) (list_all q xs) (turn x h.0) (all_passed p q turn xs h.1)

-- ---- no two of one number

pub none_alike : {A : Type 0} (number : A → ℕ) → IsDistinct nat_eq (map number [])
unfolding IsDistinct
none_alike number = tt

pub first_apart : {A : Type 0} (number : A → ℕ) (x : A) (xs : List A) → IsDistinct nat_eq (map number (x ∷ xs))
    → AllByRecursion (λ m. nat_eq (number x) m ≡ false) (map number xs)
unfolding IsDistinct
first_apart number x xs apart = apart.0

pub others_apart : {A : Type 0} (number : A → ℕ) (x : A) (xs : List A) → IsDistinct nat_eq (map number (x ∷ xs)) → IsDistinct nat_eq (map number xs)
unfolding IsDistinct
others_apart number x xs apart = apart.1

apart_from : {A : Type 0} (number : A → ℕ) (n : ℕ) (xs : List A) (x : A) → AllByRecursion (λ m. nat_eq n m ≡ false) (map number xs)
    → nat_eq n (number x) ≡ false → AllByRecursion (λ m. nat_eq n m ≡ false) (map number (xs ++ x ∷ []))
apart_from number n [] x all e = (e, tt)
apart_from number n (y ∷ xs) x all e = (all.0, apart_from number n xs x all.1 e)

pub apart_more : {A : Type 0} (number : A → ℕ) (xs : List A) (x : A) → IsDistinct nat_eq (map number xs)
    → list_any (λ y. number y == number x) xs ≡ false → IsDistinct nat_eq (map number (xs ++ x ∷ []))
unfolding IsDistinct
apart_more number [] x apart e = (tt, tt)
apart_more number (y ∷ xs) x apart e =
    let n = neither (number y == number x) (list_any (λ y. number y == number x) xs) e in
    (apart_from number (number y) xs x apart.0 n.0, apart_more number xs x apart.1 n.1)

-- ---- as many numbers below a bound as there are

missed : {A : Type 0} (number : A → ℕ) (xs : List A) (n : ℕ) → list_any (λ y. number y == n) xs ≡ false
    → AllByRecursion (λ m. nat_eq n m ≡ false) (map number xs)
missed number [] n e = tt
missed number (x ∷ xs) n e =
    let h = neither (number x == n) (list_any (λ y. number y == n) xs) e in
    (swapped (number x) n h.0, missed number xs n h.1)

-- a test that one of two holds
either : (n m bound : ℕ) (rest : Bool) → m < bound → (rest ≡ true → n < bound) → (nat_eq n m || rest) ≡ true → n < bound
either n m bound rest within h e = elim (true_or_false (nat_eq n m)) [
  | inl hit ↦ let is : n ≡ m = same n m hit in omega (arith, within)
  | inr miss ↦ h (subst (λ b. (b || rest) ≡ true) miss e)
]

below_each : {A : Type 0} (number : A → ℕ) (xs : List A) (bound : ℕ) → AllByRecursion (λ x. number x < bound) xs
    → (n : ℕ) → list_any (nat_eq n) (map number xs) ≡ true → n < bound
below_each number [] bound all n e = absurd (true_false (sym e))
below_each number (x ∷ xs) bound all n e =
    either n (number x) bound (list_any (nat_eq n) (map number xs)) all.0 (below_each number xs bound all.1 n) e

mapped : {A : Type 0} (number : A → ℕ) (xs : List A) → length (map number xs) ≡ length xs
mapped number [] = refl
mapped number (x ∷ xs) = ap (λ n. suc n) (mapped number xs)

too_many : (n m bound : ℕ) → suc n ≤ bound → n ≡ m → m ≡ bound → ⊥
too_many n m bound few is whole = grind arith

-- each number below the bound is there
pub there : {A : Type 0} (number : A → ℕ) (xs : List A) (bound n : ℕ) → IsDistinct nat_eq (map number xs) → AllByRecursion (λ x. number x < bound) xs
    → length xs ≡ bound → n < bound → list_any (λ x. number x == n) xs ≡ true
unfolding IsDistinct
there number xs bound n apart below whole within = elim (true_or_false (list_any (λ x. number x == n) xs)) [
  | inl hit ↦ hit
  | inr miss ↦
      let few : length (n ∷ map number xs) ≤ bound =
      length-le_from_distinct_below (n ∷ map number xs) bound (missed number xs n miss, apart)
      (λ m e. either m n bound (list_any (nat_eq m) (map number xs)) within (below_each number xs bound below m) e) in
      absurd (too_many (length (map number xs)) (length xs) bound few (mapped number xs) whole)
]
