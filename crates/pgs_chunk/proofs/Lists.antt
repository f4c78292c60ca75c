-- Facts of all elements of a list, and of what a test leaves of it.
use Rattle.std.proofs.Common.{ℕ, zero, suc, ◌≡◌, ◌≤◌, Bool, true, false, cond, List, [], ◌∷◌, ◌++◌, length, take, drop, filter, find, Option, Some, None, refl, sym, ap, ◌∙◌, arith}
use Rattle.std.specs.List.{AllByRecursion, list_all}
use Rattle.std.specs.Option.{MatchOption}
use Rattle.pgs_bytes.proofs.Facts.{joined, shorter}

pub all_weaker : {X : Type 0} (P Q : X → Type 0) → ((x : X) → P x → Q x) → (xs : List X) → AllByRecursion P xs → AllByRecursion Q xs
all_weaker P Q f [] h = tt
all_weaker P Q f (x ∷ xs) h = (f x h.0, all_weaker P Q f xs h.1)

pub all_front : {X : Type 0} (P : X → Type 0) (xs ys : List X) → AllByRecursion P (xs ++ ys) → AllByRecursion P xs
all_front P [] ys h = tt
all_front P (x ∷ xs) ys h = (h.0, all_front P xs ys h.1)

pub all_back : {X : Type 0} (P : X → Type 0) (xs ys : List X) → AllByRecursion P (xs ++ ys) → AllByRecursion P ys
all_back P [] ys h = h
all_back P (x ∷ xs) ys h = all_back P xs ys h.1

pub all_both : {X : Type 0} (P : X → Type 0) (xs ys : List X) → AllByRecursion P xs → AllByRecursion P ys → AllByRecursion P (xs ++ ys)
all_both P [] ys h k = k
all_both P (x ∷ xs) ys h k = (h.0, all_both P xs ys h.1 k)

pub filter_all : {X : Type 0} (p : X → Bool) (xs : List X) → AllByRecursion (λ x. p x ≡ true) xs → filter p xs ≡ xs
filter_all p [] h = refl
filter_all p (x ∷ xs) h = ap (λ b. cond b (x ∷ filter p xs) (filter p xs)) h.0 ∙ ap (λ r. x ∷ r) (filter_all p xs h.1)

pub filter_none : {X : Type 0} (p : X → Bool) (xs : List X) → AllByRecursion (λ x. p x ≡ false) xs → filter p xs ≡ []
filter_none p [] h = refl
filter_none p (x ∷ xs) h = ap (λ b. cond b (x ∷ filter p xs) (filter p xs)) h.0 ∙ filter_none p xs h.1

kept_or_not : {X : Type 0} (b : Bool) (x : X) (xs ys : List X) → length xs ≤ length ys → length (cond b (x ∷ xs) xs) ≤ suc (length ys)
kept_or_not true x xs ys h = omega arith
kept_or_not false x xs ys h = omega arith

pub filter_shorter : {X : Type 0} (p : X → Bool) (xs : List X) → length (filter p xs) ≤ length xs
filter_shorter p [] = omega arith
filter_shorter p (x ∷ xs) = kept_or_not (p x) x (filter p xs) xs (filter_shorter p xs)

all_kept_or_not : {X : Type 0} (P : X → Type 0) (b : Bool) (x : X) (xs : List X) → P x → AllByRecursion P xs → AllByRecursion P (cond b (x ∷ xs) xs)
all_kept_or_not P true x xs h k = (h, k)
all_kept_or_not P false x xs h k = k

pub all_filter : {X : Type 0} (P : X → Type 0) (p : X → Bool) (xs : List X) → AllByRecursion P xs → AllByRecursion P (filter p xs)
all_filter P p [] h = tt
all_filter P p (x ∷ xs) h = all_kept_or_not P (p x) x (filter p xs) h.0 (all_filter P p xs h.1)

passing_or_not : {X : Type 0} (p : X → Bool) (x : X) (xs : List X) (b : Bool) → p x ≡ b → AllByRecursion (λ y. p y ≡ true) xs
    → AllByRecursion (λ y. p y ≡ true) (cond b (x ∷ xs) xs)
passing_or_not p x xs true e h = (e, h)
passing_or_not p x xs false e h = h

pub all_filtered : {X : Type 0} (p : X → Bool) (xs : List X) → AllByRecursion (λ x. p x ≡ true) (filter p xs)
all_filtered p [] = tt
all_filtered p (x ∷ xs) = passing_or_not p x (filter p xs) (p x) refl (all_filtered p xs)

pub list_all_is : {X : Type 0} (p : X → Bool) (xs : List X) → AllByRecursion (λ x. p x ≡ true) xs → list_all p xs ≡ true
list_all_is p [] h = refl
list_all_is p (x ∷ xs) h = joined (p x) (list_all p xs) h.0 (list_all_is p xs h.1)

pub not_true : (b : Bool) → (b ≡ true → ⊥) → b ≡ false
not_true true h = absurd (h refl)
not_true false h = refl

pub take_short : {X : Type 0} (n : ℕ) (xs : List X) → length (take n xs) ≤ n
take_short zero xs = omega arith
take_short (suc n) [] = omega arith
take_short (suc n) (x ∷ xs) = let h : length (take n xs) ≤ n = take_short n xs in omega arith

pub take_full : {X : Type 0} (n : ℕ) (xs : List X) → (drop n xs ≡ [] → ⊥) → length (take n xs) ≡ n
take_full zero xs h = refl
take_full (suc n) [] h = absurd (h refl)
take_full (suc n) (x ∷ xs) h = ap suc (take_full n xs h)

pub not_end : {X : Type 0} (x : X) (xs ys : List X) → xs ++ x ∷ ys ≡ [] → ⊥
not_end x [] ys e = shorter x ys (sym e)
not_end x (z ∷ xs) ys e = shorter z (xs ++ x ∷ ys) (sym e)

-- where the first that passes a test stands
pub record Found {X : Type 0} (p : X → Bool) (zs : List X) (x : X) : Type 0 where
  pub front : List X
  pub back : List X
  pub whole : zs ≡ front ++ x ∷ back
  pub passed_over : AllByRecursion (λ z. p z ≡ false) front
  pub passes : p x ≡ true

one_more : {X : Type 0} (p : X → Bool) (z : X) (zs : List X) (b : Bool) → p z ≡ b → (r : Option X)
    → MatchOption r (AllByRecursion (λ y. p y ≡ false) zs) (Found p zs)
    → MatchOption (cond b (Some z) r) (AllByRecursion (λ y. p y ≡ false) (z ∷ zs)) (Found p (z ∷ zs))
one_more p z zs true e r h = record { front = []; back = zs; whole = refl; passed_over = tt; passes = e }
one_more p z zs false e None h = (e, h)
one_more p z zs false e (Some x) h = record { front = z ∷ h.front; back = h.back; whole = ap (λ l. z ∷ l) h.whole; passed_over = (e, h.passed_over); passes = h.passes }

pub found : {X : Type 0} (p : X → Bool) (zs : List X) → MatchOption (find p zs) (AllByRecursion (λ z. p z ≡ false) zs) (Found p zs)
found p [] = tt
found p (z ∷ zs) = one_more p z zs (p z) refl (find p zs) (found p zs)
