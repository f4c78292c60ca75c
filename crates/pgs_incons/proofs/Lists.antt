-- Lists that a test parts: where it fails once, it fails on all behind.
use Rattle.std.proofs.Common.{ℕ, suc, ◌≡◌, ◌+◌, ◌≤◌, Bool, true, false, cond, not, ◌&&◌, List, [], ◌∷◌, ◌++◌, take, drop, filter, refl, sym, ap, ◌∙◌, subst, arith}
use Rattle.std.specs.Bool.{⊤}
use Rattle.std.specs.declared.cmp.Ordering.{Ordering}
use Rattle.std.specs.declared.cmp.Ordering.TheVariants.{Less}
use Rattle.std.specs.List.{AllByRecursion, prefix_len}
use Rattle.std.specs.List.Sorted.{IsStrictlySortedBy}
use Rattle.pgs_bytes.proofs.Facts.{true_false}

pub all_weaker : {X : Type 0} (P Q : X → Type 0) → ((x : X) → P x → Q x) → (xs : List X) → AllByRecursion P xs → AllByRecursion Q xs
all_weaker P Q f [] h = tt
all_weaker P Q f (x ∷ xs) h = (f x h.0, all_weaker P Q f xs h.1)

pub all_both : {X : Type 0} (P : X → Type 0) (xs ys : List X) → AllByRecursion P xs → AllByRecursion P ys → AllByRecursion P (xs ++ ys)
all_both P [] ys h k = k
all_both P (x ∷ xs) ys h k = (h.0, all_both P xs ys h.1 k)

kept_by : {X : Type 0} (p : X → Bool) (x : X) (xs : List X) → AllByRecursion (λ y. p y ≡ true) xs → (b : Bool) → p x ≡ b
    → AllByRecursion (λ y. p y ≡ true) (cond b (x ∷ xs) xs)
kept_by p x xs h true e = (e, h)
kept_by p x xs h false e = h

pub all_kept : {X : Type 0} (p : X → Bool) (xs : List X) → AllByRecursion (λ x. p x ≡ true) (filter p xs)
all_kept p [] = tt
all_kept p (x ∷ xs) = kept_by p x (filter p xs) (all_kept p xs) (p x) refl

pub filter_all : {X : Type 0} (p : X → Bool) (xs : List X) → AllByRecursion (λ x. p x ≡ true) xs → filter p xs ≡ xs
filter_all p [] h = refl
filter_all p (x ∷ xs) h = ap (λ b. cond b (x ∷ filter p xs) (filter p xs)) h.0 ∙ ap (λ r. x ∷ r) (filter_all p xs h.1)

pub filter_none : {X : Type 0} (p : X → Bool) (xs : List X) → AllByRecursion (λ x. p x ≡ false) xs → filter p xs ≡ []
filter_none p [] h = refl
filter_none p (x ∷ xs) h = ap (λ b. cond b (x ∷ filter p xs) (filter p xs)) h.0 ∙ filter_none p xs h.1

pub filter_same : {X : Type 0} (p q : X → Bool) → ((x : X) → p x ≡ q x) → (xs : List X) → filter p xs ≡ filter q xs
filter_same p q e [] = refl
filter_same p q e (x ∷ xs) = λ i. cond (e x i) (x ∷ filter_same p q e xs i) (filter_same p q e xs i)

twice_by : {X : Type 0} (r : X → Bool) (x : X) (ys zs : List X) (q : Bool) → filter r ys ≡ zs → filter r (cond q (x ∷ ys) ys) ≡ cond (q && r x) (x ∷ zs) zs
twice_by r x ys zs true e = ap (λ l. cond (r x) (x ∷ l) l) e
twice_by r x ys zs false e = e

pub filter_twice : {X : Type 0} (q r : X → Bool) (xs : List X) → filter r (filter q xs) ≡ filter (λ x. q x && r x) xs
filter_twice q r [] = refl
filter_twice q r (x ∷ xs) = twice_by r x (filter q xs) (filter (λ y. q y && r y) xs) (q x) (filter_twice q r xs)

-- where a test fails on one, it fails on all behind it
abbrev pub Falls : {X : Type 0} → (X → Bool) → List X → Type 0
Falls p [] = ⊤
Falls p (x ∷ xs) = (p x ≡ false → AllByRecursion (λ y. p y ≡ false) xs) × Falls p xs

parted_by : {X : Type 0} (p : X → Bool) (x : X) (xs : List X) (n : ℕ) → (p x ≡ false → AllByRecursion (λ y. p y ≡ false) xs)
    → take n xs ≡ filter p xs → drop n xs ≡ filter (λ y. not (p y)) xs → (b : Bool) → p x ≡ b
    → (take (cond b (1 + n) 0) (x ∷ xs) ≡ cond b (x ∷ filter p xs) (filter p xs))
    × (drop (cond b (1 + n) 0) (x ∷ xs) ≡ cond (not b) (x ∷ filter (λ y. not (p y)) xs) (filter (λ y. not (p y)) xs))
parted_by p x xs n h front back true e =
    let on : suc n ≡ 1 + n = omega arith in
    subst (λ k. (take k (x ∷ xs) ≡ x ∷ filter p xs) × (drop k (x ∷ xs) ≡ filter (λ y. not (p y)) xs)) on (ap (λ l. x ∷ l) front, back)
parted_by p x xs n h front back false e =
    (sym (filter_none p xs (h e)), ap (λ l. x ∷ l) (sym (filter_all (λ y. not (p y)) xs (all_weaker (λ y. p y ≡ false) (λ y. not (p y) ≡ true) (λ y d. ap not d) xs (h e)))))

-- what a test passes on stands in front
pub parted : {X : Type 0} (p : X → Bool) (xs : List X) → Falls p xs
    → (take (prefix_len p xs) xs ≡ filter p xs) × (drop (prefix_len p xs) xs ≡ filter (λ x. not (p x)) xs)
parted p [] h = (refl, refl)
parted p (x ∷ xs) h =
    let more = parted p xs h.1 in
    parted_by p x xs (prefix_len p xs) h.0 more.0 more.1 (p x) refl

shorter_by : (m n : ℕ) (a b : Bool) → (a ≡ true → b ≡ true) → m ≤ n → cond a (1 + m) 0 ≤ cond b (1 + n) 0
shorter_by m n true true f h = omega arith
shorter_by m n true false f h = absurd (true_false (sym (f refl)))
shorter_by m n false b f h = omega arith

-- a test that follows from another passes as far at least
pub shorter : {X : Type 0} (p q : X → Bool) → ((x : X) → p x ≡ true → q x ≡ true) → (xs : List X) → prefix_len p xs ≤ prefix_len q xs
shorter p q f [] = omega arith
shorter p q f (x ∷ xs) = shorter_by (prefix_len p xs) (prefix_len q xs) (p x) (q x) (f x) (shorter p q f xs)

-- ascending lists, all of the first before all of the second
pub joined_up : {X : Type 0} (R : X → X → Ordering) (xs ys : List X) → IsStrictlySortedBy R xs → IsStrictlySortedBy R ys
    → AllByRecursion (λ x. AllByRecursion (λ y. R x y ≡ Less) ys) xs → IsStrictlySortedBy R (xs ++ ys)
unfolding IsStrictlySortedBy
joined_up R [] ys h k c = k
joined_up R (x ∷ xs) ys h k c = (all_both (λ y. R x y ≡ Less) xs ys h.0 c.0, joined_up R xs ys h.1 k c.1)
