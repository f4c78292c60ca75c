-- What a test leaves of a list, and how far from the front on it passes.
use Rattle.std.proofs.Common.{ℕ, suc, ◌≡◌, ◌+◌, Bool, true, false, cond, List, [], ◌∷◌, take, drop, filter, Option, refl, sym, ap, ◌∙◌, subst, arith}
use Rattle.std.specs.Bool.{⊤}
use Rattle.std.specs.List.{AllByRecursion, cons_option, filter_map, prefix_len}

pub all_weaker : {X : Type 0} (P Q : X → Type 0) → ((x : X) → P x → Q x) → (xs : List X) → AllByRecursion P xs → AllByRecursion Q xs
all_weaker P Q f [] h = tt
all_weaker P Q f (x ∷ xs) h = (f x h.0, all_weaker P Q f xs h.1)

pub filter_all : {X : Type 0} (p : X → Bool) (xs : List X) → AllByRecursion (λ x. p x ≡ true) xs → filter p xs ≡ xs
filter_all p [] h = refl
filter_all p (x ∷ xs) h = ap (λ b. cond b (x ∷ filter p xs) (filter p xs)) h.0 ∙ ap (λ r. x ∷ r) (filter_all p xs h.1)

pub filter_none : {X : Type 0} (p : X → Bool) (xs : List X) → AllByRecursion (λ x. p x ≡ false) xs → filter p xs ≡ []
filter_none p [] h = refl
filter_none p (x ∷ xs) h = ap (λ b. cond b (x ∷ filter p xs) (filter p xs)) h.0 ∙ filter_none p xs h.1

-- two functions that give the same of all elements
pub same_map : {X Y : Type 0} (f g : X → Option Y) (xs : List X) → AllByRecursion (λ x. f x ≡ g x) xs → filter_map f xs ≡ filter_map g xs
same_map f g [] h = refl
same_map f g (x ∷ xs) h = λ i. cons_option (h.0 i) (same_map f g xs h.1 i)

-- the first of a list fails a test
abbrev pub Stops : {X : Type 0} → (X → Bool) → List X → Type 0
Stops p [] = ⊤
Stops p (x ∷ xs) = p x ≡ false

-- a test passes on a list, and fails on what stands behind it
abbrev pub IsFront : {X : Type 0} → (X → Bool) → List X → List X → Type 0
IsFront p front behind = AllByRecursion (λ x. p x ≡ true) front × Stops p behind

front_by : {X : Type 0} (p : X → Bool) (x : X) (xs : List X) (n : ℕ) → IsFront p (take n xs) (drop n xs) → (b : Bool) → p x ≡ b
    → IsFront p (take (cond b (1 + n) 0) (x ∷ xs)) (drop (cond b (1 + n) 0) (x ∷ xs))
front_by p x xs n h true e =
    let on : 1 + n ≡ suc n = omega arith in
    subst (λ k. IsFront p (take k (x ∷ xs)) (drop k (x ∷ xs))) (sym on) ((e, h.0), h.1)
front_by p x xs n h false e = (tt, e)

pub is_front : {X : Type 0} (p : X → Bool) (xs : List X) → IsFront p (take (prefix_len p xs) xs) (drop (prefix_len p xs) xs)
is_front p [] = (tt, tt)
is_front p (x ∷ xs) = front_by p x xs (prefix_len p xs) (is_front p xs) (p x) refl
