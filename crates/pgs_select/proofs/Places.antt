-- The first place at which a test passes.
use Rattle.std.proofs.Common.{ℕ, suc, ◌≡◌, ◌+◌, Bool, true, false, cond, ◌||◌, List, [], ◌∷◌, ◌++◌, length, map, Some, None, refl, sym, ap, ◌∙◌, arith}
use Rattle.std.specs.List.{list_any, position, position_from, AllByRecursion}
use Rattle.std.proofs.lemmas.Iterator.Adapters.{position_from-zero}
use Rattle.pgs_bytes.proofs.Facts.{none_some, some_none, some_same}

-- ---- of a list's images

from_images : {A B : Type 0} (p : B → Bool) (q : A → Bool) (f : A → B) → ((x : A) → p (f x) ≡ q x) → (i : ℕ) (xs : List A) → position_from p i (map f xs) ≡ position_from q i xs
from_images p q f same i [] = refl
from_images p q f same i (x ∷ xs) =
    ap (λ r. cond (p (f x)) (Some i) r) (from_images p q f same (i + 1) xs) ∙ ap (λ b. cond b (Some i) (position_from q (i + 1) xs)) (same x)

pub of_images : {A B : Type 0} (p : B → Bool) (q : A → Bool) (f : A → B) → ((x : A) → p (f x) ≡ q x) → (xs : List A) → position p (map f xs) ≡ position q xs
of_images p q f same xs = position_from-zero p (map f xs) ∙ from_images p q f same 0 xs ∙ sym (position_from-zero q xs)

pub any_of_images : {A B : Type 0} (p : B → Bool) (q : A → Bool) (f : A → B) → ((x : A) → p (f x) ≡ q x) → (xs : List A) → list_any p (map f xs) ≡ list_any q xs
any_of_images p q f same [] = refl
any_of_images p q f same (x ∷ xs) = λ i. same x i || any_of_images p q f same xs i

-- ---- what stands before it and behind it

pub record IsFirst {A : Type 0} (p : A → Bool) (start : ℕ) (xs : List A) (place : ℕ) : Type 0 where
  pub front : List A
  pub here : A
  pub behind : List A
  pub whole : xs ≡ front ++ here ∷ behind
  pub at : place ≡ start + length front
  pub passes : p here ≡ true
  pub before : AllByRecursion (λ x. p x ≡ false) front

pub from_first : {A : Type 0} (p : A → Bool) (i : ℕ) (xs : List A) (place : ℕ) → position_from p i xs ≡ Some place → IsFirst p i xs place
from_first p i [] place e = absurd (none_some place e)
from_first p i (x ∷ xs) place e =
    (elim (p x) as (λ b. p x ≡ b → cond b (Some i) (position_from p (i + 1) xs) ≡ Some place → IsFirst p i (x ∷ xs) place) [
      | true ↦ λ t same. record { front = []; here = x; behind = xs; whole = refl; at = sym (some_same i place same) ∙ zero_more i; passes = t; before = tt }
      | false ↦ λ t rest.
          let more = from_first p (i + 1) xs place rest in
          record {
            front = x ∷ more.front;
            here = more.here;
            behind = more.behind;
            whole = ap (λ ys. x ∷ ys) more.whole;
            at = more.at ∙ one_more i (length more.front);
            passes = more.passes;
            before = (t, more.before);
          }
    ]) refl e
  where
    zero_more : (n : ℕ) → n ≡ n + 0
    zero_more n = omega arith

    one_more : (n m : ℕ) → n + 1 + m ≡ n + suc m
    one_more n m = omega arith

from_none : {A : Type 0} (p : A → Bool) (i : ℕ) (xs : List A) → position_from p i xs ≡ None → AllByRecursion (λ x. p x ≡ false) xs
from_none p i [] e = tt
from_none p i (x ∷ xs) e =
    (elim (p x) as (λ b. p x ≡ b → cond b (Some i) (position_from p (i + 1) xs) ≡ None → AllByRecursion (λ y. p y ≡ false) (x ∷ xs)) [
      | true ↦ λ t same. absurd (some_none i same)
      | false ↦ λ t rest. (t, from_none p (i + 1) xs rest)
    ]) refl e

pub first_place : {A : Type 0} (p : A → Bool) (xs : List A) (place : ℕ) → position p xs ≡ Some place → IsFirst p 0 xs place
first_place p xs place e = from_first p 0 xs place (sym (position_from-zero p xs) ∙ e)

pub no_place : {A : Type 0} (p : A → Bool) (xs : List A) → position p xs ≡ None → AllByRecursion (λ x. p x ≡ false) xs
no_place p xs e = from_none p 0 xs (sym (position_from-zero p xs) ∙ e)
