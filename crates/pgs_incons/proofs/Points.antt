-- Where a list is parted that stands in order.
use Rattle.std.proofs.Common.{ℕ, suc, zero, ◌≡◌, ◌<◌, ◌≤◌, Bool, true, false, List, [], ◌∷◌, length, refl, sym, ◌∙◌, arith}
use Rattle.std.proofs.Math.ListN.{get_or}
use Rattle.std.specs.List.{AllByRecursion, prefix_len, take_while}
use Rattle.std.specs.List.Sorted.{IsPartitionPoint, IsPartitionedBy}
use Rattle.std.proofs.lemmas.List.Folds.{length-prefix_len}
use Rattle.std.proofs.lemmas.List.Sums.{prefix_len_is}
use Rattle.pgs_bytes.proofs.Facts.{true_false}
use Rattle.pgs_incons.proofs.Lists.{Falls}

all_at : {X : Type 0} (P : X → Type 0) (xs : List X) → AllByRecursion P xs → (j : ℕ) (d : X) → j < length xs → P (get_or xs j d)
all_at P [] h j d l = absurd (omega arith)
all_at P (x ∷ xs) h zero d l = h.0
all_at P (x ∷ xs) h (suc j) d l = all_at P xs h.1 j d (omega arith)

-- a test that fails on all behind one on which it fails
pub falls_parted : {X : Type 0} (p : X → Bool) (xs : List X) → Falls p xs → IsPartitionedBy p xs
falls_parted p [] h i j d le l e = absurd (omega arith)
falls_parted p (x ∷ xs) h zero zero d le l e = e
falls_parted p (x ∷ xs) h zero (suc j) d le l e = first (p x) refl
  where
    first : (b : Bool) → p x ≡ b → p x ≡ true
    first true k = k
    first false k = absurd (true_false (sym e ∙ all_at (λ y. p y ≡ false) xs (h.0 k) j d (omega arith)))
falls_parted p (x ∷ xs) h (suc i) zero d le l e = absurd (omega arith)
falls_parted p (x ∷ xs) h (suc i) (suc j) d le l e = falls_parted p xs h.1 i j d (omega arith) (omega arith) e

point_by : {X : Type 0} (p : X → Bool) (xs : List X) (i : ℕ) → i ≤ length xs → IsPartitionPoint (λ x. p x ≡ true) (λ x. p x ≡ false) xs i → prefix_len p xs ≡ i
point_by p [] i within h = omega arith
point_by p (x ∷ xs) i within h = prefix_len_is p (x ∷ xs) i x within (λ k l. h.0 k x (omega arith) l) (λ l. h.1 i x (omega arith) l)

-- it is parted behind what passes from the front on
pub point_is : {X : Type 0} (p : X → Bool) (xs : List X) (i : ℕ) → i ≤ length xs → IsPartitionPoint (λ x. p x ≡ true) (λ x. p x ≡ false) xs i → i ≡ length (take_while p xs)
point_is p xs i within h = sym (length-prefix_len p xs ∙ point_by p xs i within h)
