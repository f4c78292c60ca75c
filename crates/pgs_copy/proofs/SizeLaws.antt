-- Sizes of pairs, one pair after another.
use Rattle.std.proofs.Common.{ℕ, ◌≡◌, ◌≤◌, ◌<◌, ◌+◌, ◌^◌, true, false, List, [], ◌∷◌, length, Some, None, sym, ap, ◌∙◌, arith}
use Rattle.std.specs.Prelude.{nat_lt}
use Rattle.std.specs.Bool.{then_some}
use Rattle.std.proofs.lemmas.Bool.Decides.{nat_tests}
use Rattle.std.proofs.lemmas.List.Sums.{sum_by-cons}
use Rattle.pgs_copy.specs.Pairs.{Pairs, pairs_size}
use Rattle.pgs_copy.specs.Sizes.{fitting}

pub pairs_size-cons : (name value : List ℕ) (pairs : Pairs) → pairs_size ((name, value) ∷ pairs) ≡ length name + length value + pairs_size pairs
pairs_size-cons name value pairs = sum_by-cons (λ p. length p.0 + length p.1) (name, value) pairs

pub fits : (n : ℕ) → n < 2 ^ 64 → fitting n ≡ Some n
fits n below = let e : nat_lt n (2 ^ 64) ≡ true = grind (arith, nat_tests) in ap (λ b. then_some b n) e

pub fits_not : (n : ℕ) → 2 ^ 64 ≤ n → fitting n ≡ None
fits_not n over = let e : nat_lt n (2 ^ 64) ≡ false = grind (arith, nat_tests) in ap (λ b. then_some b n) e

-- a name with which it is too much already
pub too_much : (size : ℕ) (name value : List ℕ) (s t all : Pairs) → s ≡ (name, value) ∷ t → size + pairs_size s ≡ pairs_size all
    → 2 ^ 64 ≤ size + length name + length value → None ≡ fitting (pairs_size all)
too_much size name value s t all is holds over = sym (fits_not (pairs_size all) (omega (arith, holds, ap pairs_size is, pairs_size-cons name value t)))

pub one_more : (size : ℕ) (name value : List ℕ) (s t all : Pairs) → s ≡ (name, value) ∷ t → size + pairs_size s ≡ pairs_size all
    → size + length name + length value + pairs_size t ≡ pairs_size all
one_more size name value s t all is holds = omega (arith, holds, ap pairs_size is, pairs_size-cons name value t)

pub no_more : (size : ℕ) (s all : Pairs) → s ≡ [] → size + pairs_size s ≡ pairs_size all → size < 2 ^ 64 → Some size ≡ fitting (pairs_size all)
no_more size s all is holds below =
    let same : size ≡ pairs_size all = omega (arith, holds, ap pairs_size is) in
    sym (fits size below) ∙ ap fitting same
