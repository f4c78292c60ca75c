-- What cutting leaves.
use Rattle.std.proofs.Common.{arith, ℕ, ◌≡◌, ◌≤◌, ◌<◌, ◌-◌, List, ◌++◌, sym, ap, ◌∙◌}
use Rattle.std.specs.Prelude.{length, take, replicate}
use Rattle.std.proofs.lemmas.List.{take_all, append-nil}
use Rattle.pgs_bytes.specs.Edits.{resized}

-- what is resized to less than its length is cut
pub cut_short : (n : ℕ) (bytes new : List ℕ) → n < length bytes → new ≡ resized n bytes → new ≡ take n bytes
cut_short n bytes new h is =
    let none : n - length bytes ≡ 0 = omega arith in
    is ∙ ap (λ k. take n bytes ++ replicate k 0) none ∙ append-nil (take n bytes)

-- what is no longer stays as it is
pub cut_long : (n : ℕ) (bytes : List ℕ) → length bytes ≤ n → bytes ≡ take n bytes
cut_long n bytes h = sym (take_all n bytes h)
