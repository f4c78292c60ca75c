-- What the first place of a test tells.
use Rattle.std.proofs.Common.{ℕ, ◌≡◌, ◌+◌, nat_lt, suc, Bool, true, false, cond, not, List, ◌∷◌, length, Some, None, refl, ap, arith}
use Rattle.std.specs.Prelude.{position}
use Rattle.std.specs.List.{position_or_len}
use Rattle.std.proofs.lemmas.Bool.Decides.{nat_tests}
use Rattle.pgs_bytes.proofs.Facts.{some_none}

not_within : (n size : ℕ) → cond (nat_lt n size) (Some n) None ≡ None → nat_lt n size ≡ false
not_within n size e =
    (elim (nat_lt n size) as (λ v. cond v (Some n) None ≡ None → v ≡ false) [
      | true ↦ λ some. absurd (some_none n some)
      | false ↦ λ none. refl
    ]) e

first_within : (n : ℕ) → nat_lt 0 (suc n) ≡ false → ⊥
first_within n h = grind (arith, nat_tests, h)

less : (a b : ℕ) → nat_lt (1 + a) (suc b) ≡ false → nat_lt a b ≡ false
less a b h = grind (arith, nat_tests, h)

-- where no element passes, the first doesn't, nor does one of the rest
pub none_passes : {X : Type 0} (p : X → Bool) (x : X) (xs : List X) → position p (x ∷ xs) ≡ None → (p x ≡ false) × (position p xs ≡ None)
none_passes p x xs e =
    let P : Bool → Type 0 = λ v. nat_lt (cond (not v) (1 + position_or_len p xs) 0) (suc (length xs)) ≡ false → (v ≡ false) × (position p xs ≡ None) in
    (elim (p x) as P [
      | true ↦ λ within. absurd (first_within (length xs) within)
      | false ↦ λ rest. (refl, ap (λ b. cond b (Some (position_or_len p xs)) None) (less (position_or_len p xs) (length xs) rest))
    ]) (not_within (position_or_len p (x ∷ xs)) (length (x ∷ xs)) e)
