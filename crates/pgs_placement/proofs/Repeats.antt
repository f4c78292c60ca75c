-- A loop that makes a step again and again.
use Rattle.std.proofs.Common.{◌≡◌, ℕ, zero, suc, ◌+◌, ◌-◌, ◌<◌, ◌≤◌, Bool, true, false, cond, sym, ap, ◌∙◌, subst, arith}
use Rattle.pgs_placement.specs.Repeats.{repeated}
use Rattle.pgs_placement.specs.Sound.{IsSound}
use Rattle.pgs_placement.specs.State.{PlacementState}
use Rattle.pgs_placement.proofs.Sound.{IsOn, on_itself, on_again}

-- ---- one step more

more : (step : PlacementState → PlacementState) (goes : PlacementState → Bool) (n : ℕ) (w : PlacementState) → goes w ≡ true → repeated step goes (suc n) w ≡ repeated step goes n (step w)
more step goes n w e = ap (λ b. cond b (repeated step goes n (step w)) (step w)) e

last : (step : PlacementState → PlacementState) (goes : PlacementState → Bool) (n : ℕ) (w : PlacementState) → goes w ≡ false → repeated step goes (suc n) w ≡ step w
last step goes n w e = ap (λ b. cond b (repeated step goes n (step w)) (step w)) e

less_one : (most counter : ℕ) → counter < most → most - counter ≡ suc (most - (counter + 1))
less_one most counter h = omega (arith, h)

none_at : (most counter : ℕ) → most ≤ counter → most - counter ≡ 0
none_at most counter h = omega (arith, h)

-- ---- on the way through the loop

abbrev pub IsLeft : (PlacementState → PlacementState) → (PlacementState → Bool) → PlacementState → ℕ → ℕ → PlacementState → Type 0
IsLeft step goes first most counter now = repeated step goes (most - counter) now ≡ repeated step goes most first

pub left_begins : (step : PlacementState → PlacementState) (goes : PlacementState → Bool) (first : PlacementState) (most : ℕ) → IsLeft step goes first most 0 first
left_begins step goes first most = ap (λ n. repeated step goes n first) (let e : most - 0 ≡ most = omega arith in e)

pub left_next : (step : PlacementState → PlacementState) (goes : PlacementState → Bool) (first : PlacementState) (most counter : ℕ) (now next : PlacementState) → IsLeft step goes first most counter now → counter < most
    → goes now ≡ true → next ≡ step now → IsLeft step goes first most (counter + 1) next
left_next step goes first most counter now next h within on e =
    subst (IsLeft step goes first most (counter + 1)) (sym e)
    (sym (ap (λ n. repeated step goes n now) (less_one most counter within) ∙ more step goes (most - (counter + 1)) now on) ∙ h)

pub left_stops : (step : PlacementState → PlacementState) (goes : PlacementState → Bool) (first : PlacementState) (most counter : ℕ) (now next : PlacementState) → IsLeft step goes first most counter now → counter < most
    → goes now ≡ false → next ≡ step now → next ≡ repeated step goes most first
left_stops step goes first most counter now next h within stops e =
    e ∙ sym (ap (λ n. repeated step goes n now) (less_one most counter within) ∙ last step goes (most - (counter + 1)) now stops) ∙ h

pub left_ends : (step : PlacementState → PlacementState) (goes : PlacementState → Bool) (first : PlacementState) (most counter : ℕ) (now : PlacementState) → IsLeft step goes first most counter now → most ≤ counter
    → now ≡ repeated step goes most first
left_ends step goes first most counter now h over = sym (ap (λ n. repeated step goes n now) (none_at most counter over)) ∙ h

-- ---- what is sound stays so

pub on_repeated : (step : PlacementState → PlacementState) (goes : PlacementState → Bool) → ((w : PlacementState) → IsSound w → IsOn w (step w)) → (n : ℕ) (w : PlacementState) → IsSound w
    → IsOn w (repeated step goes n w)
on_repeated step goes on zero w s = on_itself w s
on_repeated step goes on (suc n) w s =
    let one = on w s in
    elim (goes w) as (λ b. IsOn w (cond b (repeated step goes n (step w)) (step w))) [
      | true ↦ on_again w (step w) (repeated step goes n (step w)) one (on_repeated step goes on n (step w) one.sound)
      | false ↦ one
    ]
