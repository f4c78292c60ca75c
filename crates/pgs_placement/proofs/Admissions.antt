-- The writes that waited are taken up until none is due.
use Rattle.std.proofs.Common.{◌≡◌, ℕ, zero, suc, ◌+◌, ◌<◌, ◌≤◌, Bool, true, false, List, [], ◌∷◌, length, Option, Some, None, refl, sym, ap, ◌∙◌, subst, arith}
use Rattle.std.specs.Prelude.{is_some, option_map}
use Rattle.pgs_bytes.proofs.Facts.{true_false, some_same, none_some, some_none}
use Rattle.pgs_op.specs.declared.write.Write.{Write}
use Rattle.pgs_history.specs.Parked.{parked, first_where_closed, next_admitted, is_admitting}
use Rattle.pgs_history.specs.Scrubs.{open_chunk}
use Rattle.pgs_history.specs.After.{with_admit, after_admit}
use Rattle.pgs_history.specs.declared.chunk.Chunk.{Chunk}
use Rattle.pgs_group.proofs.Admissions.{fewer_so}
use Rattle.pgs_group.specs.Steps.{admitted_told, admit_told}
use Rattle.pgs_group.specs.declared.admitted.Admitted.{Admitted}
use Rattle.pgs_placement.specs.State.{PlacementState}
use Rattle.pgs_placement.specs.Admissions.{admitted_line, admitting, admitted_times, all_admitted}
use Rattle.pgs_placement.specs.Sound.{IsSteady, IsSound}
use Rattle.pgs_placement.proofs.Added.{Adds, adds_none, adds_one, adds_both}
use Rattle.pgs_placement.proofs.Steady.{steady_admit}

-- ---- one

none_so : (w : PlacementState) (next : Option Write) → None ≡ option_map (admitted_told w.made w.past) next → record w { past = with_admit w.made w.past next } ≡ admitting next w
none_so w None e = refl
none_so w (Some write) e = absurd (none_some _ e)

pub none_admitted : (w v : PlacementState) → None ≡ admit_told w.made w.past → v ≡ record w { past = after_admit w.made w.past } → v ≡ admitting (next_admitted w.past) w
none_admitted w v e is = is ∙ none_so w (next_admitted w.past) e

some_so : (w : PlacementState) (admitted : Admitted) (next : Option Write) → Some admitted ≡ option_map (admitted_told w.made w.past) next
    → record w { past = with_admit w.made w.past next; done = admitted_line admitted ∷ w.done } ≡ admitting next w
some_so w admitted None e = absurd (some_none admitted e)
some_so w admitted (Some write) e =
    let is : admitted ≡ admitted_told w.made w.past write = some_same admitted (admitted_told w.made w.past write) e in
    ap (λ a. record w { past = with_admit w.made w.past (Some write); done = admitted_line a ∷ w.done }) is

pub some_admitted : (w u v : PlacementState) (admitted : Admitted) → Some admitted ≡ admit_told w.made w.past → u ≡ record w { past = after_admit w.made w.past }
    → v ≡ record u { done = admitted_line admitted ∷ u.done } → v ≡ admitting (next_admitted w.past) w
some_admitted w u v admitted e taken is =
    let kept : PlacementState → PlacementState = λ x. record x { done = admitted_line admitted ∷ x.done } in
    is ∙ ap kept taken ∙ some_so w admitted (next_admitted w.past) e

pub ruleset admitted_so = (none_admitted, some_admitted)

-- ---- all

past_admitted : (w : PlacementState) (next : Option Write) → (admitting next w).past ≡ with_admit w.made w.past next
past_admitted w None = refl
past_admitted w (Some write) = refl

pub fewer : (w : PlacementState) → is_admitting w.past ≡ true → length (parked (admitting (next_admitted w.past) w).past) + 1 ≡ length (parked w.past)
fewer w some = fewer_so w.made w.past (admitting (next_admitted w.past) w).past (past_admitted w (next_admitted w.past)) some

not_some : (next : Option Write) → is_some next ≡ false → next ≡ None
not_some None e = refl
not_some (Some write) e = absurd (true_false e)

none_more : (n : ℕ) (w : PlacementState) → is_admitting w.past ≡ false → admitted_times n w ≡ w
none_more zero w e = refl
none_more (suc n) w e = ap (λ next. admitted_times n (admitting next w)) (not_some (next_admitted w.past) e) ∙ none_more n w e

pub record IsAdmitting (first now : PlacementState) : Type 0 where
  pub rest : all_admitted now ≡ all_admitted first

pub admitting_begins : (first : PlacementState) → IsAdmitting first first
admitting_begins first = record { rest = refl }

pub admitting_next : (first now next : PlacementState) → IsAdmitting first now → is_admitting now.past ≡ true → next ≡ admitting (next_admitted now.past) now → IsAdmitting first next
admitting_next first now next h some e =
    let less = fewer now some in
    let size : length (parked now.past) ≡ suc (length (parked (admitting (next_admitted now.past) now).past)) = omega (arith, less) in
    subst (IsAdmitting first) (sym e) (record { rest = sym (ap (λ n. admitted_times n now) size) ∙ h.rest })

pub admitting_falls : (now next : PlacementState) → is_admitting now.past ≡ true → next ≡ admitting (next_admitted now.past) now → length (parked next.past) < length (parked now.past)
admitting_falls now next some e =
    let less = fewer now some in
    subst (λ x. length (parked x.past) < length (parked now.past)) (sym e) (omega (arith, less))

pub admitting_ends : (first now : PlacementState) → IsAdmitting first now → is_admitting now.past ≡ false → now ≡ all_admitted first
admitting_ends first now h none = sym (none_more (length (parked now.past)) now none) ∙ h.rest

pub ruleset admissions = (admitting_begins, admitting_next, admitting_falls, admitting_ends)

-- ---- what holds then

none_of : (now : Option Chunk) (writes : List Write) → length writes ≤ 0 → is_some (first_where_closed now writes) ≡ false
none_of (Some chunk) writes e = refl
none_of None [] e = refl
none_of None (write ∷ writes) e = absurd (omega (arith, e))

either : (b : Bool) → (b ≡ true → b ≡ false) → b ≡ false
either true h = h refl
either false h = refl

times_idle : (n : ℕ) (w : PlacementState) → length (parked w.past) ≤ n → is_admitting (admitted_times n w).past ≡ false
times_idle zero w most = none_of (open_chunk w.past) (parked w.past) most
times_idle (suc n) w most =
    let P : Bool → Type 0 = λ b. is_admitting w.past ≡ b → is_admitting (admitted_times n (admitting (next_admitted w.past) w)).past ≡ false in
    (elim (is_admitting w.past) as P [
      | true ↦ λ some. let less = fewer w some in times_idle n (admitting (next_admitted w.past) w) (omega (arith, less, most))
      | false ↦ λ none. ap (λ x. is_admitting x.past) (none_more (suc n) w none) ∙ none
    ]) refl

times_steady : (n : ℕ) (w : PlacementState) → IsSteady w → IsSteady (admitted_times n w)
times_steady zero w h = h
times_steady (suc n) w h = times_steady n (admitting (next_admitted w.past) w) (steady_admit w h)

pub all_sound : (w : PlacementState) → IsSteady w → IsSound (all_admitted w)
all_sound w h = record { steady = times_steady (length (parked w.past)) w h; idle = times_idle (length (parked w.past)) w (omega arith) }

-- nothing is taken up where nothing is due
pub none_due : (w : PlacementState) → is_admitting w.past ≡ false → all_admitted w ≡ w
none_due w none = none_more (length (parked w.past)) w none

made_admitted : (w : PlacementState) (next : Option Write) → (admitting next w).made ≡ w.made
made_admitted w None = refl
made_admitted w (Some write) = refl

times_made : (n : ℕ) (w : PlacementState) → (admitted_times n w).made ≡ w.made
times_made zero w = refl
times_made (suc n) w = times_made n (admitting (next_admitted w.past) w) ∙ made_admitted w (next_admitted w.past)

pub all_made : (w : PlacementState) → (all_admitted w).made ≡ w.made
all_made w = times_made (length (parked w.past)) w

-- and their lines are of any group
admitted_adds : (number : ℕ) (w : PlacementState) (next : Option Write) → Adds number w.done (admitting next w).done
admitted_adds number w None = adds_none number w.done
admitted_adds number w (Some write) = adds_one number (admitted_line (admitted_told w.made w.past write)) w.done tt

times_add : (number n : ℕ) (w : PlacementState) → Adds number w.done (admitted_times n w).done
times_add number zero w = adds_none number w.done
times_add number (suc n) w =
    let one : PlacementState = admitting (next_admitted w.past) w in
    adds_both number w.done one.done (admitted_times n one).done (admitted_adds number w (next_admitted w.past)) (times_add number n one)

pub all_add : (number : ℕ) (w : PlacementState) → Adds number w.done (all_admitted w).done
all_add number w = times_add number (length (parked w.past)) w
