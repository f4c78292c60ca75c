-- What an answer to a claim tells of the slots.
use Rattle.std.proofs.Common.{ℕ, ◌≡◌, true, false, List, [], ◌∷◌, map, get_or, Option, Some, None, refl, ap, ◌∙◌, arith}
use Rattle.std.specs.Prelude.{position, is_none}
use Rattle.std.proofs.lemmas.Option.{slice_get-get_or}
use Rattle.std.proofs.lemmas.List.Quantifiers.{position-Some}
use Rattle.pgs_bytes.proofs.Facts.{true_false}
use Rattle.pgs_slots.specs.declared.holder.Holder.{Holder}
use Rattle.pgs_slots.proofs.Positions.{none_passes}
use Rattle.pgs_slots.specs.Slots.{first_free, holders_of, answer_by, answer_of, IsTold}

-- a slot that isn't free is held
free_is : (slot : Option Holder) → is_none slot ≡ true → slot ≡ None
free_is None e = refl
free_is (Some holder) e = cc

held_is : (slot : Option Holder) → is_none slot ≡ false → (holder : Holder) × (slot ≡ Some holder)
held_is None e = cc
held_is (Some holder) e = (holder, refl)

-- where none is free, all are held
all_held : (slots : List (Option Holder)) → position is_none slots ≡ None → slots ≡ map (λ holder. Some holder) (holders_of slots)
all_held [] e = refl
all_held (None ∷ slots) e = absurd (true_false (none_passes is_none None slots e).0)
all_held (Some holder ∷ slots) e = ap (λ rest. Some holder ∷ rest) (all_held slots (none_passes is_none (Some holder) slots e).1)

told_by : (found : Option ℕ) (slots : List (Option Holder)) → first_free slots ≡ found → IsTold (answer_by found slots) (Some slots)
told_by None slots e = all_held slots e
told_by (Some slot) slots e =
    let facts = position-Some is_none slots slot None e in (
      slice_get-get_or slots slot None facts.0 ∙ ap (λ s. Some s) (free_is (get_or slots slot None) facts.1),
      λ before d. let held = held_is (get_or slots before None) (facts.2 before d) in
          (held.0, slice_get-get_or slots before None (omega (arith, facts.0, d)) ∙ ap (λ s. Some s) held.1),
    )

pub told : (slots : List (Option Holder)) → IsTold (answer_of slots) (Some slots)
told slots = told_by (first_free slots) slots refl
