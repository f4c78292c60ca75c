-- The row of an OSD in a list of rows.
use Rattle.std.proofs.Common.{◌≡◌, ◌≢◌, ℕ, zero, suc, ◌+◌, ◌<◌, ◌≤◌, ◌==◌, nat_le, Bool, true, false, cond, List, [], ◌∷◌, ◌++◌, length, drop, replicate, get_or, set, Option, Some, None, refl, sym, ap, ◌∙◌, subst, arith}
use Rattle.std.specs.Prelude.{position, option_and_then}
use Rattle.std.specs.List.{list_all}
use Rattle.std.proofs.lemmas.Bool.Decides.{nat_tests}
use Rattle.std.proofs.lemmas.List.{drop_more, length-replicate, length-set}
use Rattle.std.proofs.lemmas.List.Quantifiers.{position-Some}
use Rattle.pgs_bytes.proofs.Facts.{both}
use Rattle.pgs_slots.specs.declared.limits.TheConstants.{MOST_SLOTS}
use Rattle.pgs_slots.specs.declared.holder.Holder.{Holder}
use Rattle.pgs_slots.specs.declared.osd_slots.OsdSlots.{OsdSlots}
use Rattle.pgs_slots.specs.declared.row.Row.{Row}
use Rattle.pgs_slots.specs.declared.claim_answer.ClaimAnswer.{ClaimAnswer}
use Rattle.pgs_slots.specs.declared.claim_answer.ClaimAnswer.TheVariants.{Unknown}
use Rattle.pgs_slots.specs.Slots.{first_free, slot_of, with_slot, claimed, released, answer_by, answer_of, IsTold, IsDenied}
use Rattle.pgs_slots.specs.Rows.{is_sized, free_row, free_rows, AreSized, AreRowsSized, is_of, slots_of, with_change, with_claim, with_release, claim_by, claim_answer, release_answer}
use Rattle.pgs_slots.proofs.Positions.{none_passes}
use Rattle.pgs_slots.proofs.Told.{told}

-- ---- where it is

abbrev IsPlace : ℕ → List Row → ℕ → Row → Type 0
IsPlace osd rows at d = (at < length rows) × (is_of osd (get_or rows at d) ≡ true) × ((k : ℕ) → k < at → is_of osd (get_or rows k d) ≡ false)

next : (osd : ℕ) (row : Row) (rows : List Row) (at : ℕ) (d : Row) → IsPlace osd (row ∷ rows) (suc at) d → IsPlace osd rows at d
next osd row rows at d p = (let within : suc at < suc (length rows) = p.0 in omega arith, p.1, λ k less. p.2 (suc k) (omega arith))

slots_by : (osd : ℕ) (rows : List Row) (at : ℕ) (d : Row) → IsPlace osd rows at d → slots_of rows osd ≡ Some (get_or rows at d).slots
slots_by osd [] at d p = absurd (omega (arith, p.0))
slots_by osd (row ∷ rows) zero d p = ap (λ b. cond b (Some row.slots) (slots_of rows osd)) p.1
slots_by osd (row ∷ rows) (suc at) d p = ap (λ b. cond b (Some row.slots) (slots_of rows osd)) (p.2 0 (omega arith)) ∙ slots_by osd rows at d (next osd row rows at d p)

change_by : (f : List (Option Holder) → List (Option Holder)) (osd : ℕ) (rows : List Row) (at : ℕ) (new d : Row) → IsPlace osd rows at d
    → new ≡ record (get_or rows at d) { slots = f (get_or rows at d).slots } → set rows at new ≡ with_change f osd rows
change_by f osd [] at new d p e = absurd (omega (arith, p.0))
change_by f osd (row ∷ rows) zero new d p e =
    ap (λ r. r ∷ rows) e ∙ sym (ap (λ b. cond b (record row { slots = f row.slots } ∷ rows) (row ∷ with_change f osd rows)) p.1)
change_by f osd (row ∷ rows) (suc at) new d p e =
    ap (λ rest. row ∷ rest) (change_by f osd rows at new d (next osd row rows at d p) e)
    ∙ sym (ap (λ b. cond b (record row { slots = f row.slots } ∷ rows) (row ∷ with_change f osd rows)) (p.2 0 (omega arith)))

slots_nowhere : (osd : ℕ) (rows : List Row) → position (is_of osd) rows ≡ None → slots_of rows osd ≡ None
slots_nowhere osd [] e = refl
slots_nowhere osd (row ∷ rows) e =
    let none = none_passes (is_of osd) row rows e in
    ap (λ b. cond b (Some row.slots) (slots_of rows osd)) none.0 ∙ slots_nowhere osd rows none.1

change_nowhere : (f : List (Option Holder) → List (Option Holder)) (osd : ℕ) (rows : List Row) → position (is_of osd) rows ≡ None → with_change f osd rows ≡ rows
change_nowhere f osd [] e = refl
change_nowhere f osd (row ∷ rows) e =
    let none = none_passes (is_of osd) row rows e in
    ap (λ b. cond b (record row { slots = f row.slots } ∷ rows) (row ∷ with_change f osd rows)) none.0
    ∙ ap (λ rest. row ∷ rest) (change_nowhere f osd rows none.1)

-- ---- the slots of other OSDs

pub other_kept : (f : List (Option Holder) → List (Option Holder)) (osd : ℕ) (rows : List Row) (other : ℕ) → other ≢ osd
    → slots_of (with_change f osd rows) other ≡ slots_of rows other
other_kept f osd [] other apart = refl
other_kept f osd (row ∷ rows) other apart =
    let P : Bool → Type 0 = λ v. (row.osd == osd) ≡ v
    → slots_of (cond v (record row { slots = f row.slots } ∷ rows) (row ∷ with_change f osd rows)) other ≡ slots_of (row ∷ rows) other in
    (elim (row.osd == osd) as P [
      | true ↦ λ is.
          let no : (row.osd == other) ≡ false = differs row.osd osd other is apart in
          ap (λ b. cond b (Some (f row.slots)) (slots_of rows other)) no ∙ sym (ap (λ b. cond b (Some row.slots) (slots_of rows other)) no)
      | false ↦ λ no. ap (λ rest. cond (row.osd == other) (Some row.slots) rest) (other_kept f osd rows other apart)
    ]) refl
  where
    differs : (a b c : ℕ) → (a == b) ≡ true → c ≢ b → (a == c) ≡ false
    differs a b c e apart = grind (arith, nat_tests, e, apart)

-- ---- how many slots there are

sized_same : (old new : List (Option Holder)) → length new ≡ length old → AreSized old → AreSized new
sized_same old new e sized = (omega (arith, sized.0), omega (arith, sized.1))

length_with : (found : Option ℕ) (now : Option Holder) (slots : List (Option Holder)) → length (with_slot found now slots) ≡ length slots
length_with None now slots = refl
length_with (Some at) now slots = length-set slots at now

sized_claimed : (slots : List (Option Holder)) (holder : Holder) → AreSized slots → AreSized (claimed slots holder)
sized_claimed slots holder sized = sized_same slots (claimed slots holder) (length_with (first_free slots) (Some holder) slots) sized

sized_released : (slots : List (Option Holder)) (holder : Holder) → AreSized slots → AreSized (released slots holder)
sized_released slots holder sized = sized_same slots (released slots holder) (length_with (slot_of slots holder) None slots) sized

sized_at : (rows : List Row) (at : ℕ) (d : Row) → at < length rows → AreRowsSized rows → AreSized (get_or rows at d).slots
sized_at [] at d within sized = absurd (omega (arith, within))
sized_at (row ∷ rows) zero d within sized = sized.0
sized_at (row ∷ rows) (suc at) d within sized = sized_at rows at d (let size : suc at < suc (length rows) = within in omega arith) sized.1

sized_set : (rows : List Row) (at : ℕ) (new : Row) → AreRowsSized rows → AreSized new.slots → AreRowsSized (set rows at new)
sized_set [] at new sized one = sized
sized_set (row ∷ rows) zero new sized one = (one, sized.1)
sized_set (row ∷ rows) (suc at) new sized one = (sized.0, sized_set rows at new sized.1 one)

-- ---- a row more

sized_more : (rows : List Row) (new : Row) → AreRowsSized rows → AreSized new.slots → AreRowsSized (rows ++ new ∷ [])
sized_more [] new sized one = (one, tt)
sized_more (row ∷ rows) new sized one = (sized.0, sized_more rows new sized.1 one)

free_more_at : (rows : List Row) (new : Row) (osds : List OsdSlots) (i : ℕ) (d : OsdSlots) → i < length osds → new ≡ free_row (get_or osds i d)
    → (rows ++ new ∷ []) ++ free_rows (drop (i + 1) osds) ≡ rows ++ free_rows (drop i osds)
free_more_at [] new osds i d within e = ap (λ r. r ∷ free_rows (drop (i + 1) osds)) e ∙ sym (ap free_rows (drop_more osds i d within))
free_more_at (row ∷ rows) new osds i d within e = ap (λ rest. row ∷ rest) (free_more_at rows new osds i d within e)

-- one more OSD of those that are given
pub free_more : (rows : List Row) (new : Row) (osds : List OsdSlots) (i : ℕ) (osd : OsdSlots) → i < length osds → osd ≡ get_or osds i osd
    → new ≡ record { osd = osd.osd; slots = replicate osd.slots None } → (rows ++ new ∷ []) ++ free_rows (drop (i + 1) osds) ≡ rows ++ free_rows (drop i osds)
free_more rows new osds i osd within is e = free_more_at rows new osds i osd within (e ∙ ap free_row is)

sized_in : (osds : List OsdSlots) (i : ℕ) (d : OsdSlots) → i < length osds → list_all is_sized osds ≡ true → is_sized (get_or osds i d) ≡ true
sized_in [] i d within e = absurd (omega (arith, within))
sized_in (osd ∷ osds) zero d within e = (both (is_sized osd) (list_all is_sized osds) e).0
sized_in (osd ∷ osds) (suc i) d within e =
    sized_in osds i d (let size : suc i < suc (length osds) = within in omega arith) (both (is_sized osd) (list_all is_sized osds) e).1

sized_free : (osd : OsdSlots) → is_sized osd ≡ true → AreSized (replicate osd.slots None)
sized_free osd e =
    let parts = both (nat_le 1 osd.slots) (nat_le osd.slots MOST_SLOTS) e in
    let least : 1 ≤ osd.slots = grind (arith, nat_tests, parts.0) in
    let most : osd.slots ≤ MOST_SLOTS = grind (arith, nat_tests, parts.1) in
    let long : length (replicate {A = Option Holder} osd.slots None) ≡ osd.slots = length-replicate osd.slots None in
    (omega (arith, least, long), omega (arith, most, long))

pub sized_new : (rows : List Row) (new : Row) (osds : List OsdSlots) (i : ℕ) (osd : OsdSlots) → AreRowsSized rows → i < length osds → osd ≡ get_or osds i osd
    → list_all is_sized osds ≡ true → new ≡ record { osd = osd.osd; slots = replicate osd.slots None } → AreRowsSized (rows ++ new ∷ [])
sized_new rows new osds i osd sized within is all e =
    let one : is_sized osd ≡ true = subst (λ o. is_sized o ≡ true) (sym is) (sized_in osds i osd within all) in
    sized_more rows new sized (subst (λ (r : Row). AreSized r.slots) (sym e) (sized_free osd one))

-- ---- what each call leaves and answers

module _ (osd : ℕ) (rows : List Row) (none : position (is_of osd) rows ≡ None) where
  pub unknown_none : Unknown ≡ claim_answer rows osd
  unknown_none = sym (ap claim_by (slots_nowhere osd rows none))

  pub told_none : IsTold Unknown (slots_of rows osd)
  told_none = subst (IsTold Unknown) (sym (slots_nowhere osd rows none)) tt

  pub claimed_none : (holder : Holder) → rows ≡ with_claim osd holder rows
  claimed_none holder = sym (change_nowhere (λ slots. claimed slots holder) osd rows none)

  pub release_none : (holder : Holder) → None ≡ release_answer rows osd holder
  release_none holder = sym (ap (λ found. option_and_then (λ slots. slot_of slots holder) found) (slots_nowhere osd rows none))

  pub released_none : (holder : Holder) → rows ≡ with_release osd holder rows
  released_none holder = sym (change_nowhere (λ slots. released slots holder) osd rows none)

  pub slots_none : None ≡ slots_of rows osd
  slots_none = sym (slots_nowhere osd rows none)

denied_by : (found : Option ℕ) (slots : List (Option Holder)) → found ≡ None → IsDenied (answer_by found slots)
denied_by None slots e = tt
denied_by (Some slot) slots e = cc

module _ (osd : ℕ) (rows : List Row) (at : ℕ) (there : position (is_of osd) rows ≡ Some at) (row : Row) (is : row ≡ get_or rows at row) where
  place_is : IsPlace osd rows at row
  place_is = position-Some (is_of osd) rows at row there

  pub slots_some : Some row.slots ≡ slots_of rows osd
  slots_some = ap (λ (r : Row). Some r.slots) is ∙ sym (slots_by osd rows at row place_is)

  pub sized_some : AreRowsSized rows → AreSized row.slots
  sized_some sized = subst (λ (r : Row). AreSized r.slots) (sym is) (sized_at rows at row place_is.0 sized)

  pub few_some : AreRowsSized rows → length row.slots ≤ MOST_SLOTS
  few_some sized = (sized_some sized).1

  pub answer_some : (answer : ClaimAnswer) → answer ≡ answer_of row.slots → answer ≡ claim_answer rows osd
  answer_some answer e = e ∙ ap claim_by slots_some

  pub told_some : (answer : ClaimAnswer) → answer ≡ answer_of row.slots → IsTold answer (slots_of rows osd)
  told_some answer e = subst (λ slots. IsTold answer slots) slots_some (subst (λ a. IsTold a (Some row.slots)) (sym e) (told row.slots))

  pub denied_some : first_free row.slots ≡ None → IsDenied (claim_answer rows osd)
  denied_some e = subst (λ slots. IsDenied (claim_by slots)) slots_some (denied_by (first_free row.slots) row.slots e)

  pub release_some : (holder : Holder) (slot : Option ℕ) → slot ≡ slot_of row.slots holder → slot ≡ release_answer rows osd holder
  release_some holder slot e = e ∙ ap (λ found. option_and_then (λ slots. slot_of slots holder) found) slots_some

  module _ (new : Row) where
    changed : (f : List (Option Holder) → List (Option Holder)) → new ≡ record row { slots = f row.slots } → set rows at new ≡ with_change f osd rows
    changed f e = change_by f osd rows at new row place_is (e ∙ ap (λ (r : Row). record r { slots = f r.slots }) is)

    pub claimed_some : (holder : Holder) → new ≡ record row { slots = claimed row.slots holder } → set rows at new ≡ with_claim osd holder rows
    claimed_some holder e = changed (λ slots. claimed slots holder) e

    pub released_some : (holder : Holder) → new ≡ record row { slots = released row.slots holder } → set rows at new ≡ with_release osd holder rows
    released_some holder e = changed (λ slots. released slots holder) e

    pub claim_others : (holder : Holder) → new ≡ record row { slots = claimed row.slots holder } → (other : ℕ) → other ≢ osd
        → slots_of (set rows at new) other ≡ slots_of rows other
    claim_others holder e other apart = ap (λ after. slots_of after other) (claimed_some holder e) ∙ other_kept (λ slots. claimed slots holder) osd rows other apart

    pub release_others : (holder : Holder) → new ≡ record row { slots = released row.slots holder } → (other : ℕ) → other ≢ osd
        → slots_of (set rows at new) other ≡ slots_of rows other
    release_others holder e other apart = ap (λ after. slots_of after other) (released_some holder e) ∙ other_kept (λ slots. released slots holder) osd rows other apart

    pub claim_sized : (holder : Holder) → new ≡ record row { slots = claimed row.slots holder } → AreRowsSized rows → AreRowsSized (set rows at new)
    claim_sized holder e sized =
        sized_set rows at new sized (subst (λ (r : Row). AreSized r.slots) (sym e) (sized_claimed row.slots holder (sized_some sized)))

    pub release_sized : (holder : Holder) → new ≡ record row { slots = released row.slots holder } → AreRowsSized rows → AreRowsSized (set rows at new)
    release_sized holder e sized =
        sized_set rows at new sized (subst (λ (r : Row). AreSized r.slots) (sym e) (sized_released row.slots holder (sized_some sized)))

    pub same_sized : new ≡ row → AreRowsSized rows → AreRowsSized (set rows at new)
    same_sized e sized = sized_set rows at new sized (subst (λ (r : Row). AreSized r.slots) (sym e) (sized_some sized))

pub ruleset news = (free_more, sized_new)

pub ruleset claims = (unknown_none, told_none, claimed_none, few_some, answer_some, told_some, denied_some, claimed_some, claim_others, claim_sized, same_sized)

pub ruleset releases = (release_none, released_none, few_some, release_some, released_some, release_others, release_sized)

pub ruleset shows = (slots_none, slots_some, sized_some)
