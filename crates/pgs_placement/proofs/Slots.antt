-- Each OSD keeps its number of slots, and a claim is denied only where that many scrubs hold them.
use Rattle.std.proofs.Common.{◌≡◌, ℕ, ◌≤◌, ◌==◌, ◌&&◌, nat_le, Bool, true, false, cond, List, [], ◌∷◌, length, Option, Some, None, refl, sym, ap, ◌∙◌, subst, arith}
use Rattle.std.specs.List.{list_all}
use Rattle.std.specs.Prelude.{replicate}
use Rattle.std.proofs.lemmas.Bool.Decides.{nat_tests}
use Rattle.std.proofs.lemmas.List.{length-set, length-map, length-replicate}
use Rattle.pgs_bytes.proofs.Facts.{true_false}
use Rattle.pgs_history.specs.Legal.{IsDenial}
use Rattle.pgs_slots.specs.declared.limits.TheConstants.{MOST_SLOTS}
use Rattle.pgs_slots.specs.declared.osd_slots.OsdSlots.{OsdSlots}
use Rattle.pgs_slots.specs.Rows.{is_sized, free_rows, AreSized, AreRowsSized, slots_of, with_change, with_claim, with_release, claim_by, claim_answer}
use Rattle.pgs_slots.specs.Slots.{first_free, slot_of, with_slot, claimed, released, answer_of, IsTold}
use Rattle.pgs_slots.specs.declared.claim_answer.ClaimAnswer.{ClaimAnswer}
use Rattle.pgs_slots.specs.declared.claim_answer.ClaimAnswer.TheVariants as claims
use Rattle.pgs_slots.specs.declared.holder.Holder.{Holder}
use Rattle.pgs_slots.specs.declared.row.Row.{Row}
use Rattle.pgs_slots.proofs.Told.{told}

both_true : (a b : Bool) → (a && b) ≡ true → (a ≡ true) × (b ≡ true)
both_true true b e = (refl, e)
both_true false b e = absurd (true_false (sym e))

-- ---- as many slots as before

length_with : (found : Option ℕ) (now : Option Holder) (slots : List (Option Holder)) → length (with_slot found now slots) ≡ length slots
length_with None now slots = refl
length_with (Some at) now slots = length-set slots at now

as_sized : (old new : List (Option Holder)) → length new ≡ length old → AreSized old → AreSized new
as_sized old new e sized = let least = sized.0 in let most = sized.1 in (omega (arith, e, least), omega (arith, e, most))

change_sized : (change : List (Option Holder) → List (Option Holder)) → ((slots : List (Option Holder)) → length (change slots) ≡ length slots) → (osd : ℕ) (rows : List Row) → AreRowsSized rows
    → AreRowsSized (with_change change osd rows)
change_sized change same osd [] sized = tt
change_sized change same osd (row ∷ rows) sized =
    let rest = change_sized change same osd rows sized.1 in
    elim (row.osd == osd) as (λ b. AreRowsSized (cond b (record row { slots = change row.slots } ∷ rows) (row ∷ with_change change osd rows))) [
      | true ↦ (as_sized row.slots (change row.slots) (same row.slots) sized.0, sized.1)
      | false ↦ (sized.0, rest)
    ]

pub claim_sized : (osd : ℕ) (holder : Holder) (rows : List Row) → AreRowsSized rows → AreRowsSized (with_claim osd holder rows)
claim_sized osd holder rows sized = change_sized (λ slots. claimed slots holder) (λ slots. length_with (first_free slots) (Some holder) slots) osd rows sized

pub release_sized : (osd : ℕ) (holder : Holder) (rows : List Row) → AreRowsSized rows → AreRowsSized (with_release osd holder rows)
release_sized osd holder rows sized = change_sized (λ slots. released slots holder) (λ slots. length_with (slot_of slots holder) None slots) osd rows sized

-- ---- at first

one_sized : (osd : OsdSlots) → is_sized osd ≡ true → AreSized (replicate {A = Option Holder} osd.slots None)
one_sized osd e =
    let parts = both_true (nat_le 1 osd.slots) (nat_le osd.slots MOST_SLOTS) e in
    let least : 1 ≤ osd.slots = grind (arith, nat_tests, parts.0) in
    let most : osd.slots ≤ MOST_SLOTS = grind (arith, nat_tests, parts.1) in
    let long : length (replicate {A = Option Holder} osd.slots None) ≡ osd.slots = length-replicate osd.slots None in
    (omega (arith, least, long), omega (arith, most, long))

pub free_sized : (osds : List OsdSlots) → list_all is_sized osds ≡ true → AreRowsSized (free_rows osds)
free_sized [] e = tt
free_sized (osd ∷ osds) e =
    let all = both_true (is_sized osd) (list_all is_sized osds) e in
    (one_sized osd all.0, free_sized osds all.1)

-- ---- a denial

abbrev pub IsToldDenial : ClaimAnswer → Type 0
IsToldDenial (claims.Claimed slot) = Unit {0}
IsToldDenial (claims.Denied holders) = IsDenial (Some holders)
IsToldDenial claims.Unknown = Unit {0}

slots_sized : (rows : List Row) (osd : ℕ) (slots : List (Option Holder)) → AreRowsSized rows → slots_of rows osd ≡ Some slots → AreSized slots
slots_sized [] osd slots sized e = absurd cc
slots_sized (row ∷ rows) osd slots sized e =
    (elim (row.osd == osd) as (λ b. cond b (Some row.slots) (slots_of rows osd) ≡ Some slots → AreSized slots) [
      | true ↦ λ here. let is : row.slots ≡ slots = cc in subst AreSized is sized.0
      | false ↦ λ there. slots_sized rows osd slots sized.1 there
    ]) e

from_told : (answer : ClaimAnswer) (slots : List (Option Holder)) → AreSized slots → IsTold answer (Some slots) → IsToldDenial answer
from_told (claims.Claimed slot) slots sized h = tt
from_told (claims.Denied holders) slots sized h =
    let size : length slots ≡ length holders = ap length h ∙ length-map holders (λ holder. Some holder) in
    let least = sized.0 in
    let most = sized.1 in
    (omega (arith, size, least), omega (arith, size, most))
from_told claims.Unknown slots sized h = tt

told_by : (found : Option (List (Option Holder))) → ((slots : List (Option Holder)) → found ≡ Some slots → AreSized slots) → IsToldDenial (claim_by found)
told_by None sized = tt
told_by (Some slots) sized = from_told (answer_of slots) slots (sized slots refl) (told slots)

pub told_denial : (rows : List Row) (osd : ℕ) → AreRowsSized rows → IsToldDenial (claim_answer rows osd)
told_denial rows osd sized = told_by (slots_of rows osd) (λ slots e. slots_sized rows osd slots sized e)
