-- OSDs and their slots, in the order in which they were given. An OSD's row is the first of its number.
use Rattle.std.specs.Prelude.{ℕ, ◌≤◌, ◌==◌, ◌&&◌, Bool, nat_le, if◌then◌else◌, List, [], ◌∷◌, length, map, replicate, Option, Some, None, option_and_then}
use Rattle.std.specs.List.{AllByRecursion}
use Rattle.pgs_slots.specs.declared.limits.TheConstants.{MOST_SLOTS}
use Rattle.pgs_slots.specs.declared.holder.Holder.{Holder}
use Rattle.pgs_slots.specs.declared.osd_slots.OsdSlots.{OsdSlots}
use Rattle.pgs_slots.specs.declared.row.Row.{Row}
use Rattle.pgs_slots.specs.declared.claim_answer.ClaimAnswer.{ClaimAnswer}
use Rattle.pgs_slots.specs.declared.claim_answer.ClaimAnswer.TheVariants.{Unknown}
use Rattle.pgs_slots.specs.Slots.{claimed, released, slot_of, answer_of}

-- whether an OSD is given at least one slot, and not too many
abbrev pub is_sized : OsdSlots → Bool
is_sized osd = nat_le 1 osd.slots && nat_le osd.slots MOST_SLOTS

-- OSDs all of whose slots are free
abbrev pub free_row : OsdSlots → Row
free_row osd = record { osd = osd.osd; slots = replicate osd.slots None }

abbrev pub free_rows : List OsdSlots → List Row
free_rows osds = map free_row osds

-- what holds of each row
abbrev pub AreSized : List (Option Holder) → Type 0
AreSized slots = (1 ≤ length slots) × (length slots ≤ MOST_SLOTS)

abbrev pub AreRowsSized : List Row → Type 0
AreRowsSized rows = AllByRecursion (λ row. AreSized row.slots) rows

-- a row of this OSD
abbrev pub is_of : ℕ → Row → Bool
is_of osd row = row.osd == osd

-- the slots of an OSD, if it is in the list
abbrev pub slots_of : List Row → ℕ → Option (List (Option Holder))
slots_of [] osd = None
slots_of (row ∷ rows) osd = if row.osd == osd then Some row.slots else slots_of rows osd

-- the rows where the slots of an OSD changed so, and nothing else
abbrev pub with_change : (List (Option Holder) → List (Option Holder)) → ℕ → List Row → List Row
with_change change osd [] = []
with_change change osd (row ∷ rows) = if row.osd == osd then record row { slots = change row.slots } ∷ rows else row ∷ with_change change osd rows

-- the rows after a scrub claimed a slot of an OSD, and after it released one
abbrev pub with_claim : ℕ → Holder → List Row → List Row
with_claim osd holder rows = with_change (λ slots. claimed slots holder) osd rows

abbrev pub with_release : ℕ → Holder → List Row → List Row
with_release osd holder rows = with_change (λ slots. released slots holder) osd rows

-- what a claim answers
abbrev pub claim_by : Option (List (Option Holder)) → ClaimAnswer
claim_by None = Unknown
claim_by (Some slots) = answer_of slots

abbrev pub claim_answer : List Row → ℕ → ClaimAnswer
claim_answer rows osd = claim_by (slots_of rows osd)

-- what a release answers: the first slot of the OSD that the scrub held, if any
abbrev pub release_answer : List Row → ℕ → Holder → Option ℕ
release_answer rows osd holder = option_and_then (λ slots. slot_of slots holder) (slots_of rows osd)
