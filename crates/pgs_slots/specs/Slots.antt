-- The slots of one OSD, in order: each is free or held by a scrub.
use Rattle.std.specs.Prelude.{ℕ, ◌≡◌, ◌<◌, ◌&&◌, Bool, false, nat_eq, List, map, position, filter_map, is_none, slice_get, slice_set, Option, Some, None}
use Rattle.pgs_slots.specs.declared.holder.Holder.{Holder}
use Rattle.pgs_slots.specs.declared.claim_answer.ClaimAnswer.{ClaimAnswer}
use Rattle.pgs_slots.specs.declared.claim_answer.ClaimAnswer.TheVariants.{Claimed, Denied, Unknown}

-- whether two scrubs are one
abbrev pub same_holder : Holder → Holder → Bool
same_holder a b = nat_eq a.group b.group && nat_eq a.serial b.serial

-- whether a scrub holds a slot
abbrev pub is_held_by : Holder → Option Holder → Bool
is_held_by holder None = false
is_held_by holder (Some other) = same_holder other holder

-- the number of the first free slot
abbrev pub first_free : List (Option Holder) → Option ℕ
first_free slots = position is_none slots

-- the number of the first slot that a scrub holds
abbrev pub slot_of : List (Option Holder) → Holder → Option ℕ
slot_of slots holder = position (is_held_by holder) slots

-- who holds slots, in the order of the slots
abbrev pub holders_of : List (Option Holder) → List Holder
holders_of slots = filter_map (λ slot. slot) slots

-- the slots where one of them, if any, is now so
abbrev pub with_slot : Option ℕ → Option Holder → List (Option Holder) → List (Option Holder)
with_slot None now slots = slots
with_slot (Some at) now slots = slice_set slots at now

-- the slots after a scrub claimed one: it holds the first free one, and where none is free all is as before
abbrev pub claimed : List (Option Holder) → Holder → List (Option Holder)
claimed slots holder = with_slot (first_free slots) (Some holder) slots

-- the slots after a scrub released one: the first that it held is free, and where it held none all is as before
abbrev pub released : List (Option Holder) → Holder → List (Option Holder)
released slots holder = with_slot (slot_of slots holder) None slots

-- what a claim answers: the first free slot, or all the holders where none is free
abbrev pub answer_by : Option ℕ → List (Option Holder) → ClaimAnswer
answer_by (Some slot) slots = Claimed slot
answer_by None slots = Denied (holders_of slots)

abbrev pub answer_of : List (Option Holder) → ClaimAnswer
answer_of slots = answer_by (first_free slots) slots

-- What an answer to a claim tells of the slots before it. The claimed slot was free, and each before it was held. Where the claim is denied, each
-- slot was held, by the holders that are told. Nothing is known exactly where the OSD isn't in the list.
abbrev pub IsTold : ClaimAnswer → Option (List (Option Holder)) → Type 0
IsTold (Claimed slot) (Some slots) = (slice_get slots slot ≡ Some None) × ((before : ℕ) → before < slot → (holder : Holder) × (slice_get slots before ≡ Some (Some holder)))
IsTold (Denied holders) (Some slots) = slots ≡ map (λ holder. Some holder) holders
IsTold Unknown None = Unit {0}
IsTold answer slots = ⊥

-- a claim that is denied
abbrev pub IsDenied : ClaimAnswer → Type 0
IsDenied (Denied holders) = Unit {0}
IsDenied answer = ⊥
