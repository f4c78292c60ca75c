-- What the steps of a scrub do, and the answer that is kept with each.
use Rattle.std.specs.Prelude.{ℕ, ◌==◌, ◌&&◌, ◌||◌, Bool, true, false, List, [], ◌∷◌, Option, Some, None, is_some, find, if◌then◌else◌}
use Rattle.pgs_name.specs.declared.object_id.ObjectId.{ObjectId}
use Rattle.pgs_lines.specs.declared.kind.Kind.{Kind as LineKind}
use Rattle.pgs_done.specs.declared.claim_answer.ClaimAnswer.TheVariants as line_claims
use Rattle.pgs_done.specs.declared.open_answer.OpenAnswer.TheVariants as line_opens
use Rattle.pgs_done.specs.declared.release_answer.ReleaseAnswer.TheVariants as line_releases
use Rattle.pgs_done.specs.declared.take_answer.TakeAnswer.TheVariants as line_takes
use Rattle.pgs_done.specs.declared.done.Done.TheVariants as dones
use Rattle.pgs_history.specs.Acting.{or_none}
use Rattle.pgs_history.specs.Causes.{cause}
use Rattle.pgs_history.specs.Scrubs.{present, running, claims_at, opened, open_number, start, limit_now}
use Rattle.pgs_history.specs.Answers.{begin_answer, reserve_answer, open_answer, take_answer, close_answer, fault_answer, primary}
use Rattle.pgs_history.specs.After.{after_begin, after_reserve, after_open, after_take, after_close, after_fault}
use Rattle.pgs_history.specs.declared.made.Made.{Made}
use Rattle.pgs_history.specs.declared.event.Event.{Event}
use Rattle.pgs_group.specs.Steps.{close_told}
use Rattle.pgs_exchange.specs.declared.scan_result.ScanResult.{ScanResult}
use Rattle.pgs_exchange.specs.declared.scan_result.Found.{Found}
use Rattle.pgs_exchange.specs.declared.scan_result.Found.TheVariants as results
use Rattle.pgs_shards.specs.Members.{Member}
use Rattle.pgs_shards.specs.Listings.{list_in, with_listed}
use Rattle.pgs_shards.specs.Scans.{hand_in, with_handed}
use Rattle.pgs_shards.specs.declared.list_answer.ListAnswer.{ListAnswer}
use Rattle.pgs_shards.specs.declared.list_answer.ListAnswer.TheVariants as listings
use Rattle.pgs_slots.specs.Rows.{slots_of, with_claim, with_release, claim_answer}
use Rattle.pgs_slots.specs.Slots.{holders_of}
use Rattle.pgs_slots.specs.declared.claim_answer.ClaimAnswer.{ClaimAnswer}
use Rattle.pgs_slots.specs.declared.claim_answer.ClaimAnswer.TheVariants as claims
use Rattle.pgs_slots.specs.declared.holder.Holder.{Holder}
use Rattle.pgs_placement.specs.Naming.{kind_of}
use Rattle.pgs_placement.specs.Said.{begin_said, claim_said, holders_said, open_said, fault_said, take_said, close_said}
use Rattle.pgs_placement.specs.State.{PlacementState}

-- ---- begin

abbrev pub after_beginning : PlacementState → ℕ → LineKind → PlacementState
after_beginning w group kind = record w {
  past = after_begin w.made w.past (kind_of kind);
  done = dones.Begin group kind (begin_said (begin_answer w.made w.past)) ∷ w.done;
}

-- ---- claim

-- a scrub of the group
abbrev pub scrub_of : PlacementState → ℕ → Holder
scrub_of w serial = record { group = w.made.number; serial = serial }

-- no scrub of the group reserves
abbrev pub not_claiming : PlacementState → ℕ → PlacementState
not_claiming w group = record w { done = dones.Claim group line_claims.NoClaim ∷ w.done }

-- What the group learns of the claim of a scrub at an OSD: that it holds a slot, or that it is denied, and then of all who hold the OSD's slots. An OSD
-- without slots isn't claimed at.
abbrev pub claim_made : ClaimAnswer → ℕ → ℕ → PlacementState → ℕ → PlacementState
claim_made (claims.Claimed slot) serial osd w group = record w {
  past = after_reserve w.made w.past serial osd None;
  done = dones.Claim group (claim_said osd slot (reserve_answer w.made w.past serial osd None)) ∷ w.done;
}
claim_made (claims.Denied holders) serial osd w group = record w {
  past = after_reserve w.made w.past serial osd (Some holders);
  done = dones.Claim group (line_claims.Denied osd (holders_said holders)) ∷ w.done;
}
claim_made claims.Unknown serial osd w group = not_claiming w group

-- a scrub claims a slot of an OSD, if it claims at one next: where one is free it holds that, and else the slots stay
abbrev pub claimed_at : Option ℕ → Option ℕ → PlacementState → ℕ → PlacementState
claimed_at (Some serial) (Some osd) w group = claim_made (claim_answer w.slots osd) serial osd (record w { slots = with_claim osd (scrub_of w serial) w.slots }) group
claimed_at serial osd w group = not_claiming w group

-- the scrub that reserves claims a slot of the OSD at which it claims next
abbrev pub after_claiming : PlacementState → ℕ → PlacementState
after_claiming w group = claimed_at (present w.past) (claims_at w.made w.past) w group

-- ---- release

-- a scrub of the group that has ended
abbrev pub is_over : Made → List Event → Holder → Bool
is_over made past holder = (holder.group == made.number) && is_some (cause made past holder.serial)

abbrev pub over_among : Made → List Event → Option (List (Option Holder)) → Option Holder
over_among made past None = None
over_among made past (Some slots) = find (is_over made past) (holders_of slots)

-- the scrub of the group that has ended and holds the lowest slot of an OSD of all those
abbrev pub over_at : PlacementState → ℕ → Option Holder
over_at w osd = over_among w.made w.past (slots_of w.slots osd)

abbrev pub released_of : Option Holder → PlacementState → ℕ → ℕ → PlacementState
released_of None w group osd = record w { done = dones.Release group osd line_releases.NotHeld ∷ w.done }
released_of (Some holder) w group osd = record w {
  slots = with_release osd holder w.slots;
  done = dones.Release group osd (line_releases.Released holder.serial) ∷ w.done;
}

-- the lowest slot of an OSD that a scrub of the group holds which has ended is free again
abbrev pub after_releasing : PlacementState → ℕ → ℕ → PlacementState
after_releasing w group osd = released_of (over_at w osd) w group osd

-- ---- open

-- whether nothing is listed: the scrub still claims at an OSD, or a chunk is open
abbrev pub is_unlisted : Option ℕ → Option ℕ → Bool
is_unlisted claims chunk = is_some claims || is_some chunk

-- the primary: 0 where there is none
abbrev pub primary_of : PlacementState → ℕ
primary_of w = or_none (primary w.made w.past)

-- what listing the primary's positions answers, from where the next chunk begins
abbrev pub primary_lists : PlacementState → ListAnswer
primary_lists w = list_in (limit_now w.made w.past) (start w.past) w.members (primary_of w)

-- the members after that
abbrev pub with_primary_listed : PlacementState → List Member
with_primary_listed w = with_listed (limit_now w.made w.past) (start w.past) (primary_of w) w.members

-- the group is given positions, and what it answers is kept
abbrev pub opened_with : List ObjectId → ℕ → PlacementState → ℕ → PlacementState
opened_with ids serial w group = record w {
  past = after_open w.made w.past serial ids;
  done = dones.Open group (open_said (open_answer w.made w.past serial ids)) ∷ w.done;
}

-- the same by what the primary listed; where its device failed, the scrub ends
abbrev pub opened_by : ListAnswer → ℕ → PlacementState → ℕ → PlacementState
opened_by (listings.Listed ids) serial w group = opened_with ids serial (record w { members = with_primary_listed w }) group
opened_by (listings.Fault count) serial w group = record w {
  past = after_fault w.made w.past serial 0 (primary_of w) count;
  members = with_primary_listed w;
  done = dones.Open group (line_opens.DeviceFault (primary_of w) count) ∷ w.done;
}

abbrev pub opening_of : Option ℕ → PlacementState → ℕ → PlacementState
opening_of None w group = record w { done = dones.Open group line_opens.NoScrub ∷ w.done }
opening_of (Some serial) w group =
    if is_unlisted (claims_at w.made w.past) (open_number w.past) then opened_with [] serial w group else opened_by (primary_lists w) serial w group

-- a chunk of the scrub that reserves or runs is to be opened, if there is one
abbrev pub after_opening : PlacementState → ℕ → PlacementState
after_opening w group = opening_of (present w.past) w group

-- ---- take

-- A map is given to the group, and so is a fault.
abbrev pub found_taken : Found → ScanResult → PlacementState → ℕ → ℕ → PlacementState
found_taken (results.Map map) scanned w group osd = record w {
  past = after_take w.past scanned.place map;
  members = with_handed osd w.members;
  done = dones.Take group osd (take_said scanned.applied scanned.place (take_answer w.past map)) ∷ w.done;
}
found_taken (results.ListFault count) scanned w group osd = record w {
  past = after_fault w.made w.past scanned.serial scanned.chunk osd count;
  members = with_handed osd w.members;
  done = dones.Take group osd (fault_said count (fault_answer w.made w.past scanned.serial scanned.chunk)) ∷ w.done;
}

abbrev pub handed_taken : Option ScanResult → PlacementState → ℕ → ℕ → PlacementState
handed_taken None w group osd = record w { done = dones.Take group osd line_takes.NotDone ∷ w.done }
handed_taken (Some scanned) w group osd = found_taken scanned.found scanned w group osd

-- an OSD hands what its scan ended with, if it ended with something
abbrev pub after_taking : PlacementState → ℕ → ℕ → PlacementState
after_taking w group osd = handed_taken (hand_in w.members osd) w group osd

-- ---- close

-- the chunk that was opened last is closed
abbrev pub after_closing : PlacementState → ℕ → PlacementState
after_closing w group = record w {
  past = after_close w.made w.past (opened w.past);
  done = dones.Close group (close_said (opened w.past) (close_told (close_answer w.made w.past (opened w.past)))) ∷ w.done;
}

-- ---- what a caller learns

-- whether a scrub of the group runs
abbrev pub is_going : PlacementState → Bool
is_going w = is_some (running w.past)

abbrev pub is_granted : ClaimAnswer → Bool
is_granted (claims.Claimed slot) = true
is_granted (claims.Denied holders) = false
is_granted claims.Unknown = false

abbrev pub grants_at : Option ℕ → Option ℕ → PlacementState → Bool
grants_at (Some serial) (Some osd) w = is_granted (claim_answer w.slots osd)
grants_at serial osd w = false

-- whether a scrub reserves, and the OSD at which it claims next has a free slot
abbrev pub grants : PlacementState → Bool
grants w = grants_at (present w.past) (claims_at w.made w.past) w
