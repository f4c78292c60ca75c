-- The writes of a group that wait for the open chunk to close, by its events, the newest first.
use Rattle.std.specs.Prelude.{◌≡◌, nat_lt, Bool, true, false, not, List, [], ◌∷◌, ◌++◌, filter, Option, Some, None, option_map, is_some, find, if◌then◌else◌}
use Rattle.pgs_request.specs.declared.req_id.ReqId.{ReqId}
use Rattle.pgs_request.specs.declared.answers.Refusal.{Refusal}
use Rattle.pgs_request.specs.declared.answers.Declined.TheVariants.{Refused}
use Rattle.pgs_request.specs.declared.version.Version.{Version}
use Rattle.pgs_op.specs.declared.write.Write.{Write}
use Rattle.pgs_op_log.specs.Logs.{same_id, version_in}
use Rattle.pgs_medium.specs.declared.item.Item.{Item}
use Rattle.pgs_range.specs.Ranges.{in_range}
use Rattle.pgs_gate.specs.Waits.{is_parked}
use Rattle.pgs_history.specs.Log.{log}
use Rattle.pgs_history.specs.Scrubs.{open_chunk}
use Rattle.pgs_history.specs.declared.chunk.Chunk.{Chunk}
use Rattle.pgs_history.specs.declared.write_answer.WriteAnswer.TheVariants.{Declined, Parked}
use Rattle.pgs_history.specs.declared.event.Event.{Event}
use Rattle.pgs_history.specs.declared.event.Event.TheVariants.{Submit, Admit}

-- ---- the writes that wait

-- a write behind the others, unless one of its id waits
abbrev pub put_last : Write → List Write → List Write
put_last write writes = if is_parked writes write.id then writes else writes ++ write ∷ []

-- without the first write of an id
abbrev pub without : ReqId → List Write → List Write
without id [] = []
without id (write ∷ writes) = if same_id write.id id then writes else write ∷ without id writes

abbrev pub parked_after : Event → List Write → List Write
parked_after (Submit write (Parked range)) writes = put_last write writes
parked_after (Admit write answer) writes = without write.id writes
parked_after event writes = writes

-- those that wait, in the order in which they came
abbrev pub parked : List Event → List Write
parked [] = []
parked (event ∷ past) = parked_after event (parked past)

abbrev pub first_where_closed : Option Chunk → List Write → Option Write
first_where_closed (Some chunk) writes = None
first_where_closed None [] = None
first_where_closed None (write ∷ writes) = Some write

-- the write that is taken up next: the first that waits, where no chunk is open
abbrev pub next_admitted : List Event → Option Write
next_admitted past = first_where_closed (open_chunk past) (parked past)

-- whether a write is to be taken up, before anything else happens
abbrev pub is_admitting : List Event → Bool
is_admitting past = is_some (next_admitted past)

-- ---- what was refused

-- what was refused of other requests
abbrev pub of_others : ReqId → List (ReqId × Refusal) → List (ReqId × Refusal)
of_others id refusals = filter (λ entry. not (same_id entry.0 id)) refusals

abbrev pub refusals_after : Event → List (ReqId × Refusal) → List (ReqId × Refusal)
refusals_after (Submit write answer) refusals = of_others write.id refusals
refusals_after (Admit write (Declined (Refused refusal))) refusals = refusals ++ (write.id, refusal) ∷ []
refusals_after event refusals = refusals

-- the requests that were refused when they were taken up, and not sent again, with the reasons
abbrev pub refusals : List Event → List (ReqId × Refusal)
refusals [] = []
refusals (event ∷ past) = refusals_after event (refusals past)

abbrev pub refusal_in : List (ReqId × Refusal) → ReqId → Option Refusal
refusal_in refusals id = option_map (λ entry. entry.1) (find (λ entry. same_id entry.0 id) refusals)

-- why a request was refused when it was taken up, if it was, and wasn't sent again
abbrev pub refused : List Event → ReqId → Option Refusal
refused past id = refusal_in (refusals past) id

-- ---- what holds of them

-- writes of requests that stand neither in these nor twice
abbrev pub AreNew : List (ReqId × Version) → List Write → Type 0
AreNew ids [] = Unit {0}
AreNew ids (write ∷ writes) = (version_in ids write.id ≡ None) × (is_parked writes write.id ≡ false) × AreNew ids writes

-- each write's family lies in the range of a firm chunk
abbrev pub AreHeld : Chunk → List Write → Type 0
AreHeld chunk [] = Unit {0}
AreHeld chunk (write ∷ writes) = (chunk.firm ≡ true) × (in_range chunk.range write.family ≡ true) × AreHeld chunk writes

-- where writes wait and a chunk is open, it is firm, and the family of each lies in its range
abbrev pub AreWaiting : List Event → Type 0
AreWaiting past = (chunk : Chunk) → open_chunk past ≡ Some chunk → AreHeld chunk (parked past)

-- no item with a number above a chunk's version lies in its range
abbrev pub AreOutside : Chunk → List Item → Type 0
AreOutside chunk [] = Unit {0}
AreOutside chunk (item ∷ items) = (nat_lt chunk.version item.number ≡ true → in_range chunk.range item.family ≡ false) × AreOutside chunk items

-- where a chunk is open, no item of the log above its version lies in its range
abbrev pub NoneAbove : List Event → Type 0
NoneAbove past = (chunk : Chunk) → open_chunk past ≡ Some chunk → AreOutside chunk (log past)
