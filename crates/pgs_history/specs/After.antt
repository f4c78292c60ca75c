-- The events of a group after each step. A quiet answer, which changes nothing and is asked for again, is no event.
use Rattle.std.specs.Prelude.{ℕ, nat_lt, ◌||◌, Bool, List, ◌∷◌, Option, Some, None, is_some, if◌then◌else◌}
use Rattle.pgs_request.specs.declared.req_id.ReqId.{ReqId}
use Rattle.pgs_op.specs.declared.write.Write.{Write}
use Rattle.pgs_history.specs.Members.{collected, pulled, told}
use Rattle.pgs_name.specs.declared.object_id.ObjectId.{ObjectId}
use Rattle.pgs_chunk.specs.declared.kind.Kind.{Kind}
use Rattle.pgs_map.specs.declared.scrub_map.ScrubMap.{ScrubMap}
use Rattle.pgs_history.specs.Parked.{next_admitted}
use Rattle.pgs_history.specs.Answers.{submit_answer, admit_answer, collect_answer, last_number, new_ask, begin_answer, reserve_answer, open_answer, take_answer, close_answer, fault_answer, interval_answer}
use Rattle.pgs_history.specs.declared.collect_answer.CollectAnswer.{CollectAnswer}
use Rattle.pgs_history.specs.declared.collect_answer.CollectAnswer.TheVariants as collects
use Rattle.pgs_history.specs.declared.close_answer.CloseAnswer.{CloseAnswer}
use Rattle.pgs_history.specs.declared.close_answer.CloseAnswer.TheVariants as closes
use Rattle.pgs_history.specs.declared.event.Event.{Event}
use Rattle.pgs_history.specs.declared.event.Event.TheVariants.{Submit, Admit, Collect, Pull, Tell, Begin, Reserve, Open, Take, Close, Fault, Interval}
use Rattle.pgs_slots.specs.declared.holder.Holder.{Holder}
use Rattle.pgs_history.specs.declared.made.Made.{Made}

-- every answer to a write is an event
abbrev pub after_submit : Made → List Event → Write → List Event
after_submit made past write = Submit write (submit_answer made past write) ∷ past

abbrev pub with_admit : Made → List Event → Option Write → List Event
with_admit made past None = past
with_admit made past (Some write) = Admit write (admit_answer made past write) ∷ past

-- a write that waited is taken up where one is due
abbrev pub after_admit : Made → List Event → List Event
after_admit made past = with_admit made past (next_admitted past)

-- the first acknowledgement that a client learns is one
abbrev pub after_collected : List Event → ReqId → CollectAnswer → List Event
after_collected past id (collects.StillParked chunk) = past
after_collected past id (collects.Refused refusal) = past
after_collected past id collects.Unknown = past
after_collected past id (collects.NotYet osd count) = past
after_collected past id (collects.Acked version) = if collected past id then past else Collect id version ∷ past

abbrev pub after_collect : Made → List Event → ReqId → List Event
after_collect made past id = after_collected past id (collect_answer made past id)

-- a pull gives something where it gives items, or the open chunk for the first time
abbrev pub gives : List Event → ℕ → Option ℕ → Bool
gives past osd asked = nat_lt (pulled past osd) (last_number past) || is_some asked

abbrev pub with_pull : List Event → ℕ → Option ℕ → List Event
with_pull past osd asked = if gives past osd asked then Pull osd (pulled past osd) (last_number past) asked ∷ past else past

-- a pull that gives something is one
abbrev pub after_pull : Made → List Event → ℕ → List Event
after_pull made past osd = with_pull past osd (new_ask made past osd)

-- a count that is greater than those before is one
abbrev pub after_tell : List Event → ℕ → ℕ → List Event
after_tell past osd applied = if nat_lt (told past osd) applied then Tell osd applied ∷ past else past

-- every answer to a scrub that is to begin is an event
abbrev pub after_begin : Made → List Event → Kind → List Event
after_begin made past kind = Begin kind (begin_answer made past) ∷ past

-- and so is every answer to a claim
abbrev pub after_reserve : Made → List Event → ℕ → ℕ → Option (List Holder) → List Event
after_reserve made past serial osd denied = Reserve serial osd denied (reserve_answer made past serial osd denied) ∷ past

-- to a device that failed
abbrev pub after_fault : Made → List Event → ℕ → ℕ → ℕ → ℕ → List Event
after_fault made past serial chunk osd count = Fault serial chunk osd count (fault_answer made past serial chunk) ∷ past

-- to other OSDs that are to act
abbrev pub after_interval : Made → List Event → List ℕ → List Event
after_interval made past osds = Interval osds (interval_answer made past osds) ∷ past

-- to a chunk that is to be opened
abbrev pub after_open : Made → List Event → ℕ → List ObjectId → List Event
after_open made past serial listed = Open serial listed (open_answer made past serial listed) ∷ past

-- and to a map
abbrev pub after_take : List Event → ℕ → ScrubMap → List Event
after_take past place map = Take place map (take_answer past map) ∷ past

-- that a map is missing is asked for again, and is none
abbrev pub after_closed : List Event → ℕ → CloseAnswer → List Event
after_closed past chunk (closes.NotYet osd) = past
after_closed past chunk closes.NoChunk = Close chunk closes.NoChunk ∷ past
after_closed past chunk closes.ClosedBefore = Close chunk closes.ClosedBefore ∷ past
after_closed past chunk (closes.Preempted request) = Close chunk (closes.Preempted request) ∷ past
after_closed past chunk (closes.IntervalChanged old new) = Close chunk (closes.IntervalChanged old new) ∷ past
after_closed past chunk (closes.DeviceFault osd count) = Close chunk (closes.DeviceFault osd count) ∷ past
after_closed past chunk (closes.Closed report completes) = Close chunk (closes.Closed report completes) ∷ past

abbrev pub after_close : Made → List Event → ℕ → List Event
after_close made past chunk = after_closed past chunk (close_answer made past chunk)
