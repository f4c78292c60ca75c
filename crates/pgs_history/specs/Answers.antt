-- The answers of a group, by the events before: the first row of a table whose condition holds.
use Rattle.std.specs.Prelude.{ℕ, ◌+◌, ◌==◌, ◌||◌, ◌&&◌, nat_lt, nat_le, max, Bool, false, true, not, List, [], ◌∷◌, length, Option, Some, None, option_map, is_none, is_some, find, if◌then◌else◌, slice_get}
use Rattle.std.specs.Bool.{then_some}
use Rattle.pgs_request.specs.Contexts.{bad_place}
use Rattle.pgs_request.specs.declared.req_id.ReqId.{ReqId}
use Rattle.pgs_request.specs.declared.version.Version.{Version}
use Rattle.pgs_request.specs.declared.answers.Refusal.{Refusal}
use Rattle.pgs_request.specs.declared.answers.Declined.TheVariants.{Repeat, BadSnapContext, Refused}
use Rattle.pgs_op.specs.Refusals.{first, refusal_of}
use Rattle.pgs_op.specs.declared.write.Write.{Write}
use Rattle.pgs_name.specs.Families.{Family}
use Rattle.pgs_gate.specs.Gate.{OpenChunk, verdict_of}
use Rattle.pgs_gate.specs.Waits.{is_parked}
use Rattle.pgs_gate.specs.declared.limits.TheConstants.{MOST_PARKED}
use Rattle.pgs_gate.specs.declared.verdict.Verdict.{Verdict}
use Rattle.pgs_gate.specs.declared.verdict.Verdict.TheVariants.{Pass, Preempts, Waits}
use Rattle.pgs_history.specs.Log.{clean, held, log, ids, log_bytes}
use Rattle.pgs_history.specs.Parked.{parked, refused}
use Rattle.pgs_history.specs.declared.write_answer.WriteAnswer.{WriteAnswer}
use Rattle.pgs_history.specs.declared.write_answer.WriteAnswer.TheVariants.{Declined, Parked, QueueFull, Accepted}
use Rattle.pgs_history.specs.declared.collect_answer.CollectAnswer.{CollectAnswer}
use Rattle.pgs_history.specs.declared.collect_answer.CollectAnswer.TheVariants as collects
use Rattle.pgs_op_log.specs.Logs.{version_in, greatest_in}
use Rattle.pgs_history.specs.Members.{told, asked}
use Rattle.pgs_name.specs.declared.object_id.ObjectId.{ObjectId}
use Rattle.pgs_range.specs.declared.bound.Bound.{Bound}
use Rattle.pgs_range.specs.declared.bound.Bound.TheVariants.{Min, At, Max}
use Rattle.pgs_chunk.specs.Chunk.{chunk_of}
use Rattle.pgs_chunk.specs.declared.ask.Ask.{Ask}
use Rattle.pgs_map.specs.declared.scrub_map.ScrubMap.{ScrubMap}
use Rattle.pgs_compare.specs.Report.{report}
use Rattle.pgs_compare.specs.declared.report.Report.{Report}
use Rattle.pgs_history.specs.Acting.{acting, acts, epoch, osd_at}
use Rattle.pgs_history.specs.Scrubs.{begun, present, claims, claims_at, last_kind, is_deep, opened, open_chunk, open_number, has_number, is_open, fate, start, limit_now, is_firm, taken}
use Rattle.pgs_history.specs.Causes.{cause}
use Rattle.pgs_slots.specs.declared.holder.Holder.{Holder}
use Rattle.pgs_history.specs.declared.begin_answer.BeginAnswer.{BeginAnswer}
use Rattle.pgs_history.specs.declared.begin_answer.BeginAnswer.TheVariants.{Busy, Began}
use Rattle.pgs_history.specs.declared.chunk.Chunk.{Chunk}
use Rattle.pgs_history.specs.declared.open_answer.OpenAnswer.{OpenAnswer}
use Rattle.pgs_history.specs.declared.open_answer.OpenAnswer.TheVariants as opens
use Rattle.pgs_history.specs.declared.take_answer.TakeAnswer.{TakeAnswer}
use Rattle.pgs_history.specs.declared.take_answer.TakeAnswer.TheVariants.{Stale, Taken}
use Rattle.pgs_history.specs.declared.reserve_answer.ReserveAnswer.{ReserveAnswer}
use Rattle.pgs_history.specs.declared.reserve_answer.ReserveAnswer.TheVariants as reserves
use Rattle.pgs_history.specs.declared.fault_answer.FaultAnswer.{FaultAnswer}
use Rattle.pgs_history.specs.declared.fault_answer.FaultAnswer.TheVariants as faults
use Rattle.pgs_history.specs.declared.interval_answer.IntervalAnswer.{IntervalAnswer}
use Rattle.pgs_history.specs.declared.interval_answer.IntervalAnswer.TheVariants as intervals
use Rattle.pgs_history.specs.declared.close_answer.CloseAnswer.{CloseAnswer}
use Rattle.pgs_history.specs.declared.close_answer.CloseAnswer.TheVariants as closes
use Rattle.pgs_history.specs.declared.fate.Fate.{Fate}
use Rattle.pgs_history.specs.declared.fate.Fate.TheVariants as ends
use Rattle.pgs_history.specs.declared.event.Event.{Event}
use Rattle.pgs_history.specs.declared.made.Made.{Made}

-- ---- submit

-- the version of the next item
abbrev pub next_version : Made → List Event → Version
next_version made past = record { epoch = epoch made past; number = length (log past) + 1 }

-- why a write of a version makes no effects
abbrev pub refusal : List Event → Write → Version → Option Refusal
refusal past write version = refusal_of (held (log past)) (clean (log past) write.family) (log_bytes past) write version

-- what a write can meet of the chunk that is open, if one is
abbrev pub gate_of : Option Chunk → Option OpenChunk
gate_of None = None
gate_of (Some chunk) = Some (record { range = chunk.range; firm = chunk.firm })

-- what becomes of a write to a family
abbrev pub verdict : List Event → Family → Verdict
verdict past family = verdict_of (gate_of (open_chunk past)) family

abbrev pub waits : Verdict → Bool
waits Pass = false
waits Preempts = false
waits Waits = true

-- the chunk that gives way, if one does
abbrev pub giving_way : Verdict → Option Chunk → Option ℕ
giving_way Pass now = None
giving_way Preempts now = option_map (λ chunk. chunk.number) now
giving_way Waits now = None

-- the chunk that gives way to a write
abbrev pub preempted : List Event → Write → Option ℕ
preempted past write = giving_way (verdict past write.family) (open_chunk past)

-- the answer to a write that waits for the open chunk
abbrev pub parked_for : Option Chunk → Option WriteAnswer
parked_for now = option_map (λ chunk. Parked chunk.range) now

-- a row that holds only where a test does
abbrev pub where_so : {A : Type 0} → Bool → Option A → Option A
where_so test row = if test then row else None

-- Why a write isn't appended now, in this order: its id stands in the log; it waits already; its context of snapshots has a bad place; it would wait, and
-- no more may; it waits; it makes no effects.
unfoldable pub unaccepted : Made → List Event → Write → Option WriteAnswer
unaccepted made past write = first (
    option_map (λ version. Declined (Repeat version)) (version_in (ids past) write.id)
    ∷ where_so (is_parked (parked past) write.id) (parked_for (open_chunk past))
    ∷ option_map (λ place. Declined (BadSnapContext place)) (bad_place write.context)
    ∷ where_so (waits (verdict past write.family) && nat_le MOST_PARKED (length (parked past))) (Some (QueueFull MOST_PARKED))
    ∷ where_so (waits (verdict past write.family)) (parked_for (open_chunk past))
    ∷ option_map (λ refusal. Declined (Refused refusal)) (refusal past write (next_version made past))
    ∷ [])

abbrev pub or_accepted : Option WriteAnswer → Version → Option ℕ → WriteAnswer
or_accepted None version preempts = Accepted version preempts
or_accepted (Some why) version preempts = why

-- a write that is accepted gets the next version, and the open chunk gives way to it where it must
abbrev pub submit_answer : Made → List Event → Write → WriteAnswer
submit_answer made past write = or_accepted (unaccepted made past write) (next_version made past) (preempted past write)

-- ---- admit

abbrev pub or_admitted : Option Refusal → Version → WriteAnswer
or_admitted None version = Accepted version None
or_admitted (Some refusal) version = Declined (Refused refusal)

-- a write that waited is accepted or makes no effects; no chunk is open that could give way
abbrev pub admit_answer : Made → List Event → Write → WriteAnswer
admit_answer made past write = or_admitted (refusal past write (next_version made past)) (next_version made past)

-- ---- collect

-- the first acting OSD that has told of less than a number
abbrev pub behind : Made → List Event → ℕ → Option ℕ
behind made past number = find (λ osd. nat_lt (told past osd) number) (acting made past)

abbrev pub waits_for : List Event → Option ℕ → Version → CollectAnswer
waits_for past None version = collects.Acked version
waits_for past (Some osd) version = collects.NotYet osd (told past osd)

abbrev pub collect_found : Made → List Event → Option Version → CollectAnswer
collect_found made past None = collects.Unknown
collect_found made past (Some version) = waits_for past (behind made past version.number) version

-- why a request has no outcome in the log: its write waits still, or was refused when it was taken up
unfoldable pub unlogged : List Event → ReqId → Option CollectAnswer
unlogged past id = first (
    where_so (is_parked (parked past) id) (option_map (λ chunk. collects.StillParked chunk.number) (open_chunk past))
    ∷ option_map (λ refusal. collects.Refused refusal) (refused past id)
    ∷ [])

abbrev pub or_found : Option CollectAnswer → CollectAnswer → CollectAnswer
or_found None found = found
or_found (Some why) found = why

-- a write is acknowledged where its id stands in the log and every acting OSD has told of it
abbrev pub collect_answer : Made → List Event → ReqId → CollectAnswer
collect_answer made past id = or_found (unlogged past id) (collect_found made past (version_in (ids past) id))

-- ---- pull and tell

-- the last item of the log
abbrev pub last_number : List Event → ℕ
last_number past = length (log past)

abbrev pub ask_of : Option Chunk → Bool → Option Ask
ask_of None deep = None
ask_of (Some chunk) deep = Some (record { serial = chunk.serial; chunk = chunk.number; range = chunk.range; needed = chunk.version; deep = deep })

-- the open chunk, for an OSD that acts
abbrev pub chunk_for : Bool → Option Chunk → Option Chunk
chunk_for acting now = if acting then now else None

-- what a member that pulls is asked for, where it acts and a chunk is open
abbrev pub ask : Made → List Event → ℕ → Option Ask
ask made past osd = ask_of (chunk_for (acts made past osd) (open_chunk past)) (is_deep (last_kind past))

abbrev pub newly : Option Chunk → ℕ → Option ℕ
newly None before = None
newly (Some chunk) before = if nat_lt before chunk.number then Some chunk.number else None

-- the open chunk, where this OSD acts and wasn't asked for it before
abbrev pub new_ask : Made → List Event → ℕ → Option ℕ
new_ask made past osd = newly (chunk_for (acts made past osd) (open_chunk past)) (asked past osd)

-- the count that is answered to an OSD which tells one
abbrev pub tell_answer : List Event → ℕ → ℕ → ℕ
tell_answer past osd applied = max (told past osd) applied

-- ---- members

-- the first acting OSD
abbrev pub primary : Made → List Event → Option ℕ
primary made past = slice_get (acting made past) 0

-- ---- begin

abbrev pub begin_answered : Option ℕ → ℕ → ℕ → BeginAnswer
begin_answered (Some serial) count first = Busy serial
begin_answered None count first = Began (count + 1) first

-- a scrub begins where none reserves or runs; it claims at the first acting OSD first
abbrev pub begin_answer : Made → List Event → BeginAnswer
begin_answer made past = begin_answered (present past) (begun past) (osd_at (acting made past) 0)

-- ---- reserve

-- an OSD is there and is this one
abbrev pub is_osd : Option ℕ → ℕ → Bool
is_osd None osd = false
is_osd (Some next) osd = next == osd

-- the OSD behind a place, if there is a place and one follows
abbrev pub following : List ℕ → Option ℕ → Option ℕ
following osds None = None
following osds (Some place) = slice_get osds (place + 1)

-- why a scrub claims nothing at an OSD: it has ended; or it claims at another next, or runs
unfoldable pub unclaimed : Made → List Event → ℕ → ℕ → Option ReserveAnswer
unclaimed made past serial osd = first (
    option_map (λ cause. reserves.Over cause) (cause made past serial)
    ∷ then_some (not (is_osd (claims_at made past) osd)) (reserves.NotNext (claims_at made past))
    ∷ [])

-- what becomes of a claim: it is denied; a further OSD follows; or it was the last, and the scrub runs
abbrev pub claim_answered : ℕ → Option (List Holder) → Option ℕ → ReserveAnswer
claim_answered osd (Some holders) next = reserves.DeniedNow osd
claim_answered osd None (Some next) = reserves.Reserving next
claim_answered osd None None = reserves.Reserved

abbrev pub or_claimed : Option ReserveAnswer → ReserveAnswer → ReserveAnswer
or_claimed (Some why) answer = why
or_claimed None answer = answer

-- a scrub claims at one acting OSD after another, and runs after the last
abbrev pub reserve_answer : Made → List Event → ℕ → ℕ → Option (List Holder) → ReserveAnswer
reserve_answer made past serial osd denied =
    or_claimed (unclaimed made past serial osd) (claim_answered osd denied (following (acting made past) (claims past)))

-- ---- open

-- the chunk that is opened next, of a scrub and its primary's positions
abbrev pub next_chunk : Made → List Event → ℕ → List ObjectId → Chunk
next_chunk made past serial listed =
    let range = chunk_of (limit_now made past) listed (start past) in
    record {
      number = opened past + 1;
      serial = serial;
      range = range;
      version = greatest_in range (log past);
      limit = limit_now made past;
      firm = is_firm made past;
    }

-- why no chunk is opened of a scrub: it has ended, it reserves, or a chunk is open
unfoldable pub unopened : Made → List Event → ℕ → Option OpenAnswer
unopened made past serial = first (
    option_map (λ cause. opens.Over cause) (cause made past serial)
    ∷ option_map (λ osd. opens.StillReserving osd) (claims_at made past)
    ∷ option_map (λ number. opens.Already number) (open_number past)
    ∷ [])

abbrev pub or_opened : Option OpenAnswer → Chunk → OpenAnswer
or_opened (Some why) next = why
or_opened None next = opens.Opened next

-- a chunk is opened of a scrub that runs, where none is open
abbrev pub open_answer : Made → List Event → ℕ → List ObjectId → OpenAnswer
open_answer made past serial listed = or_opened (unopened made past serial) (next_chunk made past serial listed)

-- ---- fault

-- a fault is that of a scrub that has ended, or of a chunk that isn't open
abbrev pub is_stale : Made → List Event → ℕ → ℕ → Bool
is_stale made past serial chunk = is_some (cause made past serial) || (not (chunk == 0) && not (is_open past chunk))

abbrev pub fault_answered : Bool → Option ℕ → FaultAnswer
fault_answered stale now = if stale then faults.Stale now else faults.Ended

-- any other ends its scrub
abbrev pub fault_answer : Made → List Event → ℕ → ℕ → FaultAnswer
fault_answer made past serial chunk = fault_answered (is_stale made past serial chunk) (open_number past)

-- ---- interval

abbrev pub last_epoch : ℕ
last_epoch = 4294967295

-- an OSD that would join has not told of all the log
abbrev pub lags : Made → List Event → ℕ → Bool
lags made past osd = not (acts made past osd) && not (told past osd == last_number past)

-- the first such OSD of a new list
abbrev pub lagging : Made → List Event → List ℕ → Option ℕ
lagging made past osds = find (lags made past) osds

-- why the acting list stays: no epoch follows, or an OSD that would join isn't caught up
unfoldable pub unchanged : Made → List Event → List ℕ → Option IntervalAnswer
unchanged made past osds = first (
    then_some (epoch made past == last_epoch) (intervals.LastEpoch (epoch made past))
    ∷ option_map (λ osd. intervals.NotCaughtUp osd (told past osd) (last_number past)) (lagging made past osds)
    ∷ [])

abbrev pub or_changed : Option IntervalAnswer → ℕ → Option ℕ → IntervalAnswer
or_changed (Some why) epoch ends = why
or_changed None epoch ends = intervals.Changed epoch ends

-- the acting list changes in a new epoch, and the scrub that reserves or runs ends
abbrev pub interval_answer : Made → List Event → List ℕ → IntervalAnswer
interval_answer made past osds = or_changed (unchanged made past osds) (epoch made past + 1) (present past)

-- ---- take

abbrev pub taken_by : Option Chunk → ℕ → TakeAnswer
taken_by now chunk = if has_number now chunk then Taken else Stale (option_map (λ c. c.number) now)

-- a map is taken where its chunk is open
abbrev pub take_answer : List Event → ScrubMap → TakeAnswer
take_answer past map = taken_by (open_chunk past) map.chunk

-- ---- close

-- the first acting OSD whose map of a chunk is missing
abbrev pub missing : Made → List Event → ℕ → Option ℕ
missing made past chunk = find (λ osd. is_none (taken past chunk osd)) (acting made past)

abbrev pub with_map : Option ScrubMap → List ScrubMap → List ScrubMap
with_map None maps = maps
with_map (Some map) maps = map ∷ maps

-- the maps of a chunk that OSDs gave last
abbrev pub maps_of : List Event → ℕ → List ℕ → List ScrubMap
maps_of past chunk [] = []
maps_of past chunk (osd ∷ osds) = with_map (taken past chunk osd) (maps_of past chunk osds)

-- the version of a chunk, if there is one
abbrev pub version_of : Option Chunk → ℕ
version_of None = 0
version_of (Some chunk) = chunk.version

-- what comparing the maps of the acting OSDs finds, with the version of the chunk that is open
abbrev pub found : Made → List Event → ℕ → Report
found made past chunk = report (acting made past) (version_of (open_chunk past)) (maps_of past chunk (acting made past))

abbrev pub is_greatest : Bound → Bool
is_greatest Min = false
is_greatest (At family) = false
is_greatest Max = true

-- whether a chunk, if there is one, ends above all families
abbrev pub is_last : Option Chunk → Bool
is_last None = false
is_last (Some chunk) = is_greatest chunk.range.to

-- what is told of a chunk that isn't open any more, by its fate
abbrev pub told_of : Option Fate → CloseAnswer
told_of None = closes.ClosedBefore
told_of (Some ends.Closed) = closes.ClosedBefore
told_of (Some (ends.Preempted request)) = closes.Preempted request
told_of (Some (ends.IntervalChanged old new)) = closes.IntervalChanged old new
told_of (Some (ends.DeviceFault osd count)) = closes.DeviceFault osd count

-- why a chunk isn't closed: it was never opened, it isn't open any more, or a map is missing
unfoldable pub unclosed : Made → List Event → ℕ → Option CloseAnswer
unclosed made past chunk = first (
    then_some ((chunk == 0) || nat_lt (opened past) chunk) closes.NoChunk
    ∷ then_some (not (is_open past chunk)) (told_of (fate made past chunk))
    ∷ option_map (λ osd. closes.NotYet osd) (missing made past chunk)
    ∷ [])

abbrev pub or_closed : Option CloseAnswer → Report → Bool → CloseAnswer
or_closed (Some why) report completes = why
or_closed None report completes = closes.Closed report completes

-- a closed chunk completes its scrub where it ends above all families
abbrev pub close_answer : Made → List Event → ℕ → CloseAnswer
close_answer made past chunk = or_closed (unclosed made past chunk) (found made past chunk) (is_last (open_chunk past))
