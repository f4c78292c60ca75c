-- The scrubs of a group and their chunks, by its events, the newest first.
use Rattle.std.specs.Prelude.{ℕ, ◌≤◌, ◌+◌, ◌-◌, ◌==◌, ◌&&◌, ◌||◌, Bool, false, true, List, [], ◌∷◌, ◌++◌, Option, Some, None, option_map, if◌then◌else◌, slice_get}
use Rattle.pgs_range.specs.declared.bound.Bound.{Bound}
use Rattle.pgs_range.specs.declared.bound.Bound.TheVariants.{Min}
use Rattle.pgs_range.specs.declared.family_range.FamilyRange.{FamilyRange}
use Rattle.pgs_chunk.specs.Limits.{limit_after}
use Rattle.pgs_chunk.specs.declared.kind.Kind.{Kind}
use Rattle.pgs_chunk.specs.declared.kind.Kind.TheVariants.{Shallow}
use Rattle.pgs_map.specs.declared.scrub_map.ScrubMap.{ScrubMap}
use Rattle.pgs_history.specs.declared.begin_answer.BeginAnswer.TheVariants.{Began}
use Rattle.pgs_history.specs.declared.current.Current.{Current}
use Rattle.pgs_history.specs.declared.reserve_answer.ReserveAnswer.TheVariants.{DeniedNow, Reserving, Reserved}
use Rattle.pgs_history.specs.declared.fault_answer.FaultAnswer.TheVariants.{Ended}
use Rattle.pgs_history.specs.declared.interval_answer.IntervalAnswer.TheVariants.{Changed}
use Rattle.pgs_history.specs.declared.chunk.Chunk.{Chunk}
use Rattle.pgs_history.specs.declared.open_answer.OpenAnswer.TheVariants.{Opened}
use Rattle.pgs_history.specs.declared.take_answer.TakeAnswer.TheVariants.{Taken}
use Rattle.pgs_history.specs.declared.close_answer.CloseAnswer.TheVariants.{Closed}
use Rattle.pgs_history.specs.declared.write_answer.WriteAnswer.TheVariants.{Accepted}
use Rattle.pgs_history.specs.declared.fate.Fate.{Fate}
use Rattle.pgs_history.specs.declared.fate.Fate.TheVariants as fates_are
use Rattle.pgs_history.specs.declared.event.Event.{Event}
use Rattle.pgs_history.specs.declared.event.Event.TheVariants.{Submit, Begin, Reserve, Open, Take, Close, Fault, Interval}
use Rattle.pgs_history.specs.declared.made.Made.{Made}
use Rattle.pgs_history.specs.Acting.{acting, epoch, osd_at}

-- ---- scrubs

abbrev pub begun_after : Event → ℕ → ℕ
begun_after (Begin kind (Began serial first)) count = count + 1
begun_after event count = count

-- how many scrubs began, which is the last one's number
abbrev pub begun : List Event → ℕ
begun [] = 0
begun (event ∷ past) = begun_after event (begun past)

-- a number of a scrub that began
abbrev pub IsBegun : List Event → ℕ → Type 0
IsBegun past serial = (1 ≤ serial) × (serial ≤ begun past)

-- it claims one place further
abbrev pub further : Option Current → Option Current
further None = None
further (Some scrub) = Some (record scrub { claims = option_map (λ place. place + 1) scrub.claims })

-- it runs
abbrev pub ready : Option Current → Option Current
ready None = None
ready (Some scrub) = Some (record scrub { claims = None })

abbrev pub current_after : Event → Option Current → Option Current
current_after (Begin kind (Began serial first)) before = Some (record { serial = serial; claims = Some 0 })
current_after (Reserve serial osd denied (Reserving next)) before = further before
current_after (Reserve serial osd denied Reserved) before = ready before
current_after (Reserve serial osd denied (DeniedNow other)) before = None
current_after (Close chunk (Closed report completes)) before = if completes then None else before
current_after (Fault serial chunk osd count Ended) before = None
current_after (Interval osds (Changed new ends)) before = None
current_after event before = before

-- The scrub that reserves or runs. It reserves from when it began, claims at one acting OSD after another, and runs from when it claimed at the last. It
-- ends where a claim is denied, where a chunk's close completes it, where a device fails, and where the acting list changes.
abbrev pub current : List Event → Option Current
current [] = None
current (event ∷ past) = current_after event (current past)

-- the number of a scrub, if there is one
abbrev pub serial_of : Option Current → Option ℕ
serial_of now = option_map (λ scrub. scrub.serial) now

-- where a scrub claims next, if there is one and it reserves
abbrev pub claims_of : Option Current → Option ℕ
claims_of None = None
claims_of (Some scrub) = scrub.claims

abbrev pub unless_claiming : Option ℕ → ℕ → Option ℕ
unless_claiming None serial = Some serial
unless_claiming (Some place) serial = None

-- the number of a scrub, if there is one and it runs
abbrev pub running_of : Option Current → Option ℕ
running_of None = None
running_of (Some scrub) = unless_claiming scrub.claims scrub.serial

-- the number of the scrub that reserves or runs
abbrev pub present : List Event → Option ℕ
present past = serial_of (current past)

-- that of the scrub that runs
abbrev pub running : List Event → Option ℕ
running past = running_of (current past)

-- the place in the acting list at which the scrub that reserves claims next
abbrev pub claims : List Event → Option ℕ
claims past = claims_of (current past)

-- and the OSD there
abbrev pub claims_at : Made → List Event → Option ℕ
claims_at made past = option_map (osd_at (acting made past)) (claims past)

abbrev pub kind_after : Event → Option Kind → Option Kind
kind_after (Begin kind (Began serial first)) before = Some kind
kind_after event before = before

-- the kind of the scrub that began last
abbrev pub last_kind : List Event → Option Kind
last_kind [] = None
last_kind (event ∷ past) = kind_after event (last_kind past)

-- a scrub of this kind reads the data and the omaps of copies
abbrev pub is_deep : Option Kind → Bool
is_deep None = false
is_deep (Some Shallow) = false
is_deep (Some kind) = true

-- ---- chunks

abbrev pub opened_after : Event → ℕ → ℕ
opened_after (Open serial listed (Opened chunk)) count = count + 1
opened_after event count = count

-- how many chunks were opened, which is the last one's number
abbrev pub opened : List Event → ℕ
opened [] = 0
opened (event ∷ past) = opened_after event (opened past)

abbrev pub open_after : Event → Option Chunk → Option Chunk
open_after (Open serial listed (Opened chunk)) before = Some chunk
open_after (Close number (Closed report completes)) before = None
open_after (Submit write (Accepted version (Some chunk))) before = None
open_after (Fault serial chunk osd count Ended) before = None
open_after (Interval osds (Changed new ends)) before = None
open_after event before = before

-- the chunk that is open: from when it was opened until it is closed or gives way to a write, or its scrub ends
abbrev pub open_chunk : List Event → Option Chunk
open_chunk [] = None
open_chunk (event ∷ past) = open_after event (open_chunk past)

-- a chunk is there and has this number
abbrev pub has_number : Option Chunk → ℕ → Bool
has_number None number = false
has_number (Some chunk) number = chunk.number == number

-- the number of the chunk that is open
abbrev pub open_number : List Event → Option ℕ
open_number past = option_map (λ chunk. chunk.number) (open_chunk past)

-- whether the chunk of a number is open
abbrev pub is_open : List Event → ℕ → Bool
is_open past number = has_number (open_chunk past) number

-- ---- where the next chunk begins, and how many positions it may have

-- the end of a chunk, if there is one
abbrev pub end_of : Option Chunk → Bound → Bound
end_of None before = before
end_of (Some chunk) before = chunk.range.to

abbrev pub start_after : Event → Option Chunk → Bound → Bound
start_after (Begin kind (Began serial first)) chunk before = Min
start_after (Close number (Closed report completes)) chunk before = end_of chunk before
start_after event chunk before = before

-- the end of the scrub's last closed chunk, or the least bound before the first
abbrev pub start : List Event → Bound
start [] = Min
start (event ∷ past) = start_after event (open_chunk past) (start past)

abbrev pub used_after : Event → ℕ → ℕ
used_after (Begin kind (Began serial first)) count = 0
used_after (Submit write (Accepted version (Some chunk))) count = count + 1
used_after event count = count

-- how often the scrub that began last gave way to a write
abbrev pub used : List Event → ℕ
used [] = 0
used (event ∷ past) = used_after event (used past)

-- how many positions the next chunk may have
abbrev pub limit_now : Made → List Event → ℕ
limit_now made past = limit_after made.limits (used past)

-- whether the next chunk gives way to no write
abbrev pub is_firm : Made → List Event → Bool
is_firm made past = used past == made.limits.preemptions

-- ---- what is taken and closed

abbrev pub taken_after : Event → ℕ → ℕ → Option ScrubMap → Option ScrubMap
taken_after (Take place map Taken) chunk osd before = if (map.chunk == chunk) && (map.osd == osd) then Some map else before
taken_after event chunk osd before = before

-- the map of a chunk that an OSD gave last
abbrev pub taken : List Event → ℕ → ℕ → Option ScrubMap
taken [] chunk osd = None
taken (event ∷ past) chunk osd = taken_after event chunk osd (taken past chunk osd)

-- one range more, where the chunk is of this scrub
abbrev pub with_range : Option Chunk → ℕ → List FamilyRange → List FamilyRange
with_range None serial ranges = ranges
with_range (Some chunk) serial ranges = if chunk.serial == serial then chunk.range ∷ ranges else ranges

abbrev pub closed_after : Event → Option Chunk → ℕ → List FamilyRange → List FamilyRange
closed_after (Close number (Closed report completes)) chunk serial ranges = with_range chunk serial ranges
closed_after event chunk serial ranges = ranges

-- the ranges of the closed chunks of a scrub, the last first
abbrev pub closed_ranges : List Event → ℕ → List FamilyRange
closed_ranges [] serial = []
closed_ranges (event ∷ past) serial = closed_after event (open_chunk past) serial (closed_ranges past serial)

abbrev pub ends_after : Event → Option Chunk → ℕ → ℕ → ℕ
ends_after (Close number (Closed report completes)) now chunk count = if number == chunk then count + 1 else count
ends_after (Submit write (Accepted version (Some number))) now chunk count = if number == chunk then count + 1 else count
ends_after (Fault serial number osd times Ended) now chunk count = if has_number now chunk then count + 1 else count
ends_after (Interval osds (Changed new serial)) now chunk count = if has_number now chunk then count + 1 else count
ends_after event now chunk count = count

-- how often a chunk was closed, gave way to a write or ended with its scrub
abbrev pub ends : List Event → ℕ → ℕ
ends [] chunk = 0
ends (event ∷ past) chunk = ends_after event (open_chunk past) chunk (ends past chunk)

-- one fate more, where a chunk is open
abbrev pub with_fate : Option Chunk → Fate → List Fate → List Fate
with_fate None fate fates = fates
with_fate (Some chunk) fate fates = fates ++ fate ∷ []

abbrev pub fates_after : Event → ℕ → Option Chunk → List Fate → List Fate
fates_after (Close number (Closed report completes)) old now fates = fates ++ fates_are.Closed ∷ []
fates_after (Submit write (Accepted version (Some number))) old now fates = fates ++ fates_are.Preempted write.id ∷ []
fates_after (Fault serial number osd count Ended) old now fates = with_fate now (fates_are.DeviceFault osd count) fates
fates_after (Interval osds (Changed new serial)) old now fates = with_fate now (fates_are.IntervalChanged old new) fates
fates_after event old now fates = fates

-- what ended the chunks, in the order of their numbers: each but the one that is open has a fate
abbrev pub fates : Made → List Event → List Fate
fates made [] = []
fates made (event ∷ past) = fates_after event (epoch made past) (open_chunk past) (fates made past)

-- what ended the chunk of a number
abbrev pub fate : Made → List Event → ℕ → Option Fate
fate made past chunk = slice_get (fates made past) (chunk - 1)

abbrev pub or_first : Option Fate → Fate → Option Fate
or_first None now = Some now
or_first (Some earlier) now = Some earlier

abbrev pub ended_after : Event → ℕ → Option Chunk → ℕ → Option Fate → Option Fate
ended_after (Close number (Closed report completes)) old now chunk before = if number == chunk then or_first before fates_are.Closed else before
ended_after (Submit write (Accepted version (Some number))) old now chunk before = if number == chunk then or_first before (fates_are.Preempted write.id) else before
ended_after (Fault serial number osd count Ended) old now chunk before = if has_number now chunk then or_first before (fates_are.DeviceFault osd count) else before
ended_after (Interval osds (Changed new serial)) old now chunk before = if has_number now chunk then or_first before (fates_are.IntervalChanged old new) else before
ended_after event old now chunk before = before

-- the first event that closed a chunk, that it gave way to, or that ended its scrub while it was open
abbrev pub ended : Made → List Event → ℕ → Option Fate
ended made [] chunk = None
ended made (event ∷ past) chunk = ended_after event (epoch made past) (open_chunk past) chunk (ended made past chunk)

-- a chunk is there and is of this scrub
abbrev pub is_of : Option Chunk → ℕ → Bool
is_of None serial = false
is_of (Some chunk) serial = chunk.serial == serial

abbrev pub completed_after : Event → Option Chunk → ℕ → Bool → Bool
completed_after (Close number (Closed report completes)) chunk serial before = before || (completes && is_of chunk serial)
completed_after event chunk serial before = before

-- whether a scrub is complete
abbrev pub completed : List Event → ℕ → Bool
completed [] serial = false
completed (event ∷ past) serial = completed_after event (open_chunk past) serial (completed past serial)
