-- Legal histories of a group: each event is the answer due on what stands before it.
use Rattle.std.specs.Prelude.{ℕ, ◌≡◌, ◌≤◌, ◌<◌, ◌||◌, nat_lt, true, false, List, [], ◌∷◌, length, Option, Some, None, is_some}
use Rattle.pgs_map.specs.declared.scrub_map.ScrubMap.{ScrubMap}
use Rattle.pgs_history.specs.Members.{collected, pulled, told}
use Rattle.pgs_chunk.specs.Positions.{Ascends}
use Rattle.pgs_history.specs.Acting.{IsActing}
use Rattle.pgs_history.specs.Scrubs.{IsBegun, open_chunk}
use Rattle.pgs_history.specs.Parked.{next_admitted, is_admitting}
use Rattle.pgs_history.specs.Answers.{submit_answer, admit_answer, collect_answer, last_number, new_ask, begin_answer, reserve_answer, open_answer, take_answer, close_answer, fault_answer, interval_answer}
use Rattle.pgs_history.specs.declared.chunk.Chunk.{Chunk}
use Rattle.pgs_history.specs.declared.collect_answer.CollectAnswer.TheVariants.{Acked}
use Rattle.pgs_history.specs.declared.close_answer.CloseAnswer.{CloseAnswer}
use Rattle.pgs_history.specs.declared.close_answer.CloseAnswer.TheVariants as closes
use Rattle.pgs_history.specs.declared.event.Event.{Event}
use Rattle.pgs_history.specs.declared.event.Event.TheVariants.{Submit, Admit, Collect, Pull, Tell, Begin, Reserve, Open, Take, Close, Fault, Interval}
use Rattle.pgs_slots.specs.declared.holder.Holder.{Holder}
use Rattle.pgs_history.specs.declared.made.Made.{Made}

-- A pull gave all items that the member hadn't pulled, and the open chunk where the member acts and wasn't asked for it before: one of both at least.
pub record IsPull (made : Made) (past : List Event) (osd from to : ℕ) (asked : Option ℕ) : Type 0 where
  pub begins : from ≡ pulled past osd
  pub ends : to ≡ last_number past
  pub asks : asked ≡ new_ask made past osd
  pub more : (nat_lt from to || is_some asked) ≡ true

-- where the chunk of a map is open, the map is of that chunk's families
abbrev pub IsOfChunk : List Event → ScrubMap → Type 0
IsOfChunk past map = (chunk : Chunk) → open_chunk past ≡ Some chunk → chunk.number ≡ map.chunk → map.range ≡ chunk.range

-- that a map is missing isn't kept
abbrev pub IsKept : CloseAnswer → Type 0
IsKept (closes.NotYet osd) = ⊥
IsKept answer = Unit {0}

-- an OSD has 1 to 8 slots, and where it has none that is free, each is held
abbrev pub IsDenial : Option (List Holder) → Type 0
IsDenial None = Unit {0}
IsDenial (Some holders) = (1 ≤ length holders) × (length holders ≤ 8)

abbrev pub IsDue : Made → Event → List Event → Type 0
IsDue made (Submit write answer) past = answer ≡ submit_answer made past write
IsDue made (Admit write answer) past = (next_admitted past ≡ Some write) × (answer ≡ admit_answer made past write)
IsDue made (Collect id version) past = (collect_answer made past id ≡ Acked version) × (collected past id ≡ false)
IsDue made (Pull osd from to asked) past = IsPull made past osd from to asked
IsDue made (Tell osd applied) past = told past osd < applied
IsDue made (Begin kind answer) past = answer ≡ begin_answer made past
IsDue made (Reserve serial osd denied answer) past = IsBegun past serial × IsDenial denied × (answer ≡ reserve_answer made past serial osd denied)
IsDue made (Open serial listed answer) past = IsBegun past serial × Ascends listed × (answer ≡ open_answer made past serial listed)
IsDue made (Take place map answer) past = (answer ≡ take_answer past map) × IsOfChunk past map
IsDue made (Close chunk answer) past = (answer ≡ close_answer made past chunk) × IsKept answer
IsDue made (Fault serial chunk osd count answer) past = IsBegun past serial × (answer ≡ fault_answer made past serial chunk)
IsDue made (Interval osds answer) past = IsActing made osds × (answer ≡ interval_answer made past osds)

-- writes that waited are taken up before anything else happens
abbrev pub IsInTurn : Event → List Event → Type 0
IsInTurn (Admit write answer) past = is_admitting past ≡ true
IsInTurn event past = is_admitting past ≡ false

abbrev pub IsLegal : Made → List Event → Type 0
IsLegal made [] = Unit {0}
IsLegal made (event ∷ past) = IsInTurn event past × IsDue made event past × IsLegal made past
