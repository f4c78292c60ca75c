-- What a small step of a shard's scan answers, what it keeps, and what it leaves of the device.
use Rattle.std.specs.Prelude.{ℕ, zero, suc, ◌≡◌, ◌<◌, Bool, true, false, List, ◌∷◌, Option, Some, None, Result, Ok, Err}
use Rattle.pgs_chunk.specs.declared.ask.Ask.{Ask}
use Rattle.pgs_copy.specs.declared.obj_copy.ObjCopy.{ObjCopy}
use Rattle.pgs_map.specs.Entries.{AreInRange}
use Rattle.pgs_map.specs.declared.entry.Entry.{Entry}
use Rattle.pgs_exchange.specs.declared.scan_result.Found.{Found}
use Rattle.pgs_exchange.specs.declared.scan_result.Found.TheVariants as results
use Rattle.pgs_exchange.specs.declared.scan_result.ScanResult.{ScanResult}
use Rattle.pgs_medium.specs.Device.{Device}
use Rattle.pgs_medium.specs.declared.call_kind.CallKind.TheVariants as kinds
use Rattle.pgs_scan.specs.Calls.{IsOnlyRead, IsCalled, AreCalled, IsStatFailure, kind_of}
use Rattle.pgs_scan.specs.Reads.{read_after}
use Rattle.pgs_scan.specs.declared.mark.Mark.TheVariants as marks
use Rattle.pgs_shard_history.specs.Legal.{IsScanDue}
use Rattle.pgs_shard_history.specs.Scanning.{Scanning, scanning}
use Rattle.pgs_shard_history.specs.Scans.{map_of}
use Rattle.pgs_shard_history.specs.Stores.{applied}
use Rattle.pgs_shard_history.specs.declared.event.Event.{Event}
use Rattle.pgs_shard_history.specs.declared.event.Event.TheVariants.{Scanned, Handed as HandedEvent}
use Rattle.pgs_shard_history.specs.declared.phase.Phase.{Phase}
use Rattle.pgs_shard_history.specs.declared.phase.Phase.TheVariants as phases
use Rattle.pgs_shard_history.specs.declared.scan_event.ScanEvent.TheVariants as events
use Rattle.pgs_shard.specs.declared.scan_answer.ScanAnswer.{ScanAnswer}
use Rattle.pgs_shard.specs.declared.scan_answer.ScanAnswer.TheVariants as answers

-- ---- steps

-- there is no ask, or its scan has ended
abbrev pub IsIdleIn : Phase → Type 0
IsIdleIn phases.Waiting = ⊥
IsIdleIn phases.Between = ⊥
IsIdleIn phases.Reading = ⊥
IsIdleIn phase = Unit {0}

abbrev pub IsIdle : Option Ask → Scanning → Type 0
IsIdle None s = Unit {0}
IsIdle (Some ask) s = IsIdleIn s.phase

-- the scan of the ask has not begun, and the item that it needs isn't applied
abbrev pub IsEarly : Option Ask → Scanning → ℕ → ℕ → Type 0
IsEarly None s count needed = ⊥
IsEarly (Some ask) s count needed = (s.phase ≡ phases.Waiting) × (needed ≡ ask.needed) × (count < needed)

-- Each answer comes exactly where it is due: the conditions exclude one another.
abbrev pub IsScanAnswer : ℕ → List Event → ScanAnswer → Type 0
IsScanAnswer stride past answers.Idle = IsIdle (scanning past).ask (scanning past)
IsScanAnswer stride past (answers.NotYet count needed) = IsEarly (scanning past).ask (scanning past) count needed × (count ≡ applied past)
IsScanAnswer stride past (answers.Found id) = IsScanDue stride (events.Found id) past
IsScanAnswer stride past answers.More = IsScanDue stride events.More past
IsScanAnswer stride past (answers.Passed id mark) = IsScanDue stride (events.Passed id mark) past
IsScanAnswer stride past answers.Done = IsScanDue stride events.Done past
IsScanAnswer stride past (answers.ListFault count) = IsScanDue stride (events.ListFault count) past

-- every answer but the first two is kept; without memory nothing is
abbrev pub past_after_scan : {E : Type 0} → Result ScanAnswer E → List Event → List Event
past_after_scan (Ok answers.Idle) past = past
past_after_scan (Ok (answers.NotYet count needed)) past = past
past_after_scan (Ok (answers.Found id)) past = Scanned (events.Found id) ∷ past
past_after_scan (Ok answers.More) past = Scanned events.More ∷ past
past_after_scan (Ok (answers.Passed id mark)) past = Scanned (events.Passed id mark) ∷ past
past_after_scan (Ok answers.Done) past = Scanned events.Done ∷ past
past_after_scan (Ok (answers.ListFault count)) past = Scanned (events.ListFault count) ∷ past
past_after_scan (Err _) past = past

-- ---- calls of the device

-- the calls that read of a copy after so many steps, of which one failed or none: the first step makes two, and each further one
abbrev pub IsReadCall : ℕ → ℕ → Option ObjCopy → Bool → Device → Device → Type 0
IsReadCall stride steps None failed old new = ⊥
IsReadCall stride zero (Some copy) true old new = IsStatFailure old new
IsReadCall stride zero (Some copy) false old new = AreCalled false false old new
IsReadCall stride (suc steps) (Some copy) failed old new = IsCalled (kind_of (read_after stride (suc steps) copy)) failed old new

-- a step between two copies lists once, and one within a copy reads
abbrev pub IsScanCall : ℕ → Scanning → ScanAnswer → Device → Device → Type 0
IsScanCall stride s answers.Idle old new = new ≡ old
IsScanCall stride s (answers.NotYet count needed) old new = new ≡ old
IsScanCall stride s (answers.Found id) old new = IsCalled kinds.List false old new
IsScanCall stride s answers.Done old new = IsCalled kinds.List false old new
IsScanCall stride s (answers.ListFault count) old new = IsCalled kinds.List true old new × (count ≡ new.faults)
IsScanCall stride s answers.More old new = IsReadCall stride s.steps s.copy false old new
IsScanCall stride s (answers.Passed id marks.Fine) old new = IsReadCall stride s.steps s.copy false old new
IsScanCall stride s (answers.Passed id mark) old new = IsReadCall stride s.steps s.copy true old new

-- without memory no copy has changed, and some calls may have been made
abbrev pub IsScanLeft : {E : Type 0} → ℕ → Scanning → Device → Result ScanAnswer E → Device → Type 0
IsScanLeft stride s old (Ok answer) new = IsScanCall stride s answer old new
IsScanLeft stride s old (Err _) new = IsOnlyRead old new

-- ---- handing

-- what is handed of a scan of an ask that ended
abbrev pub handed_at : ℕ → Phase → Ask → List Entry → Option ScanResult
handed_at osd (phases.Mapped place count) ask entries =
    Some (record { osd = osd; serial = ask.serial; chunk = ask.chunk; applied = count; place = place; found = results.Map (map_of osd ask count entries) })
handed_at osd (phases.Failed place count faults) ask entries =
    Some (record { osd = osd; serial = ask.serial; chunk = ask.chunk; applied = count; place = place; found = results.ListFault faults })
handed_at osd phase ask entries = None

abbrev pub handed_by : ℕ → Option Ask → Scanning → Option ScanResult
handed_by osd None s = None
handed_by osd (Some ask) s = handed_at osd s.phase ask s.entries

abbrev pub handed_in : ℕ → Scanning → Option ScanResult
handed_in osd s = handed_by osd s.ask s

-- the history after it
abbrev pub past_after_hand : Option ScanResult → List Event → List Event
past_after_hand None past = past
past_after_hand (Some result) past = HandedEvent ∷ past

-- the entries of a map that is handed are in order and of its range
abbrev pub IsInRange : Found → Type 0
IsInRange (results.Map map) = AreInRange map.range map.entries
IsInRange (results.ListFault count) = Unit {0}

abbrev pub IsHandedInRange : ScanResult → Type 0
IsHandedInRange result = IsInRange result.found
