-- Which events may follow one another.
use Rattle.std.specs.Prelude.{ℕ, ◌≡◌, ◌+◌, ◌≤◌, ◌<◌, true, List, [], ◌∷◌, length, Option, Some, None}
use Rattle.pgs_cause.specs.Count.{Rose}
use Rattle.pgs_name.specs.declared.object_id.ObjectId.{ObjectId}
use Rattle.pgs_range.specs.Listed.{IsNext}
use Rattle.pgs_chunk.specs.declared.ask.Ask.{Ask}
use Rattle.pgs_copy.specs.declared.obj_copy.ObjCopy.{ObjCopy}
use Rattle.pgs_scan.specs.Reads.{steps_left_open}
use Rattle.pgs_scan.specs.declared.mark.Mark.{Mark}
use Rattle.pgs_scan.specs.declared.mark.Mark.TheVariants.{Fine, StatError, ReadError}
use Rattle.pgs_store.specs.Stores.{is_stored}
use Rattle.pgs_shard_history.specs.Feeds.{AreNext, fed, item_of}
use Rattle.pgs_shard_history.specs.Held.{damage_answer}
use Rattle.pgs_shard_history.specs.Scanning.{Scanning, scanning, drop_of, cursor_of, is_deep}
use Rattle.pgs_shard_history.specs.Stores.{applied, last_count, stored_by}
use Rattle.pgs_shard_history.specs.declared.event.Event.{Event}
use Rattle.pgs_shard_history.specs.declared.event.Event.TheVariants.{Fed, Applied, DeviceFault, ListFailed, Scanned, Handed, Damaged}
use Rattle.pgs_shard_history.specs.declared.phase.Phase.{Phase}
use Rattle.pgs_shard_history.specs.declared.phase.Phase.TheVariants.{Waiting, Between, Reading, Mapped, Failed, Over}
use Rattle.pgs_shard_history.specs.declared.scan_event.ScanEvent.{ScanEvent}
use Rattle.pgs_shard_history.specs.declared.scan_event.ScanEvent.TheVariants.{Found, More, Passed, Done, ListFault}

-- a scan lists between two copies, and begins once the item that its ask needs is applied
abbrev pub MayList : Phase → Ask → ℕ → Type 0
MayList Waiting ask count = ask.needed ≤ count
MayList Between ask count = Unit {0}
MayList phase ask count = ⊥

-- the scan of an ask lists, and this is the next position of its range, or that none is left
abbrev pub IsListing : Option Ask → Scanning → List Event → Option ObjectId → Type 0
IsListing None s past next = ⊥
IsListing (Some ask) s past next = MayList s.phase ask (applied past) × IsNext (is_stored (stored_by past)) (cursor_of ask s.last) ask.range.to next

-- a listing of the scan of an ask failed
abbrev pub IsListFailing : Option Ask → Scanning → List Event → ℕ → Type 0
IsListFailing None s past count = ⊥
IsListFailing (Some ask) s past count = MayList s.phase ask (applied past) × Rose (last_count past) count

-- A copy that was found is passed with a mark after so many steps that left more: with none after all of them; with one of its size and attributes after none; and of a deep scrub, with one of its data and omap later.
abbrev pub IsMarked : ℕ → Scanning → ObjCopy → Mark → Type 0
IsMarked stride s copy Fine = s.steps ≡ steps_left_open (is_deep s.ask) stride copy
IsMarked stride s copy StatError = s.steps ≡ 0
IsMarked stride s copy ReadError = (is_deep s.ask ≡ true) × (1 ≤ s.steps)

-- the copy of the position found last is being read, and passed with this mark
abbrev pub IsPassing : ℕ → Scanning → Option ObjCopy → ObjectId → Mark → Type 0
IsPassing stride s None id mark = ⊥
IsPassing stride s (Some copy) id mark = (s.phase ≡ Reading) × (s.last ≡ Some id) × IsMarked stride s copy mark

-- it is being read, and more is left
abbrev pub IsGoingOn : ℕ → Scanning → Option ObjCopy → Type 0
IsGoingOn stride s None = ⊥
IsGoingOn stride s (Some copy) = (s.phase ≡ Reading) × (s.steps < steps_left_open (is_deep s.ask) stride copy)

-- a step of a scan may come
abbrev pub IsScanDue : ℕ → ScanEvent → List Event → Type 0
IsScanDue stride (Found id) past = IsListing (scanning past).ask (scanning past) past (Some id)
IsScanDue stride More past = IsGoingOn stride (scanning past) (scanning past).copy
IsScanDue stride (Passed id mark) past = IsPassing stride (scanning past) (scanning past).copy id mark
IsScanDue stride Done past = IsListing (scanning past).ask (scanning past) past None
IsScanDue stride (ListFault count) past = IsListFailing (scanning past).ask (scanning past) past count

-- a scan ended with a map or with a fault, and it isn't handed
abbrev pub HasEnded : Phase → Type 0
HasEnded (Mapped place applied) = Unit {0}
HasEnded (Failed place applied count) = Unit {0}
HasEnded phase = ⊥

-- An event may come after these, in a shard that reads so many bytes at a step: a feed begins at most one after the last item; the next item is applied, was fed, and drops the scan or the map that it touches; the device fails only while an item waits, and its count rose; a listing always may fail, where the count rose; what a scan ended with is handed once; damage is answered by what is being read and by what the copies would hold.
abbrev pub IsDue : ℕ → Event → List Event → Type 0
IsDue stride (Fed from items ask) past = AreNext from items × (from ≤ length (fed past))
IsDue stride (Applied number drops) past = (number ≡ applied past + 1) × (number ≤ length (fed past)) × (drops ≡ drop_of (scanning past) (item_of number (fed past)))
IsDue stride (DeviceFault count) past = (applied past < length (fed past)) × Rose (last_count past) count
IsDue stride (ListFailed count) past = Rose (last_count past) count
IsDue stride (Scanned event) past = IsScanDue stride event past
IsDue stride Handed past = HasEnded (scanning past).phase
IsDue stride (Damaged family snap damage answer) past = answer ≡ damage_answer past family snap damage

-- each event may come after those before it
abbrev pub IsLegal : ℕ → List Event → Type 0
IsLegal stride [] = Unit {0}
IsLegal stride (event ∷ past) = IsDue stride event past × IsLegal stride past
