-- A shard's scan as it is kept, beside where its history says that it is.
use Rattle.std.specs.Prelude.{ℕ, zero, suc, ◌<◌, ◌&&◌, nat_lt, Bool, false, List, [], ◌∷◌, ◌++◌, Option, Some, None, option_map, if◌then◌else◌}
use Rattle.pgs_name.specs.Families.{Family}
use Rattle.pgs_range.specs.Ranges.{in_range}
use Rattle.pgs_chunk.specs.declared.ask.Ask.{Ask}
use Rattle.pgs_copy.specs.declared.obj_copy.ObjCopy.{ObjCopy}
use Rattle.pgs_map.specs.declared.entry.Entry.{Entry}
use Rattle.pgs_map.specs.declared.scrub_map.ScrubMap.{ScrubMap}
use Rattle.pgs_exchange.specs.declared.scan_result.Found.TheVariants as results
use Rattle.pgs_exchange.specs.declared.scan_result.ScanResult.{ScanResult}
use Rattle.pgs_name.specs.declared.object_id.ObjectId.{ObjectId}
use Rattle.pgs_scan.specs.Reads.{Read, read_after}
use Rattle.pgs_shard_history.specs.Scanning.{Scanning}
use Rattle.pgs_shard_history.specs.Scanning as scannings
use Rattle.pgs_shard_history.specs.Scans.{map_of}
use Rattle.pgs_shard_history.specs.declared.phase.Phase.{Phase}
use Rattle.pgs_shard_history.specs.declared.phase.Phase.TheVariants.{Waiting, Between, Reading, Mapped, Failed, Over}
use Rattle.pgs_shard.specs.declared.scan_due.ScanDue.{ScanDue}
use Rattle.pgs_shard.specs.declared.scan_due.ScanDue.TheVariants as dues

-- the newest ask, and where its scan is: the position found last, what was read of its copy once its size and attributes were, the entries of the copies that were passed, and once it ended with a map that map in their place
pub record Scan : Type 0 where
  pub ask : Option Ask
  pub phase : Phase
  pub last : Option ObjectId
  pub reading : Option Read
  pub entries : List Entry
  pub map : Option ScrubMap

-- what was read of a copy after so many steps: nothing before the first
abbrev pub reading_of : ℕ → ℕ → Option ObjCopy → Option Read
reading_of stride zero copy = None
reading_of stride (suc steps) copy = option_map (read_after stride (suc steps)) copy

-- the entries stand in the map, once the scan ended with one
abbrev pub entries_of : Phase → List Entry → List Entry
entries_of (Mapped place count) entries = []
entries_of phase entries = entries

abbrev pub map_made : ℕ → Phase → Option Ask → List Entry → Option ScrubMap
map_made osd (Mapped place count) ask entries = option_map (λ a. map_of osd a count entries) ask
map_made osd phase ask entries = None

-- what a member keeps of a scan
abbrev pub scan_of : ℕ → ℕ → Scanning → Scan
scan_of osd stride s = record {
  ask = s.ask;
  phase = s.phase;
  last = s.last;
  reading = reading_of stride s.steps s.copy;
  entries = entries_of s.phase s.entries;
  map = map_made osd s.phase s.ask s.entries;
}

abbrev pub no_scan : Scan
no_scan = record { ask = None; phase = Waiting; last = None; reading = None; entries = []; map = None }

abbrev pub cleared : Phase → Scan → Scan
cleared phase scan = record no_scan { ask = scan.ask; phase = phase }

-- ---- asks

abbrev pub is_later : Scan → Ask → Bool
is_later scan ask = scannings.is_newer ask scan.ask

abbrev pub asked : Ask → Scan → Scan
asked ask scan = if is_later scan ask then record no_scan { ask = Some ask } else scan

abbrev pub asked_if : Option Ask → Scan → Scan
asked_if None scan = scan
asked_if (Some ask) scan = asked ask scan

-- ---- items

abbrev pub in_ask : Option Ask → Family → Bool
in_ask None family = false
in_ask (Some ask) family = in_range ask.range family

abbrev pub is_asked : Scan → Family → Bool
is_asked scan family = in_ask scan.ask family

abbrev pub drops_in : Scan → Bool
drops_in scan = scannings.can_drop scan.phase

abbrev pub chunk_asked : Option Ask → Option ℕ
chunk_asked None = None
chunk_asked (Some ask) = Some ask.chunk

abbrev pub dropped : Phase → Phase
dropped phase = scannings.dropped phase

abbrev pub drop_in : Scan → Family → Option ℕ
drop_in scan family = scannings.chunk_where (drops_in scan && is_asked scan family) scan.ask

abbrev pub after_drop_in : Option ℕ → Scan → Scan
after_drop_in None scan = scan
after_drop_in (Some chunk) scan = cleared (dropped scan.phase) scan

-- ---- reading

abbrev pub reads : Scan → Family → ℕ → Bool
reads scan family snap = scannings.is_reading scan.phase && scannings.is_last scan.last (record { family = family; snap = snap })

-- ---- steps

-- a position was found, of which nothing is read
abbrev pub found : ObjectId → Scan → Scan
found id scan = record scan { phase = Reading; last = Some id; reading = None; map = None }

-- more is left of its copy
abbrev pub going_on : Read → Scan → Scan
going_on reading scan = record scan { reading = Some reading }

-- it was passed
abbrev pub passed : Entry → Scan → Scan
passed entry scan = record scan { phase = Between; reading = None; entries = scan.entries ++ entry ∷ []; map = None }

-- the scan ended with a map
abbrev pub mapped : ℕ → ℕ → ScrubMap → Scan → Scan
mapped place count map scan = record scan { phase = Mapped place count; entries = []; map = Some map }

-- or with a fault
abbrev pub failed : ℕ → ℕ → ℕ → Scan → Scan
failed place count faults scan = record scan { phase = Failed place count faults; map = None }

-- there is room for the event by which the result of a scan that ended is handed
abbrev pub HasRoomToHand : Phase → ℕ → ℕ → Type 0
HasRoomToHand (Mapped place count) length capacity = length < capacity
HasRoomToHand (Failed place count faults) length capacity = length < capacity
HasRoomToHand phase length capacity = Unit {0}

-- while a copy is read there is room for its entry
abbrev pub HasRoom : Phase → ℕ → ℕ → Type 0
HasRoom Reading length capacity = length < capacity
HasRoom phase length capacity = Unit {0}

-- what a step does
abbrev pub due_at : Phase → Option Read → Ask → ℕ → ScanDue
due_at Waiting reading ask count = if nat_lt count ask.needed then dues.NotYet count ask.needed else dues.Next
due_at Between reading ask count = dues.Next
due_at Reading None ask count = dues.Stat
due_at Reading (Some reading) ask count = dues.Read
due_at phase reading ask count = dues.Idle

abbrev pub due_by : Option Ask → Scan → ℕ → ScanDue
due_by None scan count = dues.Idle
due_by (Some ask) scan count = due_at scan.phase scan.reading ask count

abbrev pub due_in : Scan → ℕ → ScanDue
due_in scan count = due_by scan.ask scan count

-- ---- handing

-- what an ended scan of an ask hands, where the map is kept
abbrev pub handed_map : ℕ → ℕ → ℕ → Ask → Option ScrubMap → Option ScanResult
handed_map osd place count ask None = None
handed_map osd place count ask (Some map) = Some (record { osd = osd; serial = ask.serial; chunk = ask.chunk; applied = count; place = place; found = results.Map map })

abbrev pub handed_at : ℕ → Phase → Ask → Scan → Option ScanResult
handed_at osd (Mapped place count) ask scan = handed_map osd place count ask scan.map
handed_at osd (Failed place count faults) ask scan =
    Some (record { osd = osd; serial = ask.serial; chunk = ask.chunk; applied = count; place = place; found = results.ListFault faults })
handed_at osd phase ask scan = None

abbrev pub handed_by : ℕ → Option Ask → Scan → Option ScanResult
handed_by osd None scan = None
handed_by osd (Some ask) scan = handed_at osd scan.phase ask scan

abbrev pub handed : ℕ → Scan → Option ScanResult
handed osd scan = handed_by osd scan.ask scan

-- nothing is left of a scan whose result was handed
abbrev pub after_handing : Option ScanResult → Scan → Scan
after_handing None scan = scan
after_handing (Some result) scan = cleared Over scan
