-- What holds of the scan of a shard's newest ask, wherever it is.
use Rattle.std.specs.Prelude.{ℕ, ◌≡◌, ◌≤◌, ◌-◌, true, List, length, drop, Option, Some, None}
use Rattle.std.specs.List.{AllByRecursion}
use Rattle.pgs_name.specs.Positions.{is_before}
use Rattle.pgs_name.specs.declared.object_id.ObjectId.{ObjectId}
use Rattle.pgs_range.specs.Ranges.{in_range, is_at_most}
use Rattle.pgs_range.specs.Listed.{is_behind}
use Rattle.pgs_chunk.specs.declared.ask.Ask.{Ask}
use Rattle.pgs_copy.specs.declared.obj_copy.ObjCopy.{ObjCopy}
use Rattle.pgs_map.specs.Entries.{AreInRange}
use Rattle.pgs_map.specs.declared.entry.Entry.{Entry}
use Rattle.pgs_map.specs.declared.scrub_map.ScrubMap.{ScrubMap}
use Rattle.pgs_scan.specs.Reads.{steps_left_open}
use Rattle.pgs_store.specs.Stores.{Stored}
use Rattle.pgs_shard_history.specs.Scanning.{Scanning, scanning, unasked, cursor_of}
use Rattle.pgs_shard_history.specs.Stores.{applied, stored_by}
use Rattle.pgs_shard_history.specs.declared.event.Event.{Event}
use Rattle.pgs_shard_history.specs.declared.phase.Phase.{Phase}
use Rattle.pgs_shard_history.specs.declared.phase.Phase.TheVariants.{Waiting, Between, Reading, Mapped, Failed, Over}

-- entries are of positions before another
abbrev pub StandBefore : ObjectId → List Entry → Type 0
StandBefore id entries = AllByRecursion (λ entry. is_before entry.id id ≡ true) entries

-- Between two copies: the item that the ask needs is applied, the entries so far are in order and of the range, and whatever is found next stands behind them and not below the range.
pub record IsBetween (ask : Ask) (s : Scanning) (count : ℕ) : Type 0 where
  pub needed : ask.needed ≤ count
  pub entries : AreInRange ask.range s.entries
  pub behind : (id : ObjectId) → is_behind (cursor_of ask s.last) id ≡ true → StandBefore id s.entries
  pub within : (id : ObjectId) → is_behind (cursor_of ask s.last) id ≡ true → is_at_most ask.range.from id.family ≡ true

-- While a copy is read: it is stored as it was when it was found, it is of the range and behind the entries so far, and no more steps were made than it takes.
pub record IsReading (stride : ℕ) (ask : Ask) (s : Scanning) (count : ℕ) (stored : Stored) : Type 0 where
  pub id : ObjectId
  pub copy : ObjCopy
  pub last : s.last ≡ Some id
  pub found : s.copy ≡ Some copy
  pub still : stored id.family id.snap ≡ Some copy
  pub needed : ask.needed ≤ count
  pub within : in_range ask.range id.family ≡ true
  pub steps : s.steps ≤ steps_left_open ask.deep stride copy
  pub entries : AreInRange ask.range s.entries
  pub before : StandBefore id s.entries

-- Once it ended with a map: the item that the ask needs was applied then, and the entries are in order and of the range.
pub record IsMapped (ask : Ask) (s : Scanning) (count : ℕ) : Type 0 where
  pub needed : ask.needed ≤ count
  pub entries : AreInRange ask.range s.entries

-- of a scan of an ask, by where it is
abbrev pub IsAt : ℕ → Phase → Ask → Scanning → ℕ → Stored → Type 0
IsAt stride Waiting ask s count stored = s ≡ record unasked { ask = Some ask }
IsAt stride Between ask s count stored = IsBetween ask s count
IsAt stride Reading ask s count stored = IsReading stride ask s count stored
IsAt stride (Mapped place then) ask s count stored = IsMapped ask s then
IsAt stride (Failed place then faults) ask s count stored = Unit {0}
IsAt stride Over ask s count stored = Unit {0}

-- without an ask there is no scan
abbrev pub IsSoundScan : ℕ → Option Ask → Scanning → ℕ → Stored → Type 0
IsSoundScan stride None s count stored = s ≡ unasked
IsSoundScan stride (Some ask) s count stored = IsAt stride s.phase ask s count stored

-- ---- what a scan ended with

-- a history as it was when it had so many events
abbrev pub at_place : ℕ → List Event → List Event
at_place place past = drop (length past - place) past

-- the map of a member whose scan of an ask has these entries, and which had applied so many items when it ended
abbrev pub map_of : ℕ → Ask → ℕ → List Entry → ScrubMap
map_of osd ask count entries = record {
  osd = osd;
  serial = ask.serial;
  chunk = ask.chunk;
  needed = ask.needed;
  applied = count;
  range = ask.range;
  entries = entries;
}
