-- What a scan saw of each position: what was stored there when it came to it, or at its end where it found nothing at the position or after it.
use Rattle.std.specs.Prelude.{ℕ, ◌≡◌, Bool, true, false, List, [], ◌∷◌, Option, Some, None, option_map, unwrap_or, if◌then◌else◌}
use Rattle.pgs_name.specs.Positions.{is_before, same_position}
use Rattle.pgs_name.specs.declared.object_id.ObjectId.{ObjectId}
use Rattle.pgs_range.specs.Ranges.{in_range}
use Rattle.pgs_chunk.specs.declared.ask.Ask.{Ask}
use Rattle.pgs_copy.specs.declared.obj_copy.ObjCopy.{ObjCopy}
use Rattle.pgs_map.specs.Entries.{entry_at}
use Rattle.pgs_map.specs.declared.entry.Entry.{Entry}
use Rattle.pgs_scan.specs.Seen.{entry_seen}
use Rattle.pgs_scan.specs.declared.mark.Mark.{Mark}
use Rattle.pgs_scan.specs.declared.mark.Mark.TheVariants as marks
use Rattle.pgs_store.specs.Stores.{Stored}
use Rattle.pgs_shard_history.specs.Scanning.{is_newer, scanning}
use Rattle.pgs_shard_history.specs.Scans.{at_place}
use Rattle.pgs_shard_history.specs.Stores.{stored_by}
use Rattle.pgs_shard_history.specs.declared.event.Event.{Event}
use Rattle.pgs_shard_history.specs.declared.event.Event.TheVariants.{Fed, Applied, Scanned, Handed}
use Rattle.pgs_shard_history.specs.declared.phase.Phase.TheVariants.{Mapped}
use Rattle.pgs_shard_history.specs.declared.scan_event.ScanEvent.TheVariants.{Found, Passed}

-- what the newest scan saw is forgotten: a newer ask replaces the kept one, an item drops the scan or its map, or what the scan ended with is handed
abbrev pub forgets : Event → Option Ask → Bool
forgets (Fed from items (Some ask)) kept = is_newer ask kept
forgets (Applied number (Some chunk)) kept = true
forgets Handed kept = true
forgets _ kept = false

-- ---- where a position was seen

-- a store that was kept already stays
abbrev pub first_kept : Option Stored → Stored → Option Stored
first_kept None stored = Some stored
first_kept (Some kept) stored = Some kept

-- a position that is found is the first one at a given position or after it, where there was none before
abbrev pub seen_after : ObjectId → Event → List Event → Option Stored → Option Stored
seen_after id (Scanned (Found found)) past before = if is_before found id then before else first_kept before (stored_by past)
seen_after id _ past before = before

-- what was stored when the newest scan first found something at a position or after it: none where it hasn't
abbrev pub seen_by : ObjectId → List Event → Option Stored
seen_by id [] = None
seen_by id (event ∷ past) = if forgets event (scanning past).ask then None else seen_after id event past (seen_by id past)

-- what was stored when the newest scan came to a position: what is stored now, where it has found nothing there and nothing after it
abbrev pub seen_store : ObjectId → List Event → Stored
seen_store id past = unwrap_or (seen_by id past) (stored_by past)

-- the copy that was stored there then
abbrev pub seen_copy : ObjectId → List Event → Option ObjCopy
seen_copy id past = seen_store id past id.family id.snap

-- ---- how its reading ended

-- a position that is passed has the mark that it is passed with
abbrev pub mark_after : ObjectId → Event → Option Mark → Option Mark
mark_after id (Scanned (Passed passed mark)) before = if same_position passed id then Some mark else before
mark_after id _ before = before

-- the mark with which the newest scan passed a position: none where it hasn't
abbrev pub mark_of : ObjectId → List Event → Option Mark
mark_of id [] = None
mark_of id (event ∷ past) = if forgets event (scanning past).ask then None else mark_after id event (mark_of id past)

-- ---- the entry

-- the entry of a copy, if there is one, by the mark that it was passed with
abbrev pub entry_by : Bool → ObjectId → Option Mark → Option ObjCopy → Option Entry
entry_by deep id mark copy = option_map (entry_seen deep id (unwrap_or mark marks.Fine)) copy

-- the entry of what was seen at a position: none where nothing was stored
abbrev pub seen_entry : Bool → ObjectId → List Event → Option Entry
seen_entry deep id past = entry_by deep id (mark_of id past) (seen_copy id past)

-- ---- the entries

-- at each position of an ask's range, entries are what was seen there
abbrev pub IsSeen : Ask → List Entry → List Event → Type 0
IsSeen ask entries past = (id : ObjectId) → in_range ask.range id.family ≡ true → entry_at id entries ≡ seen_entry ask.deep id past

-- where the newest scan ended with a map, its entries are what it had seen when it ended
abbrev pub AreSeen : List Event → Type 0
AreSeen past = (place count : ℕ) (ask : Ask) → (scanning past).phase ≡ Mapped place count → (scanning past).ask ≡ Some ask → IsSeen ask (scanning past).entries (at_place place past)
