-- Where the scan of a shard's newest ask is, by its events, the newest first.
use Rattle.std.specs.Prelude.{ℕ, zero, suc, ◌==◌, ◌&&◌, nat_lt, Bool, true, false, List, [], ◌∷◌, ◌++◌, length, Option, Some, None, if◌then◌else◌}
use Rattle.pgs_name.specs.Families.{Family}
use Rattle.pgs_name.specs.Positions.{same_position}
use Rattle.pgs_name.specs.declared.object_id.ObjectId.{ObjectId}
use Rattle.pgs_range.specs.Ranges.{in_range}
use Rattle.pgs_range.specs.declared.cursor.Cursor.{Cursor}
use Rattle.pgs_range.specs.declared.cursor.Cursor.TheVariants.{At, After}
use Rattle.pgs_chunk.specs.declared.ask.Ask.{Ask}
use Rattle.pgs_copy.specs.declared.obj_copy.ObjCopy.{ObjCopy}
use Rattle.pgs_map.specs.declared.entry.Entry.{Entry}
use Rattle.pgs_medium.specs.declared.item.Item.{Item}
use Rattle.pgs_scan.specs.Seen.{entry_seen}
use Rattle.pgs_scan.specs.declared.mark.Mark.{Mark}
use Rattle.pgs_shard_history.specs.Feeds.{fed, item_of}
use Rattle.pgs_shard_history.specs.Stores.{applied, stored_by}
use Rattle.pgs_shard_history.specs.declared.event.Event.{Event}
use Rattle.pgs_shard_history.specs.declared.event.Event.TheVariants.{Fed, Applied, Scanned, Handed}
use Rattle.pgs_shard_history.specs.declared.phase.Phase.{Phase}
use Rattle.pgs_shard_history.specs.declared.phase.Phase.TheVariants.{Waiting, Between, Reading, Mapped, Failed, Over}
use Rattle.pgs_shard_history.specs.declared.scan_event.ScanEvent.{ScanEvent}
use Rattle.pgs_shard_history.specs.declared.scan_event.ScanEvent.TheVariants.{Found, More, Passed, Done, ListFault}

-- The newest ask, and where its scan is: the position found last, and its copy as it was stored when it was found; how many steps since then left more to read; and the entries of the copies that were passed, in order.
pub record Scanning : Type 0 where
  pub ask : Option Ask
  pub phase : Phase
  pub last : Option ObjectId
  pub copy : Option ObjCopy
  pub steps : ℕ
  pub entries : List Entry

-- where there was no ask
abbrev pub unasked : Scanning
unasked = record { ask = None; phase = Waiting; last = None; copy = None; steps = 0; entries = [] }

-- ---- asks

-- an ask is kept where there is none, or where it is of a later chunk than the kept one
abbrev pub is_newer : Ask → Option Ask → Bool
is_newer ask None = true
is_newer ask (Some kept) = nat_lt kept.chunk ask.chunk

-- a kept ask replaces the old one, and drops its scan and whatever that ended with
abbrev pub after_ask : Option Ask → Scanning → Scanning
after_ask None s = s
after_ask (Some ask) s = if is_newer ask s.ask then record unasked { ask = Some ask } else s

-- ---- what an item drops

-- a scan that runs, and one that ended with a map
abbrev pub can_drop : Phase → Bool
can_drop Waiting = false
can_drop Between = true
can_drop Reading = true
can_drop (Mapped place applied) = true
can_drop (Failed place applied count) = false
can_drop Over = false

abbrev pub touches : Option Ask → Option Item → Bool
touches None item = false
touches (Some ask) None = false
touches (Some ask) (Some item) = in_range ask.range item.family

abbrev pub chunk_where : Bool → Option Ask → Option ℕ
chunk_where false ask = None
chunk_where true None = None
chunk_where true (Some ask) = Some ask.chunk

-- the chunk whose scan or map an item drops: that of the newest ask, where the item is of a family of its range
abbrev pub drop_of : Scanning → Option Item → Option ℕ
drop_of s item = chunk_where (can_drop s.phase && touches s.ask item) s.ask

-- a scan that runs begins anew; an ask whose map is dropped has ended
abbrev pub dropped : Phase → Phase
dropped Waiting = Waiting
dropped Between = Waiting
dropped Reading = Waiting
dropped (Mapped place applied) = Over
dropped (Failed place applied count) = Failed place applied count
dropped Over = Over

abbrev pub after_drop : Option ℕ → Scanning → Scanning
after_drop None s = s
after_drop (Some chunk) s = record unasked { ask = s.ask; phase = dropped s.phase }

-- ---- steps of a scan

abbrev pub is_deep : Option Ask → Bool
is_deep None = false
is_deep (Some ask) = ask.deep

-- the entry of a copy, if there is one
abbrev pub seen_entry : Bool → ObjectId → Mark → Option ObjCopy → List Entry
seen_entry deep id mark None = []
seen_entry deep id mark (Some copy) = entry_seen deep id mark copy ∷ []

abbrev pub after_scan : ScanEvent → List Event → Scanning → Scanning
after_scan (Found id) past s = record s { phase = Reading; last = Some id; copy = stored_by past id.family id.snap; steps = 0 }
after_scan More past s = record s { steps = suc s.steps }
after_scan (Passed id mark) past s = record s { phase = Between; copy = None; steps = 0; entries = s.entries ++ seen_entry (is_deep s.ask) id mark s.copy }
after_scan Done past s = record s { phase = Mapped (suc (length past)) (applied past) }
after_scan (ListFault count) past s = record s { phase = Failed (suc (length past)) (applied past) count }

-- ---- the fold

abbrev pub scanning_after : Event → List Event → Scanning → Scanning
scanning_after (Fed from items ask) past s = after_ask ask s
scanning_after (Applied number drops) past s = after_drop drops s
scanning_after (Scanned event) past s = after_scan event past s
scanning_after Handed past s = record unasked { ask = s.ask; phase = Over }
scanning_after _ past s = s

abbrev pub scanning : List Event → Scanning
scanning [] = unasked
scanning (event ∷ past) = scanning_after event past (scanning past)

-- ---- what follows

-- a position was found last
abbrev pub is_last : Option ObjectId → ObjectId → Bool
is_last None id = false
is_last (Some last) id = same_position last id

abbrev pub is_reading : Phase → Bool
is_reading Reading = true
is_reading phase = false

-- the scan has found this position, and has not passed it
abbrev pub is_being_read : List Event → ObjectId → Bool
is_being_read past id = is_reading (scanning past).phase && is_last (scanning past).last id

-- where the scan looks for the next position: from the range's start on, or behind the one found last
abbrev pub cursor_of : Ask → Option ObjectId → Cursor
cursor_of ask None = At ask.range.from
cursor_of ask (Some id) = After id
