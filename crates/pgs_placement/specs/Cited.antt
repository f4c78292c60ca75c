-- Which scan a map or a fault comes from.
use Rattle.std.specs.Prelude.{ℕ, zero, suc, Bool, true, ◌≡◌, ◌≤◌, List, [], ◌∷◌, length, slice_get, Some}
use Rattle.pgs_name.specs.declared.object_id.ObjectId.{ObjectId}
use Rattle.pgs_range.specs.Ranges.{in_range}
use Rattle.pgs_map.specs.Entries.{entry_at}
use Rattle.pgs_map.specs.declared.scrub_map.ScrubMap.{ScrubMap}
use Rattle.pgs_history.specs.Facts.{upto}
use Rattle.pgs_history.specs.Log.{log}
use Rattle.pgs_history.specs.Scrubs.{open_chunk, last_kind, is_deep}
use Rattle.pgs_history.specs.declared.chunk.Chunk.{Chunk}
use Rattle.pgs_history.specs.declared.event.Event.{Event}
use Rattle.pgs_history.specs.declared.event.Event.TheVariants.{Take, Fault}
use Rattle.pgs_shard.specs.Scans.{handed_in}
use Rattle.pgs_exchange.specs.declared.scan_result.ScanResult.{ScanResult}
use Rattle.pgs_exchange.specs.declared.scan_result.Found.TheVariants as results
use Rattle.pgs_shard_history.specs.Laws.{applied_items}
use Rattle.pgs_shard_history.specs.Scanning.{scanning}
use Rattle.pgs_shard_history.specs.Scans.{at_place}
use Rattle.pgs_shard_history.specs.declared.event.Event.{Event as ShardEvent}
use Rattle.pgs_shard_history.specs.declared.event.Event.TheVariants.{ListFailed}
use Rattle.pgs_seen.specs.Seen.{seen_entry}
use Rattle.pgs_shards.specs.Members.{Member, past_in}

-- what an OSD hands whose scan ended with a map at a place
abbrev pub result_of : ℕ → ScrubMap → ScanResult
result_of place map = record { osd = map.osd; serial = map.serial; chunk = map.chunk; applied = map.applied; place = place; found = results.Map map }

-- what a map says of its chunk
pub record IsMapOf (chunk : Chunk) (map : ScrubMap) : Type 0 where
  pub serial : map.serial ≡ chunk.serial
  pub range : map.range ≡ chunk.range
  pub needed : map.needed ≡ chunk.version

-- A map has at each position of its range the entry of the copy that was seen there by the scan that ended a history, and none where none was, with
-- digests or without.
abbrev pub HasSeen : ScrubMap → Bool → List ShardEvent → Type 0
HasSeen map deep past = (id : ObjectId) → in_range map.range id.family ≡ true → entry_at id map.entries ≡ seen_entry deep id past

-- A map that a group was given after these events: it is what its OSD's scan had ended with at a place of its history; there the OSD had applied the
-- items of the group's log up to the number that the map names, and that was at least the one that the map needed; and where its chunk was open,
-- the map was of that, and has the entries of the copies that the scan saw, with digests where the scrub is deep.
pub record IsCited (members : List Member) (past : List Event) (place : ℕ) (map : ScrubMap) : Type 0 where
  pub within : place ≤ length (past_in members map.osd)
  pub ended : handed_in map.osd (scanning (at_place place (past_in members map.osd))) ≡ Some (result_of place map)
  pub items : applied_items (at_place place (past_in members map.osd)) ≡ upto map.applied (log past)
  pub needed : map.needed ≤ map.applied
  pub logged : map.applied ≤ length (log past)
  pub of : (chunk : Chunk) → open_chunk past ≡ Some chunk → chunk.number ≡ map.chunk → IsMapOf chunk map
  pub seen : (chunk : Chunk) → open_chunk past ≡ Some chunk → chunk.number ≡ map.chunk → HasSeen map (is_deep (last_kind past)) (at_place place (past_in members map.osd))

-- what an OSD hands whose scan of a chunk ended with a fault at a place
abbrev pub fault_of : ℕ → ℕ → ℕ → ℕ → ℕ → ℕ → ScanResult
fault_of osd serial chunk count applied place = record { osd = osd; serial = serial; chunk = chunk; applied = applied; place = place; found = results.ListFault count }

-- A fault of a scan that a group was given: the OSD's scan of that chunk had ended with it at a place of its history.
pub record IsScanFault (members : List Member) (serial chunk osd count : ℕ) : Type 0 where
  pub place : ℕ
  pub applied : ℕ
  pub within : place ≤ length (past_in members osd)
  pub ended : handed_in osd (scanning (at_place place (past_in members osd))) ≡ Some (fault_of osd serial chunk count applied place)

-- A fault of a listing: it stands in the OSD's history.
pub record IsListingFault (members : List Member) (osd count : ℕ) : Type 0 where
  pub place : ℕ
  pub within : place ≤ length (past_in members osd)
  pub failed : slice_get (at_place place (past_in members osd)) 0 ≡ Some (ListFailed count)

-- a fault that a group was given: of a listing where no chunk is named
abbrev pub IsFaultCited : List Member → ℕ → ℕ → ℕ → ℕ → Type 0
IsFaultCited members serial zero osd count = IsListingFault members osd count
IsFaultCited members serial (suc chunk) osd count = IsScanFault members serial (suc chunk) osd count

abbrev pub Cites : List Member → Event → List Event → Type 0
Cites members (Take place map answer) past = IsCited members past place map
Cites members (Fault serial chunk osd count answer) past = IsFaultCited members serial chunk osd count
Cites members event past = Unit {0}

-- so is each map and each fault that a group was given
abbrev pub AreCited : List Member → List Event → Type 0
AreCited members [] = Unit {0}
AreCited members (event ∷ past) = Cites members event past × AreCited members past
