-- What a chunk that was closed had compared.
use Rattle.std.specs.Prelude.{ℕ, ◌≡◌, ◌≤◌, List, [], ◌∷◌, length, Some}
use Rattle.std.specs.List.{AllByRecursion}
use Rattle.pgs_map.specs.declared.scrub_map.ScrubMap.{ScrubMap}
use Rattle.pgs_compare.specs.Report.{report}
use Rattle.pgs_compare.specs.declared.report.Report.{Report}
use Rattle.pgs_history.specs.Acting.{acting}
use Rattle.pgs_history.specs.Answers.{maps_of}
use Rattle.pgs_history.specs.Facts.{upto}
use Rattle.pgs_history.specs.Log.{log}
use Rattle.pgs_history.specs.Scrubs.{open_chunk, last_kind, is_deep, taken}
use Rattle.pgs_history.specs.declared.chunk.Chunk.{Chunk}
use Rattle.pgs_history.specs.declared.close_answer.CloseAnswer.TheVariants.{Closed}
use Rattle.pgs_history.specs.declared.event.Event.{Event}
use Rattle.pgs_history.specs.declared.event.Event.TheVariants.{Close}
use Rattle.pgs_history.specs.declared.made.Made.{Made}
use Rattle.pgs_shard.specs.Scans.{handed_in}
use Rattle.pgs_shard_history.specs.Laws.{applied_items}
use Rattle.pgs_shard_history.specs.Scanning.{scanning}
use Rattle.pgs_shard_history.specs.Scans.{at_place}
use Rattle.pgs_shards.specs.Members.{Member, past_in}
use Rattle.pgs_placement.specs.Cited.{result_of, IsMapOf, HasSeen}
use Rattle.pgs_placement.specs.Versions.{items_in}

-- An acting OSD gave a map of the open chunk: it is what the OSD's scan had ended with at a place of its history, and there the OSD had applied, of the
-- chunk's range, exactly the items of the log up to the chunk's version, which are all that the log has of it; and the map has the entries of the copies
-- that the scan saw, with digests where the scrub is deep.
pub record IsCompared (members : List Member) (past : List Event) (chunk : Chunk) (osd : ℕ) : Type 0 where
  pub map : ScrubMap
  pub place : ℕ
  pub given : taken past chunk.number osd ≡ Some map
  pub of : IsMapOf chunk map
  pub within : place ≤ length (past_in members osd)
  pub ended : handed_in osd (scanning (at_place place (past_in members osd))) ≡ Some (result_of place map)
  pub version : items_in chunk.range (applied_items (at_place place (past_in members osd))) ≡ items_in chunk.range (upto chunk.version (log past))
  pub all : items_in chunk.range (upto chunk.version (log past)) ≡ items_in chunk.range (log past)
  pub seen : HasSeen map (is_deep (last_kind past)) (at_place place (past_in members osd))

-- A chunk that is closed is the one that is open; its report is that of the maps which the acting OSDs gave of it last; and each of them gave one.
pub record IsOneVersion (made : Made) (members : List Member) (past : List Event) (number : ℕ) (told : Report) : Type 0 where
  pub chunk : Chunk
  pub is : open_chunk past ≡ Some chunk
  pub numbered : chunk.number ≡ number
  pub reported : told ≡ report (acting made past) chunk.version (maps_of past number (acting made past))
  pub each : AllByRecursion (IsCompared members past chunk) (acting made past)

abbrev pub Compares : Made → List Member → Event → List Event → Type 0
Compares made members (Close number (Closed told completes)) past = IsOneVersion made members past number told
Compares made members event past = Unit {0}

-- so it is at every close
abbrev pub AreCompared : Made → List Member → List Event → Type 0
AreCompared made members [] = Unit {0}
AreCompared made members (event ∷ past) = Compares made members event past × AreCompared made members past
