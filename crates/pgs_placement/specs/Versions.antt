-- What the copies of a chunk have in common, and who waits for it.
use Rattle.std.specs.Prelude.{ℕ, ◌≡◌, ◌||◌, true, List, [], ◌∷◌, Some, filter}
use Rattle.pgs_range.specs.Ranges.{in_range}
use Rattle.pgs_range.specs.declared.family_range.FamilyRange.{FamilyRange}
use Rattle.pgs_map.specs.declared.scrub_map.ScrubMap.{ScrubMap}
use Rattle.pgs_medium.specs.declared.item.Item.{Item}
use Rattle.pgs_gate.specs.Waits.{is_parked}
use Rattle.pgs_op.specs.declared.write.Write.{Write}
use Rattle.pgs_history.specs.Facts.{upto}
use Rattle.pgs_history.specs.Log.{log}
use Rattle.pgs_history.specs.Parked.{parked}
use Rattle.pgs_history.specs.Scrubs.{open_chunk}
use Rattle.pgs_history.specs.declared.chunk.Chunk.{Chunk}
use Rattle.pgs_history.specs.declared.write_answer.WriteAnswer.TheVariants.{Parked, QueueFull}
use Rattle.pgs_history.specs.declared.take_answer.TakeAnswer.TheVariants.{Taken}
use Rattle.pgs_history.specs.declared.event.Event.{Event}
use Rattle.pgs_history.specs.declared.event.Event.TheVariants.{Submit, Take}
use Rattle.pgs_shard_history.specs.Laws.{applied_items}
use Rattle.pgs_shard_history.specs.Scans.{at_place}
use Rattle.pgs_shards.specs.Members.{Member, past_in}

-- ---- one version

-- the items of a range's families
abbrev pub items_in : FamilyRange → List Item → List Item
items_in range items = filter (λ item. in_range range item.family) items

-- a map of the chunk that is open tells of copies to which its OSD had applied, of the chunk's range, exactly the items of the log up to the chunk's version
abbrev pub IsAtVersion : List Member → List Event → ℕ → ScrubMap → Type 0
IsAtVersion members past place map = (chunk : Chunk) → open_chunk past ≡ Some chunk → chunk.number ≡ map.chunk
    → items_in chunk.range (applied_items (at_place place (past_in members map.osd))) ≡ items_in chunk.range (upto chunk.version (log past))

abbrev pub HasVersion : List Member → Event → List Event → Type 0
HasVersion members (Take place map Taken) past = IsAtVersion members past place map
HasVersion members event past = Unit {0}

-- so does each map that was taken
abbrev pub HaveVersions : List Member → List Event → Type 0
HaveVersions members [] = Unit {0}
HaveVersions members (event ∷ past) = HasVersion members event past × HaveVersions members past

-- ---- who waits

-- A chunk is open that gives way to no write, and the write is of one of its families, or one of the same id waits.
pub record IsInside (past : List Event) (write : Write) : Type 0 where
  pub chunk : Chunk
  pub is : open_chunk past ≡ Some chunk
  pub firm : chunk.firm ≡ true
  pub inside : (in_range chunk.range write.family || is_parked (parked past) write.id) ≡ true

abbrev pub WaitsInside : Event → List Event → Type 0
WaitsInside (Submit write (Parked range)) past = IsInside past write
WaitsInside (Submit write (QueueFull count)) past = IsInside past write
WaitsInside event past = Unit {0}

-- only such writes are parked, or turned away since as many wait as may
abbrev pub WaitInside : List Event → Type 0
WaitInside [] = Unit {0}
WaitInside (event ∷ past) = WaitsInside event past × WaitInside past
