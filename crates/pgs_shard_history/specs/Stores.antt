-- What a shard applied, and what it stores.
use Rattle.std.specs.Prelude.{ℕ, List, [], ◌∷◌, Option, Some, None}
use Rattle.pgs_store.specs.Stores.{Stored, nothing_stored, affected, harmed}
use Rattle.pgs_medium.specs.declared.item.Item.{Item}
use Rattle.pgs_shard_history.specs.Feeds.{fed, item_of}
use Rattle.pgs_shard_history.specs.declared.event.Event.{Event}
use Rattle.pgs_shard_history.specs.declared.event.Event.TheVariants.{Applied, DeviceFault, ListFailed, Scanned, Damaged}
use Rattle.pgs_shard_history.specs.declared.scan_event.ScanEvent.TheVariants.{ListFault}
use Rattle.pgs_shard_history.specs.declared.damage_answer.DamageAnswer.TheVariants as answers

-- an item that is applied is the last one applied
abbrev pub applied_after : Event → ℕ → ℕ
applied_after (Applied number drops) before = number
applied_after _ before = before

-- the number of the item that was applied last: 0 before the first
abbrev pub applied : List Event → ℕ
applied [] = 0
applied (event ∷ past) = applied_after event (applied past)

-- a store after an item, if there is one
abbrev pub after_item : Option Item → Stored → Stored
after_item None stored = stored
after_item (Some item) stored = affected item.family item.effects stored

-- items that are applied, and damage that is done, change the store
abbrev pub stored_after : Event → List Item → Stored → Stored
stored_after (Applied number drops) items before = after_item (item_of number items) before
stored_after (Damaged family snap damage answers.Damaged) items before = harmed family snap damage before
stored_after _ items before = before

-- what is stored: from nothing, the effects of each item that was applied, and each damage that was done, in turn
abbrev pub stored_by : List Event → Stored
stored_by [] = nothing_stored
stored_by (event ∷ past) = stored_after event (fed past) (stored_by past)

-- a fault of the device has the newest count
abbrev pub last_count_after : Event → ℕ → ℕ
last_count_after (DeviceFault count) before = count
last_count_after (ListFailed count) before = count
last_count_after (Scanned (ListFault count)) before = count
last_count_after _ before = before

-- the newest count of faults that was kept: 0 before the first
abbrev pub last_count : List Event → ℕ
last_count [] = 0
last_count (event ∷ past) = last_count_after event (last_count past)
