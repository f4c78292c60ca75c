-- How a shard is seen.
use Rattle.std.specs.Prelude.{ℕ, ◌≡◌, ◌≤◌, List, ◌∷◌, length, reverse}
use Rattle.pgs_medium.specs.Device.{Device}
use Rattle.pgs_medium.specs.declared.item.Item.{Item}
use Rattle.pgs_shard_history.specs.Feeds.{AreNumbered, fed}
use Rattle.pgs_shard_history.specs.Legal.{IsLegal}
use Rattle.pgs_shard_history.specs.Scanning.{scanning}
use Rattle.pgs_shard_history.specs.Stores.{applied, stored_by, last_count}
use Rattle.pgs_shard_history.specs.declared.event.Event.{Event}
use Rattle.pgs_shard.specs.Scan.{Scan, scan_of}

-- A shard is seen as the member that it is of, how many bytes it reads of a copy at a step, its history with the newest event first, and its device.
pub record ShardState (M : Type 0) : Type 0 where
  pub osd : ℕ
  pub stride : ℕ
  pub past : List Event
  pub medium : M

-- a shard after one more event, with the same device
abbrev pub with_event : {M : Type 0} → Event → ShardState M → ShardState M
with_event event shard = record shard { past = event ∷ shard.past }

-- The fields of a shard are what its history says: the items that it was fed, oldest first, how many of them are applied, where its scan is, and what the device holds; the device counted each fault that was kept; and each event was one that may come after those before it.
pub record IsTied (osd stride : ℕ) (device : Device) (items : List Item) (count : ℕ) (scan : Scan) (past : List Event) : Type 0 where
  pub all_items : items ≡ reverse (fed past)
  pub numbered : AreNumbered (fed past)
  pub count_is : count ≡ applied past
  pub within : count ≤ length items
  pub holds : device.stored ≡ stored_by past
  pub counted : last_count past ≤ device.faults
  pub scan_is : scan ≡ scan_of osd stride (scanning past)
  pub legal : IsLegal stride past
  pub some : 1 ≤ stride
