-- Laws of histories, in words that don't follow them event by event.
use Rattle.std.specs.Prelude.{ℕ, ◌≡◌, ◌≤◌, nat_le, if◌then◌else◌, Bool, true, false, List, [], ◌∷◌, Option, Some, None}
use Rattle.std.specs.List.{AllByRecursion}
use Rattle.pgs_store.specs.Stores.{Stored, nothing_stored, affected}
use Rattle.pgs_medium.specs.declared.item.Item.{Item}
use Rattle.pgs_shard_history.specs.Feeds.{fed, item_of}
use Rattle.pgs_shard_history.specs.Stores.{applied, last_count, stored_by}
use Rattle.pgs_shard_history.specs.declared.event.Event.{Event}
use Rattle.pgs_shard_history.specs.declared.event.Event.TheVariants.{Applied, DeviceFault, ListFailed, Scanned, Damaged}
use Rattle.pgs_shard_history.specs.declared.scan_event.ScanEvent.TheVariants.{ListFault}
use Rattle.pgs_shard_history.specs.declared.damage_answer.DamageAnswer.TheVariants as answers

-- the items up to a number, of items with the newest first
abbrev pub upto : ℕ → List Item → List Item
upto number [] = []
upto number (item ∷ items) = if nat_le item.number number then item ∷ items else upto number items

-- one item more, if there is one
abbrev pub then_item : Option Item → List Item → List Item
then_item None items = items
then_item (Some item) items = item ∷ items

-- an item that is applied is the one of its number among those that were fed
abbrev pub items_after : Event → List Item → List Item → List Item
items_after (Applied number drops) items before = then_item (item_of number items) before
items_after _ items before = before

-- the items that were applied, the newest first
abbrev pub applied_items : List Event → List Item
applied_items [] = []
applied_items (event ∷ past) = items_after event (fed past) (applied_items past)

-- the items that were applied are the first that were fed, each once and in order
abbrev pub AreFirst : List Event → Type 0
AreFirst past = applied_items past ≡ upto (applied past) (fed past)

-- what items leave, the oldest applied first, where nothing was stored
abbrev pub after_items : List Item → Stored
after_items [] = nothing_stored
after_items (item ∷ items) = affected item.family item.effects (after_items items)

-- an event does no damage: that which is refused does none
abbrev pub is_harmless : Event → Bool
is_harmless (Damaged family snap damage answers.Damaged) = false
is_harmless _ = true

-- no copy was damaged
abbrev pub AreHarmless : List Event → Type 0
AreHarmless past = AllByRecursion (λ event. is_harmless event ≡ true) past

-- a fault's count stands in front of those before
abbrev pub counts_after : Event → List ℕ → List ℕ
counts_after (DeviceFault count) before = count ∷ before
counts_after (ListFailed count) before = count ∷ before
counts_after (Scanned (ListFault count)) before = count ∷ before
counts_after _ before = before

-- the counts of faults that were kept, the newest first
abbrev pub counts : List Event → List ℕ
counts [] = []
counts (event ∷ past) = counts_after event (counts past)

-- What holds of each legal history: the items that were applied are the first ones, and where no copy was damaged the store is what they leave; and no count of faults is above the newest.
pub record IsLawful (past : List Event) : Type 0 where
  pub first : AreFirst past
  pub whole : AreHarmless past → stored_by past ≡ after_items (upto (applied past) (fed past))
  pub newest : AllByRecursion (λ count. count ≤ last_count past) (counts past)
