-- Which positions a history stores.
use Rattle.std.specs.Prelude.{ℕ, List, [], ◌∷◌, filter, Option, Some, None}
use Rattle.pgs_name.specs.Families.{Family}
use Rattle.pgs_name.specs.declared.object_id.ObjectId.{ObjectId}
use Rattle.pgs_chunk.specs.Listings.{placed}
use Rattle.pgs_copy.specs.declared.effect.Effect.{Effect}
use Rattle.pgs_store.specs.Firsts.{at_snap}
use Rattle.pgs_store.specs.Stores.{is_stored}
use Rattle.pgs_medium.specs.declared.item.Item.{Item}
use Rattle.pgs_shard_history.specs.Feeds.{fed, item_of}
use Rattle.pgs_shard_history.specs.Stores.{stored_by}
use Rattle.pgs_shard_history.specs.declared.event.Event.{Event}
use Rattle.pgs_shard_history.specs.declared.event.Event.TheVariants.{Applied, Damaged}
use Rattle.pgs_shard_history.specs.declared.damage_answer.DamageAnswer.TheVariants as answers

-- positions with those that effects on a family's copies name
abbrev pub with_named : Family → List (ℕ × Effect) → List ObjectId → List ObjectId
with_named family [] before = before
with_named family (effect ∷ effects) before = placed (at_snap family effect.0) (with_named family effects before)

-- positions with those that an item names, if there is one
abbrev pub with_item : Option Item → List ObjectId → List ObjectId
with_item None before = before
with_item (Some item) before = with_named item.family item.effects before

-- an item that is applied names the positions of its effects, and damage that is done names one
abbrev pub touched_after : Event → List Item → List ObjectId → List ObjectId
touched_after (Applied number drops) items before = with_item (item_of number items) before
touched_after (Damaged family snap damage answers.Damaged) items before = placed (at_snap family snap) before
touched_after _ items before = before

-- the positions that were named, each once and in order
abbrev pub touched : List Event → List ObjectId
touched [] = []
touched (event ∷ past) = touched_after event (fed past) (touched past)

-- those of them at which a copy is stored
abbrev pub positions : List Event → List ObjectId
positions past = filter (is_stored (stored_by past)) (touched past)
