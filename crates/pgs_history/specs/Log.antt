-- The log of a group, by its events, the newest first: the items of the writes that were accepted, at once or when they were taken up.
use Rattle.std.specs.Prelude.{ℕ, ◌+◌, List, [], ◌∷◌, ◌++◌, if◌then◌else◌}
use Rattle.std.specs.List.{list_any, sum_by}
use Rattle.pgs_name.specs.Families.{Family}
use Rattle.pgs_name.specs.Positions.{same_position}
use Rattle.pgs_name.specs.declared.object_id.ObjectId.{ObjectId}
use Rattle.pgs_copy.specs.declared.effect.Effect.{Effect}
use Rattle.pgs_store.specs.Firsts.{at_snap}
use Rattle.pgs_store.specs.Stores.{Stored, nothing_stored, affected, copy_size}
use Rattle.pgs_request.specs.Ops.{payload_size}
use Rattle.pgs_request.specs.declared.req_id.ReqId.{ReqId}
use Rattle.pgs_request.specs.declared.version.Version.{Version}
use Rattle.pgs_op.specs.Refusals.{effects_on}
use Rattle.pgs_op.specs.declared.write.Write.{Write}
use Rattle.pgs_medium.specs.declared.item.Item.{Item}
use Rattle.pgs_history.specs.declared.write_answer.WriteAnswer.TheVariants.{Accepted}
use Rattle.pgs_history.specs.declared.event.Event.{Event}
use Rattle.pgs_history.specs.declared.event.Event.TheVariants.{Submit, Admit}

-- ---- the store of the items alone

-- what items make, applied in turn to nothing: the clean store
abbrev pub clean : List Item → Stored
clean [] = nothing_stored
clean (item ∷ items) = affected item.family item.effects (clean items)

-- a list of positions with one more, at its end, unless it has it
abbrev pub with_position : ObjectId → List ObjectId → List ObjectId
with_position id ids = if list_any (same_position id) ids then ids else ids ++ id ∷ []

-- with those that effects on a family are on
abbrev pub with_positions : Family → List (ℕ × Effect) → List ObjectId → List ObjectId
with_positions family [] ids = ids
with_positions family (e ∷ es) ids = with_position (at_snap family e.0) (with_positions family es ids)

-- the positions that items name, each once
abbrev pub positions : List Item → List ObjectId
positions [] = []
positions (item ∷ items) = with_positions item.family item.effects (positions items)

-- the bytes of the copies that the items make
abbrev pub stored_size : Stored → ObjectId → ℕ
stored_size stored id = copy_size (stored id.family id.snap)

abbrev pub held : List Item → ℕ
held items = sum_by (stored_size (clean items)) (positions items)

-- ---- the log

-- the item that a write makes where these items are the log
abbrev pub item_of : Version → Write → List Item → Item
item_of version write items = record {
  number = version.number;
  epoch = version.epoch;
  family = write.family;
  effects = effects_on (clean items write.family) write version;
}

abbrev pub log_after : Event → List Item → List Item
log_after (Submit write (Accepted version preempts)) items = item_of version write items ∷ items
log_after (Admit write (Accepted version preempts)) items = item_of version write items ∷ items
log_after event items = items

-- its items
abbrev pub log : List Event → List Item
log [] = []
log (event ∷ past) = log_after event (log past)

abbrev pub ids_after : Event → List (ReqId × Version) → List (ReqId × Version)
ids_after (Submit write (Accepted version preempts)) ids = (write.id, version) ∷ ids
ids_after (Admit write (Accepted version preempts)) ids = (write.id, version) ∷ ids
ids_after event ids = ids

-- the ids of its requests, with their versions
abbrev pub ids : List Event → List (ReqId × Version)
ids [] = []
ids (event ∷ past) = ids_after event (ids past)

abbrev pub log_bytes_after : Event → ℕ → ℕ
log_bytes_after (Submit write (Accepted version preempts)) bytes = bytes + payload_size write.op
log_bytes_after (Admit write (Accepted version preempts)) bytes = bytes + payload_size write.op
log_bytes_after event bytes = bytes

-- the bytes that it counts: those of the payloads
abbrev pub log_bytes : List Event → ℕ
log_bytes [] = 0
log_bytes (event ∷ past) = log_bytes_after event (log_bytes past)
