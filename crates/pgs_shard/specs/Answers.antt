-- What a shard answers, and what it keeps.
use Rattle.std.specs.Prelude.{ℕ, ◌≡◌, ◌+◌, ◌<◌, ◌≤◌, List, ◌∷◌, length, Option, Some, None, Result, Ok, Err}
use Rattle.pgs_name.specs.Families.{Family}
use Rattle.pgs_copy.specs.declared.damage.Damage.{Damage}
use Rattle.pgs_medium.specs.Device.{Device, IsWritten, IsDone, IsFailed, with_damage}
use Rattle.pgs_medium.specs.declared.call_kind.CallKind.TheVariants as kinds
use Rattle.pgs_medium.specs.declared.item.Item.{Item}
use Rattle.pgs_medium.specs.declared.medium_error.MediumError.{MediumError}
use Rattle.pgs_shard_history.specs.Feeds.{fed, item_of}
use Rattle.pgs_shard_history.specs.Scanning.{scanning, drop_of}
use Rattle.pgs_shard_history.specs.Stores.{applied as applied_in}
use Rattle.pgs_shard_history.specs.declared.event.Event.{Event}
use Rattle.pgs_shard_history.specs.declared.event.Event.TheVariants as event
use Rattle.pgs_shard.specs.declared.applied.Applied.{Applied}
use Rattle.pgs_shard.specs.declared.applied.Applied.TheVariants as applied
use Rattle.pgs_shard_history.specs.declared.damage_answer.DamageAnswer.{DamageAnswer}
use Rattle.pgs_shard_history.specs.declared.damage_answer.DamageAnswer.TheVariants as damages
use Rattle.pgs_shard.specs.declared.apply_error.ApplyError.{ApplyError}
use Rattle.pgs_shard.specs.declared.apply_error.ApplyError.TheVariants.{DeviceFault, Memory}

-- an item was asked for and is there, and this is what writing it leaves
abbrev pub IsWrittenAt : {A : Type 0} → Option Item → Device → Result A MediumError → Device → Type 0
IsWrittenAt None old answer new = ⊥
IsWrittenAt (Some item) old answer new = IsWritten item old answer new

-- an item was asked for and is there, and it was written
abbrev pub IsDoneAt : Option Item → Device → Device → Type 0
IsDoneAt None old new = ⊥
IsDoneAt (Some item) old new = IsDone item old new

-- The answer where the next item is to be applied, after a history, with the device before and after: all that was fed is applied, and the device wasn't asked; or the next item is there and was written, and the scan or the map that it touches is dropped; or it is there, and the device failed and counts so many faults; or memory ran out, and the device is as before.
abbrev pub IsApplied : List Event → Device → Result Applied ApplyError → Device → Type 0
IsApplied past old (Ok (applied.NotYet count)) new = (count ≡ applied_in past) × (count ≡ length (fed past)) × (new ≡ old)
IsApplied past old (Ok (applied.Applied number drops)) new =
    (number ≡ applied_in past + 1) × (number ≤ length (fed past)) × IsDoneAt (item_of number (fed past)) old new × (drops ≡ drop_of (scanning past) (item_of number (fed past)))
IsApplied past old (Err (DeviceFault count)) new = (applied_in past < length (fed past)) × (count ≡ new.faults) × IsFailed kinds.Write old new
IsApplied past old (Err Memory) new = new ≡ old

-- the history after an answer: an item that is applied is kept, and so is a fault of the device
abbrev pub past_after_apply : Result Applied ApplyError → List Event → List Event
past_after_apply (Ok (applied.NotYet count)) past = past
past_after_apply (Ok (applied.Applied number drops)) past = event.Applied number drops ∷ past
past_after_apply (Err (DeviceFault count)) past = event.DeviceFault count ∷ past
past_after_apply (Err Memory) past = past

-- what damage leaves of a device, by its answer: nothing changes where it is refused, or where memory runs out
abbrev pub IsDamaged : {E : Type 0} → Family → ℕ → Damage → Device → Result DamageAnswer E → Device → Type 0
IsDamaged family snap damage old (Ok damages.Damaged) new = new ≡ with_damage family snap damage old
IsDamaged family snap damage old (Ok damages.BeingRead) new = new ≡ old
IsDamaged family snap damage old (Ok (damages.ShardFull bytes)) new = new ≡ old
IsDamaged family snap damage old (Err _) new = new ≡ old

-- the history after damage, which is kept where memory was there
abbrev pub past_after_damage : {E : Type 0} → Family → ℕ → Damage → Result DamageAnswer E → List Event → List Event
past_after_damage family snap damage (Ok answer) past = event.Damaged family snap damage answer ∷ past
past_after_damage family snap damage (Err _) past = past
