-- What listing a shard's positions leaves of its device.
use Rattle.std.specs.Prelude.{ℕ, zero, suc, ◌≡◌, ◌<◌, false, if◌then◌else◌, List, ◌∷◌, length, Result, Ok, Err}
use Rattle.pgs_name.specs.declared.object_id.ObjectId.{ObjectId}
use Rattle.pgs_chunk.specs.Listings.{is_full}
use Rattle.pgs_medium.specs.Device.{Device, IsFailed, IsTold, listed}
use Rattle.pgs_medium.specs.declared.call_kind.CallKind.TheVariants as kinds
use Rattle.pgs_medium.specs.declared.medium_error.MediumError.{MediumError}
use Rattle.pgs_medium.specs.declared.medium_error.MediumError.TheVariants as medium
use Rattle.pgs_shard_history.specs.declared.event.Event.{Event}
use Rattle.pgs_shard_history.specs.declared.event.Event.TheVariants.{ListFailed}
use Rattle.pgs_shard.specs.declared.list_error.ListError.{ListError}
use Rattle.pgs_shard.specs.declared.list_error.ListError.TheVariants.{ListFault, Memory}

-- a device after so many listings that it answered
abbrev pub answered : ℕ → Device → Device
answered zero device = device
answered (suc calls) device = listed (answered calls device)

-- how often a device is asked where it lists so many positions: once for each, and once more where the end is reached
abbrev pub calls_for : ℕ → List ObjectId → ℕ
calls_for limit ids = if is_full limit ids then length ids else suc (length ids)

-- none of so many listings is to fail, where that is told
abbrev pub AreUnnamed : ℕ → Device → Type 0
AreUnnamed zero device = Unit {0}
AreUnnamed (suc calls) device = AreUnnamed calls device × IsTold kinds.List (answered calls device) false

-- a device answered so many listings, of which none is to fail
pub record IsAnsweredAll (calls : ℕ) (old new : Device) : Type 0 where
  pub left : new ≡ answered calls old
  pub unnamed : AreUnnamed calls old

-- a device failed at a listing, after some that it answered, and before so many were made
pub record IsFailedAfter (most : ℕ) (old new : Device) : Type 0 where
  pub calls : ℕ
  pub fewer : calls < most
  pub unnamed : AreUnnamed calls old
  pub failed : IsFailed kinds.List (answered calls old) new

-- What a call of the device answers and leaves, where positions are listed one by one, and these are all that are to be: a failure comes before they are. Memory may run out after some calls.
abbrev pub IsListedOn : ℕ → List ObjectId → Device → Result (List ObjectId) MediumError → Device → Type 0
IsListedOn limit whole old (Ok ids) new = IsAnsweredAll (calls_for limit ids) old new
IsListedOn limit whole old (Err medium.Failed) new = IsFailedAfter (calls_for limit whole) old new
IsListedOn limit whole old (Err medium.Memory) new = (calls : ℕ) × (new ≡ answered calls old)

-- the same of a shard's answer, which tells the device's count
abbrev pub IsListAnswer : ℕ → List ObjectId → Device → Result (List ObjectId) ListError → Device → Type 0
IsListAnswer limit whole old (Ok ids) new = IsAnsweredAll (calls_for limit ids) old new
IsListAnswer limit whole old (Err (ListFault count)) new = (count ≡ new.faults) × IsFailedAfter (calls_for limit whole) old new
IsListAnswer limit whole old (Err Memory) new = (calls : ℕ) × (new ≡ answered calls old)

-- the history after an answer: a failure of the device is kept
abbrev pub past_after_list : {A : Type 0} → Result A ListError → List Event → List Event
past_after_list (Ok ids) past = past
past_after_list (Err (ListFault count)) past = ListFailed count ∷ past
past_after_list (Err Memory) past = past
