-- How the shards in memory are seen.
use Rattle.std.specs.Prelude.{ℕ, ◌≡◌, ◌≤◌, ◌==◌, Bool, List, map, Option, Some, None, Result, Ok, Err}
use Rattle.std.specs.List.{AllByRecursion}
use Rattle.pgs_medium.specs.Ram.{device_of}
use Rattle.pgs_medium.specs.declared.ram_medium.RamMedium.{RamMedium}
use Rattle.pgs_shard.specs.State.{ShardState}
use Rattle.pgs_name.specs.declared.object_id.ObjectId.{ObjectId}
use Rattle.pgs_shards.specs.Devices.{DeviceCalls, calls_seen}
use Rattle.pgs_shard.specs.declared.applied.Applied.{Applied}
use Rattle.pgs_shard.specs.declared.applied.Applied.TheVariants as shard_applied
use Rattle.pgs_shard.specs.declared.apply_error.ApplyError.{ApplyError}
use Rattle.pgs_shard.specs.declared.apply_error.ApplyError.TheVariants as apply_errors
use Rattle.pgs_shard.specs.declared.list_error.ListError.{ListError}
use Rattle.pgs_shard.specs.declared.list_error.ListError.TheVariants as list_errors
use Rattle.pgs_shards.specs.Members.{Member, ShardsState, device_in, with_device}
use Rattle.pgs_shards.specs.declared.apply_answer.ApplyAnswer.{ApplyAnswer}
use Rattle.pgs_shards.specs.declared.apply_answer.ApplyAnswer.TheVariants as apply_answers
use Rattle.pgs_shards.specs.declared.list_answer.ListAnswer.{ListAnswer}
use Rattle.pgs_shards.specs.declared.list_answer.ListAnswer.TheVariants as list_answers

-- a shard by its OSD, its events and its device's calls
abbrev pub seen : ShardState RamMedium → Member
seen shard = record { osd = shard.osd; past = shard.past; device = calls_seen (device_of shard.medium) }

-- shards that read so many bytes at a step
unfoldable pub shards_seen : ℕ → List (ShardState RamMedium) → ShardsState
shards_seen stride shards = record { stride = stride; all = map seen shards }

-- all read so many bytes at a step
abbrev pub AreOfStride : ℕ → List (ShardState RamMedium) → Type 0
AreOfStride stride shards = AllByRecursion (λ shard. shard.stride ≡ stride) shards

-- a shard of this OSD
abbrev pub is_of : ℕ → ShardState RamMedium → Bool
is_of osd shard = shard.osd == osd

-- ---- what a shard's answers say, if memory was there

abbrev pub apply_said : Result Applied ApplyError → Option ApplyAnswer
apply_said (Ok (shard_applied.NotYet count)) = Some (apply_answers.NotYet count)
apply_said (Ok (shard_applied.Applied number drops)) = Some (apply_answers.Applied number drops)
apply_said (Err (apply_errors.DeviceFault count)) = Some (apply_answers.DeviceFault count)
apply_said (Err apply_errors.Memory) = None

abbrev pub list_said : Result (List ObjectId) ListError → Option ListAnswer
list_said (Ok ids) = Some (list_answers.Listed ids)
list_said (Err (list_errors.ListFault count)) = Some (list_answers.Fault count)
list_said (Err list_errors.Memory) = None

-- ---- where memory ran out

-- further calls of a device may have been made
pub record IsCalledOn (old new : DeviceCalls) : Type 0 where
  pub failing : new.failing ≡ old.failing
  pub faults : old.faults ≤ new.faults

-- a member keeps its events, and further calls of its device may have been made
pub record IsMemberCalledOn (old new : Member) : Type 0 where
  pub osd : new.osd ≡ old.osd
  pub past : new.past ≡ old.past
  pub device : IsCalledOn old.device new.device

-- members of which that of an OSD may have made further calls of its device
pub record AreCalledOn (osd : ℕ) (old new : ShardsState) : Type 0 where
  pub device : DeviceCalls
  pub calls : IsCalledOn (device_in old.all osd) device
  pub left : new ≡ record old { all = with_device osd device old.all }
