-- Applying the next item.
use Rattle.std.specs.Prelude.{ℕ, Bool, ◌+◌, nat_lt, List, ◌∷◌, length, Option, if◌then◌else◌}
use Rattle.pgs_medium.specs.Calls.{one_more}
use Rattle.pgs_medium.specs.declared.call_kind.CallKind.TheVariants as kinds
use Rattle.pgs_shard_history.specs.Feeds.{fed, item_of}
use Rattle.pgs_shard_history.specs.Scanning.{scanning, drop_of}
use Rattle.pgs_shard_history.specs.Stores.{applied}
use Rattle.pgs_shard_history.specs.declared.event.Event.{Event}
use Rattle.pgs_shard_history.specs.declared.event.Event.TheVariants as events
use Rattle.pgs_shards.specs.Devices.{fails, answered, failed}
use Rattle.pgs_shards.specs.Members.{Member, of_member, with_member}
use Rattle.pgs_shards.specs.declared.apply_answer.ApplyAnswer.{ApplyAnswer}
use Rattle.pgs_shards.specs.declared.apply_answer.ApplyAnswer.TheVariants as answers

-- whether an item waits that was fed and isn't applied
abbrev pub waits : List Event → Bool
waits past = nat_lt (applied past) (length (fed past))

-- the number of the next item, and the chunk whose scan or map it drops
abbrev pub next_number : List Event → ℕ
next_number past = applied past + 1

abbrev pub next_drops : List Event → Option ℕ
next_drops past = drop_of (scanning past) (item_of (next_number past) (fed past))

-- what a member answers that applies its next item: that none waits, that its device failed, or the number of the item that is applied and the chunk whose
-- scan or map it drops
abbrev pub apply_answer : Member → ApplyAnswer
apply_answer member =
    if waits member.past
    then (if fails kinds.Write member.device then answers.DeviceFault (one_more member.device.faults) else answers.Applied (next_number member.past) (next_drops member.past))
    else answers.NotYet (applied member.past)

abbrev pub applied_by : ApplyAnswer → Member → Member
applied_by (answers.NotYet count) member = member
applied_by (answers.Applied number drops) member = record member { past = events.Applied number drops ∷ member.past; device = answered kinds.Write member.device }
applied_by (answers.DeviceFault count) member = record member { past = events.DeviceFault count ∷ member.past; device = failed kinds.Write member.device }

-- a member after it
abbrev pub after_apply : Member → Member
after_apply member = applied_by (apply_answer member) member

-- of an OSD: one that is no member has nothing to apply
abbrev pub apply_in : List Member → ℕ → ApplyAnswer
apply_in members osd = of_member apply_answer (answers.NotYet 0) members osd

abbrev pub with_applied : ℕ → List Member → List Member
with_applied osd members = with_member osd after_apply members
