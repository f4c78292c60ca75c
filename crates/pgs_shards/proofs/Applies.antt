-- What applying the next item answers and leaves follows from what was fed and applied, and from the device.
use Rattle.std.proofs.Common.{◌≡◌, ℕ, ◌+◌, ◌≤◌, ◌<◌, true, false, cond, List, length, Option, Some, None, Result, Ok, Err, refl, sym, ap, ◌∙◌, arith}
use Rattle.std.proofs.lemmas.Bool.Decides.{nat_tests}
use Rattle.pgs_bytes.proofs.Facts.{none_some, some_same}
use Rattle.pgs_medium.specs.Calls.{one_more}
use Rattle.pgs_medium.specs.Device.{Device, IsTold}
use Rattle.pgs_medium.specs.Ram.{device_of}
use Rattle.pgs_medium.specs.declared.call_kind.CallKind.TheVariants as kinds
use Rattle.pgs_medium.specs.declared.item.Item.{Item}
use Rattle.pgs_medium.specs.declared.ram_medium.RamMedium.{RamMedium}
use Rattle.pgs_shard_history.specs.Feeds.{fed, item_of}
use Rattle.pgs_shard_history.specs.Scanning.{scanning, drop_of}
use Rattle.pgs_shard_history.specs.Stores.{applied}
use Rattle.pgs_shard_history.specs.declared.event.Event.{Event}
use Rattle.pgs_shard.specs.Answers.{IsApplied, IsDoneAt, past_after_apply}
use Rattle.pgs_shard.specs.State.{ShardState}
use Rattle.pgs_shard.specs.declared.applied.Applied.{Applied}
use Rattle.pgs_shard.specs.declared.applied.Applied.TheVariants as shard_answers
use Rattle.pgs_shard.specs.declared.apply_error.ApplyError.{ApplyError}
use Rattle.pgs_shard.specs.declared.apply_error.ApplyError.TheVariants as errors
use Rattle.pgs_shards.specs.Applies.{waits, next_number, next_drops, apply_answer, applied_by, after_apply}
use Rattle.pgs_shards.specs.Devices.{calls_seen, fails, answered}
use Rattle.pgs_shards.specs.Kept.{seen, apply_said}
use Rattle.pgs_shards.specs.Members.{Member}
use Rattle.pgs_shards.specs.declared.apply_answer.ApplyAnswer.{ApplyAnswer}
use Rattle.pgs_shards.specs.declared.apply_answer.ApplyAnswer.TheVariants as answers
use Rattle.pgs_shards.proofs.Called.{IsKnown, told_is, failed_is}

abbrev Shard : Type 0
Shard = ShardState RamMedium

-- a member over a device
abbrev member : ℕ → List Event → Device → Member
member osd past device = record { osd = osd; past = past; device = calls_seen device }

waits_not : (past : List Event) → applied past ≡ length (fed past) → waits past ≡ false
waits_not past e = grind (arith, nat_tests)

waits_so : (past : List Event) (number : ℕ) → number ≡ applied past + 1 → number ≤ length (fed past) → waits past ≡ true
waits_so past number e h = grind (arith, nat_tests)

waits_on : (past : List Event) → applied past < length (fed past) → waits past ≡ true
waits_on past h = grind (arith, nat_tests)

-- the answers, by whether an item waits and whether the device fails
answer_idle : (m : Member) → waits m.past ≡ false → apply_answer m ≡ answers.NotYet (applied m.past)
answer_idle m w =
    ap (λ b. cond b (cond (fails kinds.Write m.device) (answers.DeviceFault (one_more m.device.faults)) (answers.Applied (next_number m.past) (next_drops m.past))) (answers.NotYet (applied m.past))) w

answer_fails : (m : Member) → waits m.past ≡ true → fails kinds.Write m.device ≡ true → apply_answer m ≡ answers.DeviceFault (one_more m.device.faults)
answer_fails m w f =
    λ i. cond (w i) (cond (f i) (answers.DeviceFault (one_more m.device.faults)) (answers.Applied (next_number m.past) (next_drops m.past))) (answers.NotYet (applied m.past))

answer_done : (m : Member) → waits m.past ≡ true → fails kinds.Write m.device ≡ false → apply_answer m ≡ answers.Applied (next_number m.past) (next_drops m.past)
answer_done m w f =
    λ i. cond (w i) (cond (f i) (answers.DeviceFault (one_more m.device.faults)) (answers.Applied (next_number m.past) (next_drops m.past))) (answers.NotYet (applied m.past))

-- the number and what it drops are the next ones
next_is : (past : List Event) (number : ℕ) (drops : Option ℕ) → number ≡ applied past + 1 → drops ≡ drop_of (scanning past) (item_of number (fed past)) → drops ≡ next_drops past
next_is past number drops n d = d ∙ ap (λ k. drop_of (scanning past) (item_of k (fed past))) n

written_told : (asked : Option Item) (old new : Device) → IsDoneAt asked old new → IsTold kinds.Write old false
written_told None old new h = absurd h
written_told (Some item) old new h = h.1

written_is : (asked : Option Item) (old new : Device) → IsDoneAt asked old new → calls_seen new ≡ answered kinds.Write (calls_seen old)
written_is None old new h = absurd h
written_is (Some item) old new h = ap calls_seen h.0

-- what is answered, and what is left by it
answer_is : (osd : ℕ) (past : List Event) (old new : Device) (r : Result Applied ApplyError) (answer : ApplyAnswer) → IsKnown old → apply_said r ≡ Some answer → IsApplied past old r new
    → answer ≡ apply_answer (member osd past old)
answer_is osd past old new (Ok (shard_answers.NotYet count)) answer known said h =
    sym (some_same (answers.NotYet count) answer said) ∙ ap answers.NotYet h.0 ∙ sym (answer_idle (member osd past old) (waits_not past (sym h.0 ∙ h.1)))
answer_is osd past old new (Ok (shard_answers.Applied number drops)) answer known said h =
    sym (some_same (answers.Applied number drops) answer said)
    ∙ (λ i. answers.Applied (h.0 i) (next_is past number drops h.0 h.3 i))
    ∙ sym (answer_done (member osd past old) (waits_so past number h.0 h.1) (told_is kinds.Write old false known (written_told (item_of number (fed past)) old new h.2)))
answer_is osd past old new (Err (errors.DeviceFault count)) answer known said h =
    let is = failed_is kinds.Write old new known h.2 in
    sym (some_same (answers.DeviceFault count) answer said) ∙ ap answers.DeviceFault (h.1 ∙ is.2) ∙ sym (answer_fails (member osd past old) (waits_on past h.0) is.0)
answer_is osd past old new (Err errors.Memory) answer known said h = absurd (none_some answer said)

left_is : (osd osd' : ℕ) (past past' : List Event) (old new : Device) (r : Result Applied ApplyError) (answer : ApplyAnswer) → IsKnown old → apply_said r ≡ Some answer → IsApplied past old r new
    → osd' ≡ osd → past' ≡ past_after_apply r past → member osd' past' new ≡ applied_by answer (member osd past old)
left_is osd osd' past past' old new (Ok (shard_answers.NotYet count)) answer known said h o p =
    (λ i. record { osd = o i; past = p i; device = calls_seen (h.2 i) }) ∙ ap (λ a. applied_by a (member osd past old)) (some_same (answers.NotYet count) answer said)
left_is osd osd' past past' old new (Ok (shard_answers.Applied number drops)) answer known said h o p =
    let d = written_is (item_of number (fed past)) old new h.2 in
    (λ i. record { osd = o i; past = p i; device = d i }) ∙ ap (λ a. applied_by a (member osd past old)) (some_same (answers.Applied number drops) answer said)
left_is osd osd' past past' old new (Err (errors.DeviceFault count)) answer known said h o p =
    let is = failed_is kinds.Write old new known h.2 in
    (λ i. record { osd = o i; past = p i; device = is.1 i }) ∙ ap (λ a. applied_by a (member osd past old)) (some_same (answers.DeviceFault count) answer said)
left_is osd osd' past past' old new (Err errors.Memory) answer known said h o p = absurd (none_some answer said)

lost_is : (osd osd' : ℕ) (past past' : List Event) (old new : Device) (r : Result Applied ApplyError) → None ≡ apply_said r → IsApplied past old r new → osd' ≡ osd
    → past' ≡ past_after_apply r past → member osd' past' new ≡ member osd past old
lost_is osd osd' past past' old new (Ok (shard_answers.NotYet count)) said h o p = absurd (none_some (answers.NotYet count) said)
lost_is osd osd' past past' old new (Ok (shard_answers.Applied number drops)) said h o p = absurd (none_some (answers.Applied number drops) said)
lost_is osd osd' past past' old new (Err (errors.DeviceFault count)) said h o p = absurd (none_some (answers.DeviceFault count) said)
lost_is osd osd' past past' old new (Err errors.Memory) said h o p = λ i. record { osd = o i; past = p i; device = calls_seen (h i) }

-- of a shard in memory
known : (shard : Shard) → IsKnown (device_of shard.medium)
known shard = (shard.medium.failing, refl)

pub apply_told : (old new : Shard) (r : Result Applied ApplyError) (answer : ApplyAnswer) → apply_said r ≡ Some answer → IsApplied old.past (device_of old.medium) r (device_of new.medium)
    → answer ≡ apply_answer (seen old)
apply_told old new r answer said h = answer_is old.osd old.past (device_of old.medium) (device_of new.medium) r answer (known old) said h

pub apply_kept : (old new : Shard) (r : Result Applied ApplyError) (answer : ApplyAnswer) → apply_said r ≡ Some answer → IsApplied old.past (device_of old.medium) r (device_of new.medium)
    → new.osd ≡ old.osd → new.past ≡ past_after_apply r old.past → seen new ≡ after_apply (seen old)
apply_kept old new r answer said h o p =
    left_is old.osd new.osd old.past new.past (device_of old.medium) (device_of new.medium) r answer (known old) said h o p ∙ ap (λ a. applied_by a (seen old)) (apply_told old new r answer said h)

pub apply_lost : (old new : Shard) (r : Result Applied ApplyError) → apply_said r ≡ None → IsApplied old.past (device_of old.medium) r (device_of new.medium)
    → new.osd ≡ old.osd → new.past ≡ past_after_apply r old.past → seen new ≡ seen old
apply_lost old new r said h o p = lost_is old.osd new.osd old.past new.past (device_of old.medium) (device_of new.medium) r (sym said) h o p

pub ruleset applies = (apply_told, apply_kept, apply_lost)
