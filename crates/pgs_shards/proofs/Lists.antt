-- What listing answers and leaves follows from the first of its calls that fails.
use Rattle.std.proofs.Common.{◌≡◌, ℕ, zero, suc, ◌<◌, true, false, cond, List, ◌∷◌, Some, None, option_map, Result, Ok, Err, IfOk, refl, sym, ap, ◌∙◌, subst, arith}
use Rattle.pgs_bytes.proofs.Facts.{none_some, some_same}
use Rattle.pgs_name.specs.declared.object_id.ObjectId.{ObjectId}
use Rattle.pgs_range.specs.declared.bound.Bound.{Bound}
use Rattle.pgs_medium.specs.Calls.{one_more}
use Rattle.pgs_medium.specs.Device.{Device}
use Rattle.pgs_medium.specs.Ram.{device_of}
use Rattle.pgs_medium.specs.declared.call_kind.CallKind.TheVariants as kinds
use Rattle.pgs_medium.specs.declared.ram_medium.RamMedium.{RamMedium}
use Rattle.pgs_chunk.specs.Listings.{listing}
use Rattle.pgs_shard_history.specs.Positions.{positions}
use Rattle.pgs_shard_history.specs.declared.event.Event.{Event}
use Rattle.pgs_shard_history.specs.declared.event.Event.TheVariants.{ListFailed}
use Rattle.pgs_shard.specs.Listed.{answered, calls_for, AreUnnamed, IsAnsweredAll, IsFailedAfter, IsListAnswer, past_after_list}
use Rattle.pgs_shard.specs.State.{ShardState}
use Rattle.pgs_shard.specs.declared.list_error.ListError.{ListError}
use Rattle.pgs_shard.specs.declared.list_error.ListError.TheVariants as errors
use Rattle.pgs_shards.specs.Devices as devices
use Rattle.pgs_shards.specs.Devices.{DeviceCalls, calls_seen, fails, failed, answered_all}
use Rattle.pgs_shards.specs.Kept.{seen, list_said, IsCalledOn, IsMemberCalledOn}
use Rattle.pgs_shards.specs.Listings.{first_failing, list_told, list_answer, listed_by, after_list}
use Rattle.pgs_shards.specs.Members.{Member}
use Rattle.pgs_shards.specs.declared.list_answer.ListAnswer.{ListAnswer}
use Rattle.pgs_shards.specs.declared.list_answer.ListAnswer.TheVariants as answers
use Rattle.pgs_shards.proofs.Called.{IsKnown, told_is, failed_is, listings_seen, listings_faults, listings_failing, one_before}

abbrev Shard : Type 0
Shard = ShardState RamMedium

-- a member over a device
abbrev member : ℕ → List Event → Device → Member
member osd past device = record { osd = osd; past = past; device = calls_seen device }

-- ---- the first call that fails

-- none of so many listings fails
abbrev NoneFails : ℕ → DeviceCalls → Type 0
NoneFails zero device = Unit {0}
NoneFails (suc calls) device = NoneFails calls device × (fails kinds.List (answered_all kinds.List calls device) ≡ false)

none_fails : (calls : ℕ) (device : Device) → IsKnown device → AreUnnamed calls device → NoneFails calls (calls_seen device)
none_fails zero device known h = tt
none_fails (suc calls) device known h = (
  none_fails calls device known h.0,
  ap (λ d. fails kinds.List d) (sym (listings_seen calls device)) ∙ told_is kinds.List (answered calls device) false (known.0, listings_failing calls device ∙ known.1) h.1,
)

-- the first of several calls, and the others
fails_front : (calls : ℕ) (device : DeviceCalls) → NoneFails (suc calls) device → (fails kinds.List device ≡ false) × NoneFails calls (devices.answered kinds.List device)
fails_front zero device h = (h.1, tt)
fails_front (suc calls) device h =
    let front = fails_front calls device h.0 in
    (front.0, (front.1, ap (λ d. fails kinds.List d) (sym (one_before calls device)) ∙ h.1))

none_first : (calls : ℕ) (device : DeviceCalls) → NoneFails calls device → first_failing calls device ≡ None
none_first zero device h = refl
none_first (suc calls) device h =
    let front = fails_front calls device h in
    ap (λ v. cond v (Some zero) (option_map (λ n. suc n) (first_failing calls (devices.answered kinds.List device)))) front.0
    ∙ ap (option_map (λ n. suc n)) (none_first calls (devices.answered kinds.List device) front.1)

some_first : (before most : ℕ) (device : DeviceCalls) → before < most → NoneFails before device → fails kinds.List (answered_all kinds.List before device) ≡ true
    → first_failing most device ≡ Some before
some_first before zero device less h f = absurd (omega (arith, less))
some_first zero (suc most) device less h f = ap (λ v. cond v (Some zero) (option_map (λ n. suc n) (first_failing most (devices.answered kinds.List device)))) f
some_first (suc before) (suc most) device less h f =
    let front = fails_front before device h in
    let further : suc before < suc most = less in
    ap (λ v. cond v (Some zero) (option_map (λ n. suc n) (first_failing most (devices.answered kinds.List device)))) front.0
    ∙ ap (option_map (λ n. suc n))
    (some_first before most (devices.answered kinds.List device) (omega (arith, further)) front.1 (ap (λ d. fails kinds.List d) (sym (one_before before device)) ∙ f))

-- ---- what is answered and left

all_first : (limit : ℕ) (whole ids : List ObjectId) (old new : Device) → IsKnown old → ids ≡ whole → IsAnsweredAll (calls_for limit ids) old new
    → (first_failing (calls_for limit whole) (calls_seen old) ≡ None) × (calls_seen new ≡ answered_all kinds.List (calls_for limit whole) (calls_seen old))
all_first limit whole ids old new known e h =
    let all : IsAnsweredAll (calls_for limit whole) old new = subst (λ l. IsAnsweredAll (calls_for limit l) old new) e h in
    (none_first (calls_for limit whole) (calls_seen old) (none_fails (calls_for limit whole) old known all.unnamed), ap calls_seen all.left ∙ listings_seen (calls_for limit whole) old)

failed_first : (most : ℕ) (old new : Device) → IsKnown old → (h : IsFailedAfter most old new)
    → (first_failing most (calls_seen old) ≡ Some h.calls) × (calls_seen new ≡ failed kinds.List (answered_all kinds.List h.calls (calls_seen old))) × (new.faults ≡ one_more old.faults)
failed_first most old new known h =
    let is = failed_is kinds.List (answered h.calls old) new (known.0, listings_failing h.calls old ∙ known.1) h.failed in (
      some_first h.calls most (calls_seen old) h.fewer (none_fails h.calls old known h.unnamed) (ap (λ d. fails kinds.List d) (sym (listings_seen h.calls old)) ∙ is.0),
      is.1 ∙ ap (λ d. failed kinds.List d) (listings_seen h.calls old),
      is.2 ∙ ap one_more (listings_faults h.calls old),
    )

answer_is : (limit : ℕ) (start : Bound) (osd : ℕ) (past : List Event) (old new : Device) (r : Result (List ObjectId) ListError) (answer : ListAnswer) → IsKnown old → list_said r ≡ Some answer
    → IfOk r (λ ids. ids ≡ listing limit start (positions past)) → IsListAnswer limit (listing limit start (positions past)) old r new → answer ≡ list_answer limit start (member osd past old)
answer_is limit start osd past old new (Ok ids) answer known said is h =
    let all = all_first limit (listing limit start (positions past)) ids old new known is h in
    sym (some_same (answers.Listed ids) answer said) ∙ ap answers.Listed is ∙ sym (ap (λ f. list_told f limit start (member osd past old)) all.0)
answer_is limit start osd past old new (Err (errors.ListFault count)) answer known said is h =
    let first = failed_first (calls_for limit (listing limit start (positions past))) old new known h.1 in
    sym (some_same (answers.Fault count) answer said) ∙ ap answers.Fault (h.0 ∙ first.2) ∙ sym (ap (λ f. list_told f limit start (member osd past old)) first.0)
answer_is limit start osd past old new (Err errors.Memory) answer known said is h = absurd (none_some answer said)

left_is : (limit : ℕ) (start : Bound) (osd osd' : ℕ) (past past' : List Event) (old new : Device) (r : Result (List ObjectId) ListError) (answer : ListAnswer) → IsKnown old
    → list_said r ≡ Some answer → IfOk r (λ ids. ids ≡ listing limit start (positions past)) → IsListAnswer limit (listing limit start (positions past)) old r new → osd' ≡ osd
    → past' ≡ past_after_list r past → member osd' past' new ≡ after_list limit start (member osd past old)
left_is limit start osd osd' past past' old new (Ok ids) answer known said is h o p =
    let all = all_first limit (listing limit start (positions past)) ids old new known is h in
    (λ i. record { osd = o i; past = p i; device = all.1 i }) ∙ sym (ap (λ f. listed_by f limit start (member osd past old)) all.0)
left_is limit start osd osd' past past' old new (Err (errors.ListFault count)) answer known said is h o p =
    let first = failed_first (calls_for limit (listing limit start (positions past))) old new known h.1 in
    let kept : past' ≡ ListFailed (one_more old.faults) ∷ past = p ∙ ap (λ n. ListFailed n ∷ past) (h.0 ∙ first.2) in
    (λ i. record { osd = o i; past = kept i; device = first.1 i }) ∙ sym (ap (λ f. listed_by f limit start (member osd past old)) first.0)
left_is limit start osd osd' past past' old new (Err errors.Memory) answer known said is h o p = absurd (none_some answer said)

called_on : (old new : Device) (calls : ℕ) → new ≡ answered calls old → IsCalledOn (calls_seen old) (calls_seen new)
called_on old new calls e = record {
  failing = ap (λ (d : Device). d.failing) e ∙ listings_failing calls old;
  faults = omega (arith, ap (λ (d : Device). d.faults) e, listings_faults calls old);
}

lost_is : (limit : ℕ) (whole : List ObjectId) (osd osd' : ℕ) (past past' : List Event) (old new : Device) (r : Result (List ObjectId) ListError) → None ≡ list_said r → IsListAnswer limit whole old r new
    → osd' ≡ osd → past' ≡ past_after_list r past → IsMemberCalledOn (member osd past old) (member osd' past' new)
lost_is limit whole osd osd' past past' old new (Ok ids) said h o p = absurd (none_some (answers.Listed ids) said)
lost_is limit whole osd osd' past past' old new (Err (errors.ListFault count)) said h o p = absurd (none_some (answers.Fault count) said)
lost_is limit whole osd osd' past past' old new (Err errors.Memory) said h o p = record { osd = o; past = p; device = called_on old new h.0 h.1 }

-- ---- of a shard in memory

known : (shard : Shard) → IsKnown (device_of shard.medium)
known shard = (shard.medium.failing, refl)

pub list_told_so : (limit : ℕ) (start : Bound) (old new : Shard) (r : Result (List ObjectId) ListError) (answer : ListAnswer) → list_said r ≡ Some answer
    → IfOk r (λ ids. ids ≡ listing limit start (positions old.past)) → IsListAnswer limit (listing limit start (positions old.past)) (device_of old.medium) r (device_of new.medium)
    → answer ≡ list_answer limit start (seen old)
list_told_so limit start old new r answer said is h = answer_is limit start old.osd old.past (device_of old.medium) (device_of new.medium) r answer (known old) said is h

pub list_kept : (limit : ℕ) (start : Bound) (old new : Shard) (r : Result (List ObjectId) ListError) (answer : ListAnswer) → list_said r ≡ Some answer
    → IfOk r (λ ids. ids ≡ listing limit start (positions old.past)) → IsListAnswer limit (listing limit start (positions old.past)) (device_of old.medium) r (device_of new.medium)
    → new.osd ≡ old.osd → new.past ≡ past_after_list r old.past → seen new ≡ after_list limit start (seen old)
list_kept limit start old new r answer said is h o p =
    left_is limit start old.osd new.osd old.past new.past (device_of old.medium) (device_of new.medium) r answer (known old) said is h o p

pub list_lost : (limit : ℕ) (whole : List ObjectId) (old new : Shard) (r : Result (List ObjectId) ListError) → list_said r ≡ None
    → IsListAnswer limit whole (device_of old.medium) r (device_of new.medium)
    → new.osd ≡ old.osd → new.past ≡ past_after_list r old.past → IsMemberCalledOn (seen old) (seen new)
list_lost limit whole old new r said h o p =
    lost_is limit whole old.osd new.osd old.past new.past (device_of old.medium) (device_of new.medium) r (sym said) h o p

pub ruleset lists = (list_told_so, list_kept, list_lost)
