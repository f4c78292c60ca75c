-- What a call of a device answers and leaves whose failing calls are told.
use Rattle.std.proofs.Common.{ℕ, zero, suc, ◌≡◌, ◌≤◌, Bool, true, false, cond, ◌||◌, List, Option, Some, None, IfSome, refl, sym, ap, ◌∙◌, subst, arith}
use Rattle.pgs_cause.specs.Count.{Rose, LAST_COUNT}
use Rattle.pgs_copy.specs.declared.obj_copy.ObjCopy.{ObjCopy}
use Rattle.pgs_medium.specs.Calls.{one_more, is_named}
use Rattle.pgs_medium.specs.Device as medium
use Rattle.pgs_medium.specs.Device.{Device, IsTold, IsCounted, IsFailed}
use Rattle.pgs_medium.specs.declared.call_kind.CallKind.{CallKind}
use Rattle.pgs_medium.specs.declared.call_kind.CallKind.TheVariants as kinds
use Rattle.pgs_medium.specs.declared.failing_call.FailingCall.{FailingCall}
use Rattle.pgs_scan.specs.Calls.{IsCalled, AreCalled, kind_of}
use Rattle.pgs_scan.specs.Reads.{read_after}
use Rattle.pgs_shard.specs.Listed as listings
use Rattle.pgs_shard.specs.Scans.{IsReadCall}
use Rattle.pgs_shards.specs.Devices.{DeviceCalls, calls_seen, calls_of, names, fails, answered, failed, called, answered_all}
use Rattle.pgs_shards.specs.Scans.{stat_fails, stat_called, read_fails, read_called, reading_called}

-- a device's failing calls are told
abbrev pub IsKnown : Device → Type 0
IsKnown device = (calls : List FailingCall) × (device.failing ≡ Some calls)

-- ---- counts of faults

pub count_rose : (last faults : ℕ) → last ≤ faults → faults ≤ LAST_COUNT → Rose last (one_more faults)
count_rose last faults kept within = record { kept = grind (arith, kept, within); more = λ e. grind (arith, kept, within, e) }

pub count_within : (faults : ℕ) → one_more faults ≤ LAST_COUNT
count_within faults = grind arith

pub count_up : (faults : ℕ) → faults ≤ LAST_COUNT → faults ≤ one_more faults
count_up faults within = grind (arith, within)

same : (n : ℕ) → n ≤ n
same n = omega arith

-- ---- what a call leaves

pub answered_faults : (kind : CallKind) (device : DeviceCalls) → (answered kind device).faults ≡ device.faults
answered_faults kinds.Write device = refl
answered_faults kinds.List device = refl
answered_faults kinds.Stat device = refl
answered_faults kinds.Attrs device = refl
answered_faults kinds.Read device = refl
answered_faults kinds.Omap device = refl

pub failed_faults : (kind : CallKind) (device : DeviceCalls) → (failed kind device).faults ≡ one_more device.faults
failed_faults kinds.Write device = refl
failed_faults kinds.List device = refl
failed_faults kinds.Stat device = refl
failed_faults kinds.Attrs device = refl
failed_faults kinds.Read device = refl
failed_faults kinds.Omap device = refl

-- a count rose no further than it may
pub record IsGoneOn (old new : DeviceCalls) : Type 0 where
  pub faults : old.faults ≤ new.faults
  pub within : new.faults ≤ LAST_COUNT

pub stayed : (device : DeviceCalls) → device.faults ≤ LAST_COUNT → IsGoneOn device device
stayed device within = record { faults = same device.faults; within = within }

pub failed_on : (kind : CallKind) (device : DeviceCalls) → device.faults ≤ LAST_COUNT → IsGoneOn device (failed kind device)
failed_on kind device within = record {
  faults = subst (λ n. device.faults ≤ n) (sym (failed_faults kind device)) (count_up device.faults within);
  within = subst (λ n. n ≤ LAST_COUNT) (sym (failed_faults kind device)) (count_within device.faults);
}

pub answered_on : (kind : CallKind) (device : DeviceCalls) → device.faults ≤ LAST_COUNT → IsGoneOn device (answered kind device)
answered_on kind device within = record {
  faults = subst (λ n. device.faults ≤ n) (sym (answered_faults kind device)) (same device.faults);
  within = subst (λ n. n ≤ LAST_COUNT) (sym (answered_faults kind device)) within;
}

pub called_on : (kind : CallKind) (device : DeviceCalls) → device.faults ≤ LAST_COUNT → IsGoneOn device (called kind device)
called_on kind device within =
    (elim (fails kind device) as (λ v. IsGoneOn device (cond v (failed kind device) (answered kind device))) [
      | true ↦ failed_on kind device within
      | false ↦ answered_on kind device within
    ])

in_turn : (old between new : DeviceCalls) → IsGoneOn old between → IsGoneOn between new → IsGoneOn old new
in_turn old between new p q = record { faults = omega (arith, p.faults, q.faults); within = q.within }

read_on : (stride steps : ℕ) (copy : ObjCopy) (device : DeviceCalls) → device.faults ≤ LAST_COUNT → IsGoneOn device (read_called stride steps copy device)
read_on stride zero copy device within =
    let first : IsGoneOn device (called kinds.Stat device) = called_on kinds.Stat device within in
    in_turn device (called kinds.Stat device) (stat_called device) first (called_on kinds.Attrs (called kinds.Stat device) first.within)
read_on stride (suc steps) copy device within = called_on (kind_of (read_after stride (suc steps) copy)) device within

pub reading_on : (stride steps : ℕ) (copy : Option ObjCopy) (device : DeviceCalls) → device.faults ≤ LAST_COUNT → IsGoneOn device (reading_called stride steps copy device)
reading_on stride steps None device within = stayed device within
reading_on stride steps (Some copy) device within = read_on stride steps copy device within

pub all_faults : (calls : ℕ) (device : DeviceCalls) → (answered_all kinds.List calls device).faults ≡ device.faults
all_faults zero device = refl
all_faults (suc calls) device = all_faults calls device

-- ---- what is seen of a device's calls

same_calls : (kind : CallKind) (device : Device) → calls_of kind (calls_seen device) ≡ medium.calls_of kind device
same_calls kinds.Write device = refl
same_calls kinds.List device = refl
same_calls kinds.Stat device = refl
same_calls kinds.Attrs device = refl
same_calls kinds.Read device = refl
same_calls kinds.Omap device = refl

seen_answered : (kind : CallKind) (device : Device) → calls_seen (medium.answered kind device) ≡ answered kind (calls_seen device)
seen_answered kinds.Write device = refl
seen_answered kinds.List device = refl
seen_answered kinds.Stat device = refl
seen_answered kinds.Attrs device = refl
seen_answered kinds.Read device = refl
seen_answered kinds.Omap device = refl

seen_failed : (kind : CallKind) (device : Device) → calls_seen (medium.not_answered kind (one_more device.faults) device) ≡ failed kind (calls_seen device)
seen_failed kinds.Write device = refl
seen_failed kinds.List device = refl
seen_failed kinds.Stat device = refl
seen_failed kinds.Attrs device = refl
seen_failed kinds.Read device = refl
seen_failed kinds.Omap device = refl

failing_answered : (kind : CallKind) (device : Device) → (medium.answered kind device).failing ≡ device.failing
failing_answered kinds.Write device = refl
failing_answered kinds.List device = refl
failing_answered kinds.Stat device = refl
failing_answered kinds.Attrs device = refl
failing_answered kinds.Read device = refl
failing_answered kinds.Omap device = refl

failing_failed : (kind : CallKind) (faults : ℕ) (device : Device) → (medium.not_answered kind faults device).failing ≡ device.failing
failing_failed kinds.Write faults device = refl
failing_failed kinds.List faults device = refl
failing_failed kinds.Stat faults device = refl
failing_failed kinds.Attrs faults device = refl
failing_failed kinds.Read faults device = refl
failing_failed kinds.Omap faults device = refl

-- ---- what a call answers

pub told_is : (kind : CallKind) (device : Device) (v : Bool) → IsKnown device → IsTold kind device v → fails kind (calls_seen device) ≡ v
told_is kind device v known told =
    ap (λ c. names kind (one_more c.made) device.failing) (same_calls kind device)
    ∙ ap (λ f. names kind (one_more (medium.calls_of kind device).made) f) known.1
    ∙ subst (λ f. IfSome f (λ calls. is_named kind (one_more (medium.calls_of kind device).made) calls ≡ v)) known.1 told

pub counted_is : (old new : Device) → IsKnown old → IsCounted old new → new.faults ≡ one_more old.faults
counted_is old new known counted = subst (λ f. IfSome f (λ calls. new.faults ≡ one_more old.faults)) known.1 counted

pub failed_is : (kind : CallKind) (old new : Device) → IsKnown old → IsFailed kind old new
    → (fails kind (calls_seen old) ≡ true) × (calls_seen new ≡ failed kind (calls_seen old)) × (new.faults ≡ one_more old.faults)
failed_is kind old new known h =
    let count : new.faults ≡ one_more old.faults = counted_is old new known h.3 in
    (told_is kind old true known h.2, ap calls_seen h.0 ∙ ap (λ n. calls_seen (medium.not_answered kind n old)) count ∙ seen_failed kind old, count)

pub called_is : (kind : CallKind) (v : Bool) (old new : Device) → IsKnown old → IsCalled kind v old new
    → (fails kind (calls_seen old) ≡ v) × (calls_seen new ≡ called kind (calls_seen old))
called_is kind false old new known h =
    let fine : fails kind (calls_seen old) ≡ false = told_is kind old false known h.1 in
    (fine, ap calls_seen h.0 ∙ seen_answered kind old ∙ sym (ap (λ b. cond b (failed kind (calls_seen old)) (answered kind (calls_seen old))) fine))
called_is kind true old new known h =
    let is = failed_is kind old new known h in
    (is.0, is.1 ∙ sym (ap (λ b. cond b (failed kind (calls_seen old)) (answered kind (calls_seen old))) is.0))

-- its failing calls stay told
still_known : (kind : CallKind) (v : Bool) (old new : Device) → IsKnown old → IsCalled kind v old new → IsKnown new
still_known kind false old new known h = (known.0, ap (λ (d : Device). d.failing) h.0 ∙ failing_answered kind old ∙ known.1)
still_known kind true old new known h = (known.0, ap (λ (d : Device). d.failing) h.0 ∙ failing_failed kind new.faults old ∙ known.1)

both_called : (stat attrs : Bool) (old new : Device) → IsKnown old → AreCalled stat attrs old new
    → (stat_fails (calls_seen old) ≡ (stat || attrs)) × (calls_seen new ≡ stat_called (calls_seen old))
both_called stat attrs old new known h =
    let first = called_is kinds.Stat stat old h.between known h.first in
    let second = called_is kinds.Attrs attrs h.between new (still_known kinds.Stat stat old h.between known h.first) h.second in
    let then : fails kinds.Attrs (called kinds.Stat (calls_seen old)) ≡ attrs = ap (λ d. fails kinds.Attrs d) (sym first.1) ∙ second.0 in
    ((λ i. first.0 i || then i), second.1 ∙ ap (λ d. called kinds.Attrs d) first.1)

read_is : (stride steps : ℕ) (copy : ObjCopy) (v : Bool) (old new : Device) → IsKnown old → IsReadCall stride steps (Some copy) v old new
    → (read_fails stride steps copy (calls_seen old) ≡ v) × (calls_seen new ≡ read_called stride steps copy (calls_seen old))
read_is stride zero copy true old new known h = let is = both_called h.stat h.attrs old new known h.calls in (is.0 ∙ h.some, is.1)
read_is stride zero copy false old new known h = both_called false false old new known h
read_is stride (suc steps) copy true old new known h = called_is (kind_of (read_after stride (suc steps) copy)) true old new known h
read_is stride (suc steps) copy false old new known h = called_is (kind_of (read_after stride (suc steps) copy)) false old new known h

pub read_answer : (stride steps : ℕ) (copy : ObjCopy) (v : Bool) (old new : Device) → IsKnown old → IsReadCall stride steps (Some copy) v old new
    → read_fails stride steps copy (calls_seen old) ≡ v
read_answer stride steps copy v old new known h = (read_is stride steps copy v old new known h).0

pub read_left : (stride steps : ℕ) (copy : Option ObjCopy) (v : Bool) (old new : Device) → IsKnown old → IsReadCall stride steps copy v old new
    → calls_seen new ≡ reading_called stride steps copy (calls_seen old)
read_left stride zero None true old new known h = absurd h
read_left stride zero None false old new known h = absurd h
read_left stride (suc steps) None true old new known h = absurd h
read_left stride (suc steps) None false old new known h = absurd h
read_left stride steps (Some copy) v old new known h = (read_is stride steps copy v old new known h).1

-- ---- several listings that were answered

pub listings_seen : (calls : ℕ) (device : Device) → calls_seen (listings.answered calls device) ≡ answered_all kinds.List calls (calls_seen device)
listings_seen zero device = refl
listings_seen (suc calls) device = ap (answered kinds.List) (listings_seen calls device)

pub listings_failing : (calls : ℕ) (device : Device) → (listings.answered calls device).failing ≡ device.failing
listings_failing zero device = refl
listings_failing (suc calls) device = listings_failing calls device

pub listings_faults : (calls : ℕ) (device : Device) → (listings.answered calls device).faults ≡ device.faults
listings_faults zero device = refl
listings_faults (suc calls) device = listings_faults calls device

-- the first of them comes first
pub one_before : (calls : ℕ) (device : DeviceCalls) → answered_all kinds.List (suc calls) device ≡ answered_all kinds.List calls (answered kinds.List device)
one_before zero device = refl
one_before (suc calls) device = ap (answered kinds.List) (one_before calls device)
