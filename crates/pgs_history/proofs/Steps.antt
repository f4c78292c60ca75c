-- What the events of a legal history tell of the chunks before them.
use Rattle.std.proofs.Common.{◌≡◌, ℕ, ◌+◌, ◌≤◌, ◌==◌, ◌||◌, ◌&&◌, nat_lt, Bool, true, false, not, List, [], ◌∷◌, Option, Some, None, refl, sym, arith}
use Rattle.std.specs.Prelude.{option_map, is_some}
use Rattle.std.specs.Bool.{then_some}
use Rattle.std.proofs.lemmas.Bool.Decides.{nat_tests}
use Rattle.pgs_bytes.proofs.Facts.{some_none, true_false}
use Rattle.pgs_name.specs.declared.object_id.ObjectId.{ObjectId}
use Rattle.pgs_op.specs.Refusals.{first}
use Rattle.pgs_compare.specs.declared.report.Report.{Report}
use Rattle.pgs_history.specs.Members.{told}
use Rattle.pgs_history.specs.Acting.{acting, epoch, osd_at}
use Rattle.pgs_history.specs.Scrubs.{present, claims, claims_at, begun, opened, open_chunk, open_number, is_open, fate}
use Rattle.pgs_history.specs.Causes.{cause}
use Rattle.pgs_history.specs.Answers.{unclosed, told_of, or_closed, found, is_last, missing, begin_answered, begin_answer, unopened, or_opened, open_answer, next_chunk, close_answer, is_osd, following, unclaimed, claim_answered, or_claimed, reserve_answer, is_stale, fault_answered, fault_answer, last_number, last_epoch, lagging, unchanged, or_changed, interval_answer}
use Rattle.pgs_history.specs.declared.made.Made.{Made}
use Rattle.pgs_history.specs.declared.chunk.Chunk.{Chunk}
use Rattle.pgs_history.specs.declared.event.Event.{Event}
use Rattle.pgs_slots.specs.declared.holder.Holder.{Holder}
use Rattle.pgs_history.specs.declared.cause.Cause.{Cause}
use Rattle.pgs_history.specs.declared.begin_answer.BeginAnswer.TheVariants as begins
use Rattle.pgs_history.specs.declared.open_answer.OpenAnswer.TheVariants as opens
use Rattle.pgs_history.specs.declared.reserve_answer.ReserveAnswer.TheVariants as reserves
use Rattle.pgs_history.specs.declared.fault_answer.FaultAnswer.TheVariants as faults
use Rattle.pgs_history.specs.declared.interval_answer.IntervalAnswer.{IntervalAnswer}
use Rattle.pgs_history.specs.declared.interval_answer.IntervalAnswer.TheVariants as intervals
use Rattle.pgs_history.specs.declared.fate.Fate.{Fate}
use Rattle.pgs_history.specs.declared.fate.Fate.TheVariants as fates_are
use Rattle.pgs_history.specs.declared.close_answer.CloseAnswer.TheVariants as ends

-- ---- tests

either : (a b : Bool) → (a || b) ≡ false → (a ≡ false) × (b ≡ false)
either true b e = absurd (true_false e)
either false b e = (refl, e)

not_false : (a : Bool) → not a ≡ false → a ≡ true
not_false true e = refl
not_false false e = absurd (true_false e)

-- ---- a scrub that began

began_from : (now : Option ℕ) (count first serial osd : ℕ) → begins.Began serial osd ≡ begin_answered now count first → (now ≡ None) × (serial ≡ count + 1)
began_from None count first serial osd e = (refl, cc)
began_from (Some s) count first serial osd e = absurd cc

pub began_is : (made : Made) (past : List Event) (serial first : ℕ) → begins.Began serial first ≡ begin_answer made past → (present past ≡ None) × (serial ≡ begun past + 1)
began_is made past serial first e = began_from (present past) (begun past) (osd_at (acting made past) 0) serial first e

-- ---- a chunk that was opened

pub record IsOpened (made : Made) (past : List Event) (serial : ℕ) (listed : List ObjectId) (chunk : Chunk) : Type 0 where
  pub going : cause made past serial ≡ None
  pub runs : claims past ≡ None
  pub closed : open_chunk past ≡ None
  pub next : chunk ≡ next_chunk made past serial listed

none_mapped : {A B : Type 0} (f : A → B) (x : Option A) → option_map f x ≡ None → x ≡ None
none_mapped f None e = refl
none_mapped f (Some a) e = absurd (some_none (f a) e)

opened_from : (c : Option Cause) (o n : Option ℕ) (next chunk : Chunk)
    → opens.Opened chunk
    ≡ or_opened (first (option_map (λ cause. opens.Over cause) c ∷ option_map (λ osd. opens.StillReserving osd) o ∷ option_map (λ number. opens.Already number) n ∷ [])) next
    → (c ≡ None) × (o ≡ None) × (n ≡ None) × (chunk ≡ next)
opened_from (Some c) o n next chunk e = absurd cc
opened_from None (Some o) n next chunk e = absurd cc
opened_from None None (Some n) next chunk e = absurd cc
opened_from None None None next chunk e = (refl, refl, refl, cc)

pub opened_is : (made : Made) (past : List Event) (serial : ℕ) (listed : List ObjectId) (chunk : Chunk) → opens.Opened chunk ≡ open_answer made past serial listed
    → IsOpened made past serial listed chunk
unfolding unopened
opened_is made past serial listed chunk e =
    let h = opened_from (cause made past serial) (claims_at made past) (open_number past) (next_chunk made past serial listed) chunk e in
    record {
      going = h.0;
      runs = none_mapped (osd_at (acting made past)) (claims past) h.1;
      closed = none_mapped (λ c. c.number) (open_chunk past) h.2;
      next = h.3;
    }

-- ---- a claim that was denied

pub record IsDenied (past : List Event) (denied : Option (List Holder)) : Type 0 where
  pub place : ℕ
  pub claiming : claims past ≡ Some place
  pub holders : List Holder
  pub held : denied ≡ Some holders

denied_from : (c : Option Cause) (b : Bool) (n : Option ℕ) (d : Option (List Holder)) (f : Option ℕ) (osd other : ℕ)
    → reserves.DeniedNow other
    ≡ or_claimed (first (option_map (λ cause. reserves.Over cause) c ∷ then_some b (reserves.NotNext n) ∷ [])) (claim_answered osd d f)
    → (b ≡ false) × (is_some d ≡ true)
denied_from (Some c) b n d f osd other e = absurd cc
denied_from None true n d f osd other e = absurd cc
denied_from None false n (Some holders) f osd other e = (refl, refl)
denied_from None false n None (Some next) osd other e = absurd cc
denied_from None false n None None osd other e = absurd cc

claiming_from : (now : Option ℕ) (f : ℕ → ℕ) (osd : ℕ) (denied : Option (List Holder)) (past : List Event) → now ≡ claims past → is_osd (option_map f now) osd ≡ true
    → is_some denied ≡ true → IsDenied past denied
claiming_from None f osd denied past is at some = absurd (true_false (sym at))
claiming_from (Some place) f osd None past is at some = absurd (true_false (sym some))
claiming_from (Some place) f osd (Some holders) past is at some = record { place = place; claiming = sym is; holders = holders; held = refl }

pub denied_is : (made : Made) (past : List Event) (serial osd other : ℕ) (denied : Option (List Holder)) → reserves.DeniedNow other ≡ reserve_answer made past serial osd denied
    → IsDenied past denied
unfolding unclaimed
denied_is made past serial osd other denied e =
    let h = denied_from (cause made past serial) (not (is_osd (claims_at made past) osd)) (claims_at made past) denied (following (acting made past) (claims past)) osd other e in
    claiming_from (claims past) (osd_at (acting made past)) osd denied past refl (not_false (is_osd (claims_at made past) osd) h.0) h.1

-- ---- a device that failed

fault_from : (stale : Bool) (now : Option ℕ) → faults.Ended ≡ fault_answered stale now → stale ≡ false
fault_from true now e = absurd cc
fault_from false now e = refl

none_from : {A : Type 0} (x : Option A) → is_some x ≡ false → x ≡ None
none_from None e = refl
none_from (Some a) e = absurd (true_false e)

-- its scrub hasn't ended
pub ended_is : (made : Made) (past : List Event) (serial chunk : ℕ) → faults.Ended ≡ fault_answer made past serial chunk → cause made past serial ≡ None
ended_is made past serial chunk e =
    let h = either (is_some (cause made past serial)) (not (chunk == 0) && not (is_open past chunk)) (fault_from (is_stale made past serial chunk) (open_number past) e) in
    none_from (cause made past serial) h.0

-- ---- an acting list that changed

pub record IsChanged (made : Made) (past : List Event) (osds : List ℕ) (new : ℕ) (gone : Option ℕ) : Type 0 where
  pub within : (epoch made past == last_epoch) ≡ false
  pub caught_up : lagging made past osds ≡ None
  pub next : new ≡ epoch made past + 1
  pub ends : gone ≡ present past

changed_from : (b : Bool) (l : Option ℕ) (why : ℕ → IntervalAnswer) (old next new : ℕ) (now ends : Option ℕ) → ((osd : ℕ) → why osd ≡ intervals.Changed new ends → ⊥)
    → intervals.Changed new ends ≡ or_changed (first (then_some b (intervals.LastEpoch old) ∷ option_map why l ∷ [])) next now
    → (b ≡ false) × (l ≡ None) × (new ≡ next) × (ends ≡ now)
changed_from true l why old next new now ends never e = absurd cc
changed_from false (Some osd) why old next new now ends never e = absurd (never osd (sym e))
changed_from false None why old next new now ends never e = (refl, refl, cc, cc)

not_changed : (osd count total new : ℕ) (ends : Option ℕ) → intervals.NotCaughtUp osd count total ≡ intervals.Changed new ends → ⊥
not_changed osd count total new ends e = absurd cc

pub changed_is : (made : Made) (past : List Event) (osds : List ℕ) (new : ℕ) (ends : Option ℕ) → intervals.Changed new ends ≡ interval_answer made past osds
    → IsChanged made past osds new ends
unfolding unchanged
changed_is made past osds new ends e =
    let h = changed_from (epoch made past == last_epoch) (lagging made past osds) (λ osd. intervals.NotCaughtUp osd (told past osd) (last_number past)) (epoch made past)
    (epoch made past + 1) new (present past) ends (λ osd. not_changed osd (told past osd) (last_number past) new ends) e in
    record { within = h.0; caught_up = h.1; next = h.2; ends = h.3 }

-- ---- a chunk that was closed

pub record IsClosed (past : List Event) (number : ℕ) (completes : Bool) : Type 0 where
  pub some : (number == 0) ≡ false
  pub was_opened : number ≤ opened past
  pub was_open : is_open past number ≡ true
  pub last : completes ≡ is_last (open_chunk past)

-- what is told of a chunk that isn't open isn't that it was closed now
not_told : (fate : Option Fate) (report : Report) (completes : Bool) → ends.Closed report completes ≡ told_of fate → ⊥
not_told None report completes e = absurd cc
not_told (Some fates_are.Closed) report completes e = absurd cc
not_told (Some (fates_are.Preempted request)) report completes e = absurd cc
not_told (Some (fates_are.IntervalChanged old new)) report completes e = absurd cc
not_told (Some (fates_are.DeviceFault osd count)) report completes e = absurd cc

closed_from : (a b : Bool) (fate : Option Fate) (m : Option ℕ) (n report : Report) (last completes : Bool)
    → ends.Closed report completes ≡ or_closed (first (then_some a ends.NoChunk ∷ then_some b (told_of fate) ∷ option_map (λ osd. ends.NotYet osd) m ∷ [])) n last
    → (a ≡ false) × (b ≡ false) × (completes ≡ last)
closed_from true b fate m n report last completes e = absurd cc
closed_from false true fate m n report last completes e = absurd (not_told fate report completes e)
closed_from false false fate (Some osd) n report last completes e = absurd cc
closed_from false false fate None n report last completes e = (refl, refl, cc)

pub closed_is : (made : Made) (past : List Event) (number : ℕ) (report : Report) (completes : Bool) → ends.Closed report completes ≡ close_answer made past number → IsClosed past number completes
unfolding unclosed
closed_is made past number report completes e =
    let h = closed_from ((number == 0) || nat_lt (opened past) number) (not (is_open past number)) (fate made past number) (missing made past number) (found made past number) report
    (is_last (open_chunk past)) completes e in
    let within = either (number == 0) (nat_lt (opened past) number) h.0 in
    record {
      some = within.0;
      was_opened = grind (arith, nat_tests, within.1);
      was_open = not_false (is_open past number) h.1;
      last = h.2;
    }
