-- What a member was asked for is of a chunk that was opened, whatever comes behind.
use Rattle.std.proofs.Common.{◌≡◌, ℕ, ◌+◌, ◌≤◌, Bool, true, false, cond, List, [], ◌∷◌, length, Option, Some, None, refl, sym, ap, ◌∙◌, subst, arith}
use Rattle.std.specs.Prelude.{is_some}
use Rattle.pgs_bytes.proofs.Facts.{none_some, some_same}
use Rattle.pgs_name.specs.declared.object_id.ObjectId.{ObjectId}
use Rattle.pgs_chunk.specs.declared.ask.Ask.{Ask}
use Rattle.pgs_op.specs.declared.write.Write.{Write}
use Rattle.pgs_history.specs.Acting.{acts}
use Rattle.pgs_history.specs.Causes.{causes}
use Rattle.pgs_history.specs.Chunks.{AreFated, AreCaused}
use Rattle.pgs_history.specs.Legal.{IsLegal}
use Rattle.pgs_history.specs.Scrubs.{IsBegun, begun, current, serial_of, running_of, unless_claiming, present, opened, open_chunk, last_kind, is_deep, fates as fates_of}
use Rattle.pgs_history.specs.Answers.{ask_of, chunk_for, ask, open_answer}
use Rattle.pgs_history.specs.After.{after_closed}
use Rattle.pgs_history.specs.declared.chunk.Chunk.{Chunk}
use Rattle.pgs_history.specs.declared.write_answer.WriteAnswer.{WriteAnswer}
use Rattle.pgs_history.specs.declared.write_answer.WriteAnswer.TheVariants.{Declined, Parked, QueueFull, Accepted}
use Rattle.pgs_history.specs.declared.open_answer.OpenAnswer.{OpenAnswer}
use Rattle.pgs_history.specs.declared.open_answer.OpenAnswer.TheVariants.{Over, StillReserving, Already, Opened}
use Rattle.pgs_history.specs.declared.close_answer.CloseAnswer.{CloseAnswer}
use Rattle.pgs_history.specs.declared.close_answer.CloseAnswer.TheVariants as closes
use Rattle.pgs_history.specs.declared.event.Event.{Event}
use Rattle.pgs_history.specs.declared.event.Event.TheVariants.{Submit, Reserve, Open, Fault, Interval}
use Rattle.pgs_history.specs.declared.made.Made.{Made}
use Rattle.pgs_history.specs.declared.current.Current.{Current}
use Rattle.pgs_history.specs.declared.reserve_answer.ReserveAnswer.{ReserveAnswer}
use Rattle.pgs_history.specs.declared.reserve_answer.ReserveAnswer.TheVariants as reserves
use Rattle.pgs_history.specs.declared.fault_answer.FaultAnswer.{FaultAnswer}
use Rattle.pgs_history.specs.declared.fault_answer.FaultAnswer.TheVariants as faults
use Rattle.pgs_history.specs.declared.interval_answer.IntervalAnswer.{IntervalAnswer}
use Rattle.pgs_history.specs.declared.interval_answer.IntervalAnswer.TheVariants as intervals
use Rattle.pgs_history.proofs.Causes.{caused}
use Rattle.pgs_history.proofs.Fates.{fated}
use Rattle.pgs_history.proofs.Steps.{opened_is}
use Rattle.pgs_slots.specs.declared.holder.Holder.{Holder}
use Rattle.pgs_shard.specs.Scans.{past_after_hand}
use Rattle.pgs_exchange.specs.declared.scan_result.ScanResult.{ScanResult}
use Rattle.pgs_shard.specs.declared.scan_answer.ScanAnswer.{ScanAnswer}
use Rattle.pgs_shard.specs.declared.scan_answer.ScanAnswer.TheVariants as scans
use Rattle.pgs_shard_history.specs.Scanning.{Scanning, scanning, is_newer, after_ask, after_drop}
use Rattle.pgs_shard_history.specs.declared.event.Event.{Event as ShardEvent}
use Rattle.pgs_shard_history.specs.declared.phase.Phase.TheVariants.{Waiting}
use Rattle.pgs_shards.specs.Scans.{after_answer}
use Rattle.pgs_placement.specs.Counts.{IsOfOpened, IsAsked}

-- ---- events of the group

pub record AsksStay (old new : List Event) : Type 0 where
  pub stay : (a : Ask) → IsOfOpened old a → IsOfOpened new a

pub asked_stays : (old new : List Event) (asked : Option Ask) → AsksStay old new → IsAsked old asked → IsAsked new asked
asked_stays old new None s h = tt
asked_stays old new (Some a) s h = s.stay a h

-- the same chunk is open, or none
pub same_asks : (old new : List Event) → opened new ≡ opened old → open_chunk new ≡ open_chunk old → last_kind new ≡ last_kind old → begun new ≡ begun old → AsksStay old new
same_asks old new count same kind scrubs = record {
  stay = λ a h. record {
    most = subst (λ n. a.chunk ≤ n) (sym count) h.most;
    deep = λ chunk is number. h.deep chunk (sym same ∙ is) number ∙ ap is_deep (sym kind);
    now = λ chunk is number. h.now chunk (sym same ∙ is) number;
    some = h.some;
    begun = subst (λ n. (1 ≤ a.serial) × (a.serial ≤ n)) (sym scrubs) h.begun;
  };
}

begun_more : (less more serial : ℕ) → less ≤ more → (1 ≤ serial) × (serial ≤ less) → (1 ≤ serial) × (serial ≤ more)
begun_more less more serial grows h = let a = h.0 in let b = h.1 in (omega (arith, a), omega (arith, b, grows))

-- none is open
pub closed_asks : (old new : List Event) → opened new ≡ opened old → open_chunk new ≡ None → begun old ≤ begun new → AsksStay old new
closed_asks old new count none scrubs = record {
  stay = λ a h. record {
    most = subst (λ n. a.chunk ≤ n) (sym count) h.most;
    deep = λ chunk is number. absurd (none_some chunk (sym none ∙ is));
    now = λ chunk is number. absurd (none_some chunk (sym none ∙ is));
    some = h.some;
    begun = begun_more (begun old) (begun new) a.serial scrubs h.begun;
  };
}

later : (old new : List Event) (next : Chunk) (a : Ask) (chunk : Chunk) → a.chunk ≤ opened old → open_chunk new ≡ Some next → next.number ≡ opened old + 1 → open_chunk new ≡ Some chunk
    → chunk.number ≡ a.chunk → ⊥
later old new next a chunk most is number now same =
    let one : next ≡ chunk = some_same next chunk (sym is ∙ now) in
    let a_number : opened old + 1 ≡ a.chunk = sym number ∙ ap (λ c. c.number) one ∙ same in
    omega (arith, a_number, most)

-- a further one is open
pub opened_asks : (old new : List Event) (next : Chunk) → opened new ≡ opened old + 1 → open_chunk new ≡ Some next → next.number ≡ opened old + 1 → begun new ≡ begun old → AsksStay old new
opened_asks old new next count is number scrubs = record {
  stay = λ a h.
      let most : a.chunk ≤ opened old = h.most in
      record {
        most = subst (λ n. a.chunk ≤ n) (sym count) (omega (arith, most));
        deep = λ chunk now same. absurd (later old new next a chunk most is number now same);
        now = λ chunk now same. absurd (later old new next a chunk most is number now same);
        some = h.some;
        begun = subst (λ n. (1 ≤ a.serial) × (a.serial ≤ n)) (sym scrubs) h.begun;
      };
}

pub submit_asks : (past : List Event) (write : Write) (answer : WriteAnswer) → AsksStay past (Submit write answer ∷ past)
submit_asks past write (Declined why) = same_asks past (Submit write (Declined why) ∷ past) refl refl refl refl
submit_asks past write (Parked range) = same_asks past (Submit write (Parked range) ∷ past) refl refl refl refl
submit_asks past write (QueueFull count) = same_asks past (Submit write (QueueFull count) ∷ past) refl refl refl refl
submit_asks past write (Accepted version None) = same_asks past (Submit write (Accepted version None) ∷ past) refl refl refl refl
submit_asks past write (Accepted version (Some chunk)) = closed_asks past (Submit write (Accepted version (Some chunk)) ∷ past) refl refl (omega arith)

pub open_asks : (made : Made) (past : List Event) (serial : ℕ) (listed : List ObjectId) (answer : OpenAnswer) → answer ≡ open_answer made past serial listed
    → AsksStay past (Open serial listed answer ∷ past)
open_asks made past serial listed (Over cause) e = same_asks past (Open serial listed (Over cause) ∷ past) refl refl refl refl
open_asks made past serial listed (StillReserving osd) e = same_asks past (Open serial listed (StillReserving osd) ∷ past) refl refl refl refl
open_asks made past serial listed (Already chunk) e = same_asks past (Open serial listed (Already chunk) ∷ past) refl refl refl refl
open_asks made past serial listed (Opened chunk) e =
    let is = opened_is made past serial listed chunk e in
    opened_asks past (Open serial listed (Opened chunk) ∷ past) chunk refl refl (ap (λ c. c.number) is.next) refl

pub close_asks : (past : List Event) (chunk : ℕ) (answer : CloseAnswer) → AsksStay past (after_closed past chunk answer)
close_asks past chunk closes.NoChunk = same_asks past (after_closed past chunk closes.NoChunk) refl refl refl refl
close_asks past chunk closes.ClosedBefore = same_asks past (after_closed past chunk closes.ClosedBefore) refl refl refl refl
close_asks past chunk (closes.Preempted request) = same_asks past (after_closed past chunk (closes.Preempted request)) refl refl refl refl
close_asks past chunk (closes.IntervalChanged old new) = same_asks past (after_closed past chunk (closes.IntervalChanged old new)) refl refl refl refl
close_asks past chunk (closes.DeviceFault osd count) = same_asks past (after_closed past chunk (closes.DeviceFault osd count)) refl refl refl refl
close_asks past chunk (closes.NotYet osd) = same_asks past past refl refl refl refl
close_asks past chunk (closes.Closed report completes) = closed_asks past (after_closed past chunk (closes.Closed report completes)) refl refl (omega arith)

-- a scrub that claims goes on, or ends; no chunk is open then
pub reserve_asks : (made : Made) (past : List Event) (serial osd : ℕ) (denied : Option (List Holder)) (answer : ReserveAnswer) → AsksStay past (Reserve serial osd denied answer ∷ past)
reserve_asks made past serial osd denied (reserves.Over cause) = same_asks past (Reserve serial osd denied (reserves.Over cause) ∷ past) refl refl refl refl
reserve_asks made past serial osd denied (reserves.NotNext next) = same_asks past (Reserve serial osd denied (reserves.NotNext next) ∷ past) refl refl refl refl
reserve_asks made past serial osd denied (reserves.DeniedNow other) = same_asks past (Reserve serial osd denied (reserves.DeniedNow other) ∷ past) refl refl refl refl
reserve_asks made past serial osd denied (reserves.Reserving next) = same_asks past (Reserve serial osd denied (reserves.Reserving next) ∷ past) refl refl refl refl
reserve_asks made past serial osd denied reserves.Reserved = same_asks past (Reserve serial osd denied reserves.Reserved ∷ past) refl refl refl refl

pub fault_asks : (past : List Event) (serial chunk osd count : ℕ) (answer : FaultAnswer) → AsksStay past (Fault serial chunk osd count answer ∷ past)
fault_asks past serial chunk osd count (faults.Stale now) = same_asks past (Fault serial chunk osd count (faults.Stale now) ∷ past) refl refl refl refl
fault_asks past serial chunk osd count faults.Ended = closed_asks past (Fault serial chunk osd count faults.Ended ∷ past) refl refl (omega arith)

pub interval_asks : (past : List Event) (osds : List ℕ) (answer : IntervalAnswer) → AsksStay past (Interval osds answer ∷ past)
interval_asks past osds (intervals.LastEpoch epoch) = same_asks past (Interval osds (intervals.LastEpoch epoch) ∷ past) refl refl refl refl
interval_asks past osds (intervals.NotCaughtUp osd count total) = same_asks past (Interval osds (intervals.NotCaughtUp osd count total) ∷ past) refl refl refl refl
interval_asks past osds (intervals.Changed epoch ends) = closed_asks past (Interval osds (intervals.Changed epoch ends) ∷ past) refl refl (omega arith)

-- ---- what a member is asked for that pulls

-- a scrub that runs is the one that reserves or runs
pub running_is : (now : Option Current) (serial : ℕ) → running_of now ≡ Some serial → serial_of now ≡ Some serial
running_is None serial e = absurd (none_some serial e)
running_is (Some scrub) serial e = by_claims scrub.claims e
  where
    by_claims : (claims : Option ℕ) → unless_claiming claims scrub.serial ≡ Some serial → Some scrub.serial ≡ Some serial
    by_claims None e = e
    by_claims (Some place) e = absurd (none_some serial e)

-- the scrub that reserves or runs began
pub present_begun : (made : Made) (past : List Event) (serial : ℕ) → IsLegal made past → present past ≡ Some serial → IsBegun past serial
present_begun made past serial legal here =
    let h = caused made past legal in
    let last : serial ≡ begun past = h.last serial here in
    let count : length (causes made past) + 1 ≡ begun past = ap (λ o. length (causes made past) + cond (is_some o) 1 0) (sym here) ∙ h.count in
    (omega (arith, last, count), omega (arith, last))

-- the scrub of the open chunk began
chunk_begun : (made : Made) (past : List Event) → AreCaused made past → (chunk : Chunk) → open_chunk past ≡ Some chunk → IsBegun past chunk.serial
chunk_begun made past caused chunk now =
    let here : present past ≡ Some chunk.serial = running_is (current past) chunk.serial (caused.runs chunk now) in
    let last : chunk.serial ≡ begun past = caused.last chunk.serial here in
    let count : length (causes made past) + 1 ≡ begun past = ap (λ o. length (causes made past) + cond (is_some o) 1 0) (sym here) ∙ caused.count in
    (omega (arith, last, count), omega (arith, last))

asked_of : (made : Made) (past : List Event) (now : Option Chunk) (deep : Bool) → AreFated made past → AreCaused made past → ((chunk : Chunk) → now ≡ Some chunk → open_chunk past ≡ Some chunk)
    → deep ≡ is_deep (last_kind past) → IsAsked past (ask_of now deep)
asked_of made past None deep fates caused is kind = tt
asked_of made past (Some chunk) deep fates caused is kind =
    let here : open_chunk past ≡ Some chunk = is chunk refl in
    let number : chunk.number ≡ opened past = fates.last chunk here in
    let count : length (fates_of made past) + 1 ≡ opened past = ap (λ o. length (fates_of made past) + cond (is_some o) 1 0) (sym here) ∙ fates.count in
    record {
      most = omega (arith, number);
      deep = λ other now same. kind;
      now = λ other now same.
          let one : chunk ≡ other = some_same chunk other (sym here ∙ now) in
          record { serial = ap (λ c. c.serial) one; range = ap (λ c. c.range) one; needed = ap (λ c. c.version) one };
      some = omega (arith, number, count);
      begun = chunk_begun made past caused chunk here;
    }

only_acting : (acting : Bool) (now : Option Chunk) (chunk : Chunk) → chunk_for acting now ≡ Some chunk → now ≡ Some chunk
only_acting true now chunk e = e
only_acting false now chunk e = absurd (none_some chunk e)

pub asked_now : (made : Made) (past : List Event) (osd : ℕ) → IsLegal made past → IsAsked past (ask made past osd)
asked_now made past osd legal =
    asked_of made past (chunk_for (acts made past osd) (open_chunk past)) (is_deep (last_kind past)) (fated made past legal) (caused made past legal)
    (λ chunk e. only_acting (acts made past osd) (open_chunk past) chunk e) refl

-- ---- events of a shard

pub asked_either : (past : List Event) (new : Option Ask) (s : Scanning) → IsAsked past new → IsAsked past s.ask → IsAsked past (after_ask new s).ask
asked_either past None s now before = before
asked_either past (Some a) s now before =
    (elim (is_newer a s.ask) as (λ b. IsAsked past (cond b (record { ask = Some a; phase = Waiting; last = None; copy = None; steps = 0; entries = [] }) s).ask) [
      | true ↦ now
      | false ↦ before
    ])

pub drop_ask : (drops : Option ℕ) (s : Scanning) → (after_drop drops s).ask ≡ s.ask
drop_ask None s = refl
drop_ask (Some chunk) s = refl

pub scan_ask : (answer : ScanAnswer) (past : List ShardEvent) → (scanning (after_answer answer past)).ask ≡ (scanning past).ask
scan_ask scans.Idle past = refl
scan_ask (scans.NotYet count needed) past = refl
scan_ask (scans.Found id) past = refl
scan_ask scans.More past = refl
scan_ask (scans.Passed id mark) past = refl
scan_ask scans.Done past = refl
scan_ask (scans.ListFault count) past = refl

pub hand_ask : (scanned : Option ScanResult) (past : List ShardEvent) → (scanning (past_after_hand scanned past)).ask ≡ (scanning past).ask
hand_ask None past = refl
hand_ask (Some scanned) past = refl
