-- Writes wait only for an open chunk that has their family, and a scrub gives way no more often than it may.
use Rattle.std.proofs.Common.{◌≡◌, ℕ, ◌+◌, ◌≤◌, ◌==◌, ◌||◌, ◌&&◌, Bool, true, false, List, [], ◌∷◌, Option, Some, None, refl, sym, ap, ◌∙◌, arith, inl, inr, length, nat_le}
use Rattle.std.proofs.lemmas.Bool.Decides.{nat_tests}
use Rattle.pgs_bytes.proofs.Facts.{none_some, some_same, true_false}
use Rattle.pgs_name.specs.Families.{Family}
use Rattle.pgs_range.specs.Ranges.{in_range}
use Rattle.pgs_range.specs.declared.family_range.FamilyRange.{FamilyRange}
use Rattle.pgs_request.specs.Contexts.{bad_place}
use Rattle.pgs_request.specs.declared.req_id.ReqId.{ReqId}
use Rattle.pgs_request.specs.declared.version.Version.{Version}
use Rattle.pgs_request.specs.declared.answers.Refusal.{Refusal}
use Rattle.pgs_op.specs.declared.write.Write.{Write}
use Rattle.pgs_op_log.specs.Logs.{version_in}
use Rattle.pgs_gate.specs.Gate.{verdict_of}
use Rattle.pgs_gate.specs.Waits.{is_parked}
use Rattle.pgs_gate.specs.declared.limits.TheConstants.{MOST_PARKED}
use Rattle.pgs_history.specs.Log.{ids}
use Rattle.pgs_history.specs.Parked.{parked, AreHeld}
use Rattle.pgs_history.specs.Scrubs.{used, present, current, open_chunk, is_firm}
use Rattle.pgs_history.specs.Answers.{gate_of, verdict, waits, refusal, next_version, or_accepted, preempted, submit_answer, begin_answer}
use Rattle.pgs_history.specs.Legal.{IsLegal}
use Rattle.pgs_history.specs.declared.chunk.Chunk.{Chunk}
use Rattle.pgs_history.specs.declared.write_answer.WriteAnswer.TheVariants.{Declined, Parked, QueueFull, Accepted}
use Rattle.pgs_history.specs.declared.begin_answer.BeginAnswer.TheVariants.{Busy, Began}
use Rattle.pgs_history.specs.declared.fault_answer.FaultAnswer.TheVariants as faults
use Rattle.pgs_history.specs.declared.interval_answer.IntervalAnswer.TheVariants as intervals
use Rattle.pgs_history.specs.declared.open_answer.OpenAnswer.TheVariants.{Over, StillReserving, Already, Opened}
use Rattle.pgs_history.specs.declared.close_answer.CloseAnswer.TheVariants as closes
use Rattle.pgs_history.specs.declared.event.Event.{Event}
use Rattle.pgs_history.specs.declared.event.Event.TheVariants.{Submit, Admit, Collect, Pull, Tell, Begin, Reserve, Open, Take, Close, Fault, Interval}
use Rattle.pgs_history.specs.declared.made.Made.{Made}
use Rattle.pgs_history.proofs.Answered.{rows, as_rows, accepted_is, parked_is, waits_into, gives_way}
use Rattle.pgs_history.proofs.Gates.{waiting}
use Rattle.pgs_history.proofs.Causes.{caused}
use Rattle.pgs_history.proofs.Steps.{began_is, opened_is}
use Rattle.pgs_placement.specs.Versions.{IsInside, WaitInside}
use Rattle.pgs_placement.proofs.Asks.{running_is}

-- ---- a write that is parked

-- a chunk is open
parked_open : (a : Option Version) (p : Bool) (now : Option Chunk) (b : Option ℕ) (full w : Bool) (r : Option Refusal) (next : Version) (gives : Option ℕ) (range : FamilyRange)
    → Parked range ≡ or_accepted (rows a p now b full w r) next gives → (c : Chunk) × (now ≡ Some c)
parked_open (Some a) p now b full w r next gives range e = absurd cc
parked_open None p (Some c) b full w r next gives range e = (c, refl)
parked_open None true None (Some b) full w r next gives range e = absurd cc
parked_open None true None None true w r next gives range e = absurd cc
parked_open None true None None false true (Some r) next gives range e = absurd cc
parked_open None true None None false true None next gives range e = absurd cc
parked_open None true None None false false (Some r) next gives range e = absurd cc
parked_open None true None None false false None next gives range e = absurd cc
parked_open None false None (Some b) full w r next gives range e = absurd cc
parked_open None false None None true w r next gives range e = absurd cc
parked_open None false None None false true (Some r) next gives range e = absurd cc
parked_open None false None None false true None next gives range e = absurd cc
parked_open None false None None false false (Some r) next gives range e = absurd cc
parked_open None false None None false false None next gives range e = absurd cc

-- where one of an id waits for a chunk, that is firm
held_firm : (chunk : Chunk) (writes : List Write) (id : ReqId) → AreHeld chunk writes → is_parked writes id ≡ true → chunk.firm ≡ true
held_firm chunk [] id held there = absurd (true_false (sym there))
held_firm chunk (write ∷ writes) id held there = held.0

or_true : (a b : Bool) → b ≡ true → (a || b) ≡ true
or_true true b e = refl
or_true false b e = e

parked_inside : (made : Made) (past : List Event) (write : Write) (range : FamilyRange) → IsLegal made past → Parked range ≡ submit_answer made past write → IsInside past write
parked_inside made past write range legal e =
    let found = parked_open (version_in (ids past) write.id) (is_parked (parked past) write.id) (open_chunk past) (bad_place write.context)
    (waits (verdict past write.family) && nat_le MOST_PARKED (length (parked past))) (waits (verdict past write.family)) (refusal past write (next_version made past))
    (next_version made past) (preempted past write) range
    (e ∙ ap (λ o. or_accepted o (next_version made past) (preempted past write)) (as_rows made past write)) in
    let chunk : Chunk = found.0 in
    elim (parked_is made past write range e).1 [
      | inl old ↦ record {
        chunk = chunk;
        is = found.1;
        firm = held_firm chunk (parked past) write.id (waiting made past legal chunk found.1) old;
        inside = or_true (in_range chunk.range write.family) (is_parked (parked past) write.id) old;
      }
      | inr waits_now ↦
          let into = waits_into chunk write.family (ap (λ now. waits (verdict_of (gate_of now) write.family)) (sym found.1) ∙ waits_now) in
          record { chunk = chunk; is = found.1; firm = into.0; inside = ap (λ b. b || is_parked (parked past) write.id) into.1 }
    ]

-- ---- a write that is turned away

full_from : (a : Option Version) (p : Bool) (now : Option Chunk) (b : Option ℕ) (full w : Bool) (r : Option Refusal) (next : Version) (gives : Option ℕ) (count : ℕ)
    → QueueFull count ≡ or_accepted (rows a p now b full w r) next gives → full ≡ true
full_from a p now b true w r next gives count e = refl
full_from (Some a) p now b false w r next gives count e = absurd cc
full_from None true (Some c) b false w r next gives count e = absurd cc
full_from None true None (Some b) false w r next gives count e = absurd cc
full_from None true None None false true (Some r) next gives count e = absurd cc
full_from None true None None false true None next gives count e = absurd cc
full_from None true None None false false (Some r) next gives count e = absurd cc
full_from None true None None false false None next gives count e = absurd cc
full_from None false now (Some b) false w r next gives count e = absurd cc
full_from None false (Some c) None false true r next gives count e = absurd cc
full_from None false None None false true (Some r) next gives count e = absurd cc
full_from None false None None false true None next gives count e = absurd cc
full_from None false now None false false (Some r) next gives count e = absurd cc
full_from None false now None false false None next gives count e = absurd cc

first_true : (a b : Bool) → (a && b) ≡ true → a ≡ true
first_true true b e = refl
first_true false b e = e

waits_open : (now : Option Chunk) (family : Family) → waits (verdict_of (gate_of now) family) ≡ true → (c : Chunk) × (now ≡ Some c)
waits_open None family e = absurd (true_false (sym e))
waits_open (Some c) family e = (c, refl)

full_inside : (made : Made) (past : List Event) (write : Write) (count : ℕ) → QueueFull count ≡ submit_answer made past write → IsInside past write
full_inside made past write count e =
    let full = full_from (version_in (ids past) write.id) (is_parked (parked past) write.id) (open_chunk past) (bad_place write.context)
    (waits (verdict past write.family) && nat_le MOST_PARKED (length (parked past))) (waits (verdict past write.family)) (refusal past write (next_version made past))
    (next_version made past) (preempted past write) count
    (e ∙ ap (λ o. or_accepted o (next_version made past) (preempted past write)) (as_rows made past write)) in
    let waits_now : waits (verdict past write.family) ≡ true = first_true (waits (verdict past write.family)) (nat_le MOST_PARKED (length (parked past))) full in
    let found = waits_open (open_chunk past) write.family waits_now in
    let into = waits_into found.0 write.family (ap (λ now. waits (verdict_of (gate_of now) write.family)) (sym found.1) ∙ waits_now) in
    record { chunk = found.0; is = found.1; firm = into.0; inside = ap (λ b. b || is_parked (parked past) write.id) into.1 }

pub wait_inside : (made : Made) (past : List Event) → IsLegal made past → WaitInside past
wait_inside made [] legal = tt
wait_inside made (Submit write (Declined why) ∷ past) legal = (tt, wait_inside made past legal.2)
wait_inside made (Submit write (Parked range) ∷ past) legal = (parked_inside made past write range legal.2 legal.1, wait_inside made past legal.2)
wait_inside made (Submit write (QueueFull count) ∷ past) legal = (full_inside made past write count legal.1, wait_inside made past legal.2)
wait_inside made (Submit write (Accepted version preempts) ∷ past) legal = (tt, wait_inside made past legal.2)
wait_inside made (Admit write answer ∷ past) legal = (tt, wait_inside made past legal.2)
wait_inside made (Collect id version ∷ past) legal = (tt, wait_inside made past legal.2)
wait_inside made (Pull osd from to asked ∷ past) legal = (tt, wait_inside made past legal.2)
wait_inside made (Tell osd count ∷ past) legal = (tt, wait_inside made past legal.2)
wait_inside made (Begin kind answer ∷ past) legal = (tt, wait_inside made past legal.2)
wait_inside made (Open serial listed answer ∷ past) legal = (tt, wait_inside made past legal.2)
wait_inside made (Take place map answer ∷ past) legal = (tt, wait_inside made past legal.2)
wait_inside made (Reserve serial osd denied answer ∷ past) legal = (tt, wait_inside made past legal.2)
wait_inside made (Fault serial chunk osd count answer ∷ past) legal = (tt, wait_inside made past legal.2)
wait_inside made (Interval osds answer ∷ past) legal = (tt, wait_inside made past legal.2)
wait_inside made (Close chunk answer ∷ past) legal = (tt, wait_inside made past legal.2)

-- ---- how often a scrub gave way

-- a scrub gave way no more often than it may, and the open chunk is firm exactly where it gave way so often
record IsSpare (made : Made) (past : List Event) : Type 0 where
  most : used past ≤ made.limits.preemptions
  firm : (chunk : Chunk) → open_chunk past ≡ Some chunk → chunk.firm ≡ is_firm made past

-- no chunk is open where a scrub begins
pub none_open : (made : Made) (past : List Event) (serial first : ℕ) → IsLegal made past → Began serial first ≡ begin_answer made past → open_chunk past ≡ None
none_open made past serial first legal e = by_chunk (open_chunk past) refl
  where
    by_chunk : (now : Option Chunk) → open_chunk past ≡ now → now ≡ None
    by_chunk None is = refl
    by_chunk (Some chunk) is =
        let here : present past ≡ Some chunk.serial = running_is (current past) chunk.serial ((caused made past legal).runs chunk is) in
        absurd (none_some chunk.serial (sym (began_is made past serial first e).0 ∙ here))

no_chunk : (made : Made) (past : List Event) (serial first : ℕ) → IsLegal made past → Began serial first ≡ begin_answer made past → (chunk : Chunk) → open_chunk past ≡ Some chunk → ⊥
no_chunk made past serial first legal e chunk is = none_some chunk (sym (none_open made past serial first legal e) ∙ is)

gave_less : (made : Made) (past : List Event) (write : Write) (version : Version) (number : ℕ) → IsSpare made past → Accepted version (Some number) ≡ submit_answer made past write
    → used past + 1 ≤ made.limits.preemptions
gave_less made past write version number h e =
    let g = gives_way (open_chunk past) write.family number (accepted_is made past write version (Some number) e).gives in
    let not_all : (used past == made.limits.preemptions) ≡ false = sym (h.firm g.chunk g.is) ∙ g.yields in
    let most = h.most in
    grind (arith, nat_tests, not_all, most)

spare : (made : Made) (past : List Event) → IsLegal made past → IsSpare made past
spare made [] legal = record { most = omega arith; firm = λ chunk is. absurd (none_some chunk is) }
spare made (Submit write (Declined why) ∷ past) legal = let h = spare made past legal.2 in record { most = h.most; firm = h.firm }
spare made (Submit write (Parked range) ∷ past) legal = let h = spare made past legal.2 in record { most = h.most; firm = h.firm }
spare made (Submit write (QueueFull count) ∷ past) legal = let h = spare made past legal.2 in record { most = h.most; firm = h.firm }
spare made (Submit write (Accepted version None) ∷ past) legal = let h = spare made past legal.2 in record { most = h.most; firm = h.firm }
spare made (Submit write (Accepted version (Some number)) ∷ past) legal =
    record { most = gave_less made past write version number (spare made past legal.2) legal.1; firm = λ chunk is. absurd (none_some chunk is) }
spare made (Admit write answer ∷ past) legal = let h = spare made past legal.2 in record { most = h.most; firm = h.firm }
spare made (Collect id version ∷ past) legal = let h = spare made past legal.2 in record { most = h.most; firm = h.firm }
spare made (Pull osd from to asked ∷ past) legal = let h = spare made past legal.2 in record { most = h.most; firm = h.firm }
spare made (Tell osd count ∷ past) legal = let h = spare made past legal.2 in record { most = h.most; firm = h.firm }
spare made (Begin kind (Busy serial) ∷ past) legal = let h = spare made past legal.2 in record { most = h.most; firm = h.firm }
spare made (Begin kind (Began serial first) ∷ past) legal = record { most = omega arith; firm = λ chunk is. absurd (no_chunk made past serial first legal.2 legal.1 chunk is) }
spare made (Open serial listed (Over cause) ∷ past) legal = let h = spare made past legal.2 in record { most = h.most; firm = h.firm }
spare made (Open serial listed (StillReserving osd) ∷ past) legal = let h = spare made past legal.2 in record { most = h.most; firm = h.firm }
spare made (Open serial listed (Already chunk) ∷ past) legal = let h = spare made past legal.2 in record { most = h.most; firm = h.firm }
spare made (Open serial listed (Opened chunk) ∷ past) legal =
    let h = spare made past legal.2 in
    let is = opened_is made past serial listed chunk legal.1.2 in
    record { most = h.most; firm = λ other now. ap (λ c. c.firm) (sym (some_same chunk other now) ∙ is.next) }
spare made (Take place map answer ∷ past) legal = let h = spare made past legal.2 in record { most = h.most; firm = h.firm }
spare made (Close chunk closes.NoChunk ∷ past) legal = let h = spare made past legal.2 in record { most = h.most; firm = h.firm }
spare made (Close chunk closes.ClosedBefore ∷ past) legal = let h = spare made past legal.2 in record { most = h.most; firm = h.firm }
spare made (Close chunk (closes.Preempted request) ∷ past) legal = let h = spare made past legal.2 in record { most = h.most; firm = h.firm }
spare made (Close chunk (closes.IntervalChanged old new) ∷ past) legal = let h = spare made past legal.2 in record { most = h.most; firm = h.firm }
spare made (Close chunk (closes.DeviceFault osd count) ∷ past) legal = let h = spare made past legal.2 in record { most = h.most; firm = h.firm }
spare made (Close chunk (closes.NotYet osd) ∷ past) legal = let h = spare made past legal.2 in record { most = h.most; firm = h.firm }
spare made (Close chunk (closes.Closed report completes) ∷ past) legal =
    let h = spare made past legal.2 in record { most = h.most; firm = λ c is. absurd (none_some c is) }
spare made (Reserve serial osd denied answer ∷ past) legal = let h = spare made past legal.2 in record { most = h.most; firm = h.firm }
spare made (Fault serial number osd count (faults.Stale now) ∷ past) legal = let h = spare made past legal.2 in record { most = h.most; firm = h.firm }
spare made (Fault serial number osd count faults.Ended ∷ past) legal =
    let h = spare made past legal.2 in record { most = h.most; firm = λ c is. absurd (none_some c is) }
spare made (Interval osds (intervals.LastEpoch epoch) ∷ past) legal = let h = spare made past legal.2 in record { most = h.most; firm = h.firm }
spare made (Interval osds (intervals.NotCaughtUp osd count total) ∷ past) legal = let h = spare made past legal.2 in record { most = h.most; firm = h.firm }
spare made (Interval osds (intervals.Changed epoch ends) ∷ past) legal =
    let h = spare made past legal.2 in record { most = h.most; firm = λ c is. absurd (none_some c is) }

pub used_most : (made : Made) (past : List Event) → IsLegal made past → used past ≤ made.limits.preemptions
used_most made past legal = (spare made past legal).most
