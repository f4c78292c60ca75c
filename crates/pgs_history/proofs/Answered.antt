-- What the answers to writes tell of the events before them.
use Rattle.std.proofs.Common.{◌≡◌, ℕ, nat_le, Bool, true, false, cond, ◌&&◌, List, [], ◌∷◌, length, Option, Some, None, refl, sym, ap, ◌∙◌, ◌⊎◌, inl, inr}
use Rattle.std.specs.Prelude.{option_map, is_some}
use Rattle.pgs_bytes.proofs.Facts.{none_some, some_none, true_false}
use Rattle.pgs_request.specs.Contexts.{bad_place}
use Rattle.pgs_request.specs.declared.req_id.ReqId.{ReqId}
use Rattle.pgs_request.specs.declared.version.Version.{Version}
use Rattle.pgs_request.specs.declared.answers.Refusal.{Refusal}
use Rattle.pgs_request.specs.declared.answers.Declined.TheVariants.{Repeat, BadSnapContext, Refused}
use Rattle.pgs_name.specs.Families.{Family}
use Rattle.pgs_range.specs.Ranges.{in_range}
use Rattle.pgs_range.specs.declared.family_range.FamilyRange.{FamilyRange}
use Rattle.pgs_op.specs.Refusals.{first}
use Rattle.pgs_op.specs.declared.write.Write.{Write}
use Rattle.pgs_op_log.specs.Logs.{version_in}
use Rattle.pgs_gate.specs.Gate.{verdict_of}
use Rattle.pgs_gate.specs.Waits.{is_parked}
use Rattle.pgs_gate.specs.declared.limits.TheConstants.{MOST_PARKED}
use Rattle.pgs_gate.specs.declared.verdict.Verdict.TheVariants.{Pass, Preempts, Waits}
use Rattle.pgs_history.specs.Log.{ids}
use Rattle.pgs_history.specs.Scrubs.{open_chunk}
use Rattle.pgs_history.specs.Parked.{parked, first_where_closed}
use Rattle.pgs_history.specs.Answers.{refusal, gate_of, verdict, waits, giving_way, preempted, parked_for, where_so, unaccepted, or_accepted, or_admitted, next_version, submit_answer, admit_answer}
use Rattle.pgs_history.specs.declared.chunk.Chunk.{Chunk}
use Rattle.pgs_history.specs.declared.write_answer.WriteAnswer.{WriteAnswer}
use Rattle.pgs_history.specs.declared.write_answer.WriteAnswer.TheVariants.{Declined, Parked, QueueFull, Accepted}
use Rattle.pgs_history.specs.declared.event.Event.{Event}
use Rattle.pgs_history.specs.declared.made.Made.{Made}

-- ---- the rows of the table

abbrev pub rows : Option Version → Bool → Option Chunk → Option ℕ → Bool → Bool → Option Refusal → Option WriteAnswer
rows a p now b full w r = first (
    option_map (λ version. Declined (Repeat version)) a
    ∷ where_so p (parked_for now)
    ∷ option_map (λ place. Declined (BadSnapContext place)) b
    ∷ where_so full (Some (QueueFull MOST_PARKED))
    ∷ where_so w (parked_for now)
    ∷ option_map (λ refusal. Declined (Refused refusal)) r
    ∷ [])

-- the table of a write, by its tests
pub as_rows : (made : Made) (past : List Event) (write : Write) → unaccepted made past write
    ≡ rows (version_in (ids past) write.id) (is_parked (parked past) write.id) (open_chunk past) (bad_place write.context)
    (waits (verdict past write.family) && nat_le MOST_PARKED (length (parked past))) (waits (verdict past write.family)) (refusal past write (next_version made past))
unfolding unaccepted
as_rows made past write = refl

-- ---- a write that was accepted

record AreNone (a : Option Version) (p : Bool) (now : Option Chunk) (b : Option ℕ) (w : Bool) (r : Option Refusal) : Type 0 where
  new : a ≡ None
  apart : where_so p (parked_for now) ≡ None
  ascends : b ≡ None
  passes : where_so w (parked_for now) ≡ None
  unrefused : r ≡ None

-- a row that is there isn't an acceptance
none_from : (a : Option Version) (p : Bool) (now : Option Chunk) (b : Option ℕ) (full w : Bool) (r : Option Refusal) (next version : Version) (gives preempts : Option ℕ)
    → Accepted version preempts ≡ or_accepted (rows a p now b full w r) next gives → AreNone a p now b w r × (next ≡ version) × (gives ≡ preempts)
none_from (Some a) p now b full w r next version gives preempts e = absurd cc
none_from None true (Some c) b full w r next version gives preempts e = absurd cc
none_from None true None (Some b) full w r next version gives preempts e = absurd cc
none_from None true None None true w r next version gives preempts e = absurd cc
none_from None true None None false true (Some r) next version gives preempts e = absurd cc
none_from None true None None false false (Some r) next version gives preempts e = absurd cc
none_from None true None None false true None next version gives preempts e = (record { new = refl; apart = refl; ascends = refl; passes = refl; unrefused = refl }, cc, cc)
none_from None true None None false false None next version gives preempts e = (record { new = refl; apart = refl; ascends = refl; passes = refl; unrefused = refl }, cc, cc)
none_from None false now (Some b) full w r next version gives preempts e = absurd cc
none_from None false now None true w r next version gives preempts e = absurd cc
none_from None false (Some c) None false true r next version gives preempts e = absurd cc
none_from None false None None false true (Some r) next version gives preempts e = absurd cc
none_from None false None None false true None next version gives preempts e = (record { new = refl; apart = refl; ascends = refl; passes = refl; unrefused = refl }, cc, cc)
none_from None false now None false false (Some r) next version gives preempts e = absurd cc
none_from None false now None false false None next version gives preempts e = (record { new = refl; apart = refl; ascends = refl; passes = refl; unrefused = refl }, cc, cc)

-- what waits, waits for an open chunk
passing : (now : Option Chunk) (family : Family) → where_so (waits (verdict_of (gate_of now) family)) (parked_for now) ≡ None → waits (verdict_of (gate_of now) family) ≡ false
passing None family e = refl
passing (Some chunk) family e = by_test (waits (verdict_of (gate_of (Some chunk)) family)) e
  where
    by_test : (w : Bool) → where_so w (Some (Parked chunk.range)) ≡ None → w ≡ false
    by_test true e = absurd (some_none _ e)
    by_test false e = refl

-- what an accepted write tells
pub record IsAccepted (made : Made) (past : List Event) (write : Write) (version : Version) (preempts : Option ℕ) : Type 0 where
  pub next : next_version made past ≡ version
  pub new : version_in (ids past) write.id ≡ None
  pub apart : where_so (is_parked (parked past) write.id) (parked_for (open_chunk past)) ≡ None
  pub ascends : bad_place write.context ≡ None
  pub passes : waits (verdict past write.family) ≡ false
  pub unrefused : refusal past write version ≡ None
  pub gives : preempted past write ≡ preempts

pub accepted_is : (made : Made) (past : List Event) (write : Write) (version : Version) (preempts : Option ℕ) → Accepted version preempts ≡ submit_answer made past write
    → IsAccepted made past write version preempts
accepted_is made past write version preempts e =
    let h = none_from (version_in (ids past) write.id) (is_parked (parked past) write.id) (open_chunk past) (bad_place write.context)
    (waits (verdict past write.family) && nat_le MOST_PARKED (length (parked past))) (waits (verdict past write.family)) (refusal past write (next_version made past))
    (next_version made past) version (preempted past write) preempts
    (e ∙ ap (λ o. or_accepted o (next_version made past) (preempted past write)) (as_rows made past write)) in
    record {
      next = h.1;
      new = h.0.new;
      apart = h.0.apart;
      ascends = h.0.ascends;
      passes = passing (open_chunk past) write.family h.0.passes;
      unrefused = ap (refusal past write) (sym h.1) ∙ h.0.unrefused;
      gives = h.2;
    }

-- ---- a write that was parked

parked_from : (a : Option Version) (p : Bool) (now : Option Chunk) (b : Option ℕ) (full w : Bool) (r : Option Refusal) (next : Version) (gives : Option ℕ) (range : FamilyRange)
    → Parked range ≡ or_accepted (rows a p now b full w r) next gives → (a ≡ None) × ((p ≡ true) ⊎ (w ≡ true))
parked_from (Some a) p now b full w r next gives range e = absurd cc
parked_from None true now b full w r next gives range e = (refl, inl refl)
parked_from None false now (Some b) full w r next gives range e = absurd cc
parked_from None false now None true w r next gives range e = absurd cc
parked_from None false now None false true r next gives range e = (refl, inr refl)
parked_from None false now None false false (Some r) next gives range e = absurd cc
parked_from None false now None false false None next gives range e = absurd cc

-- it isn't in the log, and it waits already or is one into a firm chunk
pub parked_is : (made : Made) (past : List Event) (write : Write) (range : FamilyRange) → Parked range ≡ submit_answer made past write
    → (version_in (ids past) write.id ≡ None) × ((is_parked (parked past) write.id ≡ true) ⊎ (waits (verdict past write.family) ≡ true))
parked_is made past write range e =
    parked_from (version_in (ids past) write.id) (is_parked (parked past) write.id) (open_chunk past) (bad_place write.context)
    (waits (verdict past write.family) && nat_le MOST_PARKED (length (parked past))) (waits (verdict past write.family)) (refusal past write (next_version made past))
    (next_version made past) (preempted past write) range
    (e ∙ ap (λ o. or_accepted o (next_version made past) (preempted past write)) (as_rows made past write))

-- ---- a write that was taken up

admitted_from : (r : Option Refusal) (next version : Version) (preempts : Option ℕ) → Accepted version preempts ≡ or_admitted r next
    → (r ≡ None) × (next ≡ version) × (preempts ≡ None)
admitted_from None next version preempts e = (refl, cc, cc)
admitted_from (Some r) next version preempts e = absurd cc

pub record IsAdmitted (made : Made) (past : List Event) (write : Write) (version : Version) (preempts : Option ℕ) : Type 0 where
  pub next : next_version made past ≡ version
  pub unrefused : refusal past write version ≡ None
  pub gives : preempts ≡ None

pub admitted_is : (made : Made) (past : List Event) (write : Write) (version : Version) (preempts : Option ℕ) → Accepted version preempts ≡ admit_answer made past write
    → IsAdmitted made past write version preempts
admitted_is made past write version preempts e =
    let h = admitted_from (refusal past write (next_version made past)) (next_version made past) version preempts e in
    record { next = h.1; unrefused = ap (refusal past write) (sym h.1) ∙ h.0; gives = h.2 }

-- ---- the write that is taken up next

pub record IsFirst (now : Option Chunk) (writes : List Write) (write : Write) : Type 0 where
  pub closed : now ≡ None
  pub rest : List Write
  pub whole : writes ≡ write ∷ rest

pub first_is : (now : Option Chunk) (writes : List Write) (write : Write) → first_where_closed now writes ≡ Some write → IsFirst now writes write
first_is (Some c) writes write e = absurd cc
first_is None [] write e = absurd cc
first_is None (w ∷ ws) write e = record { closed = refl; rest = ws; whole = cc }

-- nothing is to be taken up, and no chunk is open: so nothing waits
pub idle_from : (now : Option Chunk) (writes : List Write) → is_some (first_where_closed now writes) ≡ false → now ≡ None → writes ≡ []
idle_from now [] e closed = refl
idle_from None (w ∷ ws) e closed = absurd (true_false e)
idle_from (Some c) (w ∷ ws) e closed = absurd (some_none c closed)

pub admitting_closed : (now : Option Chunk) (writes : List Write) → is_some (first_where_closed now writes) ≡ true → now ≡ None
admitting_closed None writes e = refl
admitting_closed (Some c) writes e = absurd (true_false (sym e))

-- a write that is accepted doesn't wait
pub apart_is : (now : Option Chunk) (writes : List Write) (id : ReqId) → where_so (is_parked writes id) (parked_for now) ≡ None → is_some (first_where_closed now writes) ≡ false
    → is_parked writes id ≡ false
apart_is now [] id e idle = refl
apart_is None (w ∷ ws) id e idle = absurd (true_false idle)
apart_is (Some c) (w ∷ ws) id e idle = by_test (is_parked (w ∷ ws) id) e
  where
    by_test : (p : Bool) → where_so p (Some (Parked c.range)) ≡ None → p ≡ false
    by_test true e = absurd (some_none _ e)
    by_test false e = refl

-- ---- verdicts

waits_from : (inside firm : Bool) → waits (cond inside (cond firm Waits Preempts) Pass) ≡ true → (firm ≡ true) × (inside ≡ true)
waits_from true true e = (refl, refl)
waits_from true false e = absurd (true_false (sym e))
waits_from false firm e = absurd (true_false (sym e))

-- a write that waits is one into a firm chunk
pub waits_into : (chunk : Chunk) (family : Family) → waits (verdict_of (gate_of (Some chunk)) family) ≡ true → (chunk.firm ≡ true) × (in_range chunk.range family ≡ true)
waits_into chunk family e = waits_from (in_range chunk.range family) chunk.firm e

-- a write that doesn't wait and for which no chunk gives way is one outside the open chunk
pub outside : (chunk : Chunk) (family : Family) → waits (verdict_of (gate_of (Some chunk)) family) ≡ false → giving_way (verdict_of (gate_of (Some chunk)) family) (Some chunk) ≡ None
    → in_range chunk.range family ≡ false
outside chunk family e g = go (in_range chunk.range family) chunk.firm e g
  where
    go : (inside firm : Bool) → waits (cond inside (cond firm Waits Preempts) Pass) ≡ false → giving_way (cond inside (cond firm Waits Preempts) Pass) (Some chunk) ≡ None
        → inside ≡ false
    go true true e g = absurd (true_false e)
    go true false e g = absurd (some_none _ g)
    go false firm e g = refl

-- the chunk that gives way is the open one, and it isn't firm
pub record IsGivingWay (now : Option Chunk) (number : ℕ) : Type 0 where
  pub chunk : Chunk
  pub is : now ≡ Some chunk
  pub numbered : chunk.number ≡ number
  pub yields : chunk.firm ≡ false

pub gives_way : (now : Option Chunk) (family : Family) (number : ℕ) → giving_way (verdict_of (gate_of now) family) now ≡ Some number → IsGivingWay now number
gives_way None family number e = absurd (none_some number e)
gives_way (Some chunk) family number e = let h = go (in_range chunk.range family) chunk.firm e in record { chunk = chunk; is = refl; numbered = h.0; yields = h.1 }
  where
    go : (inside firm : Bool) → giving_way (cond inside (cond firm Waits Preempts) Pass) (Some chunk) ≡ Some number → (chunk.number ≡ number) × (firm ≡ false)
    go true true e = absurd (none_some number e)
    go true false e = (cc, refl)
    go false firm e = absurd (none_some number e)
