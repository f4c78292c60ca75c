-- What waits in a legal history, and what the log has of the open chunk's families.
use Rattle.std.proofs.Common.{◌≡◌, ℕ, ◌≤◌, nat_lt, max, Bool, true, false, cond, List, [], ◌∷◌, ◌++◌, Some, None, refl, sym, ap, ◌∙◌, subst, arith, ◌⊎◌, inl, inr}
use Rattle.std.proofs.lemmas.Bool.Decides.{nat_tests}
use Rattle.pgs_bytes.proofs.Facts.{none_some, some_same, true_false}
use Rattle.pgs_range.specs.Ranges.{in_range}
use Rattle.pgs_medium.specs.declared.item.Item.{Item}
use Rattle.pgs_op.specs.declared.write.Write.{Write}
use Rattle.pgs_op_log.specs.Logs.{greatest_in}
use Rattle.pgs_gate.specs.Waits.{is_parked}
use Rattle.pgs_history.specs.Log.{log, item_of}
use Rattle.pgs_history.specs.Scrubs.{open_chunk}
use Rattle.pgs_history.specs.Parked.{parked, put_last, AreHeld, AreWaiting, AreOutside, NoneAbove}
use Rattle.pgs_history.specs.Answers.{gate_of, verdict, waits, giving_way}
use Rattle.pgs_history.specs.Legal.{IsLegal}
use Rattle.pgs_gate.specs.Gate.{verdict_of}
use Rattle.pgs_history.specs.declared.chunk.Chunk.{Chunk}
use Rattle.pgs_history.specs.declared.write_answer.WriteAnswer.TheVariants.{Declined, Parked, QueueFull, Accepted}
use Rattle.pgs_history.specs.declared.open_answer.OpenAnswer.TheVariants.{Over, StillReserving, Already, Opened}
use Rattle.pgs_history.specs.declared.close_answer.CloseAnswer.TheVariants as closes
use Rattle.pgs_history.specs.declared.event.Event.{Event}
use Rattle.pgs_history.specs.declared.event.Event.TheVariants.{Submit, Admit, Collect, Pull, Tell, Begin, Reserve, Open, Take, Close, Fault, Interval}
use Rattle.pgs_history.specs.declared.fault_answer.FaultAnswer.TheVariants as faults
use Rattle.pgs_history.specs.declared.interval_answer.IntervalAnswer.TheVariants as intervals
use Rattle.pgs_history.specs.declared.made.Made.{Made}
use Rattle.pgs_history.proofs.Answered.{accepted_is, parked_is, idle_from, admitting_closed, waits_into, outside}
use Rattle.pgs_history.proofs.Steps.{opened_is}

-- ---- what waits is held by a firm chunk

held_behind : (chunk : Chunk) (writes : List Write) (write : Write) → AreHeld chunk writes → (chunk.firm ≡ true) × (in_range chunk.range write.family ≡ true)
    → AreHeld chunk (writes ++ write ∷ [])
held_behind chunk [] write held into = (into.0, into.1, tt)
held_behind chunk (other ∷ writes) write held into = (held.0, held.1, held_behind chunk writes write held.2 into)

held_last : (chunk : Chunk) (writes : List Write) (write : Write) → AreHeld chunk writes
    → (is_parked writes write.id ≡ true) ⊎ (waits (verdict_of (gate_of (Some chunk)) write.family) ≡ true) → AreHeld chunk (put_last write writes)
held_last chunk writes write held why =
    let P : Bool → Type 0 = λ v. is_parked writes write.id ≡ v → AreHeld chunk (cond v writes (writes ++ write ∷ [])) in
    (elim (is_parked writes write.id) as P [
      | true ↦ λ old. held
      | false ↦ λ apart.
          elim why [
            | inl old ↦ absurd (true_false (sym old ∙ apart))
            | inr into ↦ held_behind chunk writes write held (waits_into chunk write.family into)
          ]
    ]) refl

-- a write that is parked
one_parked : (past : List Event) (write : Write) → (is_parked (parked past) write.id ≡ true) ⊎ (waits (verdict past write.family) ≡ true) → AreWaiting past
    → (chunk : Chunk) → open_chunk past ≡ Some chunk → AreHeld chunk (put_last write (parked past))
one_parked past write why h chunk is =
    held_last chunk (parked past) write (h chunk is)
    (elim why [ inl old ↦ inl old | inr into ↦ inr (ap (λ now. waits (verdict_of (gate_of now) write.family)) (sym is) ∙ into) ])

none_held : (past : List Event) (chunk : Chunk) → parked past ≡ [] → AreHeld chunk (parked past)
none_held past chunk none = subst (AreHeld chunk) (sym none) tt

pub waiting : (made : Made) (past : List Event) → IsLegal made past → AreWaiting past
waiting made [] legal = λ chunk is. absurd (none_some chunk is)
waiting made (Submit write (Declined why) ∷ past) legal = waiting made past legal.2
waiting made (Submit write (Parked range) ∷ past) legal = one_parked past write (parked_is made past write range legal.1).1 (waiting made past legal.2)
waiting made (Submit write (QueueFull count) ∷ past) legal = waiting made past legal.2
waiting made (Submit write (Accepted version None) ∷ past) legal = waiting made past legal.2
waiting made (Submit write (Accepted version (Some number)) ∷ past) legal = λ chunk is. absurd (none_some chunk is)
waiting made (Admit write answer ∷ past) legal = λ chunk is. absurd (none_some chunk (sym (admitting_closed (open_chunk past) (parked past) legal.0) ∙ is))
waiting made (Collect id version ∷ past) legal = waiting made past legal.2
waiting made (Pull osd from to asked ∷ past) legal = waiting made past legal.2
waiting made (Tell osd applied ∷ past) legal = waiting made past legal.2
waiting made (Begin kind answer ∷ past) legal = waiting made past legal.2
waiting made (Reserve serial osd denied answer ∷ past) legal = waiting made past legal.2
waiting made (Open serial listed (Over cause) ∷ past) legal = waiting made past legal.2
waiting made (Open serial listed (StillReserving osd) ∷ past) legal = waiting made past legal.2
waiting made (Open serial listed (Already chunk) ∷ past) legal = waiting made past legal.2
waiting made (Open serial listed (Opened chunk) ∷ past) legal =
    λ c is. none_held past c (idle_from (open_chunk past) (parked past) legal.0 (opened_is made past serial listed chunk legal.1.2).closed)
waiting made (Take place map answer ∷ past) legal = waiting made past legal.2
waiting made (Close number closes.NoChunk ∷ past) legal = waiting made past legal.2
waiting made (Close number closes.ClosedBefore ∷ past) legal = waiting made past legal.2
waiting made (Close number (closes.Preempted request) ∷ past) legal = waiting made past legal.2
waiting made (Close number (closes.IntervalChanged old new) ∷ past) legal = waiting made past legal.2
waiting made (Close number (closes.DeviceFault osd count) ∷ past) legal = waiting made past legal.2
waiting made (Close number (closes.NotYet osd) ∷ past) legal = waiting made past legal.2
waiting made (Close number (closes.Closed report completes) ∷ past) legal = λ chunk is. absurd (none_some chunk is)
waiting made (Fault serial number osd count (faults.Stale now) ∷ past) legal = waiting made past legal.2
waiting made (Fault serial number osd count faults.Ended ∷ past) legal = λ chunk is. absurd (none_some chunk is)
waiting made (Interval osds (intervals.LastEpoch old) ∷ past) legal = waiting made past legal.2
waiting made (Interval osds (intervals.NotCaughtUp osd count total) ∷ past) legal = waiting made past legal.2
waiting made (Interval osds (intervals.Changed new serial) ∷ past) legal = λ chunk is. absurd (none_some chunk is)

-- ---- nothing of the range above the version

at_most_max : (a b v : ℕ) → max a b ≤ v → (a ≤ v) × (b ≤ v)
at_most_max a b v h = (omega (arith, h), omega (arith, h))

-- an item of the range has at most the greatest number
not_above : (inside : Bool) (number version : ℕ) → cond inside number 0 ≤ version → nat_lt version number ≡ true → inside ≡ false
not_above true number version within above = absurd (true_false (sym above ∙ grind (arith, nat_tests, within)))
not_above false number version within above = refl

none_greater : (chunk : Chunk) (items : List Item) → greatest_in chunk.range items ≤ chunk.version → AreOutside chunk items
none_greater chunk [] h = tt
none_greater chunk (item ∷ items) h =
    let parts = at_most_max (cond (in_range chunk.range item.family) item.number 0) (greatest_in chunk.range items) chunk.version h in
    (not_above (in_range chunk.range item.family) item.number chunk.version parts.0, none_greater chunk items parts.1)

same_at_most : (a b : ℕ) → a ≡ b → b ≤ a
same_at_most a b e = omega (arith, e)

-- a write that was accepted lies outside the open chunk
one_outside : (made : Made) (past : List Event) (write : Write) (item : Item) → item.family ≡ write.family → waits (verdict past write.family) ≡ false
    → giving_way (verdict past write.family) (open_chunk past) ≡ None → NoneAbove past → (chunk : Chunk) → open_chunk past ≡ Some chunk → AreOutside chunk (item ∷ log past)
one_outside made past write item of passes gives h chunk is = (
  λ above. ap (in_range chunk.range) of
      ∙ outside chunk write.family (ap (λ now. waits (verdict_of (gate_of now) write.family)) (sym is) ∙ passes)
      (ap (λ now. giving_way (verdict_of (gate_of now) write.family) now) (sym is) ∙ gives),
  h chunk is,
)

pub none_above : (made : Made) (past : List Event) → IsLegal made past → NoneAbove past
none_above made [] legal = λ chunk is. absurd (none_some chunk is)
none_above made (Submit write (Declined why) ∷ past) legal = none_above made past legal.2
none_above made (Submit write (Parked range) ∷ past) legal = none_above made past legal.2
none_above made (Submit write (QueueFull count) ∷ past) legal = none_above made past legal.2
none_above made (Submit write (Accepted version None) ∷ past) legal =
    let a = accepted_is made past write version None legal.1 in
    one_outside made past write (item_of version write (log past)) refl a.passes a.gives (none_above made past legal.2)
none_above made (Submit write (Accepted version (Some number)) ∷ past) legal = λ chunk is. absurd (none_some chunk is)
none_above made (Admit write answer ∷ past) legal = λ chunk is. absurd (none_some chunk (sym (admitting_closed (open_chunk past) (parked past) legal.0) ∙ is))
none_above made (Collect id version ∷ past) legal = none_above made past legal.2
none_above made (Pull osd from to asked ∷ past) legal = none_above made past legal.2
none_above made (Tell osd applied ∷ past) legal = none_above made past legal.2
none_above made (Begin kind answer ∷ past) legal = none_above made past legal.2
none_above made (Reserve serial osd denied answer ∷ past) legal = none_above made past legal.2
none_above made (Open serial listed (Over cause) ∷ past) legal = none_above made past legal.2
none_above made (Open serial listed (StillReserving osd) ∷ past) legal = none_above made past legal.2
none_above made (Open serial listed (Already chunk) ∷ past) legal = none_above made past legal.2
none_above made (Open serial listed (Opened chunk) ∷ past) legal =
    let next = (opened_is made past serial listed chunk legal.1.2).next in
    let version : chunk.version ≡ greatest_in chunk.range (log past) = ap (λ c. c.version) next ∙ ap (λ c. greatest_in c.range (log past)) (sym next) in
    λ c is.
    let same : chunk ≡ c = some_same chunk c is in
    subst (λ k. AreOutside k (log past)) same (none_greater chunk (log past) (same_at_most chunk.version (greatest_in chunk.range (log past)) version))
none_above made (Take place map answer ∷ past) legal = none_above made past legal.2
none_above made (Close number closes.NoChunk ∷ past) legal = none_above made past legal.2
none_above made (Close number closes.ClosedBefore ∷ past) legal = none_above made past legal.2
none_above made (Close number (closes.Preempted request) ∷ past) legal = none_above made past legal.2
none_above made (Close number (closes.IntervalChanged old new) ∷ past) legal = none_above made past legal.2
none_above made (Close number (closes.DeviceFault osd count) ∷ past) legal = none_above made past legal.2
none_above made (Close number (closes.NotYet osd) ∷ past) legal = none_above made past legal.2
none_above made (Close number (closes.Closed report completes) ∷ past) legal = λ chunk is. absurd (none_some chunk is)
none_above made (Fault serial number osd count (faults.Stale now) ∷ past) legal = none_above made past legal.2
none_above made (Fault serial number osd count faults.Ended ∷ past) legal = λ chunk is. absurd (none_some chunk is)
none_above made (Interval osds (intervals.LastEpoch old) ∷ past) legal = none_above made past legal.2
none_above made (Interval osds (intervals.NotCaughtUp osd count total) ∷ past) legal = none_above made past legal.2
none_above made (Interval osds (intervals.Changed new serial) ∷ past) legal = λ chunk is. absurd (none_some chunk is)
