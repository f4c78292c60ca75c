-- Each chunk of a legal history has one fate, but for the one that is open.
use Rattle.std.proofs.Common.{◌≡◌, ℕ, zero, suc, ◌+◌, ◌≤◌, ◌<◌, ◌==◌, Bool, true, false, cond, List, [], ◌∷◌, ◌++◌, length, Option, Some, None, refl, sym, ap, ◌∙◌, subst, arith}
use Rattle.std.proofs.lemmas.Bool.Decides.{nat_tests}
use Rattle.std.specs.Prelude.{is_some, slice_get}
use Rattle.std.proofs.lemmas.Option.{slice_get_past}
use Rattle.std.proofs.lemmas.List.{length_push}
use Rattle.pgs_bytes.proofs.Facts.{none_some, some_same, true_false}
use Rattle.pgs_history.specs.Acting.{epoch}
use Rattle.pgs_history.specs.Scrubs.{opened, open_chunk, has_number, ends, with_fate, fates, ended, or_first}
use Rattle.pgs_history.specs.Legal.{IsLegal}
use Rattle.pgs_history.specs.Chunks.{AreFated}
use Rattle.pgs_history.specs.declared.made.Made.{Made}
use Rattle.pgs_history.specs.declared.chunk.Chunk.{Chunk}
use Rattle.pgs_history.specs.declared.event.Event.{Event}
use Rattle.pgs_history.specs.declared.event.Event.TheVariants.{Submit, Admit, Collect, Pull, Tell, Begin, Reserve, Open, Take, Close, Fault, Interval}
use Rattle.pgs_history.specs.declared.fault_answer.FaultAnswer.TheVariants as faults
use Rattle.pgs_history.specs.declared.interval_answer.IntervalAnswer.TheVariants as intervals
use Rattle.pgs_history.specs.declared.fate.Fate.{Fate}
use Rattle.pgs_history.specs.declared.fate.Fate.TheVariants as fates_are
use Rattle.pgs_history.specs.declared.write_answer.WriteAnswer.TheVariants.{Declined, Parked, QueueFull, Accepted}
use Rattle.pgs_history.specs.declared.open_answer.OpenAnswer.TheVariants.{Over, StillReserving, Already, Opened}
use Rattle.pgs_history.specs.declared.close_answer.CloseAnswer.TheVariants as closes
use Rattle.pgs_history.proofs.Steps.{opened_is, closed_is}
use Rattle.pgs_history.proofs.Answered.{accepted_is, gives_way}

-- ---- one more in a list

last_there : (list : List Fate) (fate : Fate) → slice_get (list ++ fate ∷ []) (length list) ≡ Some fate
last_there [] fate = refl
last_there (x ∷ list) fate = last_there list fate

others_there : (list : List Fate) (fate : Fate) (place : ℕ) → (place ≡ length list → ⊥) → slice_get (list ++ fate ∷ []) place ≡ slice_get list place
others_there [] fate zero other = absurd (other refl)
others_there [] fate (suc place) other = refl
others_there (x ∷ list) fate zero other = refl
others_there (x ∷ list) fate (suc place) other = others_there list fate place (λ e. other (ap suc e))

-- ---- what opens and ends no chunk

pub record AreAlike (made : Made) (past new : List Event) : Type 0 where
  pub opens : opened new ≡ opened past
  pub now : open_chunk new ≡ open_chunk past
  pub counts : (chunk : ℕ) → ends new chunk ≡ ends past chunk
  pub same : fates made new ≡ fates made past
  pub told : (chunk : ℕ) → ended made new chunk ≡ ended made past chunk

-- what opens and ends no chunk changes nothing
stays : (made : Made) (past new : List Event) → AreAlike made past new → AreFated made past → AreFated made new
stays made past new a h = record {
  each = λ chunk some within. a.counts chunk ∙ h.each chunk some (subst (λ k. chunk ≤ k) a.opens within) ∙ ap (λ now. cond (has_number now chunk) 0 1) (sym a.now);
  others = λ chunk over. a.counts chunk ∙ h.others chunk (subst (λ k. k < chunk) a.opens over);
  last = λ chunk is. h.last chunk (sym a.now ∙ is) ∙ sym a.opens;
  count = ap (λ list. length list + cond (is_some (open_chunk new)) 1 0) a.same ∙ ap (λ now. length (fates made past) + cond (is_some now) 1 0) a.now ∙ h.count ∙ sym a.opens;
  told = λ place. ap (λ list. slice_get list place) a.same ∙ h.told place ∙ sym (a.told (place + 1));
}

alike : (made : Made) (past : List Event) (event : Event) → opened (event ∷ past) ≡ opened past → open_chunk (event ∷ past) ≡ open_chunk past
    → ((chunk : ℕ) → ends (event ∷ past) chunk ≡ ends past chunk) → fates made (event ∷ past) ≡ fates made past
    → ((chunk : ℕ) → ended made (event ∷ past) chunk ≡ ended made past chunk) → AreFated made past → AreFated made (event ∷ past)
alike made past event o c n f t h = stays made past (event ∷ past) (record { opens = o; now = c; counts = n; same = f; told = t }) h

-- ---- a chunk more

one_opened : (made : Made) (past new : List Event) (chunk : Chunk) → open_chunk past ≡ None → chunk.number ≡ opened past + 1
    → opened new ≡ opened past + 1 → open_chunk new ≡ Some chunk → ((number : ℕ) → ends new number ≡ ends past number) → fates made new ≡ fates made past
    → ((number : ℕ) → ended made new number ≡ ended made past number) → AreFated made past → AreFated made new
one_opened made past new chunk none next o c n f t h = record {
  each = λ number some within.
      let P : Bool → Type 0 = λ v. (chunk.number == number) ≡ v → ends past number ≡ cond v 0 1 in
      n number
      ∙ (elim (chunk.number == number) as P [
        | true ↦ λ same. h.others number (let is : chunk.number ≡ number = grind (arith, nat_tests, same) in omega (arith, is, next))
        | false ↦ λ other.
            h.each number some (let size : number ≤ opened past + 1 = subst (λ k. number ≤ k) o within in grind (arith, nat_tests, other, next, size))
            ∙ ap (λ now. cond (has_number now number) 0 1) none
      ]) refl
      ∙ ap (λ now. cond (has_number now number) 0 1) (sym c);
  others = λ number over. n number ∙ h.others number (let size : opened past + 1 < number = subst (λ k. k < number) o over in omega (arith, size));
  last = λ other is. ap (λ k. k.number) (some_same other chunk (sym is ∙ c)) ∙ next ∙ sym o;
  count =
      let before : length (fates made past) + 0 ≡ opened past = ap (λ now. length (fates made past) + cond (is_some now) 1 0) (sym none) ∙ h.count in
      let now : length (fates made new) + cond (is_some (open_chunk new)) 1 0 ≡ length (fates made past) + 1 =
      ap (λ list. length list + cond (is_some (open_chunk new)) 1 0) f ∙ ap (λ k. length (fates made past) + cond (is_some k) 1 0) c in
      omega (arith, before, now, o);
  told = λ place. ap (λ list. slice_get list place) f ∙ h.told place ∙ sym (t (place + 1));
}

-- ---- a chunk less that is open

number_of : (now : Option Chunk) (number : ℕ) → has_number now number ≡ true → (other : ℕ) → has_number now other ≡ (number == other)
number_of None number e other = absurd (true_false (sym e))
number_of (Some chunk) number e other = let is : chunk.number ≡ number = grind (arith, nat_tests, e) in ap (λ n. n == other) is

record IsThere (now : Option Chunk) (number : ℕ) : Type 0 where
  chunk : Chunk
  is : now ≡ Some chunk
  numbered : chunk.number ≡ number

there_from : (now : Option Chunk) (number : ℕ) → has_number now number ≡ true → IsThere now number
there_from None number e = absurd (true_false (sym e))
there_from (Some chunk) number e = record { chunk = chunk; is = refl; numbered = grind (arith, nat_tests, e) }

counted : (b : Bool) (n : ℕ) → n ≡ cond b 0 1 → cond b (n + 1) n ≡ 1
counted true n e = ap (λ k. k + 1) e
counted false n e = e

one_ended : (made : Made) (past new : List Event) (number : ℕ) (fate : Fate) → has_number (open_chunk past) number ≡ true
    → opened new ≡ opened past → open_chunk new ≡ None → ((other : ℕ) → ends new other ≡ cond (number == other) (ends past other + 1) (ends past other))
    → fates made new ≡ fates made past ++ fate ∷ []
    → ((other : ℕ) → ended made new other ≡ cond (number == other) (or_first (ended made past other) fate) (ended made past other))
    → AreFated made past → AreFated made new
one_ended made past new number fate was_open o c n f t h =
    let there = there_from (open_chunk past) number was_open in
    let last : number ≡ opened past = sym there.numbered ∙ h.last there.chunk there.is in
    let before : length (fates made past) + 1 ≡ opened past = ap (λ now. length (fates made past) + cond (is_some now) 1 0) (sym there.is) ∙ h.count in
    record {
      each = λ other some within.
          n other
          ∙ counted (number == other) (ends past other)
          (h.each other some (subst (λ k. other ≤ k) o within) ∙ ap (λ b. cond b 0 1) (number_of (open_chunk past) number was_open other))
          ∙ ap (λ now. cond (has_number now other) 0 1) (sym c);
      others = λ other over.
          let size : opened past < other = subst (λ k. k < other) o over in
          let differs : (number == other) ≡ false = grind (arith, nat_tests, size, last) in
          n other ∙ ap (λ b. cond b (ends past other + 1) (ends past other)) differs ∙ h.others other size;
      last = λ chunk is. absurd (none_some chunk (sym c ∙ is));
      count =
          let long : length (fates made new) ≡ length (fates made past) + 1 = ap (λ list. length list) f ∙ length_push (fates made past) fate in
          let none : ◌≡◌ {A = ℕ} (cond (is_some (open_chunk new)) 1 0) 0 = ap (λ now. cond (is_some now) 1 0) c in
          omega (arith, before, long, none, o);
      told = λ place.
          let P : Bool → Type 0 = λ v. (number == place + 1) ≡ v
          → slice_get (fates made past ++ fate ∷ []) place ≡ cond v (or_first (ended made past (place + 1)) fate) (ended made past (place + 1)) in
          ap (λ list. slice_get list place) f
          ∙ (elim (number == place + 1) as P [
            | true ↦ λ same.
                let is : number ≡ place + 1 = grind (arith, nat_tests, same) in
                let at : length (fates made past) ≡ place = omega (arith, is, last, before) in
                let none : ended made past (place + 1) ≡ None = sym (h.told place) ∙ slice_get_past (fates made past) place (omega (arith, at)) in
                subst (λ k. slice_get (fates made past ++ fate ∷ []) k ≡ Some fate) at (last_there (fates made past) fate) ∙ ap (λ o. or_first o fate) (sym none)
            | false ↦ λ other.
                others_there (fates made past) fate place
                (λ e. true_false (sym (let is : number ≡ place + 1 = omega (arith, e, last, before) in grind (arith, nat_tests, is)) ∙ other))
                ∙ h.told place
          ]) refl
          ∙ sym (t (place + 1));
    }

same_number : (a b : ℕ) → a ≡ b → (a == b) ≡ true
same_number a b e = grind (arith, nat_tests, e)

-- a scrub ends, and with it the chunk that is open, if one is
with_scrub : (made : Made) (past : List Event) (event : Event) (fate : Fate) (now : Option Chunk) → now ≡ open_chunk past
    → opened (event ∷ past) ≡ opened past → open_chunk (event ∷ past) ≡ None
    → ((other : ℕ) → ends (event ∷ past) other ≡ cond (has_number (open_chunk past) other) (ends past other + 1) (ends past other))
    → fates made (event ∷ past) ≡ with_fate (open_chunk past) fate (fates made past)
    → ((other : ℕ) → ended made (event ∷ past) other ≡ cond (has_number (open_chunk past) other) (or_first (ended made past other) fate) (ended made past other))
    → AreFated made past → AreFated made (event ∷ past)
with_scrub made past event fate None is o c n f t h =
    alike made past event o (c ∙ is) (λ other. n other ∙ ap (λ now. cond (has_number now other) (ends past other + 1) (ends past other)) (sym is))
    (f ∙ ap (λ now. with_fate now fate (fates made past)) (sym is))
    (λ other. t other ∙ ap (λ now. cond (has_number now other) (or_first (ended made past other) fate) (ended made past other)) (sym is)) h
with_scrub made past event fate (Some chunk) is o c n f t h =
    one_ended made past (event ∷ past) chunk.number fate (ap (λ now. has_number now chunk.number) (sym is) ∙ same_number chunk.number chunk.number refl) o c
    (λ other. n other ∙ ap (λ now. cond (has_number now other) (ends past other + 1) (ends past other)) (sym is))
    (f ∙ ap (λ now. with_fate now fate (fates made past)) (sym is))
    (λ other. t other ∙ ap (λ now. cond (has_number now other) (or_first (ended made past other) fate) (ended made past other)) (sym is)) h

pub fated : (made : Made) (past : List Event) → IsLegal made past → AreFated made past
fated made [] legal = record {
  each = λ chunk some within. absurd (omega (arith, some, within));
  others = λ chunk over. refl;
  last = λ chunk is. absurd (none_some chunk is);
  count = refl;
  told = λ place. refl;
}
fated made (Submit write (Declined why) ∷ past) legal = alike made past (Submit write (Declined why)) refl refl (λ c. refl) refl (λ c. refl) (fated made past legal.2)
fated made (Submit write (Parked range) ∷ past) legal = alike made past (Submit write (Parked range)) refl refl (λ c. refl) refl (λ c. refl) (fated made past legal.2)
fated made (Submit write (QueueFull count) ∷ past) legal = alike made past (Submit write (QueueFull count)) refl refl (λ c. refl) refl (λ c. refl) (fated made past legal.2)
fated made (Submit write (Accepted version None) ∷ past) legal = alike made past (Submit write (Accepted version None)) refl refl (λ c. refl) refl (λ c. refl) (fated made past legal.2)
fated made (Submit write (Accepted version (Some number)) ∷ past) legal =
    let a = accepted_is made past write version (Some number) legal.1 in
    let g = gives_way (open_chunk past) write.family number a.gives in
    one_ended made past (Submit write (Accepted version (Some number)) ∷ past) number (fates_are.Preempted write.id)
    (ap (λ now. has_number now number) g.is ∙ same_number g.chunk.number number g.numbered) refl refl (λ c. refl) refl (λ c. refl) (fated made past legal.2)
fated made (Admit write answer ∷ past) legal = alike made past (Admit write answer) refl refl (λ c. refl) refl (λ c. refl) (fated made past legal.2)
fated made (Collect id version ∷ past) legal = alike made past (Collect id version) refl refl (λ c. refl) refl (λ c. refl) (fated made past legal.2)
fated made (Pull osd from to asked ∷ past) legal = alike made past (Pull osd from to asked) refl refl (λ c. refl) refl (λ c. refl) (fated made past legal.2)
fated made (Tell osd applied ∷ past) legal = alike made past (Tell osd applied) refl refl (λ c. refl) refl (λ c. refl) (fated made past legal.2)
fated made (Begin kind answer ∷ past) legal = alike made past (Begin kind answer) refl refl (λ c. refl) refl (λ c. refl) (fated made past legal.2)
fated made (Take place map answer ∷ past) legal = alike made past (Take place map answer) refl refl (λ c. refl) refl (λ c. refl) (fated made past legal.2)
fated made (Reserve serial osd denied answer ∷ past) legal = alike made past (Reserve serial osd denied answer) refl refl (λ c. refl) refl (λ c. refl) (fated made past legal.2)
fated made (Open serial listed (Over cause) ∷ past) legal = alike made past (Open serial listed (Over cause)) refl refl (λ c. refl) refl (λ c. refl) (fated made past legal.2)
fated made (Open serial listed (StillReserving osd) ∷ past) legal = alike made past (Open serial listed (StillReserving osd)) refl refl (λ c. refl) refl (λ c. refl) (fated made past legal.2)
fated made (Open serial listed (Already chunk) ∷ past) legal = alike made past (Open serial listed (Already chunk)) refl refl (λ c. refl) refl (λ c. refl) (fated made past legal.2)
fated made (Open serial listed (Opened chunk) ∷ past) legal =
    let is = opened_is made past serial listed chunk legal.1.2 in
    one_opened made past (Open serial listed (Opened chunk) ∷ past) chunk is.closed (ap (λ c. c.number) is.next) refl refl (λ c. refl) refl (λ c. refl) (fated made past legal.2)
fated made (Close number closes.NoChunk ∷ past) legal = alike made past (Close number closes.NoChunk) refl refl (λ c. refl) refl (λ c. refl) (fated made past legal.2)
fated made (Close number closes.ClosedBefore ∷ past) legal = alike made past (Close number closes.ClosedBefore) refl refl (λ c. refl) refl (λ c. refl) (fated made past legal.2)
fated made (Close number (closes.Preempted request) ∷ past) legal = alike made past (Close number (closes.Preempted request)) refl refl (λ c. refl) refl (λ c. refl) (fated made past legal.2)
fated made (Close number (closes.IntervalChanged old new) ∷ past) legal = alike made past (Close number (closes.IntervalChanged old new)) refl refl (λ c. refl) refl (λ c. refl) (fated made past legal.2)
fated made (Close number (closes.DeviceFault osd count) ∷ past) legal = alike made past (Close number (closes.DeviceFault osd count)) refl refl (λ c. refl) refl (λ c. refl) (fated made past legal.2)
fated made (Close number (closes.NotYet osd) ∷ past) legal = absurd legal.1.1
fated made (Close number (closes.Closed report completes) ∷ past) legal =
    one_ended made past (Close number (closes.Closed report completes) ∷ past) number fates_are.Closed (closed_is made past number report completes legal.1.0).was_open
    refl refl (λ c. refl) refl (λ c. refl) (fated made past legal.2)
fated made (Fault serial number osd count (faults.Stale now) ∷ past) legal = alike made past (Fault serial number osd count (faults.Stale now)) refl refl (λ c. refl) refl (λ c. refl) (fated made past legal.2)
fated made (Fault serial number osd count faults.Ended ∷ past) legal =
    with_scrub made past (Fault serial number osd count faults.Ended) (fates_are.DeviceFault osd count) (open_chunk past) refl refl refl (λ c. refl) refl (λ c. refl)
    (fated made past legal.2)
fated made (Interval osds (intervals.LastEpoch old) ∷ past) legal = alike made past (Interval osds (intervals.LastEpoch old)) refl refl (λ c. refl) refl (λ c. refl) (fated made past legal.2)
fated made (Interval osds (intervals.NotCaughtUp osd count total) ∷ past) legal = alike made past (Interval osds (intervals.NotCaughtUp osd count total)) refl refl (λ c. refl) refl (λ c. refl) (fated made past legal.2)
fated made (Interval osds (intervals.Changed new serial) ∷ past) legal =
    with_scrub made past (Interval osds (intervals.Changed new serial)) (fates_are.IntervalChanged (epoch made past) new) (open_chunk past) refl refl refl (λ c. refl) refl
    (λ c. refl) (fated made past legal.2)
