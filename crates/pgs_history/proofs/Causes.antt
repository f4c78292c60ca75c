-- Each scrub of a legal history has one cause of its end, but for the one that reserves or runs.
use Rattle.std.proofs.Common.{◌≡◌, ℕ, zero, suc, ◌+◌, ◌≤◌, ◌-◌, true, false, cond, List, [], ◌∷◌, ◌++◌, length, Option, Some, None, refl, sym, ap, ◌∙◌, arith}
use Rattle.std.specs.Prelude.{option_map, is_some, slice_get}
use Rattle.std.proofs.lemmas.Option.{slice_get_past}
use Rattle.std.proofs.lemmas.List.{length_push}
use Rattle.pgs_bytes.proofs.Facts.{none_some, some_none, some_same, true_false}
use Rattle.pgs_history.specs.Scrubs.{IsBegun, begun, current, present, running, claims, serial_of, running_of, claims_of, further, ready, unless_claiming, open_chunk, has_number}
use Rattle.pgs_history.specs.Causes.{causes, cause}
use Rattle.pgs_history.specs.Chunks.{AreCaused}
use Rattle.pgs_history.specs.Legal.{IsLegal}
use Rattle.pgs_history.specs.declared.made.Made.{Made}
use Rattle.pgs_history.specs.declared.chunk.Chunk.{Chunk}
use Rattle.pgs_history.specs.declared.cause.Cause.{Cause}
use Rattle.pgs_history.specs.declared.current.Current.{Current}
use Rattle.pgs_history.specs.declared.event.Event.{Event}
use Rattle.pgs_history.specs.declared.event.Event.TheVariants.{Submit, Admit, Collect, Pull, Tell, Begin, Reserve, Open, Take, Close, Fault, Interval}
use Rattle.pgs_history.specs.declared.write_answer.WriteAnswer.TheVariants.{Declined, Parked, QueueFull, Accepted}
use Rattle.pgs_history.specs.declared.begin_answer.BeginAnswer.TheVariants.{Busy, Began}
use Rattle.pgs_history.specs.declared.reserve_answer.ReserveAnswer.TheVariants as reserves
use Rattle.pgs_history.specs.declared.open_answer.OpenAnswer.TheVariants as opens
use Rattle.pgs_history.specs.declared.close_answer.CloseAnswer.TheVariants as closes
use Rattle.pgs_history.specs.declared.fault_answer.FaultAnswer.TheVariants as faults
use Rattle.pgs_history.specs.declared.interval_answer.IntervalAnswer.TheVariants as intervals
use Rattle.pgs_history.proofs.Steps.{began_is, opened_is, denied_is, ended_is, changed_is, closed_is}

-- ---- the scrub that reserves or runs

pub present_further : (now : Option Current) → serial_of (further now) ≡ serial_of now
present_further None = refl
present_further (Some scrub) = refl

pub present_ready : (now : Option Current) → serial_of (ready now) ≡ serial_of now
present_ready None = refl
present_ready (Some scrub) = refl

still_runs : (claiming : Option ℕ) (serial other : ℕ) → unless_claiming claiming serial ≡ Some other → unless_claiming (option_map (λ place. place + 1) claiming) serial ≡ Some other
still_runs None serial other e = e
still_runs (Some place) serial other e = absurd (none_some other e)

running_further : (now : Option Current) (serial : ℕ) → running_of now ≡ Some serial → running_of (further now) ≡ Some serial
running_further None serial e = e
running_further (Some scrub) serial e = still_runs scrub.claims scrub.serial serial e

runs_alone : (claiming : Option ℕ) (serial other : ℕ) → unless_claiming claiming serial ≡ Some other → Some serial ≡ Some other
runs_alone None serial other e = e
runs_alone (Some place) serial other e = absurd (none_some other e)

running_ready : (now : Option Current) (serial : ℕ) → running_of now ≡ Some serial → running_of (ready now) ≡ Some serial
running_ready None serial e = e
running_ready (Some scrub) serial e = runs_alone scrub.claims scrub.serial serial e

running_present : (now : Option Current) (serial : ℕ) → running_of now ≡ Some serial → serial_of now ≡ Some serial
running_present None serial e = absurd (none_some serial e)
running_present (Some scrub) serial e = runs_alone scrub.claims scrub.serial serial e

-- one that claims doesn't run
claiming_runs : (now : Option Current) (place serial : ℕ) → claims_of now ≡ Some place → running_of now ≡ Some serial → ⊥
claiming_runs None place serial c e = none_some serial e
claiming_runs (Some scrub) place serial c e = none_some serial (sym (ap (λ o. unless_claiming o scrub.serial) c) ∙ e)

claiming_present : (now : Option Current) (place : ℕ) → claims_of now ≡ Some place → is_some (serial_of now) ≡ true
claiming_present None place c = absurd (none_some place c)
claiming_present (Some scrub) place c = refl

-- one that neither reserves nor isn't there runs
pub runs_unclaiming : (now : Option Current) (serial : ℕ) → serial_of now ≡ Some serial → claims_of now ≡ None → running_of now ≡ Some serial
runs_unclaiming None serial e c = absurd (none_some serial e)
runs_unclaiming (Some scrub) serial e c = ap (λ o. unless_claiming o scrub.serial) c ∙ e

-- ---- how many have ended

record IsCounted (made : Made) (past : List Event) : Type 0 where
  count : length (causes made past) + cond (is_some (present past)) 1 0 ≡ begun past
  last : (serial : ℕ) → present past ≡ Some serial → serial ≡ begun past
  runs : (chunk : Chunk) → open_chunk past ≡ Some chunk → running past ≡ Some chunk.serial

none_past : (list : List Cause) (place : ℕ) → slice_get list place ≡ None → length list ≤ place
none_past [] place e = omega arith
none_past (x ∷ list) zero e = absurd (some_none x e)
none_past (x ∷ list) (suc place) e = let h : length list ≤ place = none_past list place e in omega (arith, h)

before_next : (serial many : ℕ) → 1 ≤ serial → many ≤ serial - 1 → many + 1 ≤ serial
before_next serial many some within = omega (arith, some, within)

past_all : (serial many : ℕ) → many + 1 ≡ serial → many ≤ serial - 1
past_all serial many e = omega (arith, e)

-- a scrub without a cause is the one that reserves or runs
going : (made : Made) (past : List Event) → IsCounted made past → (serial : ℕ) → IsBegun past serial → cause made past serial ≡ None → present past ≡ Some serial
going made past h serial began none = by_case (present past) refl
  where
    behind : length (causes made past) + 1 ≤ serial
    behind = before_next serial (length (causes made past)) began.0 (none_past (causes made past) (serial - 1) none)

    by_case : (now : Option ℕ) → present past ≡ now → now ≡ Some serial
    by_case None e =
        let many : length (causes made past) + 0 ≡ begun past = ap (λ o. length (causes made past) + cond (is_some o) 1 0) (sym e) ∙ h.count in
        let within : serial ≤ begun past = began.1 in
        absurd (omega (arith, many, within, behind))
    by_case (Some other) e =
        let many : length (causes made past) + 1 ≡ begun past = ap (λ o. length (causes made past) + cond (is_some o) 1 0) (sym e) ∙ h.count in
        let within : serial ≤ begun past = began.1 in
        let last : other ≡ begun past = h.last other e in
        let same : other ≡ serial = omega (arith, many, within, last, behind) in
        ap (λ n. Some n) same

gone : (made : Made) (past : List Event) → IsCounted made past → (serial : ℕ) → present past ≡ Some serial → cause made past serial ≡ None
gone made past h serial e =
    let many : length (causes made past) + 1 ≡ begun past = ap (λ o. length (causes made past) + cond (is_some o) 1 0) (sym e) ∙ h.count in
    slice_get_past (causes made past) (serial - 1) (past_all serial (length (causes made past)) (many ∙ sym (h.last serial e)))

-- ---- events that end none

stays : (made : Made) (past new : List Event) → causes made new ≡ causes made past → begun new ≡ begun past → present new ≡ present past
    → ((chunk : Chunk) → open_chunk new ≡ Some chunk → running new ≡ Some chunk.serial) → IsCounted made past → IsCounted made new
stays made past new c b p r h = record {
  count = ap (λ list. length list + cond (is_some (present new)) 1 0) c ∙ ap (λ now. length (causes made past) + cond (is_some now) 1 0) p ∙ h.count ∙ sym b;
  last = λ serial is. h.last serial (sym p ∙ is) ∙ sym b;
  runs = r;
}

alike : (made : Made) (past : List Event) (event : Event) → causes made (event ∷ past) ≡ causes made past → begun (event ∷ past) ≡ begun past
    → current (event ∷ past) ≡ current past → open_chunk (event ∷ past) ≡ open_chunk past → IsCounted made past → IsCounted made (event ∷ past)
alike made past event c b p o h = stays made past (event ∷ past) c b (ap serial_of p) (λ chunk is. ap running_of p ∙ h.runs chunk (sym o ∙ is)) h

-- ---- an event that ends the scrub that reserves or runs

stops : (made : Made) (past new : List Event) (cause : Cause) → is_some (present past) ≡ true → causes made new ≡ causes made past ++ cause ∷ [] → begun new ≡ begun past
    → present new ≡ None → ((chunk : Chunk) → open_chunk new ≡ Some chunk → ⊥) → IsCounted made past → IsCounted made new
stops made past new cause some c b p o h = record {
  count =
      let before : length (causes made past) + 1 ≡ begun past = ap (λ t. length (causes made past) + cond t 1 0) (sym some) ∙ h.count in
      let long : length (causes made new) ≡ length (causes made past) + 1 = ap (λ list. length list) c ∙ length_push (causes made past) cause in
      let none : ◌≡◌ {A = ℕ} (cond (is_some (present new)) 1 0) 0 = ap (λ now. cond (is_some now) 1 0) p in
      omega (arith, before, long, none, b);
  last = λ serial is. absurd (none_some serial (sym p ∙ is));
  runs = λ chunk is. absurd (o chunk is);
}

-- ---- each kind of event

begins : (made : Made) (past new : List Event) (serial : ℕ) → present past ≡ None → serial ≡ begun past + 1 → causes made new ≡ causes made past → begun new ≡ begun past + 1
    → present new ≡ Some serial → open_chunk new ≡ open_chunk past → IsCounted made past → IsCounted made new
begins made past new serial none next c b p o h = record {
  count =
      let before : length (causes made past) + 0 ≡ begun past = ap (λ now. length (causes made past) + cond (is_some now) 1 0) (sym none) ∙ h.count in
      let long : length (causes made new) ≡ length (causes made past) = ap (λ list. length list) c in
      let one : ◌≡◌ {A = ℕ} (cond (is_some (present new)) 1 0) 1 = ap (λ now. cond (is_some now) 1 0) p in
      omega (arith, before, long, one, b);
  last = λ other is. some_same other serial (sym is ∙ p) ∙ next ∙ sym b;
  runs = λ chunk is. absurd (none_some chunk.serial (sym none ∙ running_present (current past) chunk.serial (h.runs chunk (sym o ∙ is))));
}

-- where a scrub claims, no chunk is open
no_chunk : (made : Made) (past : List Event) → IsCounted made past → (place : ℕ) → claims past ≡ Some place → (chunk : Chunk) → open_chunk past ≡ Some chunk → ⊥
no_chunk made past h place claiming chunk is = claiming_runs (current past) place chunk.serial claiming (h.runs chunk is)

-- where a chunk is open, a scrub runs
present_open : (made : Made) (past : List Event) → IsCounted made past → (now : Option Chunk) (number : ℕ) → now ≡ open_chunk past → has_number now number ≡ true
    → is_some (present past) ≡ true
present_open made past h None number is there = absurd (true_false (sym there))
present_open made past h (Some chunk) number is there = ap is_some (running_present (current past) chunk.serial (h.runs chunk (sym is)))

counted : (made : Made) (past : List Event) → IsLegal made past → IsCounted made past
counted made [] legal = record { count = refl; last = λ serial is. absurd (none_some serial is); runs = λ chunk is. absurd (none_some chunk is) }
counted made (Submit write (Declined why) ∷ past) legal = alike made past (Submit write (Declined why)) refl refl refl refl (counted made past legal.2)
counted made (Submit write (Parked range) ∷ past) legal = alike made past (Submit write (Parked range)) refl refl refl refl (counted made past legal.2)
counted made (Submit write (QueueFull many) ∷ past) legal = alike made past (Submit write (QueueFull many)) refl refl refl refl (counted made past legal.2)
counted made (Submit write (Accepted version None) ∷ past) legal = alike made past (Submit write (Accepted version None)) refl refl refl refl (counted made past legal.2)
counted made (Submit write (Accepted version (Some number)) ∷ past) legal =
    stays made past (Submit write (Accepted version (Some number)) ∷ past) refl refl refl (λ chunk is. absurd (none_some chunk is)) (counted made past legal.2)
counted made (Admit write answer ∷ past) legal = alike made past (Admit write answer) refl refl refl refl (counted made past legal.2)
counted made (Collect id version ∷ past) legal = alike made past (Collect id version) refl refl refl refl (counted made past legal.2)
counted made (Pull osd from to asked ∷ past) legal = alike made past (Pull osd from to asked) refl refl refl refl (counted made past legal.2)
counted made (Tell osd applied ∷ past) legal = alike made past (Tell osd applied) refl refl refl refl (counted made past legal.2)
counted made (Take place map answer ∷ past) legal = alike made past (Take place map answer) refl refl refl refl (counted made past legal.2)
counted made (Begin kind (Busy serial) ∷ past) legal = alike made past (Begin kind (Busy serial)) refl refl refl refl (counted made past legal.2)
counted made (Begin kind (Began serial first) ∷ past) legal =
    let is = began_is made past serial first legal.1 in
    begins made past (Begin kind (Began serial first) ∷ past) serial is.0 is.1 refl refl refl refl (counted made past legal.2)
counted made (Reserve serial osd denied (reserves.Over why) ∷ past) legal = alike made past (Reserve serial osd denied (reserves.Over why)) refl refl refl refl (counted made past legal.2)
counted made (Reserve serial osd denied (reserves.NotNext next) ∷ past) legal =
    alike made past (Reserve serial osd denied (reserves.NotNext next)) refl refl refl refl (counted made past legal.2)
counted made (Reserve serial osd denied (reserves.DeniedNow other) ∷ past) legal =
    let is = denied_is made past serial osd other denied legal.1.2 in
    let h = counted made past legal.2 in
    stops made past (Reserve serial osd denied (reserves.DeniedNow other) ∷ past) _ (claiming_present (current past) is.place is.claiming) refl refl refl
    (no_chunk made past h is.place is.claiming) h
counted made (Reserve serial osd denied (reserves.Reserving next) ∷ past) legal =
    let h = counted made past legal.2 in
    stays made past (Reserve serial osd denied (reserves.Reserving next) ∷ past) refl refl (present_further (current past))
    (λ chunk is. running_further (current past) chunk.serial (h.runs chunk is)) h
counted made (Reserve serial osd denied reserves.Reserved ∷ past) legal =
    let h = counted made past legal.2 in
    stays made past (Reserve serial osd denied reserves.Reserved ∷ past) refl refl (present_ready (current past))
    (λ chunk is. running_ready (current past) chunk.serial (h.runs chunk is)) h
counted made (Open serial listed (opens.Over why) ∷ past) legal = alike made past (Open serial listed (opens.Over why)) refl refl refl refl (counted made past legal.2)
counted made (Open serial listed (opens.StillReserving osd) ∷ past) legal =
    alike made past (Open serial listed (opens.StillReserving osd)) refl refl refl refl (counted made past legal.2)
counted made (Open serial listed (opens.Already number) ∷ past) legal = alike made past (Open serial listed (opens.Already number)) refl refl refl refl (counted made past legal.2)
counted made (Open serial listed (opens.Opened chunk) ∷ past) legal =
    let is = opened_is made past serial listed chunk legal.1.2 in
    let h = counted made past legal.2 in
    let runs : running past ≡ Some serial = runs_unclaiming (current past) serial (going made past h serial legal.1.0 is.going) is.runs in
    stays made past (Open serial listed (opens.Opened chunk) ∷ past) refl refl refl
    (λ other e. runs ∙ ap (λ c. Some c.serial) (sym is.next) ∙ ap (λ c. Some c.serial) (some_same chunk other e)) h
counted made (Close number closes.NoChunk ∷ past) legal = alike made past (Close number closes.NoChunk) refl refl refl refl (counted made past legal.2)
counted made (Close number closes.ClosedBefore ∷ past) legal = alike made past (Close number closes.ClosedBefore) refl refl refl refl (counted made past legal.2)
counted made (Close number (closes.Preempted request) ∷ past) legal = alike made past (Close number (closes.Preempted request)) refl refl refl refl (counted made past legal.2)
counted made (Close number (closes.IntervalChanged old new) ∷ past) legal =
    alike made past (Close number (closes.IntervalChanged old new)) refl refl refl refl (counted made past legal.2)
counted made (Close number (closes.DeviceFault osd times) ∷ past) legal = alike made past (Close number (closes.DeviceFault osd times)) refl refl refl refl (counted made past legal.2)
counted made (Close number (closes.NotYet osd) ∷ past) legal = absurd legal.1.1
counted made (Close number (closes.Closed report true) ∷ past) legal =
    let h = counted made past legal.2 in
    stops made past (Close number (closes.Closed report true) ∷ past) _
    (present_open made past h (open_chunk past) number refl (closed_is made past number report true legal.1.0).was_open) refl refl refl (λ chunk is. none_some chunk is) h
counted made (Close number (closes.Closed report false) ∷ past) legal =
    stays made past (Close number (closes.Closed report false) ∷ past) refl refl refl (λ chunk is. absurd (none_some chunk is)) (counted made past legal.2)
counted made (Fault serial number osd times (faults.Stale now) ∷ past) legal = alike made past (Fault serial number osd times (faults.Stale now)) refl refl refl refl (counted made past legal.2)
counted made (Fault serial number osd times faults.Ended ∷ past) legal =
    let h = counted made past legal.2 in
    stops made past (Fault serial number osd times faults.Ended ∷ past) _ (ap is_some (going made past h serial legal.1.0 (ended_is made past serial number legal.1.1)))
    refl refl refl (λ chunk is. none_some chunk is) h
counted made (Interval osds (intervals.LastEpoch old) ∷ past) legal = alike made past (Interval osds (intervals.LastEpoch old)) refl refl refl refl (counted made past legal.2)
counted made (Interval osds (intervals.NotCaughtUp osd times total) ∷ past) legal =
    alike made past (Interval osds (intervals.NotCaughtUp osd times total)) refl refl refl refl (counted made past legal.2)
counted made (Interval osds (intervals.Changed new None) ∷ past) legal =
    let is = changed_is made past osds new None legal.1.1 in
    stays made past (Interval osds (intervals.Changed new None) ∷ past) refl refl is.ends (λ chunk e. absurd (none_some chunk e)) (counted made past legal.2)
counted made (Interval osds (intervals.Changed new (Some serial)) ∷ past) legal =
    let is = changed_is made past osds new (Some serial) legal.1.1 in
    stops made past (Interval osds (intervals.Changed new (Some serial)) ∷ past) _ (ap is_some (sym is.ends)) refl refl refl (λ chunk e. none_some chunk e)
    (counted made past legal.2)

pub caused : (made : Made) (past : List Event) → IsLegal made past → AreCaused made past
caused made past legal =
    let h = counted made past legal in
    record { count = h.count; last = h.last; going = going made past h; gone = gone made past h; runs = h.runs }

-- where a claim is denied, no chunk is open
pub denied_closed : (made : Made) (past : List Event) (place : ℕ) → IsLegal made past → claims past ≡ Some place → (chunk : Chunk) → open_chunk past ≡ Some chunk → ⊥
denied_closed made past place legal claiming chunk is = no_chunk made past (counted made past legal) place claiming chunk is
