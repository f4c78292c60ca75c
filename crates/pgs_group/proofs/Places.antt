-- How many events there are, and where a scrub claims.
use Rattle.std.proofs.Common.{◌≡◌, ℕ, suc, ◌+◌, ◌≤◌, ◌<◌, ◌^◌, Bool, true, false, cond, List, [], ◌∷◌, length, reverse, Option, Some, None, refl, sym, ap, ◌∙◌, arith}
use Rattle.std.specs.Prelude.{IfSome, option_map}
use Rattle.std.proofs.lemmas.List.{length-reverse}
use Rattle.pgs_bytes.proofs.Facts.{none_some, some_same}
use Rattle.pgs_history.specs.Scrubs.{current, claims, claims_of, further, ready}
use Rattle.pgs_history.specs.declared.current.Current.{Current}
use Rattle.pgs_history.specs.declared.event.Event.{Event}
use Rattle.pgs_history.specs.declared.event.Event.TheVariants.{Submit, Admit, Collect, Pull, Tell, Begin, Reserve, Open, Take, Close, Fault, Interval}
use Rattle.pgs_history.specs.declared.begin_answer.BeginAnswer.TheVariants.{Busy, Began}
use Rattle.pgs_history.specs.declared.reserve_answer.ReserveAnswer.TheVariants as reserves
use Rattle.pgs_history.specs.declared.close_answer.CloseAnswer.TheVariants as closes
use Rattle.pgs_history.specs.declared.fault_answer.FaultAnswer.TheVariants as faults
use Rattle.pgs_history.specs.declared.interval_answer.IntervalAnswer.TheVariants as intervals
use Rattle.pgs_group.specs.Scrubbing.{scrubbing}
use Rattle.pgs_group.specs.declared.scrubbing.Scrubbing.{Scrubbing}

pub next_place : (events : List Event) (many : ℕ) → many ≡ length events → many + 1 ≡ length (reverse events) + 1
next_place events many e = ap (λ n. n + 1) (e ∙ sym (length-reverse events))

-- ---- a place at which a scrub claims is no more than there are events

abbrev AreBelow : Option ℕ → ℕ → Type 0
AreBelow claiming most = (place : ℕ) → claiming ≡ Some place → place ≤ most

wider : (claiming : Option ℕ) (most : ℕ) → AreBelow claiming most → AreBelow claiming (suc most)
wider claiming most h place e = let within : place ≤ most = h place e in omega (arith, within)

one_further : (claiming : Option ℕ) (most : ℕ) → AreBelow claiming most → AreBelow (option_map (λ place. place + 1) claiming) (suc most)
one_further None most h place e = absurd (none_some place e)
one_further (Some before) most h place e =
    let within : before ≤ most = h before refl in
    let is : before + 1 ≡ place = some_same (before + 1) place e in
    omega (arith, within, is)

none_below : (most : ℕ) → AreBelow None most
none_below most place e = absurd (none_some place e)

further_below : (now : Option Current) (most : ℕ) → AreBelow (claims_of now) most → AreBelow (claims_of (further now)) (suc most)
further_below None most h = none_below (suc most)
further_below (Some scrub) most h = one_further scrub.claims most h

ready_below : (now : Option Current) (most : ℕ) → AreBelow (claims_of (ready now)) most
ready_below None most = none_below most
ready_below (Some scrub) most = none_below most

closed_below : (completes : Bool) (now : Option Current) (most : ℕ) → AreBelow (claims_of now) most → AreBelow (claims_of (cond completes None now)) most
closed_below true now most h = none_below most
closed_below false now most h = h

pub claims_most : (past : List Event) → AreBelow (claims past) (length past)
claims_most [] = none_below 0
claims_most (Submit write answer ∷ past) = wider (claims past) (length past) (claims_most past)
claims_most (Admit write answer ∷ past) = wider (claims past) (length past) (claims_most past)
claims_most (Collect id version ∷ past) = wider (claims past) (length past) (claims_most past)
claims_most (Pull osd from to asked ∷ past) = wider (claims past) (length past) (claims_most past)
claims_most (Tell osd applied ∷ past) = wider (claims past) (length past) (claims_most past)
claims_most (Begin kind (Busy serial) ∷ past) = wider (claims past) (length past) (claims_most past)
claims_most (Begin kind (Began serial first) ∷ past) = λ place e. let is : 0 ≡ place = some_same 0 place e in omega (arith, is)
claims_most (Reserve serial osd denied (reserves.Over why) ∷ past) = wider (claims past) (length past) (claims_most past)
claims_most (Reserve serial osd denied (reserves.NotNext next) ∷ past) = wider (claims past) (length past) (claims_most past)
claims_most (Reserve serial osd denied (reserves.DeniedNow other) ∷ past) = none_below (suc (length past))
claims_most (Reserve serial osd denied (reserves.Reserving next) ∷ past) = further_below (current past) (length past) (claims_most past)
claims_most (Reserve serial osd denied reserves.Reserved ∷ past) = ready_below (current past) (suc (length past))
claims_most (Open serial listed answer ∷ past) = wider (claims past) (length past) (claims_most past)
claims_most (Take place map answer ∷ past) = wider (claims past) (length past) (claims_most past)
claims_most (Close number closes.NoChunk ∷ past) = wider (claims past) (length past) (claims_most past)
claims_most (Close number closes.ClosedBefore ∷ past) = wider (claims past) (length past) (claims_most past)
claims_most (Close number (closes.Preempted request) ∷ past) = wider (claims past) (length past) (claims_most past)
claims_most (Close number (closes.IntervalChanged old new) ∷ past) = wider (claims past) (length past) (claims_most past)
claims_most (Close number (closes.DeviceFault osd count) ∷ past) = wider (claims past) (length past) (claims_most past)
claims_most (Close number (closes.NotYet osd) ∷ past) = wider (claims past) (length past) (claims_most past)
claims_most (Close number (closes.Closed report completes) ∷ past) =
    closed_below completes (current past) (suc (length past)) (wider (claims past) (length past) (claims_most past))
claims_most (Fault serial number osd count (faults.Stale now) ∷ past) = wider (claims past) (length past) (claims_most past)
claims_most (Fault serial number osd count faults.Ended ∷ past) = none_below (suc (length past))
claims_most (Interval osds (intervals.LastEpoch old) ∷ past) = wider (claims past) (length past) (claims_most past)
claims_most (Interval osds (intervals.NotCaughtUp osd count total) ∷ past) = wider (claims past) (length past) (claims_most past)
claims_most (Interval osds (intervals.Changed new ends) ∷ past) = none_below (suc (length past))

pub claims_room : (s : Scrubbing) (events : List Event) (len room : ℕ) → s ≡ scrubbing (reverse events) → len ≡ length events → len ≤ room → room < 2 ^ 63
    → (place : ℕ) → claims_of s.current ≡ Some place → place + 1 < 2 ^ 64
claims_room s events len room is whole within small place e =
    let most : place ≤ length (reverse events) = claims_most (reverse events) place (ap (λ x. claims_of x.current) (sym is) ∙ e) in
    let long : length (reverse events) ≡ length events = length-reverse events in
    omega (arith, most, long, whole, within, small)

pub if_some : (claiming : Option ℕ) (P : ℕ → Type 0) → ((place : ℕ) → claiming ≡ Some place → P place) → IfSome claiming P
if_some None P h = tt
if_some (Some place) P h = h place refl
