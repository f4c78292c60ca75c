-- How often a scrub gave way is no more than there are events.
use Rattle.std.proofs.Common.{ℕ, ◌≡◌, ◌≤◌, ◌<◌, ◌+◌, ◌/◌, ◌^◌, nat_lt, false, cond, List, [], ◌∷◌, length, reverse, Some, None, sym, ap, ◌∙◌, arith}
use Rattle.std.proofs.lemmas.Bool.Decides.{nat_tests}
use Rattle.std.proofs.lemmas.List.{length-reverse}
use Rattle.pgs_chunk.specs.Limits.{limit_after}
use Rattle.pgs_chunk.specs.declared.limits.Limits.{Limits}
use Rattle.pgs_chunk.proofs.Halves.{no_halves as nothing_left}
use Rattle.pgs_history.specs.Scrubs.{used}
use Rattle.pgs_history.specs.declared.write_answer.WriteAnswer.TheVariants.{Declined, Parked, QueueFull, Accepted}
use Rattle.pgs_history.specs.declared.begin_answer.BeginAnswer.TheVariants.{Busy, Began}
use Rattle.pgs_history.specs.declared.event.Event.{Event}
use Rattle.pgs_history.specs.declared.event.Event.TheVariants.{Submit, Admit, Collect, Pull, Tell, Begin, Reserve, Open, Take, Close, Fault, Interval}
use Rattle.pgs_group.specs.Scrubbing.{scrubbing}
use Rattle.pgs_group.specs.declared.scrubbing.Scrubbing.{Scrubbing}

-- nothing is left after so many halvings
pub no_halves : (limits : Limits) (used : ℕ) → limits.chunk_max < 2 ^ 32 → 32 ≤ used → limits.chunk_min ≡ limit_after limits used
no_halves limits used small many =
    let none : limits.chunk_max / 2 ^ used ≡ 0 = nothing_left limits.chunk_max used small many in
    let least : nat_lt limits.chunk_min 0 ≡ false = grind (arith, nat_tests) in
    sym (ap (λ n. cond (nat_lt limits.chunk_min n) n limits.chunk_min) none ∙ ap (λ b. cond b 0 limits.chunk_min) least)

pub used_most : (past : List Event) → used past ≤ length past
used_most [] = omega arith
used_most (Begin kind (Began serial first) ∷ past) = omega arith
used_most (Begin kind (Busy serial) ∷ past) = let h = used_most past in omega (arith, h)
used_most (Submit write (Declined why) ∷ past) = let h = used_most past in omega (arith, h)
used_most (Submit write (Parked range) ∷ past) = let h = used_most past in omega (arith, h)
used_most (Submit write (QueueFull count) ∷ past) = let h = used_most past in omega (arith, h)
used_most (Submit write (Accepted version None) ∷ past) = let h = used_most past in omega (arith, h)
used_most (Submit write (Accepted version (Some chunk)) ∷ past) = let h = used_most past in omega (arith, h)
used_most (Admit write answer ∷ past) = let h = used_most past in omega (arith, h)
used_most (Collect id version ∷ past) = let h = used_most past in omega (arith, h)
used_most (Pull osd from to asked ∷ past) = let h = used_most past in omega (arith, h)
used_most (Tell osd applied ∷ past) = let h = used_most past in omega (arith, h)
used_most (Open serial listed answer ∷ past) = let h = used_most past in omega (arith, h)
used_most (Take place map answer ∷ past) = let h = used_most past in omega (arith, h)
used_most (Close chunk answer ∷ past) = let h = used_most past in omega (arith, h)
used_most (Reserve serial osd denied answer ∷ past) = let h = used_most past in omega (arith, h)
used_most (Fault serial number osd count answer ∷ past) = let h = used_most past in omega (arith, h)
used_most (Interval osds answer ∷ past) = let h = used_most past in omega (arith, h)

pub used_room : (s : Scrubbing) (events : List Event) (len room : ℕ) → s ≡ scrubbing (reverse events) → len ≡ length events → len ≤ room → room < 2 ^ 63 → s.used + 1 < 2 ^ 64
used_room s events len room is whole within small =
    let same : s.used ≡ used (reverse events) = ap (λ x. x.used) is in
    let most : used (reverse events) ≤ length (reverse events) = used_most (reverse events) in
    let long : length (reverse events) ≡ length events = length-reverse events in
    omega (arith, same, most, long, whole, within, small)
