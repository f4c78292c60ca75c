-- Who joins the acting OSDs of a legal history is caught up, and what was acknowledged stays so.
use Rattle.std.proofs.Common.{◌≡◌, ℕ, suc, ◌≤◌, ◌==◌, ◌&&◌, ◌||◌, nat_lt, max, Bool, true, false, not, cond, List, [], ◌∷◌, find, Option, Some, None, refl, sym, ap, ◌∙◌, subst, arith, inl, inr}
use Rattle.std.specs.Prelude.{option_map}
use Rattle.std.proofs.lemmas.Bool.Decides.{nat_tests}
use Rattle.pgs_bytes.proofs.Facts.{some_none, true_false, true_or_false}
use Rattle.pgs_request.specs.declared.req_id.ReqId.{ReqId}
use Rattle.pgs_request.specs.declared.version.Version.{Version}
use Rattle.pgs_op_log.specs.Logs.{version_in}
use Rattle.pgs_request.specs.declared.answers.Refusal.{Refusal}
use Rattle.pgs_op.specs.Refusals.{first}
use Rattle.pgs_gate.specs.Waits.{is_parked}
use Rattle.pgs_history.specs.Log.{ids}
use Rattle.pgs_history.specs.Parked.{parked, refused}
use Rattle.pgs_history.specs.Scrubs.{open_chunk}
use Rattle.pgs_history.specs.declared.chunk.Chunk.{Chunk}
use Rattle.pgs_history.specs.Members.{told}
use Rattle.pgs_history.specs.Acting.{acting, acts, has_osd, IsActing}
use Rattle.pgs_history.specs.Answers.{behind, waits_for, collect_found, unlogged, or_found, collect_answer, last_number, lags, where_so}
use Rattle.pgs_history.specs.Legal.{IsLegal}
use Rattle.pgs_history.specs.Joined.{AreCaughtUp, AreUpto, AreAcknowledged}
use Rattle.pgs_history.specs.declared.collect_answer.CollectAnswer.{CollectAnswer}
use Rattle.pgs_history.specs.declared.collect_answer.CollectAnswer.TheVariants as collects
use Rattle.pgs_history.specs.declared.made.Made.{Made}
use Rattle.pgs_history.specs.declared.event.Event.{Event}
use Rattle.pgs_history.specs.declared.event.Event.TheVariants.{Submit, Admit, Collect, Pull, Tell, Begin, Reserve, Open, Take, Close, Fault, Interval}
use Rattle.pgs_history.specs.declared.write_answer.WriteAnswer.TheVariants.{Declined, Parked, QueueFull, Accepted}
use Rattle.pgs_history.specs.declared.interval_answer.IntervalAnswer.TheVariants as intervals
use Rattle.pgs_history.proofs.Steps.{changed_is}
use Rattle.pgs_history.proofs.Ids.{version_within}

-- ---- none that fails a test

pub none_fails : (test : ℕ → Bool) (osds : List ℕ) (osd : ℕ) → find test osds ≡ None → has_osd osds osd ≡ true → test osd ≡ false
none_fails test [] osd none there = absurd (true_false (sym there))
none_fails test (first ∷ osds) osd none there =
    let P : Bool → Type 0 = λ v. test first ≡ v → cond v (Some first) (find test osds) ≡ None → test osd ≡ false in
    (elim (test first) as P [
      | true ↦ λ passes found. absurd (some_none first found)
      | false ↦ λ fails rest.
          let Q : Bool → Type 0 = λ v. (first == osd) ≡ v → (v || has_osd osds osd) ≡ true → test osd ≡ false in
          (elim (first == osd) as Q [
            | true ↦ λ same here. let is : first ≡ osd = grind (arith, nat_tests, same) in ap test (sym is) ∙ fails
            | false ↦ λ other behind. none_fails test osds osd rest behind
          ]) refl there
    ]) refl none

-- ---- who joins

both_false : (a b : Bool) → (not a && not b) ≡ false → a ≡ false → b ≡ true
both_false true b e p = absurd (true_false p)
both_false false true e p = refl
both_false false false e p = absurd (true_false e)

joins : (made : Made) (past : List Event) (osds : List ℕ) → find (lags made past) osds ≡ None
    → (osd : ℕ) → has_osd osds osd ≡ true → acts made past osd ≡ false → told past osd ≡ last_number past
joins made past osds none osd there new =
    let test : (told past osd == last_number past) ≡ true =
    both_false (acts made past osd) (told past osd == last_number past) (none_fails (lags made past) osds osd none there) new in
    grind (arith, nat_tests, test)

pub caught_up : (made : Made) (past : List Event) → IsLegal made past → AreCaughtUp made past
caught_up made [] legal = tt
caught_up made (Submit write answer ∷ past) legal = (tt, caught_up made past legal.2)
caught_up made (Admit write answer ∷ past) legal = (tt, caught_up made past legal.2)
caught_up made (Collect id version ∷ past) legal = (tt, caught_up made past legal.2)
caught_up made (Pull osd from to asked ∷ past) legal = (tt, caught_up made past legal.2)
caught_up made (Tell osd applied ∷ past) legal = (tt, caught_up made past legal.2)
caught_up made (Begin kind answer ∷ past) legal = (tt, caught_up made past legal.2)
caught_up made (Reserve serial osd denied answer ∷ past) legal = (tt, caught_up made past legal.2)
caught_up made (Open serial listed answer ∷ past) legal = (tt, caught_up made past legal.2)
caught_up made (Take place map answer ∷ past) legal = (tt, caught_up made past legal.2)
caught_up made (Close number answer ∷ past) legal = (tt, caught_up made past legal.2)
caught_up made (Fault serial number osd count answer ∷ past) legal = (tt, caught_up made past legal.2)
caught_up made (Interval osds (intervals.LastEpoch old) ∷ past) legal = (tt, caught_up made past legal.2)
caught_up made (Interval osds (intervals.NotCaughtUp osd count total) ∷ past) legal = (tt, caught_up made past legal.2)
caught_up made (Interval osds (intervals.Changed new ends) ∷ past) legal = (joins made past osds (changed_is made past osds new ends legal.1.1).caught_up, caught_up made past legal.2)

-- the acting OSDs of a legal history are distinct members, and there is one
pub members_act : (made : Made) (past : List Event) → IsLegal made past → IsActing made made.members → IsActing made (acting made past)
members_act made [] legal h = h
members_act made (Submit write answer ∷ past) legal h = members_act made past legal.2 h
members_act made (Admit write answer ∷ past) legal h = members_act made past legal.2 h
members_act made (Collect id version ∷ past) legal h = members_act made past legal.2 h
members_act made (Pull osd from to asked ∷ past) legal h = members_act made past legal.2 h
members_act made (Tell osd applied ∷ past) legal h = members_act made past legal.2 h
members_act made (Begin kind answer ∷ past) legal h = members_act made past legal.2 h
members_act made (Reserve serial osd denied answer ∷ past) legal h = members_act made past legal.2 h
members_act made (Open serial listed answer ∷ past) legal h = members_act made past legal.2 h
members_act made (Take place map answer ∷ past) legal h = members_act made past legal.2 h
members_act made (Close number answer ∷ past) legal h = members_act made past legal.2 h
members_act made (Fault serial number osd count answer ∷ past) legal h = members_act made past legal.2 h
members_act made (Interval osds (intervals.LastEpoch old) ∷ past) legal h = members_act made past legal.2 h
members_act made (Interval osds (intervals.NotCaughtUp osd count total) ∷ past) legal h = members_act made past legal.2 h
members_act made (Interval osds (intervals.Changed new ends) ∷ past) legal h = legal.1.0

-- ---- what was acknowledged

raise : (past : List Event) (low high : ℕ) → low ≤ high → AreUpto past low → AreUpto past high
raise [] low high within h = tt
raise (Collect id version ∷ past) low high within h = (let least : version.number ≤ low = h.0 in omega (arith, within, least), raise past low high within h.1)
raise (Submit write answer ∷ past) low high within h = (tt, raise past low high within h.1)
raise (Admit write answer ∷ past) low high within h = (tt, raise past low high within h.1)
raise (Pull osd from to asked ∷ past) low high within h = (tt, raise past low high within h.1)
raise (Tell osd applied ∷ past) low high within h = (tt, raise past low high within h.1)
raise (Begin kind answer ∷ past) low high within h = (tt, raise past low high within h.1)
raise (Reserve serial osd denied answer ∷ past) low high within h = (tt, raise past low high within h.1)
raise (Open serial listed answer ∷ past) low high within h = (tt, raise past low high within h.1)
raise (Take place map answer ∷ past) low high within h = (tt, raise past low high within h.1)
raise (Close number answer ∷ past) low high within h = (tt, raise past low high within h.1)
raise (Fault serial number osd count answer ∷ past) low high within h = (tt, raise past low high within h.1)
raise (Interval osds answer ∷ past) low high within h = (tt, raise past low high within h.1)

-- ---- what an acknowledgement tells

acked_from : (made : Made) (past : List Event) (why : Option CollectAnswer) (found : Option Version) (version : Version) → (why ≡ Some (collects.Acked version) → ⊥)
    → or_found why (collect_found made past found) ≡ collects.Acked version → (found ≡ Some version) × (behind made past version.number ≡ None)
acked_from made past (Some why) found version never e = absurd (never (ap (λ w. Some w) e))
acked_from made past None None version never e = absurd cc
acked_from made past None (Some at) version never e = by_case (behind made past at.number) refl e
  where
    by_case : (late : Option ℕ) → behind made past at.number ≡ late → waits_for past late at ≡ collects.Acked version
        → (Some at ≡ Some version) × (behind made past version.number ≡ None)
    by_case None is e = let same : at ≡ version = cc in (ap (λ v. Some v) same, ap (λ v. behind made past v.number) (sym same) ∙ is)
    by_case (Some osd) is e = absurd cc

why_from : (p : Bool) (now : Option Chunk) (refusal : Option Refusal) (version : Version)
    → first (where_so p (option_map (λ chunk. collects.StillParked chunk.number) now) ∷ option_map (λ why. collects.Refused why) refusal ∷ []) ≡ Some (collects.Acked version) → ⊥
why_from true (Some chunk) refusal version e = absurd cc
why_from true None (Some why) version e = absurd cc
why_from true None None version e = absurd cc
why_from false now (Some why) version e = absurd cc
why_from false now None version e = absurd cc

not_acked : (past : List Event) (id : ReqId) (version : Version) → unlogged past id ≡ Some (collects.Acked version) → ⊥
unfolding unlogged
not_acked past id version e = why_from (is_parked (parked past) id) (open_chunk past) (refused past id) version e

pub acked_is : (made : Made) (past : List Event) (id : ReqId) (version : Version) → collect_answer made past id ≡ collects.Acked version
    → (version_in (ids past) id ≡ Some version) × (behind made past version.number ≡ None)
acked_is made past id version e = acked_from made past (unlogged past id) (version_in (ids past) id) version (not_acked past id version) e

-- every acting OSD told of it
pub all_told : (made : Made) (past : List Event) (number : ℕ) → behind made past number ≡ None → (osd : ℕ) → acts made past osd ≡ true → number ≤ told past osd
all_told made past number none osd there =
    let test : nat_lt (told past osd) number ≡ false = none_fails (λ other. nat_lt (told past other) number) (acting made past) osd none there in
    grind (arith, nat_tests, test)

-- ---- what was acknowledged stands in the log

one_more : (many : ℕ) → many ≤ suc many
one_more many = omega arith

pub upto_log : (made : Made) (past : List Event) → IsLegal made past → AreUpto past (last_number past)
upto_log made [] legal = tt
upto_log made (Submit write (Accepted version preempts) ∷ past) legal = (tt, raise past (last_number past) (suc (last_number past)) (one_more (last_number past)) (upto_log made past legal.2))
upto_log made (Submit write (Declined why) ∷ past) legal = (tt, upto_log made past legal.2)
upto_log made (Submit write (Parked range) ∷ past) legal = (tt, upto_log made past legal.2)
upto_log made (Submit write (QueueFull many) ∷ past) legal = (tt, upto_log made past legal.2)
upto_log made (Admit write (Accepted version preempts) ∷ past) legal = (tt, raise past (last_number past) (suc (last_number past)) (one_more (last_number past)) (upto_log made past legal.2))
upto_log made (Admit write (Declined why) ∷ past) legal = (tt, upto_log made past legal.2)
upto_log made (Admit write (Parked range) ∷ past) legal = (tt, upto_log made past legal.2)
upto_log made (Admit write (QueueFull many) ∷ past) legal = (tt, upto_log made past legal.2)
upto_log made (Collect id version ∷ past) legal = (version_within made past id version legal.2 (acked_is made past id version legal.1.0).0, upto_log made past legal.2)
upto_log made (Pull osd from to asked ∷ past) legal = (tt, upto_log made past legal.2)
upto_log made (Tell osd applied ∷ past) legal = (tt, upto_log made past legal.2)
upto_log made (Begin kind answer ∷ past) legal = (tt, upto_log made past legal.2)
upto_log made (Reserve serial osd denied answer ∷ past) legal = (tt, upto_log made past legal.2)
upto_log made (Open serial listed answer ∷ past) legal = (tt, upto_log made past legal.2)
upto_log made (Take place map answer ∷ past) legal = (tt, upto_log made past legal.2)
upto_log made (Close number answer ∷ past) legal = (tt, upto_log made past legal.2)
upto_log made (Fault serial number osd count answer ∷ past) legal = (tt, upto_log made past legal.2)
upto_log made (Interval osds answer ∷ past) legal = (tt, upto_log made past legal.2)

-- ---- and is told of by every OSD that acts

more_told : (other osd applied count : ℕ) → count ≤ cond (other == osd) (max count applied) count
more_told other osd applied count =
    let P : Bool → Type 0 = λ v. count ≤ cond v (max count applied) count in
    elim (other == osd) as P [
      | true ↦ omega arith
      | false ↦ omega arith
    ]

-- an OSD that acts after a change acted before, or told of all the log
kept_told : (made : Made) (past : List Event) (osds : List ℕ) → ((osd : ℕ) → has_osd osds osd ≡ true → acts made past osd ≡ false → told past osd ≡ last_number past)
    → AreUpto past (last_number past) → AreAcknowledged made past → (osd : ℕ) → has_osd osds osd ≡ true → AreUpto past (told past osd)
kept_told made past osds new log h osd there =
    elim (true_or_false (acts made past osd)) [
      | inl before ↦ h osd before
      | inr joined ↦ subst (AreUpto past) (sym (new osd there joined)) log
    ]

pub acknowledged : (made : Made) (past : List Event) → IsLegal made past → AreAcknowledged made past
acknowledged made [] legal = λ osd there. tt
acknowledged made (Submit write answer ∷ past) legal = λ osd there. (tt, acknowledged made past legal.2 osd there)
acknowledged made (Admit write answer ∷ past) legal = λ osd there. (tt, acknowledged made past legal.2 osd there)
acknowledged made (Collect id version ∷ past) legal =
    λ osd there. (all_told made past version.number (acked_is made past id version legal.1.0).1 osd there, acknowledged made past legal.2 osd there)
acknowledged made (Pull osd from to asked ∷ past) legal = λ osd there. (tt, acknowledged made past legal.2 osd there)
acknowledged made (Tell other applied ∷ past) legal =
    λ osd there. (tt, raise past (told past osd) _ (more_told other osd applied (told past osd)) (acknowledged made past legal.2 osd there))
acknowledged made (Begin kind answer ∷ past) legal = λ osd there. (tt, acknowledged made past legal.2 osd there)
acknowledged made (Reserve serial osd denied answer ∷ past) legal = λ osd there. (tt, acknowledged made past legal.2 osd there)
acknowledged made (Open serial listed answer ∷ past) legal = λ osd there. (tt, acknowledged made past legal.2 osd there)
acknowledged made (Take place map answer ∷ past) legal = λ osd there. (tt, acknowledged made past legal.2 osd there)
acknowledged made (Close number answer ∷ past) legal = λ osd there. (tt, acknowledged made past legal.2 osd there)
acknowledged made (Fault serial number osd count answer ∷ past) legal = λ osd there. (tt, acknowledged made past legal.2 osd there)
acknowledged made (Interval osds (intervals.LastEpoch old) ∷ past) legal = λ osd there. (tt, acknowledged made past legal.2 osd there)
acknowledged made (Interval osds (intervals.NotCaughtUp late count total) ∷ past) legal = λ osd there. (tt, acknowledged made past legal.2 osd there)
acknowledged made (Interval osds (intervals.Changed new ends) ∷ past) legal =
    λ osd there. (
      tt,
      kept_told made past osds (joins made past osds (changed_is made past osds new ends legal.1.1).caught_up) (upto_log made past legal.2)
          (acknowledged made past legal.2) osd there,
    )
