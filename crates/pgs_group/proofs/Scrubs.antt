-- Scrubs and chunks are no more than events.
use Rattle.std.proofs.Common.{ℕ, ◌≡◌, ◌≤◌, ◌<◌, ◌+◌, ◌^◌, ◌==◌, ◌||◌, nat_lt, Bool, true, false, not, List, [], ◌∷◌, length, reverse, Option, Some, None, refl, sym, ap, ◌∙◌, subst, arith}
use Rattle.std.specs.Prelude.{option_map}
use Rattle.std.specs.Bool.{then_some}
use Rattle.std.specs.HashSet.{contains}
use Rattle.std.proofs.lemmas.Bool.Decides.{nat_tests}
use Rattle.std.proofs.lemmas.List.{length-reverse}
use Rattle.pgs_store.specs.Stores.{AreSame}
use Rattle.pgs_op.specs.Clean.{clean as clean_of, held_by}
use Rattle.pgs_op.specs.Refusals.{first}
use Rattle.pgs_op_log.specs.Logs.{same_id}
use Rattle.pgs_compare.specs.Report.{report as report_of}
use Rattle.pgs_compare.specs.declared.report.Report.{Report}
use Rattle.pgs_history.specs.Log.{clean, held, log, ids, log_bytes}
use Rattle.pgs_history.specs.Members.{pulled, asked, told, collected}
use Rattle.pgs_history.specs.Parked.{parked, refusals, AreNew}
use Rattle.pgs_history.specs.Acting.{acting, epoch}
use Rattle.pgs_history.specs.Causes.{causes, cause}
use Rattle.pgs_history.specs.Chunks.{IsOrdered}
use Rattle.pgs_request.specs.declared.req_id.ReqId.{ReqId}
use Rattle.pgs_name.specs.declared.object_id.ObjectId.{ObjectId}
use Rattle.pgs_history.specs.declared.cause.Cause.{Cause}
use Rattle.pgs_history.specs.declared.chunk.Chunk.{Chunk}
use Rattle.pgs_slots.specs.declared.holder.Holder.{Holder}
use Rattle.pgs_history.specs.declared.reserve_answer.ReserveAnswer.{ReserveAnswer}
use Rattle.pgs_history.specs.declared.reserve_answer.ReserveAnswer.TheVariants as reserves
use Rattle.pgs_history.specs.declared.interval_answer.IntervalAnswer.{IntervalAnswer}
use Rattle.pgs_history.specs.declared.interval_answer.IntervalAnswer.TheVariants as intervals
use Rattle.pgs_history.specs.Scrubs.{begun, opened, is_open, open_chunk, open_number, claims_at, fate, fates}
use Rattle.pgs_history.specs.Answers.{unclosed, told_of, missing, found, maps_of, version_of, unopened, unclaimed, is_osd, unchanged, lagging, last_number, last_epoch}
use Rattle.pgs_history.specs.declared.fate.Fate.{Fate}
use Rattle.pgs_history.specs.declared.fate.Fate.TheVariants as fates_are
use Rattle.pgs_history.specs.declared.made.Made.{Made}
use Rattle.pgs_history.specs.declared.close_answer.CloseAnswer.{CloseAnswer}
use Rattle.pgs_history.specs.declared.close_answer.CloseAnswer.TheVariants as closes
use Rattle.pgs_group.proofs.Kept.{AreEnds, kept_acts, kept_epochs, kept_over, kept_ended}
use Rattle.pgs_group.specs.Counts.{count_of}
use Rattle.pgs_group.specs.Given.{pulled_of, asked_of}
use Rattle.pgs_group.specs.Tied.{AreTied}
use Rattle.pgs_group.specs.declared.group.Group.TheInside.{Inside}
use Rattle.pgs_history.specs.declared.begin_answer.BeginAnswer.TheVariants.{Busy, Began}
use Rattle.pgs_history.specs.declared.open_answer.OpenAnswer.{OpenAnswer}
use Rattle.pgs_history.specs.declared.open_answer.OpenAnswer.TheVariants.{Over, StillReserving, Already, Opened}
use Rattle.pgs_history.specs.declared.event.Event.{Event}
use Rattle.pgs_group.specs.Scrubbing.{scrubbing}
use Rattle.pgs_group.specs.declared.scrubbing.Scrubbing.{Scrubbing}
use Rattle.pgs_history.specs.declared.event.Event.TheVariants.{Submit, Admit, Collect, Pull, Tell, Begin, Reserve, Open, Take, Close, Fault, Interval}

pub begun_most : (past : List Event) → begun past ≤ length past
begun_most [] = omega arith
begun_most (Begin kind (Began serial first) ∷ past) = let h = begun_most past in omega (arith, h)
begun_most (Begin kind (Busy serial) ∷ past) = let h = begun_most past in omega (arith, h)
begun_most (Admit write answer ∷ past) = let h = begun_most past in omega (arith, h)
begun_most (Submit write answer ∷ past) = let h = begun_most past in omega (arith, h)
begun_most (Collect id version ∷ past) = let h = begun_most past in omega (arith, h)
begun_most (Pull osd from to asked ∷ past) = let h = begun_most past in omega (arith, h)
begun_most (Tell osd applied ∷ past) = let h = begun_most past in omega (arith, h)
begun_most (Open serial listed answer ∷ past) = let h = begun_most past in omega (arith, h)
begun_most (Take place map answer ∷ past) = let h = begun_most past in omega (arith, h)
begun_most (Close chunk answer ∷ past) = let h = begun_most past in omega (arith, h)
begun_most (Reserve serial osd denied answer ∷ past) = let h = begun_most past in omega (arith, h)
begun_most (Fault serial number osd count answer ∷ past) = let h = begun_most past in omega (arith, h)
begun_most (Interval osds answer ∷ past) = let h = begun_most past in omega (arith, h)

pub opened_most : (past : List Event) → opened past ≤ length past
opened_most [] = omega arith
opened_most (Open serial listed (Opened chunk) ∷ past) = let h = opened_most past in omega (arith, h)
opened_most (Open serial listed (Over cause) ∷ past) = let h = opened_most past in omega (arith, h)
opened_most (Open serial listed (StillReserving osd) ∷ past) = let h = opened_most past in omega (arith, h)
opened_most (Open serial listed (Already chunk) ∷ past) = let h = opened_most past in omega (arith, h)
opened_most (Admit write answer ∷ past) = let h = opened_most past in omega (arith, h)
opened_most (Submit write answer ∷ past) = let h = opened_most past in omega (arith, h)
opened_most (Collect id version ∷ past) = let h = opened_most past in omega (arith, h)
opened_most (Pull osd from to asked ∷ past) = let h = opened_most past in omega (arith, h)
opened_most (Tell osd applied ∷ past) = let h = opened_most past in omega (arith, h)
opened_most (Begin kind answer ∷ past) = let h = opened_most past in omega (arith, h)
opened_most (Take place map answer ∷ past) = let h = opened_most past in omega (arith, h)
opened_most (Close chunk answer ∷ past) = let h = opened_most past in omega (arith, h)
opened_most (Reserve serial osd denied answer ∷ past) = let h = opened_most past in omega (arith, h)
opened_most (Fault serial number osd count answer ∷ past) = let h = opened_most past in omega (arith, h)
opened_most (Interval osds answer ∷ past) = let h = opened_most past in omega (arith, h)

pub begun_room : (s : Scrubbing) (events : List Event) (len room : ℕ) → s ≡ scrubbing (reverse events) → len ≡ length events → len ≤ room → room < 2 ^ 63 → s.begun + 1 < 2 ^ 64
begun_room s events len room is whole within small =
    let same : s.begun ≡ begun (reverse events) = ap (λ x. x.begun) is in
    let most : begun (reverse events) ≤ length (reverse events) = begun_most (reverse events) in
    let long : length (reverse events) ≡ length events = length-reverse events in
    omega (arith, same, most, long, whole, within, small)

pub opened_room : (s : Scrubbing) (events : List Event) (len room : ℕ) → s ≡ scrubbing (reverse events) → len ≡ length events → len ≤ room → room < 2 ^ 63 → s.opened + 1 < 2 ^ 64
opened_room s events len room is whole within small =
    let same : s.opened ≡ opened (reverse events) = ap (λ x. x.opened) is in
    let most : opened (reverse events) ≤ length (reverse events) = opened_most (reverse events) in
    let long : length (reverse events) ≡ length events = length-reverse events in
    omega (arith, same, most, long, whole, within, small)

-- an event that changes nothing but the list of events
record IsQuiet (made : Made) (event : Event) (past : List Event) : Type 0 where
  items : log (event ∷ past) ≡ log past
  requests : ids (event ∷ past) ≡ ids past
  bytes : log_bytes (event ∷ past) ≡ log_bytes past
  writes : parked (event ∷ past) ≡ parked past
  refused : refusals (event ∷ past) ≡ refusals past
  given : (osd : ℕ) → pulled (event ∷ past) osd ≡ pulled past osd
  chunks : (osd : ℕ) → asked (event ∷ past) osd ≡ asked past osd
  counts : (osd : ℕ) → told (event ∷ past) osd ≡ told past osd
  state : scrubbing (event ∷ past) ≡ scrubbing past
  who : acting made (event ∷ past) ≡ acting made past
  since : epoch made (event ∷ past) ≡ epoch made past
  reasons : causes made (event ∷ past) ≡ causes made past
  fated : fates made (event ∷ past) ≡ fates made past
  sorted : IsOrdered event
  acked : (id : ReqId) → collected (event ∷ past) id ≡ collected past id

still : (g : Inside) (past : List Event) (event : Event) → IsQuiet g.made event past → AreTied g past → AreTied g (event ∷ past)
still g past event q t = record {
  log_items = t.log_items ∙ sym q.items;
  log_ids = t.log_ids ∙ sym q.requests;
  log_counts = t.log_counts ∙ sym q.bytes;
  cleans = subst (λ list. AreSame (clean_of g.clean) (clean list)) (sym q.items) t.cleans;
  holds = t.holds ∙ ap held (sym q.items);
  waits = t.waits ∙ sym q.writes;
  fresh = subst (λ list. AreNew list (parked (event ∷ past))) (sym q.requests) (subst (AreNew (ids past)) (sym q.writes) t.fresh);
  refuses = t.refuses ∙ sym q.refused;
  pulls = λ osd. t.pulls osd ∙ sym (q.given osd);
  asks = λ osd. t.asks osd ∙ sym (q.chunks osd);
  tells = λ osd. t.tells osd ∙ sym (q.counts osd);
  scrubs = t.scrubs ∙ sym q.state;
  acts = t.acts ∙ sym q.who;
  epochs = t.epochs ∙ sym q.since;
  over = t.over ∙ sym q.reasons;
  ended = t.ended ∙ sym q.fated;
  ordered = (q.sorted, t.ordered);
  collects = λ id. t.collects id ∙ sym (q.acked id);
}

-- why a chunk wasn't closed isn't that it was
not_told : (fate : Option Fate) (report : Report) (completes : Bool) → Some (told_of fate) ≡ Some (closes.Closed report completes) → ⊥
not_told None report completes e = absurd cc
not_told (Some fates_are.Closed) report completes e = absurd cc
not_told (Some (fates_are.Preempted request)) report completes e = absurd cc
not_told (Some (fates_are.IntervalChanged old new)) report completes e = absurd cc
not_told (Some (fates_are.DeviceFault osd count)) report completes e = absurd cc

not_closed : (a b : Bool) (fate : Option Fate) (m : Option ℕ) (report : Report) (completes : Bool)
    → first (then_some a closes.NoChunk ∷ then_some b (told_of fate) ∷ option_map (λ osd. closes.NotYet osd) m ∷ []) ≡ Some (closes.Closed report completes) → ⊥
not_closed true b fate m report completes e = absurd cc
not_closed false true fate m report completes e = not_told fate report completes e
not_closed false false fate (Some osd) report completes e = absurd cc
not_closed false false fate None report completes e = absurd cc

-- a chunk that isn't closed leaves the scrubs as they are
pub tied_unclosed : (g : Inside) (made : Made) (past : List Event) (chunk : ℕ) (answer : CloseAnswer) → unclosed made past chunk ≡ Some answer → AreTied g past
    → AreTied g (Close chunk answer ∷ past)
unfolding unclosed
tied_unclosed g made past chunk closes.NoChunk e t =
    still g past (Close chunk closes.NoChunk)
    (record { items = refl; requests = refl; bytes = refl; writes = refl; refused = refl; given = λ o. refl; chunks = λ o. refl; counts = λ o. refl; state = refl; who = refl; since = refl; reasons = refl; fated = refl; sorted = tt; acked = λ i. refl }) t
tied_unclosed g made past chunk closes.ClosedBefore e t =
    still g past (Close chunk closes.ClosedBefore)
    (record { items = refl; requests = refl; bytes = refl; writes = refl; refused = refl; given = λ o. refl; chunks = λ o. refl; counts = λ o. refl; state = refl; who = refl; since = refl; reasons = refl; fated = refl; sorted = tt; acked = λ i. refl }) t
tied_unclosed g made past chunk (closes.Preempted request) e t =
    still g past (Close chunk (closes.Preempted request))
    (record { items = refl; requests = refl; bytes = refl; writes = refl; refused = refl; given = λ o. refl; chunks = λ o. refl; counts = λ o. refl; state = refl; who = refl; since = refl; reasons = refl; fated = refl; sorted = tt; acked = λ i. refl }) t
tied_unclosed g made past chunk (closes.IntervalChanged old new) e t =
    still g past (Close chunk (closes.IntervalChanged old new))
    (record { items = refl; requests = refl; bytes = refl; writes = refl; refused = refl; given = λ o. refl; chunks = λ o. refl; counts = λ o. refl; state = refl; who = refl; since = refl; reasons = refl; fated = refl; sorted = tt; acked = λ i. refl }) t
tied_unclosed g made past chunk (closes.DeviceFault osd count) e t =
    still g past (Close chunk (closes.DeviceFault osd count))
    (record { items = refl; requests = refl; bytes = refl; writes = refl; refused = refl; given = λ o. refl; chunks = λ o. refl; counts = λ o. refl; state = refl; who = refl; since = refl; reasons = refl; fated = refl; sorted = tt; acked = λ i. refl }) t
tied_unclosed g made past chunk (closes.NotYet osd) e t =
    still g past (Close chunk (closes.NotYet osd))
    (record { items = refl; requests = refl; bytes = refl; writes = refl; refused = refl; given = λ o. refl; chunks = λ o. refl; counts = λ o. refl; state = refl; who = refl; since = refl; reasons = refl; fated = refl; sorted = tt; acked = λ i. refl }) t
tied_unclosed g made past chunk (closes.Closed report completes) e t =
    absurd (not_closed ((chunk == 0) || nat_lt (opened past) chunk) (not (is_open past chunk)) (fate made past chunk) (missing made past chunk) report completes e)

-- why a chunk isn't opened isn't that it was
not_opened : (c : Option Cause) (o n : Option ℕ) (chunk : Chunk)
    → first (option_map (λ cause. Over cause) c ∷ option_map (λ osd. StillReserving osd) o ∷ option_map (λ number. Already number) n ∷ []) ≡ Some (Opened chunk) → ⊥
not_opened (Some c) o n chunk e = absurd cc
not_opened None (Some o) n chunk e = absurd cc
not_opened None None (Some n) chunk e = absurd cc
not_opened None None None chunk e = absurd cc

pub tied_unopened : (g : Inside) (made : Made) (past : List Event) (serial : ℕ) (listed : List ObjectId) (answer : OpenAnswer) → unopened made past serial ≡ Some answer → AreTied g past
    → AreTied g (Open serial listed answer ∷ past)
unfolding unopened
tied_unopened g made past serial listed (Over cause) e t =
    still g past (Open serial listed (Over cause))
    (record { items = refl; requests = refl; bytes = refl; writes = refl; refused = refl; given = λ o. refl; chunks = λ o. refl; counts = λ o. refl; state = refl; who = refl; since = refl; reasons = refl; fated = refl; sorted = tt; acked = λ i. refl }) t
tied_unopened g made past serial listed (StillReserving osd) e t =
    still g past (Open serial listed (StillReserving osd))
    (record { items = refl; requests = refl; bytes = refl; writes = refl; refused = refl; given = λ o. refl; chunks = λ o. refl; counts = λ o. refl; state = refl; who = refl; since = refl; reasons = refl; fated = refl; sorted = tt; acked = λ i. refl }) t
tied_unopened g made past serial listed (Already chunk) e t =
    still g past (Open serial listed (Already chunk))
    (record { items = refl; requests = refl; bytes = refl; writes = refl; refused = refl; given = λ o. refl; chunks = λ o. refl; counts = λ o. refl; state = refl; who = refl; since = refl; reasons = refl; fated = refl; sorted = tt; acked = λ i. refl }) t
tied_unopened g made past serial listed (Opened chunk) e t = absurd (not_opened (cause made past serial) (claims_at made past) (open_number past) chunk e)

-- why a scrub claims nothing isn't what becomes of a claim
record IsNoClaim (answer : ReserveAnswer) : Type 0 where
  denies : (osd : ℕ) → answer ≡ reserves.DeniedNow osd → ⊥
  goes_on : (next : ℕ) → answer ≡ reserves.Reserving next → ⊥
  runs : answer ≡ reserves.Reserved → ⊥

no_claim : (c : Option Cause) (b : Bool) (n : Option ℕ) (answer : ReserveAnswer)
    → first (option_map (λ cause. reserves.Over cause) c ∷ then_some b (reserves.NotNext n) ∷ []) ≡ Some answer → IsNoClaim answer
no_claim (Some c) b n answer e = record { denies = λ osd is. absurd cc; goes_on = λ next is. absurd cc; runs = λ is. absurd cc }
no_claim None true n answer e = record { denies = λ osd is. absurd cc; goes_on = λ next is. absurd cc; runs = λ is. absurd cc }
no_claim None false n answer e = absurd cc

pub tied_unclaimed : (g : Inside) (made : Made) (past : List Event) (serial osd : ℕ) (denied : Option (List Holder)) (answer : ReserveAnswer)
    → unclaimed made past serial osd ≡ Some answer → AreTied g past → AreTied g (Reserve serial osd denied answer ∷ past)
unfolding unclaimed
tied_unclaimed g made past serial osd denied (reserves.Over cause) e t =
    still g past (Reserve serial osd denied (reserves.Over cause))
    (record { items = refl; requests = refl; bytes = refl; writes = refl; refused = refl; given = λ o. refl; chunks = λ o. refl; counts = λ o. refl; state = refl; who = refl; since = refl; reasons = refl; fated = refl; sorted = tt; acked = λ i. refl }) t
tied_unclaimed g made past serial osd denied (reserves.NotNext next) e t =
    still g past (Reserve serial osd denied (reserves.NotNext next))
    (record { items = refl; requests = refl; bytes = refl; writes = refl; refused = refl; given = λ o. refl; chunks = λ o. refl; counts = λ o. refl; state = refl; who = refl; since = refl; reasons = refl; fated = refl; sorted = tt; acked = λ i. refl }) t
tied_unclaimed g made past serial osd denied (reserves.DeniedNow other) e t = absurd ((no_claim (cause made past serial) (not (is_osd (claims_at made past) osd)) (claims_at made past) (reserves.DeniedNow other) e).denies other refl)
tied_unclaimed g made past serial osd denied (reserves.Reserving next) e t = absurd ((no_claim (cause made past serial) (not (is_osd (claims_at made past) osd)) (claims_at made past) (reserves.Reserving next) e).goes_on next refl)
tied_unclaimed g made past serial osd denied reserves.Reserved e t = absurd ((no_claim (cause made past serial) (not (is_osd (claims_at made past) osd)) (claims_at made past) reserves.Reserved e).runs refl)

-- why the acting list stays isn't that it changed
not_changed : (b : Bool) (l : Option ℕ) (old : ℕ) (count : ℕ → ℕ) (total new : ℕ) (ends : Option ℕ)
    → first (then_some b (intervals.LastEpoch old) ∷ option_map (λ osd. intervals.NotCaughtUp osd (count osd) total) l ∷ []) ≡ Some (intervals.Changed new ends) → ⊥
not_changed true l old count total new ends e = absurd cc
not_changed false (Some osd) old count total new ends e = absurd cc
not_changed false None old count total new ends e = absurd cc

pub tied_unchanged : (g : Inside) (made : Made) (past : List Event) (osds : List ℕ) (answer : IntervalAnswer) → unchanged made past osds ≡ Some answer → AreTied g past
    → AreTied g (Interval osds answer ∷ past)
unfolding unchanged
tied_unchanged g made past osds (intervals.LastEpoch old) e t =
    still g past (Interval osds (intervals.LastEpoch old))
    (record { items = refl; requests = refl; bytes = refl; writes = refl; refused = refl; given = λ o. refl; chunks = λ o. refl; counts = λ o. refl; state = refl; who = refl; since = refl; reasons = refl; fated = refl; sorted = tt; acked = λ i. refl }) t
tied_unchanged g made past osds (intervals.NotCaughtUp osd count total) e t =
    still g past (Interval osds (intervals.NotCaughtUp osd count total))
    (record { items = refl; requests = refl; bytes = refl; writes = refl; refused = refl; given = λ o. refl; chunks = λ o. refl; counts = λ o. refl; state = refl; who = refl; since = refl; reasons = refl; fated = refl; sorted = tt; acked = λ i. refl }) t
tied_unchanged g made past osds (intervals.Changed new ends) e t =
    absurd (not_changed (epoch made past == last_epoch) (lagging made past osds) (epoch made past) (told past) (last_number past) new ends e)

not_last : (b : Bool) (l : Option IntervalAnswer) (old : ℕ) → first (then_some b (intervals.LastEpoch old) ∷ l ∷ []) ≡ None → b ≡ false
not_last true l old e = absurd cc
not_last false l old e = refl

-- where the acting list changes, an epoch follows
pub epoch_room : (made : Made) (past : List Event) (osds : List ℕ) (now : ℕ) → now ≡ epoch made past → now < 2 ^ 32 → unchanged made past osds ≡ None → now + 1 < 2 ^ 32
unfolding unchanged
epoch_room made past osds now is small e =
    let test : (epoch made past == last_epoch) ≡ false =
    not_last (epoch made past == last_epoch) (option_map (λ osd. intervals.NotCaughtUp osd (told past osd) (last_number past)) (lagging made past osds)) (epoch made past) e in
    grind (arith, nat_tests, test, is, small)

-- the same fields are tied to the same events
pub tied_same : (g new : Inside) (past : List Event) → new.log ≡ g.log → new.clean ≡ g.clean → new.waiting ≡ g.waiting → new.refused ≡ g.refused → new.given ≡ g.given
    → new.told ≡ g.told → new.collected ≡ g.collected → new.scrubs ≡ g.scrubs → new.fates ≡ g.fates → AreEnds g new → AreTied g past → AreTied new past
tied_same g new past l c w r p d o s f e t = record {
  log_items = ap (λ x. x.items) l ∙ t.log_items;
  log_ids = ap (λ x. x.ids) l ∙ t.log_ids;
  log_counts = ap (λ x. x.bytes) l ∙ t.log_counts;
  cleans = subst (λ x. AreSame (clean_of x) (clean (log past))) (sym c) t.cleans;
  holds = ap held_by c ∙ t.holds;
  waits = w ∙ t.waits;
  fresh = t.fresh;
  refuses = ap (λ x. x.items) r ∙ t.refuses;
  pulls = λ osd. ap (λ x. pulled_of x osd) p ∙ t.pulls osd;
  asks = λ osd. ap (λ x. asked_of x osd) p ∙ t.asks osd;
  tells = λ osd. ap (λ x. count_of x osd) d ∙ t.tells osd;
  scrubs = s ∙ t.scrubs;
  acts = kept_acts g new past e t;
  epochs = kept_epochs g new past e t;
  over = kept_over g new past e t;
  ended = kept_ended g new past e t new.fates.items (ap (λ x. x.items) f);
  ordered = t.ordered;
  collects = λ id. ap (λ x. contains same_id x id) o ∙ t.collects id;
}

-- what was compared is what the history says
pub compared_so : (made : Made) (past : List Event) (version chunk : ℕ) (members : List ℕ) (compared : Report) → version ≡ version_of (open_chunk past) → members ≡ acting made past
    → compared ≡ report_of members version (maps_of past chunk members) → compared ≡ found made past chunk
compared_so made past version chunk members compared v m e =
    e ∙ ap (λ n. report_of members n (maps_of past chunk members)) v ∙ ap (λ o. report_of o (version_of (open_chunk past)) (maps_of past chunk o)) m
