-- An acknowledgement holds when it is answered, and ever after.
use Rattle.std.proofs.Common.{◌≡◌, ℕ, ◌≤◌, ◌==◌, ◌||◌, nat_lt, max, Bool, true, false, cond, List, [], ◌∷◌, Some, None, refl, sym, ap, ◌∙◌, subst, arith, ◌⊎◌, inl, inr}
use Rattle.std.specs.List.{AllByRecursion}
use Rattle.std.proofs.lemmas.Bool.Decides.{nat_tests}
use Rattle.pgs_bytes.proofs.Facts.{none_some, true_or_false}
use Rattle.pgs_request.specs.declared.req_id.ReqId.{ReqId}
use Rattle.pgs_request.specs.declared.snap_context.SnapContext.{SnapContext}
use Rattle.pgs_request.specs.declared.version.Version.{Version}
use Rattle.pgs_request.specs.declared.op.Op.{Op}
use Rattle.pgs_lines.specs.declared.object.Object.{Object}
use Rattle.pgs_op.specs.declared.write.Write.{Write}
use Rattle.pgs_op_log.specs.Logs.{same_id, version_in}
use Rattle.pgs_history.specs.Acting.{acting, acts, has_osd, AreMembers, IsActing}
use Rattle.pgs_history.specs.Log.{ids}
use Rattle.pgs_history.specs.Members.{pulled, told}
use Rattle.pgs_history.specs.Answers.{submit_answer, collect_answer, last_number, new_ask, interval_answer}
use Rattle.pgs_history.specs.After.{gives}
use Rattle.pgs_history.specs.Joined.{AreCaughtUp}
use Rattle.pgs_history.specs.Legal.{IsLegal}
use Rattle.pgs_history.specs.Parked.{parked, next_admitted}
use Rattle.pgs_history.specs.Scrubs.{open_chunk}
use Rattle.pgs_history.specs.declared.write_answer.WriteAnswer.{WriteAnswer}
use Rattle.pgs_history.specs.declared.write_answer.WriteAnswer.TheVariants.{Declined, Parked, QueueFull, Accepted}
use Rattle.pgs_history.specs.declared.collect_answer.CollectAnswer.{CollectAnswer}
use Rattle.pgs_history.specs.declared.collect_answer.CollectAnswer.TheVariants.{StillParked, Refused, Unknown, NotYet, Acked}
use Rattle.pgs_history.specs.declared.interval_answer.IntervalAnswer.{IntervalAnswer}
use Rattle.pgs_history.specs.declared.interval_answer.IntervalAnswer.TheVariants as intervals
use Rattle.pgs_history.specs.declared.event.Event.{Event}
use Rattle.pgs_history.specs.declared.event.Event.TheVariants.{Submit, Admit, Pull, Tell, Interval}
use Rattle.pgs_history.specs.declared.made.Made.{Made}
use Rattle.pgs_history.proofs.Answered.{accepted_is, first_is}
use Rattle.pgs_history.proofs.Ids.{distinct, once, same_id_is, waits_apart, version_within}
use Rattle.pgs_history.proofs.Joined.{caught_up, members_act, acked_is, all_told}
use Rattle.pgs_history.proofs.New.{first_new}
use Rattle.pgs_done.specs.declared.collect_answer.CollectAnswer.TheVariants as line_collects
use Rattle.pgs_done.specs.declared.done.Done.{Done}
use Rattle.pgs_done.specs.declared.done.Done.TheVariants as dones
use Rattle.pgs_shard_history.specs.Stores.{applied}
use Rattle.pgs_shard_history.specs.declared.event.Event.{Event as ShardEvent}
use Rattle.pgs_shard_history.specs.declared.event.Event.TheVariants.{Applied}
use Rattle.pgs_shards.specs.Members.{Member, with_member, after_event, with_event}
use Rattle.pgs_range.specs.declared.bound.Bound.{Bound}
use Rattle.pgs_shard.specs.Scans.{past_after_hand}
use Rattle.pgs_shards.specs.Applies.{next_number, next_drops, after_apply}
use Rattle.pgs_shards.specs.Listings.{after_list, with_listed}
use Rattle.pgs_shards.specs.Scans.{hand_answer, after_hand, with_handed}
use Rattle.pgs_placement.specs.State.{PlacementState}
use Rattle.pgs_placement.specs.Naming.{id_of, write_of}
use Rattle.pgs_placement.specs.Said.{collect_said}
use Rattle.pgs_placement.specs.Basics.{given, applied_by, after_collecting, after_write, after_pulling, after_telling, after_applying}
use Rattle.pgs_placement.specs.Counts.{AreInStep}
use Rattle.pgs_placement.specs.Acknowledged.{IsAcknowledged, StillHolds, AreAcknowledged}
use Rattle.pgs_placement.proofs.InStep.{AreQuiet}
use Rattle.pgs_placement.proofs.Members.{Keeps, lift, by_apply, by_list, keeps_apply, keeps_list, hand_applied}

-- ---- lists

all_more : {A : Type 0} (P Q : A → Type 0) (xs : List A) → ((x : A) → P x → Q x) → AllByRecursion P xs → AllByRecursion Q xs
all_more P Q [] h all = tt
all_more P Q (x ∷ xs) h all = (h x all.0, all_more P Q xs h all.1)

-- ---- who acts

-- OSDs of a list of members are members
pub members_have : (members osds : List ℕ) (osd : ℕ) → AreMembers members osds → has_osd osds osd ≡ true → has_osd members osd ≡ true
members_have members [] osd all there = absurd cc
members_have members (first ∷ osds) osd all there =
    let Q : Bool → Type 0 = λ b. (first == osd) ≡ b → (b || has_osd osds osd) ≡ true → has_osd members osd ≡ true in
    (elim (first == osd) as Q [
      | true ↦ λ same found. let is : first ≡ osd = grind (arith, nat_tests, same) in subst (λ o. has_osd members o ≡ true) is all.0
      | false ↦ λ other found. members_have members osds osd all.2 found
    ]) refl there

-- ---- what only grows

-- an OSD that acts now acted before, or has told of all that the log had then, and applied it
abbrev pub Joins : PlacementState → PlacementState → ℕ → Type 0
Joins a b osd = (acts a.made a.past osd ≡ true) ⊎ ((last_number a.past ≤ told b.past osd) × (last_number a.past ≤ applied_by b osd))

pub record Grows (a b : PlacementState) : Type 0 where
  pub same : b.made ≡ a.made
  pub kept : (id : ReqId) (version : Version) → version_in (ids a.past) id ≡ Some version → version_in (ids b.past) id ≡ Some version
  pub tells : (osd : ℕ) → told a.past osd ≤ told b.past osd
  pub applies : (osd : ℕ) → applied_by a osd ≤ applied_by b osd
  pub joins : (osd : ℕ) → acts b.made b.past osd ≡ true → Joins a b osd

told_then : (a b : PlacementState) (version : Version) (osd : ℕ) → Grows a b → version.number ≤ last_number a.past → ((q : ℕ) → acts a.made a.past q ≡ true → version.number ≤ told a.past q)
    → Joins a b osd → version.number ≤ told b.past osd
told_then a b version osd grows within h (inl before) = let less = h osd before in let more = grows.tells osd in omega (arith, less, more)
told_then a b version osd grows within h (inr joined) = let most = joined.0 in omega (arith, within, most)

applied_then : (a b : PlacementState) (version : Version) (osd : ℕ) → Grows a b → version.number ≤ last_number a.past → ((q : ℕ) → acts a.made a.past q ≡ true → version.number ≤ applied_by a q)
    → Joins a b osd → version.number ≤ applied_by b osd
applied_then a b version osd grows within h (inl before) = let less = h osd before in let more = grows.applies osd in omega (arith, less, more)
applied_then a b version osd grows within h (inr joined) = let most = joined.1 in omega (arith, within, most)

holds_on : (a b : PlacementState) (id : ReqId) (version : Version) → IsLegal a.made a.past → IsLegal b.made b.past → Grows a b → IsAcknowledged a.made a.members a.past id version → IsAcknowledged b.made b.members b.past id version
holds_on a b id version before legal grows h =
    let stands = grows.kept id version h.stands in
    let within = version_within a.made a.past id version before h.stands in
    record {
      stands = stands;
      once = once (ids b.past) id version (distinct b.made b.past legal) stands;
      each_told = λ osd there. told_then a b version osd grows within h.each_told (grows.joins osd there);
      each_applied = λ osd there. applied_then a b version osd grows within h.each_applied (grows.joins osd there);
    }

still : (a b : PlacementState) (done : Done) → IsLegal a.made a.past → IsLegal b.made b.past → Grows a b → StillHolds a.made a.members a.past done → StillHolds b.made b.members b.past done
still a b (dones.Write client serial object context op answer) before legal grows h = tt
still a b (dones.Admit client serial answer) before legal grows h = tt
still a b (dones.Collect group client serial (line_collects.StillParked chunk)) before legal grows h = tt
still a b (dones.Collect group client serial (line_collects.Refused refusal)) before legal grows h = tt
still a b (dones.Collect group client serial line_collects.Unknown) before legal grows h = tt
still a b (dones.Collect group client serial (line_collects.NotYet osd count)) before legal grows h = tt
still a b (dones.Collect group client serial (line_collects.Acked version)) before legal grows h =
    λ own. holds_on a b (id_of client serial) version before legal grows (h (own ∙ ap (λ made. made.number) grows.same))
still a b (dones.Pull group osd from to asked) before legal grows h = tt
still a b (dones.Apply group osd answer) before legal grows h = tt
still a b (dones.Tell group osd count) before legal grows h = tt
still a b (dones.Damage group osd object snap damage answer) before legal grows h = tt
still a b (dones.Begin group kind answer) before legal grows h = tt
still a b (dones.Open group answer) before legal grows h = tt
still a b (dones.Scan group osd answer) before legal grows h = tt
still a b (dones.Take group osd answer) before legal grows h = tt
still a b (dones.Close group answer) before legal grows h = tt
still a b (dones.Interval group osds answer) before legal grows h = tt
still a b (dones.Claim group answer) before legal grows h = tt
still a b (dones.Release group osd answer) before legal grows h = tt
still a b (dones.Job group kind rank moment answer) before legal grows h = tt
still a b (dones.Unjob group answer) before legal grows h = tt
still a b (dones.Pick moment answer) before legal grows h = tt
still a b (dones.Listed text) before legal grows h = tt

-- all acknowledgements hold on
pub acks_grow : (a b : PlacementState) → AreInStep a → AreInStep b → Grows a b → AreAcknowledged a.made a.members a.past a.done → AreAcknowledged b.made b.members b.past a.done
acks_grow a b before h grows acks =
    all_more (StillHolds a.made a.members a.past) (StillHolds b.made b.members b.past) a.done (λ done. still a b done before.legal h.legal grows) acks

-- ---- each step only grows

-- a new request in front keeps the others' versions
new_keeps : (entries : List (ReqId × Version)) (new : ReqId) (v : Version) → version_in entries new ≡ None
    → (id : ReqId) (version : Version) → version_in entries id ≡ Some version → version_in ((new, v) ∷ entries) id ≡ Some version
new_keeps entries new v unknown id version e =
    let P : Bool → Type 0 = λ t. same_id new id ≡ t → cond t (Some v) (version_in entries id) ≡ Some version in
    (elim (same_id new id) as P [
      | true ↦ λ same. absurd (none_some version (sym unknown ∙ ap (version_in entries) (same_id_is new id same) ∙ e))
      | false ↦ λ other. e
    ]) refl

submit_keeps : (made : Made) (past : List Event) (write : Write) (answer : WriteAnswer) → answer ≡ submit_answer made past write
    → (id : ReqId) (version : Version) → version_in (ids past) id ≡ Some version → version_in (ids (Submit write answer ∷ past)) id ≡ Some version
submit_keeps made past write (Declined why) is id version e = e
submit_keeps made past write (Parked range) is id version e = e
submit_keeps made past write (QueueFull count) is id version e = e
submit_keeps made past write (Accepted v preempts) is id version e = new_keeps (ids past) write.id v (accepted_is made past write v preempts is).new id version e

pub grows_write : (w : PlacementState) (client serial : ℕ) (object : Object) (context : SnapContext) (op : Op) → Grows w (after_write w client serial object context op)
grows_write w client serial object context op = record {
  same = refl;
  kept = submit_keeps w.made w.past (write_of client serial object context op) (submit_answer w.made w.past (write_of client serial object context op)) refl;
  tells = λ osd. omega arith;
  applies = λ osd. omega arith;
  joins = λ osd there. inl there;
}

admit_keeps : (past : List Event) (write : Write) (answer : WriteAnswer) → version_in (ids past) write.id ≡ None
    → (id : ReqId) (version : Version) → version_in (ids past) id ≡ Some version → version_in (ids (Admit write answer ∷ past)) id ≡ Some version
admit_keeps past write (Declined why) new id version e = e
admit_keeps past write (Parked range) new id version e = e
admit_keeps past write (QueueFull count) new id version e = e
admit_keeps past write (Accepted v preempts) new id version e = new_keeps (ids past) write.id v new id version e

-- a write that waited is new
waited_new : (made : Made) (past : List Event) (write : Write) → IsLegal made past → next_admitted past ≡ Some write → version_in (ids past) write.id ≡ None
waited_new made past write legal next =
    let h = first_is (open_chunk past) (parked past) write next in
    first_new (ids past) (parked past) h.rest write h.whole (waits_apart made past legal)

pub grows_admit : (w : PlacementState) (write : Write) (answer : WriteAnswer) (done : List Done) → IsLegal w.made w.past → next_admitted w.past ≡ Some write
    → Grows w (record w { past = Admit write answer ∷ w.past; done = done })
grows_admit w write answer done legal next = record {
  same = refl;
  kept = admit_keeps w.past write answer (waited_new w.made w.past write legal next);
  tells = λ osd. omega arith;
  applies = λ osd. omega arith;
  joins = λ osd there. inl there;
}

-- events that are no write and change no acting OSD
pub grows_quiet : (w : PlacementState) (past : List Event) (done : List Done) → AreQuiet w.past past → acting w.made past ≡ acting w.made w.past → Grows w (record w { past = past; done = done })
grows_quiet w past done q same = record {
  same = refl;
  kept = λ id version e. ap (λ entries. version_in entries id) q.requests ∙ e;
  tells = λ osd. let a = q.tells osd in omega (arith, a);
  applies = λ osd. omega arith;
  joins = λ osd there. inl (ap (λ osds. has_osd osds osd) (sym same) ∙ there);
}

pub grows_pull : (w : PlacementState) (group osd : ℕ) → Grows w (after_pulling w group osd)
grows_pull w group osd =
    let event : Event = Pull osd (pulled w.past osd) (last_number w.past) (new_ask w.made w.past osd) in
    let done : List Done = (after_pulling w group osd).done in
    (elim (gives w.past osd (new_ask w.made w.past osd)) as
    (λ v. Grows w (record w { past = cond v (event ∷ w.past) w.past; members = cond v (with_event osd (given w osd) w.members) w.members; done = done })) [
      | true ↦ record {
        same = refl;
        kept = λ id version e. e;
        tells = λ q. omega arith;
        applies = λ q. lift (λ a b. applied a ≤ applied b) (after_event (given w osd)) osd q w.members (λ m. refl) (λ m same. omega arith) (λ past. omega arith);
        joins = λ q there. inl there;
      }
      | false ↦ record { same = refl; kept = λ id version e. e; tells = λ q. omega arith; applies = λ q. omega arith; joins = λ q there. inl there }
    ])

max_left : (a b : ℕ) → a ≤ max a b
max_left a b = omega arith

pub grows_tell : (w : PlacementState) (group osd : ℕ) → Grows w (after_telling w group osd)
grows_tell w group osd =
    let done : List Done = (after_telling w group osd).done in
    (elim (nat_lt (told w.past osd) (applied_by w osd)) as (λ v. Grows w (record w { past = cond v (Tell osd (applied_by w osd) ∷ w.past) w.past; done = done })) [
      | true ↦ record {
        same = refl;
        kept = λ id version e. e;
        tells = λ q. (elim (osd == q) as (λ v. told w.past q ≤ cond v (max (told w.past q) (applied_by w osd)) (told w.past q)) [
          | true ↦ max_left (told w.past q) (applied_by w osd)
          | false ↦ omega arith
        ]);
        applies = λ q. omega arith;
        joins = λ q there. inl there;
      }
      | false ↦ record { same = refl; kept = λ id version e. e; tells = λ q. omega arith; applies = λ q. omega arith; joins = λ q there. inl there }
    ])

-- a member's history changes, and as much is applied at least
pub grows_member : (w : PlacementState) (change : Member → Member) (osd : ℕ) (done : List Done) → Keeps change → ((m : Member) → applied m.past ≤ applied (change m).past)
    → Grows w (record w { members = with_member osd change w.members; done = done })
grows_member w change osd done keeps more = record {
  same = refl;
  kept = λ id version e. e;
  tells = λ q. omega arith;
  applies = λ q. lift (λ a b. applied a ≤ applied b) change osd q w.members keeps (λ m same. more m) (λ past. omega arith);
  joins = λ q there. inl there;
}

one_more : (past : List ShardEvent) → applied past ≤ applied (Applied (next_number past) (next_drops past) ∷ past)
one_more past = omega arith

pub grows_apply : (w : PlacementState) (group osd : ℕ) → Grows w (after_applying w group osd)
grows_apply w group osd =
    grows_member w after_apply osd (after_applying w group osd).done keeps_apply
    (λ m. by_apply (λ past. applied m.past ≤ applied past) m (omega arith) (λ count. omega arith) (λ waiting. one_more m.past))

pub grows_done : (w : PlacementState) (done : List Done) → Grows w (record w { done = done })
grows_done w done = record { same = refl; kept = λ id version e. e; tells = λ q. omega arith; applies = λ q. omega arith; joins = λ q there. inl there }

-- one after another, where the second lets no other OSD act
pub grows_both : (a b c : PlacementState) → Grows a b → Grows b c → acting c.made c.past ≡ acting b.made b.past → Grows a c
grows_both a b c g h same = record {
  same = h.same ∙ g.same;
  kept = λ id version e. h.kept id version (g.kept id version e);
  tells = λ osd. let x = g.tells osd in let y = h.tells osd in omega (arith, x, y);
  applies = λ osd. let x = g.applies osd in let y = h.applies osd in omega (arith, x, y);
  joins = λ osd there. on osd (g.joins osd (ap (λ osds. has_osd osds osd) (sym same) ∙ there));
}
  where
    on : (osd : ℕ) → Joins a b osd → Joins a c osd
    on osd (inl before) = inl before
    on osd (inr joined) =
        let x = joined.0 in
        let y = joined.1 in
        let tells = h.tells osd in
        let applies = h.applies osd in
        inr (omega (arith, x, tells), omega (arith, y, applies))

-- an OSD that comes to act has told of all the log, and so applied it
pub grows_interval : (w : PlacementState) (osds : List ℕ) (answer : IntervalAnswer) (done : List Done) → AreInStep w → IsActing w.made osds → answer ≡ interval_answer w.made w.past osds
    → IsLegal w.made (Interval osds answer ∷ w.past) → Grows w (record w { past = Interval osds answer ∷ w.past; done = done })
grows_interval w osds (intervals.LastEpoch epoch) done h proper e legal = record { same = refl; kept = λ id version e. e; tells = λ q. omega arith; applies = λ q. omega arith; joins = λ q there. inl there }
grows_interval w osds (intervals.NotCaughtUp osd count total) done h proper e legal = record { same = refl; kept = λ id version e. e; tells = λ q. omega arith; applies = λ q. omega arith; joins = λ q there. inl there }
grows_interval w osds (intervals.Changed epoch ends) done h proper e legal = record {
  same = refl;
  kept = λ id version e. e;
  tells = λ q. omega arith;
  applies = λ q. omega arith;
  joins = λ q there. joined q there (true_or_false (acts w.made w.past q));
}
  where
    caught : AreCaughtUp w.made (Interval osds (intervals.Changed epoch ends) ∷ w.past)
    caught = caught_up w.made (Interval osds (intervals.Changed epoch ends) ∷ w.past) legal

    joined : (q : ℕ) → has_osd osds q ≡ true → (acts w.made w.past q ≡ true) ⊎ (acts w.made w.past q ≡ false) → Joins w (record w { past = Interval osds (intervals.Changed epoch ends) ∷ w.past; done = done }) q
    joined q there (inl before) = inl before
    joined q there (inr apart) =
        let all : told w.past q ≡ last_number w.past = caught.0 q there apart in
        let applies = (h.each q (members_have w.made.members osds q proper.members there)).told_applied in
        inr (omega (arith, all), omega (arith, all, applies))

pub grows_list : (w : PlacementState) (limit : ℕ) (start : Bound) (osd : ℕ) (done : List Done) → Grows w (record w { members = with_listed limit start osd w.members; done = done })
grows_list w limit start osd done =
    grows_member w (after_list limit start) osd done (keeps_list limit start) (λ m. by_list (λ past. applied m.past ≤ applied past) limit start m (omega arith) (λ count. omega arith))

as_much : (old new : List ShardEvent) → applied new ≡ applied old → applied old ≤ applied new
as_much old new same = omega (arith, same)

pub grows_hand : (w : PlacementState) (osd : ℕ) (done : List Done) → Grows w (record w { members = with_handed osd w.members; done = done })
grows_hand w osd done =
    grows_member w after_hand osd done (λ m. refl) (λ m. as_much m.past (past_after_hand (hand_answer m) m.past) (hand_applied (hand_answer m) m.past))

-- ---- a new acknowledgement

pub newly_acked : (w : PlacementState) (id : ReqId) (version : Version) → AreInStep w → IsActing w.made w.made.members → collect_answer w.made w.past id ≡ Acked version → IsAcknowledged w.made w.members w.past id version
newly_acked w id version h may e =
    let found = acked_is w.made w.past id version e in
    let tells : (osd : ℕ) → acts w.made w.past osd ≡ true → version.number ≤ told w.past osd = λ osd there. all_told w.made w.past version.number found.1 osd there in
    let act = members_act w.made w.past h.legal may in
    record {
      stands = found.0;
      once = once (ids w.past) id version (distinct w.made w.past h.legal) found.0;
      each_told = tells;
      each_applied = λ osd there.
          let less = tells osd there in
          let applies = (h.each osd (members_have w.made.members (acting w.made w.past) osd act.members there)).told_applied in
          omega (arith, less, applies);
    }

-- what a collect answers holds after it
pub collect_holds : (w : PlacementState) (group client serial : ℕ) (answer : CollectAnswer) → AreInStep w → IsActing w.made w.made.members → AreInStep (after_collecting w group client serial) → Grows w (after_collecting w group client serial)
    → collect_answer w.made w.past (id_of client serial) ≡ answer
    → StillHolds w.made w.members (after_collecting w group client serial).past (dones.Collect group client serial (collect_said answer))
collect_holds w group client serial (StillParked chunk) h may after grows e = tt
collect_holds w group client serial (Refused refusal) h may after grows e = tt
collect_holds w group client serial Unknown h may after grows e = tt
collect_holds w group client serial (NotYet osd count) h may after grows e = tt
collect_holds w group client serial (Acked version) h may after grows e =
    λ own. holds_on w (after_collecting w group client serial) (id_of client serial) version h.legal after.legal grows (newly_acked w (id_of client serial) version h may e)
