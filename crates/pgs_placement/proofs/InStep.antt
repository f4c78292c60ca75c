-- Every step keeps each member in step with its group.
use Rattle.std.proofs.Common.{◌≡◌, ℕ, suc, ◌+◌, ◌<◌, ◌≤◌, ◌==◌, nat_lt, max, Bool, true, false, cond, List, [], ◌∷◌, length, map, reverse, Option, Some, None, refl, sym, ap, ◌∙◌, subst, arith, inl, inr}
use Rattle.std.specs.List.{list_any}
use Rattle.std.proofs.lemmas.Bool.Decides.{nat_tests, eqb_tells}
use Rattle.pgs_request.specs.declared.req_id.ReqId.{ReqId}
use Rattle.pgs_request.specs.declared.version.Version.{Version}
use Rattle.pgs_chunk.specs.declared.ask.Ask.{Ask}
use Rattle.pgs_medium.specs.declared.item.Item.{Item}
use Rattle.pgs_op.specs.declared.write.Write.{Write}
use Rattle.pgs_op_log.specs.Logs.{newer}
use Rattle.pgs_history.specs.Log.{log, ids, item_of}
use Rattle.pgs_history.specs.Members.{pulled, told, collected}
use Rattle.pgs_history.specs.Answers.{submit_answer, admit_answer, last_number, ask, new_ask}
use Rattle.pgs_history.specs.After.{after_collected, gives}
use Rattle.pgs_history.specs.Legal.{IsLegal}
use Rattle.pgs_history.specs.Facts.{upto}
use Rattle.pgs_history.specs.declared.collect_answer.CollectAnswer.{CollectAnswer}
use Rattle.pgs_history.specs.declared.collect_answer.CollectAnswer.TheVariants.{StillParked, Refused, Unknown, NotYet, Acked}
use Rattle.pgs_history.specs.declared.write_answer.WriteAnswer.{WriteAnswer}
use Rattle.pgs_history.specs.declared.write_answer.WriteAnswer.TheVariants.{Declined, Parked, QueueFull, Accepted}
use Rattle.pgs_history.specs.declared.event.Event.{Event}
use Rattle.pgs_history.specs.declared.event.Event.TheVariants.{Submit, Admit, Collect, Pull, Tell}
use Rattle.pgs_history.specs.declared.made.Made.{Made}
use Rattle.pgs_history.proofs.Answered.{accepted_is, admitted_is}
use Rattle.pgs_history.proofs.Ids.{numbered}
use Rattle.pgs_lines.specs.declared.object.Object.{Object}
use Rattle.pgs_lines.specs.declared.snap.Snap.{Snap}
use Rattle.pgs_lines.specs.declared.damage.Damage.{Damage}
use Rattle.pgs_done.specs.declared.done.Done.{Done}
use Rattle.pgs_shard.specs.Scans.{past_after_hand}
use Rattle.pgs_shard_history.specs.Feeds.{fed}
use Rattle.pgs_shard_history.specs.Legal.{IsDue as IsDueShard}
use Rattle.pgs_shard_history.specs.Scanning.{scanning}
use Rattle.pgs_shard_history.specs.Stores.{applied}
use Rattle.pgs_shard_history.specs.declared.event.Event.{Event as ShardEvent}
use Rattle.pgs_shard_history.specs.declared.event.Event.TheVariants.{Fed, Applied, DeviceFault, ListFailed}
use Rattle.pgs_exchange.specs.declared.scan_result.ScanResult.{ScanResult}
use Rattle.pgs_shard.specs.declared.scan_answer.ScanAnswer.{ScanAnswer}
use Rattle.pgs_shard.specs.declared.scan_answer.ScanAnswer.TheVariants as scans
use Rattle.pgs_range.specs.declared.bound.Bound.{Bound}
use Rattle.pgs_shards.specs.Members.{Member, past_in, with_member, after_event, with_event}
use Rattle.pgs_shards.specs.Applies.{waits, next_number, next_drops, after_apply}
use Rattle.pgs_shards.specs.Damages.{after_damage}
use Rattle.pgs_shards.specs.Listings.{after_list, with_listed}
use Rattle.pgs_shards.specs.Scans.{after_answer, scan_answer, after_scan, hand_answer, after_hand, with_handed}
use Rattle.pgs_shards.specs.Whole.{IsWholeMember}
use Rattle.pgs_shards.specs.declared.osd_device.OsdDevice.{OsdDevice}
use Rattle.pgs_shards.proofs.Whole.{whole_event, whole_apply, whole_damage, whole_list, whole_scan, whole_hand, begun_whole}
use Rattle.pgs_slots.specs.declared.row.Row.{Row}
use Rattle.pgs_placement.specs.State.{PlacementState, opening}
use Rattle.pgs_placement.specs.Naming.{family_of, snap_of, damage_of}
use Rattle.pgs_placement.specs.Basics.{given, applied_by, after_pulling, after_telling, after_applying, after_damaging, after_scanning}
use Rattle.pgs_placement.specs.Counts.{is_member, IsAsked, IsInStep, AreInStep}
use Rattle.pgs_placement.proofs.Members.{Keeps, has, past_here, past_other, osds_kept, all_changed, keeps_apply, keeps_list, by_apply, by_list, osds_begun, past_begun}
use Rattle.pgs_placement.proofs.Asks.{AsksStay, asked_stays, same_asks, submit_asks, asked_now, asked_either, drop_ask, scan_ask, hand_ask}
use Rattle.pgs_placement.proofs.Items.{upto_over, length_upto, next_newer, fed_all}

-- ---- events of the group that give members nothing

-- the log, and what members pulled and told, stay
pub record AreQuiet (old new : List Event) : Type 0 where
  pub pulls : (osd : ℕ) → pulled new osd ≡ pulled old osd
  pub tells : (osd : ℕ) → told new osd ≡ told old osd
  pub items : log new ≡ log old
  pub requests : ids new ≡ ids old
  pub asks : AsksStay old new

same_step : (old new : List Event) (osd : ℕ) (shard : List ShardEvent) → AreQuiet old new → IsInStep old osd shard → IsInStep new osd shard
same_step old new osd shard q h = record {
  items = h.items ∙ (λ i. upto (sym (q.pulls osd) i) (sym q.items i));
  told_applied = subst (λ n. n ≤ applied shard) (sym (q.tells osd)) h.told_applied;
  applied_pulled = subst (λ n. applied shard ≤ n) (sym (q.pulls osd)) h.applied_pulled;
  pulled_log = let a = q.pulls osd in let b : length (log new) ≡ length (log old) = ap length q.items in let c = h.pulled_log in omega (arith, a, b, c);
  asked = asked_stays old new (scanning shard).ask q.asks h.asked;
}

pub in_quiet : (w : PlacementState) (past : List Event) (done : List Done) → IsLegal w.made past → AreQuiet w.past past → AreInStep w
    → AreInStep (record w { past = past; done = done })
in_quiet w past done legal q h = record {
  legal = legal;
  named = h.named;
  whole = h.whole;
  each = λ osd member. same_step w.past past osd (past_in w.members osd) q (h.each osd member);
}

-- ---- the log has an item more

pub record AreGrown (old new : List Event) : Type 0 where
  pub item : Item
  pub items : log new ≡ item ∷ log old
  pub number : item.number ≡ length (log old) + 1
  pub pulls : (osd : ℕ) → pulled new osd ≡ pulled old osd
  pub tells : (osd : ℕ) → told new osd ≡ told old osd
  pub asks : AsksStay old new

grown_step : (old new : List Event) (osd : ℕ) (shard : List ShardEvent) → AreGrown old new → IsInStep old osd shard → IsInStep new osd shard
grown_step old new osd shard g h =
    let within : pulled old osd ≤ length (log old) = h.pulled_log in
    let number : g.item.number ≡ length (log old) + 1 = g.number in
    let above : pulled old osd < g.item.number = omega (arith, number, within) in
    let size : length (log new) ≡ suc (length (log old)) = ap length g.items in
    let pulls = g.pulls osd in
    record {
      items = h.items ∙ sym (upto_over (pulled old osd) g.item (log old) above) ∙ (λ i. upto (sym pulls i) (sym g.items i));
      told_applied = subst (λ n. n ≤ applied shard) (sym (g.tells osd)) h.told_applied;
      applied_pulled = subst (λ n. applied shard ≤ n) (sym pulls) h.applied_pulled;
      pulled_log = omega (arith, pulls, size, within);
      asked = asked_stays old new (scanning shard).ask g.asks h.asked;
    }

in_grown : (w : PlacementState) (past : List Event) (done : List Done) → IsLegal w.made past → AreGrown w.past past → AreInStep w
    → AreInStep (record w { past = past; done = done })
in_grown w past done legal g h = record {
  legal = legal;
  named = h.named;
  whole = h.whole;
  each = λ osd member. grown_step w.past past osd (past_in w.members osd) g (h.each osd member);
}

-- ---- writes

submit_grows : (made : Made) (past : List Event) (write : Write) (version : Version) (preempts : Option ℕ) → Accepted version preempts ≡ submit_answer made past write
    → AreGrown past (Submit write (Accepted version preempts) ∷ past)
submit_grows made past write version preempts e = record {
  item = item_of version write (log past);
  items = refl;
  number = sym (ap (λ v. v.number) (accepted_is made past write version preempts e).next);
  pulls = λ osd. refl;
  tells = λ osd. refl;
  asks = submit_asks past write (Accepted version preempts);
}

pub in_submit : (w : PlacementState) (write : Write) (answer : WriteAnswer) (done : List Done) → IsLegal w.made (Submit write answer ∷ w.past) → answer ≡ submit_answer w.made w.past write
    → AreInStep w → AreInStep (record w { past = Submit write answer ∷ w.past; done = done })
in_submit w write (Declined why) done legal e h =
    in_quiet w (Submit write (Declined why) ∷ w.past) done legal (record { pulls = λ osd. refl; tells = λ osd. refl; items = refl; requests = refl; asks = submit_asks w.past write (Declined why) }) h
in_submit w write (Parked range) done legal e h =
    in_quiet w (Submit write (Parked range) ∷ w.past) done legal (record { pulls = λ osd. refl; tells = λ osd. refl; items = refl; requests = refl; asks = submit_asks w.past write (Parked range) }) h
in_submit w write (QueueFull count) done legal e h =
    in_quiet w (Submit write (QueueFull count) ∷ w.past) done legal (record { pulls = λ osd. refl; tells = λ osd. refl; items = refl; requests = refl; asks = submit_asks w.past write (QueueFull count) }) h
in_submit w write (Accepted version preempts) done legal e h =
    in_grown w (Submit write (Accepted version preempts) ∷ w.past) done legal (submit_grows w.made w.past write version preempts e) h

pub in_admit : (w : PlacementState) (write : Write) (answer : WriteAnswer) (done : List Done) → IsLegal w.made (Admit write answer ∷ w.past) → answer ≡ admit_answer w.made w.past write
    → AreInStep w → AreInStep (record w { past = Admit write answer ∷ w.past; done = done })
in_admit w write (Declined why) done legal e h =
    in_quiet w (Admit write (Declined why) ∷ w.past) done legal
    (record { pulls = λ osd. refl; tells = λ osd. refl; items = refl; requests = refl; asks = same_asks w.past (Admit write (Declined why) ∷ w.past) refl refl refl refl }) h
in_admit w write (Parked range) done legal e h =
    in_quiet w (Admit write (Parked range) ∷ w.past) done legal
    (record { pulls = λ osd. refl; tells = λ osd. refl; items = refl; requests = refl; asks = same_asks w.past (Admit write (Parked range) ∷ w.past) refl refl refl refl }) h
in_admit w write (QueueFull count) done legal e h =
    in_quiet w (Admit write (QueueFull count) ∷ w.past) done legal
    (record { pulls = λ osd. refl; tells = λ osd. refl; items = refl; requests = refl; asks = same_asks w.past (Admit write (QueueFull count) ∷ w.past) refl refl refl refl }) h
in_admit w write (Accepted version preempts) done legal e h =
    in_grown w (Admit write (Accepted version preempts) ∷ w.past) done legal (record {
      item = item_of version write (log w.past);
      items = refl;
      number = sym (ap (λ v. v.number) (admitted_is w.made w.past write version preempts e).next);
      pulls = λ osd. refl;
      tells = λ osd. refl;
      asks = same_asks w.past (Admit write (Accepted version preempts) ∷ w.past) refl refl refl refl;
    }) h

-- ---- collects and tells

pub collect_quiet : (past : List Event) (id : ReqId) (answer : CollectAnswer) → AreQuiet past (after_collected past id answer)
collect_quiet past id (StillParked chunk) = record { pulls = λ osd. refl; tells = λ osd. refl; items = refl; requests = refl; asks = same_asks past past refl refl refl refl }
collect_quiet past id (Refused refusal) = record { pulls = λ osd. refl; tells = λ osd. refl; items = refl; requests = refl; asks = same_asks past past refl refl refl refl }
collect_quiet past id Unknown = record { pulls = λ osd. refl; tells = λ osd. refl; items = refl; requests = refl; asks = same_asks past past refl refl refl refl }
collect_quiet past id (NotYet osd count) = record { pulls = λ osd. refl; tells = λ osd. refl; items = refl; requests = refl; asks = same_asks past past refl refl refl refl }
collect_quiet past id (Acked version) =
    (elim (collected past id) as (λ v. AreQuiet past (cond v past (Collect id version ∷ past))) [
      | true ↦ record { pulls = λ osd. refl; tells = λ osd. refl; items = refl; requests = refl; asks = same_asks past past refl refl refl refl }
      | false ↦ record { pulls = λ osd. refl; tells = λ osd. refl; items = refl; requests = refl; asks = same_asks past (Collect id version ∷ past) refl refl refl refl }
    ])

max_most : (a b n : ℕ) → a ≤ n → b ≤ n → max a b ≤ n
max_most a b n p q = omega arith

told_one : (past : List Event) (other count osd : ℕ) (shard : List ShardEvent) → ((other == osd) ≡ true → count ≤ applied shard) → IsInStep past osd shard
    → IsInStep (Tell other count ∷ past) osd shard
told_one past other count osd shard most h =
    let P : Bool → Type 0 = λ v. (other == osd) ≡ v → cond v (max (told past osd) count) (told past osd) ≤ applied shard in
    record {
      items = h.items;
      told_applied = (elim (other == osd) as P [
        | true ↦ λ same. max_most (told past osd) count (applied shard) h.told_applied (most same)
        | false ↦ λ apart. h.told_applied
      ]) refl;
      applied_pulled = h.applied_pulled;
      pulled_log = h.pulled_log;
      asked = asked_stays past (Tell other count ∷ past) (scanning shard).ask (same_asks past (Tell other count ∷ past) refl refl refl refl) h.asked;
    }

pub in_tell : (w : PlacementState) (group osd : ℕ) → IsLegal w.made (after_telling w group osd).past → AreInStep w → AreInStep (after_telling w group osd)
in_tell w group osd legal h =
    let done : List Done = (after_telling w group osd).done in
    let P : Bool → Type 0 = λ v. IsLegal w.made (cond v (Tell osd (applied_by w osd) ∷ w.past) w.past)
    → AreInStep (record w { past = cond v (Tell osd (applied_by w osd) ∷ w.past) w.past; done = done }) in
    (elim (nat_lt (told w.past osd) (applied_by w osd)) as P [
      | true ↦ λ legal. record {
        legal = legal;
        named = h.named;
        whole = h.whole;
        each = λ q member. told_one w.past osd (applied_by w osd) q (past_in w.members q)
            (λ same. let is : osd ≡ q = grind (arith, nat_tests, same) in subst (λ o. applied_by w osd ≤ applied (past_in w.members o)) is (omega arith)) (h.each q member);
      }
      | false ↦ λ legal. record { legal = h.legal; named = h.named; whole = h.whole; each = h.each }
    ]) legal

-- ---- pulls

self_same : (n : ℕ) → (n == n) ≡ true
self_same n = grind (arith, nat_tests)

pulled_other : (past : List Event) (other from to : ℕ) (asked : Option ℕ) (osd : ℕ) (shard : List ShardEvent) → (other == osd) ≡ false → IsInStep past osd shard
    → IsInStep (Pull other from to asked ∷ past) osd shard
pulled_other past other from to asked osd shard apart h =
    let same : pulled (Pull other from to asked ∷ past) osd ≡ pulled past osd = ap (λ v. cond v (max (pulled past osd) to) (pulled past osd)) apart in
    record {
      items = h.items ∙ ap (λ n. upto n (log past)) (sym same);
      told_applied = h.told_applied;
      applied_pulled = subst (λ n. applied shard ≤ n) (sym same) h.applied_pulled;
      pulled_log = subst (λ n. n ≤ length (log past)) (sym same) h.pulled_log;
      asked = asked_stays past (Pull other from to asked ∷ past) (scanning shard).ask (same_asks past (Pull other from to asked ∷ past) refl refl refl refl) h.asked;
    }

-- what a pull gives may come next
pub pull_due : (stride : ℕ) (made : Made) (past : List Event) (asked : Option Ask) (osd : ℕ) (shard : List ShardEvent) → IsLegal made past → IsInStep past osd shard
    → IsDueShard stride (Fed (pulled past osd) (reverse (newer (pulled past osd) (log past))) asked) shard
pull_due stride made past asked osd shard legal h =
    let n : ℕ = pulled past osd in
    let within : n ≤ length (log past) = h.pulled_log in
    let size : length (fed shard) ≡ n = ap length h.items ∙ length_upto n (log past) (numbered made past legal) within in
    (next_newer n (log past) (numbered made past legal) within, omega (arith, size))

pulled_fed : (made : Made) (past : List Event) (asked : Option ℕ) (osd : ℕ) (shard : List ShardEvent) → IsLegal made past → IsInStep past osd shard
    → IsInStep (Pull osd (pulled past osd) (last_number past) asked ∷ past) osd (Fed (pulled past osd) (reverse (newer (pulled past osd) (log past))) (ask made past osd) ∷ shard)
pulled_fed made past asked osd shard legal h =
    let n : ℕ = pulled past osd in
    let within : n ≤ length (log past) = h.pulled_log in
    let most : max n (last_number past) ≡ last_number past = omega (arith, within) in
    let now : pulled (Pull osd n (last_number past) asked ∷ past) osd ≡ last_number past = ap (λ v. cond v (max n (last_number past)) n) (self_same osd) ∙ most in
    let before : applied shard ≤ n = h.applied_pulled in
    let after : applied shard ≤ last_number past = omega (arith, before, within) in
    let stays : AsksStay past (Pull osd n (last_number past) asked ∷ past) = same_asks past (Pull osd n (last_number past) asked ∷ past) refl refl refl refl in
    record {
      items = fed_all n (log past) (fed shard) (numbered made past legal) within h.items ∙ ap (λ m. upto m (log past)) (sym now);
      told_applied = h.told_applied;
      applied_pulled = subst (λ m. applied shard ≤ m) (sym now) after;
      pulled_log = subst (λ m. m ≤ length (log past)) (sym now) (omega arith);
      asked = asked_either (Pull osd n (last_number past) asked ∷ past) (ask made past osd) (scanning shard)
          (asked_stays past (Pull osd n (last_number past) asked ∷ past) (ask made past osd) stays (asked_now made past osd legal))
          (asked_stays past (Pull osd n (last_number past) asked ∷ past) (scanning shard).ask stays h.asked);
    }

-- ---- all members, after a change of one

has_member : (w : PlacementState) (osd : ℕ) → AreInStep w → is_member w.made osd ≡ true → has w.members osd ≡ true
has_member w osd h member = ap (list_any (λ other. other == osd)) h.named ∙ member

-- a change of one OSD's member, and events of the group that leave the others in step
pub one_moves : (w : PlacementState) (past : List Event) (done : List Done) (osd : ℕ) (change : Member → Member) → AreInStep w → IsLegal w.made past → Keeps change
    → ((m : Member) → m.osd ≡ osd → past_in w.members osd ≡ m.past → IsWholeMember w.stride m → IsWholeMember w.stride (change m))
    → ((m : Member) → m.osd ≡ osd → is_member w.made osd ≡ true → IsInStep w.past osd m.past → IsInStep past osd (change m).past)
    → ((q : ℕ) (shard : List ShardEvent) → (osd == q) ≡ false → IsInStep w.past q shard → IsInStep past q shard)
    → AreInStep (record w { past = past; members = with_member osd change w.members; done = done })
one_moves w past done osd change h legal keeps whole here others = record {
  legal = legal;
  named = osds_kept change osd w.members keeps ∙ h.named;
  whole = all_changed (IsWholeMember w.stride) change osd w.members whole h.whole;
  each = λ q member. elim (eqb_tells osd q) [
    | inl is ↦
        let own : is_member w.made osd ≡ true = ap (is_member w.made) is.1 ∙ member in
        subst (λ o. IsInStep past o (past_in (with_member osd change w.members) o)) is.1
        (past_here (λ a b. IsInStep w.past osd a → IsInStep past osd b) change osd w.members keeps (λ m same. here m same own) (has_member w osd h own) (h.each osd own))
    | inr apart ↦ subst (IsInStep past q) (sym (past_other change osd q w.members keeps apart.0)) (others q (past_in w.members q) apart.0 (h.each q member))
  ];
}

-- the group's events stay
one_changes : (w : PlacementState) (done : List Done) (osd : ℕ) (change : Member → Member) → AreInStep w → Keeps change
    → ((m : Member) → m.osd ≡ osd → IsWholeMember w.stride m → IsWholeMember w.stride (change m))
    → ((m : Member) → m.osd ≡ osd → IsInStep w.past osd m.past → IsInStep w.past osd (change m).past)
    → AreInStep (record w { members = with_member osd change w.members; done = done })
one_changes w done osd change h keeps whole here =
    one_moves w w.past done osd change h h.legal keeps (λ m same is one. whole m same one) (λ m same own one. here m same one) (λ q shard apart one. one)

pub in_pull : (w : PlacementState) (group osd : ℕ) → IsLegal w.made (after_pulling w group osd).past → is_member w.made osd ≡ true → AreInStep w → AreInStep (after_pulling w group osd)
in_pull w group osd legal member h =
    let event : Event = Pull osd (pulled w.past osd) (last_number w.past) (new_ask w.made w.past osd) in
    let done : List Done = (after_pulling w group osd).done in
    let P : Bool → Type 0 = λ v. IsLegal w.made (cond v (event ∷ w.past) w.past)
    → AreInStep (record w { past = cond v (event ∷ w.past) w.past; members = cond v (with_event osd (given w osd) w.members) w.members; done = done }) in
    (elim (gives w.past osd (new_ask w.made w.past osd)) as P [
      | true ↦ λ legal.
          one_moves w (event ∷ w.past) done osd (after_event (given w osd)) h legal (λ m. refl)
          (λ m same is one. whole_event w.stride (pulled w.past osd) (reverse (newer (pulled w.past osd) (log w.past))) (ask w.made w.past osd) m one
          (subst (IsDueShard w.stride (given w osd)) is (pull_due w.stride w.made w.past (ask w.made w.past osd) osd (past_in w.members osd) h.legal (h.each osd member))))
          (λ m same own one. pulled_fed w.made w.past (new_ask w.made w.past osd) osd m.past h.legal one)
          (λ q shard apart one. pulled_other w.past osd (pulled w.past osd) (last_number w.past) (new_ask w.made w.past osd) q shard apart one)
      | false ↦ λ legal. record { legal = h.legal; named = h.named; whole = h.whole; each = h.each }
    ]) legal

-- ---- applying and damage

-- what a member's history becomes where its next item is applied
applied_one : (made : Made) (past : List Event) (osd : ℕ) (shard : List ShardEvent) → IsLegal made past → IsInStep past osd shard → waits shard ≡ true
    → IsInStep past osd (Applied (next_number shard) (next_drops shard) ∷ shard)
applied_one made past osd shard legal h waiting =
    let size : length (fed shard) ≡ pulled past osd = ap length h.items ∙ length_upto (pulled past osd) (log past) (numbered made past legal) h.pulled_log in
    let less : applied shard + 1 ≤ length (fed shard) = grind (arith, nat_tests, waiting) in
    let before : told past osd ≤ applied shard = h.told_applied in
    record {
      items = h.items;
      told_applied = omega (arith, before);
      applied_pulled = omega (arith, less, size);
      pulled_log = h.pulled_log;
      asked = subst (IsAsked past) (sym (drop_ask (next_drops shard) (scanning shard))) h.asked;
    }

-- a history with as much fed, applied and asked
like_step : (past : List Event) (osd : ℕ) (shard new : List ShardEvent) → fed new ≡ fed shard → applied new ≡ applied shard → (scanning new).ask ≡ (scanning shard).ask
    → IsInStep past osd shard → IsInStep past osd new
like_step past osd shard new f a s h = record {
  items = f ∙ h.items;
  told_applied = subst (λ n. told past osd ≤ n) (sym a) h.told_applied;
  applied_pulled = subst (λ n. n ≤ pulled past osd) (sym a) h.applied_pulled;
  pulled_log = h.pulled_log;
  asked = subst (IsAsked past) (sym s) h.asked;
}

pub in_apply : (w : PlacementState) (group osd : ℕ) → AreInStep w → AreInStep (after_applying w group osd)
in_apply w group osd h =
    one_changes w (after_applying w group osd).done osd after_apply h keeps_apply (λ m same one. whole_apply w.stride m one)
    (λ m same one. by_apply (IsInStep w.past osd) m one (λ count. like_step w.past osd m.past (DeviceFault count ∷ m.past) refl refl refl one)
    (λ waiting. applied_one w.made w.past osd m.past h.legal one waiting))

pub in_damage : (w : PlacementState) (group osd : ℕ) (object : Object) (snap : Snap) (damage : Damage) → AreInStep w
    → AreInStep (after_damaging w group osd object snap damage)
in_damage w group osd object snap damage h =
    one_changes w (after_damaging w group osd object snap damage).done osd (after_damage (family_of object) (snap_of snap) (damage_of damage)) h (λ m. refl)
    (λ m same one. whole_damage w.stride (family_of object) (snap_of snap) (damage_of damage) m one)
    (λ m same one. like_step w.past osd m.past (after_damage (family_of object) (snap_of snap) (damage_of damage) m).past refl refl refl one)

-- ---- scanning and handing

scan_fed : (answer : ScanAnswer) (past : List ShardEvent) → (fed (after_answer answer past) ≡ fed past) × (applied (after_answer answer past) ≡ applied past)
scan_fed scans.Idle past = (refl, refl)
scan_fed (scans.NotYet count needed) past = (refl, refl)
scan_fed (scans.Found id) past = (refl, refl)
scan_fed scans.More past = (refl, refl)
scan_fed (scans.Passed id mark) past = (refl, refl)
scan_fed scans.Done past = (refl, refl)
scan_fed (scans.ListFault count) past = (refl, refl)

pub in_scan : (w : PlacementState) (group osd : ℕ) → AreInStep w → AreInStep (after_scanning w group osd)
in_scan w group osd h =
    one_changes w (after_scanning w group osd).done osd (after_scan w.stride) h (λ m. refl) (λ m same one. whole_scan w.stride m one)
    (λ m same one. let as_much = scan_fed (scan_answer w.stride m) m.past in
    like_step w.past osd m.past (after_answer (scan_answer w.stride m) m.past) as_much.0 as_much.1 (scan_ask (scan_answer w.stride m) m.past) one)

hand_fed : (scanned : Option ScanResult) (past : List ShardEvent) → (fed (past_after_hand scanned past) ≡ fed past) × (applied (past_after_hand scanned past) ≡ applied past)
hand_fed None past = (refl, refl)
hand_fed (Some scanned) past = (refl, refl)

pub in_hand : (w : PlacementState) (osd : ℕ) (done : List Done) → AreInStep w → AreInStep (record w { members = with_handed osd w.members; done = done })
in_hand w osd done h =
    one_changes w done osd after_hand h (λ m. refl) (λ m same one. whole_hand w.stride m one)
    (λ m same one. let as_much = hand_fed (hand_answer m) m.past in
    like_step w.past osd m.past (past_after_hand (hand_answer m) m.past) as_much.0 as_much.1 (hand_ask (hand_answer m) m.past) one)

-- ---- listing

pub in_list : (w : PlacementState) (limit : ℕ) (start : Bound) (osd : ℕ) (done : List Done) → AreInStep w → AreInStep (record w { members = with_listed limit start osd w.members; done = done })
in_list w limit start osd done h =
    one_changes w done osd (after_list limit start) h (keeps_list limit start) (λ m same one. whole_list w.stride limit start m one)
    (λ m same one. by_list (IsInStep w.past osd) limit start m one (λ count. like_step w.past osd m.past (ListFailed count ∷ m.past) refl refl refl one))

-- ---- nothing of the members

pub in_done : (w : PlacementState) (done : List Done) → AreInStep w → AreInStep (record w { done = done })
in_done w done h = record { legal = h.legal; named = h.named; whole = h.whole; each = h.each }

pub in_opening : (made : Made) (devices : List OsdDevice) (stride : ℕ) (slots : List Row) → map (λ d. d.osd) devices ≡ made.members → AreInStep (opening made devices stride slots)
in_opening made devices stride slots named = record {
  legal = tt;
  named = osds_begun devices ∙ named;
  whole = begun_whole stride devices;
  each = λ osd member. subst (IsInStep [] osd) (sym (past_begun devices osd))
      (record { items = refl; told_applied = omega arith; applied_pulled = omega arith; pulled_log = omega arith; asked = tt });
}
