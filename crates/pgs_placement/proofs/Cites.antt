-- A map is of the scan that it cites, whatever comes behind.
use Rattle.std.proofs.Common.{ℕ, zero, suc, nat_lt, true, false, cond, List, [], ◌∷◌, refl, sym, ap, ◌∙◌}
use Rattle.std.specs.Prelude.{slice_get}
use Rattle.pgs_request.specs.declared.req_id.ReqId.{ReqId}
use Rattle.pgs_name.specs.Families.{Family}
use Rattle.pgs_range.specs.declared.bound.Bound.{Bound}
use Rattle.pgs_copy.specs.declared.damage.Damage.{Damage}
use Rattle.pgs_map.specs.declared.scrub_map.ScrubMap.{ScrubMap}
use Rattle.pgs_history.specs.Members.{collected, pulled, told}
use Rattle.pgs_history.specs.Scrubs.{last_kind, is_deep}
use Rattle.pgs_seen.specs.Seen.{seen_entry}
use Rattle.pgs_history.specs.Answers.{last_number, new_ask}
use Rattle.pgs_history.specs.After.{after_collected, after_closed, gives}
use Rattle.pgs_history.specs.declared.collect_answer.CollectAnswer.{CollectAnswer}
use Rattle.pgs_history.specs.declared.collect_answer.CollectAnswer.TheVariants.{StillParked, Refused, Unknown, NotYet, Acked}
use Rattle.pgs_history.specs.declared.close_answer.CloseAnswer.{CloseAnswer}
use Rattle.pgs_history.specs.declared.close_answer.CloseAnswer.TheVariants as closes
use Rattle.pgs_history.specs.declared.event.Event.{Event}
use Rattle.pgs_history.specs.declared.event.Event.TheVariants.{Submit, Admit, Collect, Pull, Tell, Begin, Reserve, Open, Take, Close, Fault, Interval}
use Rattle.pgs_shard.specs.Scans.{handed_in}
use Rattle.pgs_shard_history.specs.Laws.{applied_items}
use Rattle.pgs_shard_history.specs.Scanning.{scanning}
use Rattle.pgs_shard_history.specs.declared.event.Event.TheVariants.{DeviceFault, ListFailed}
use Rattle.pgs_shards.specs.Members.{Member, past_in, with_member, after_event, with_event}
use Rattle.pgs_shards.specs.Applies.{after_apply}
use Rattle.pgs_shards.specs.Damages.{after_damage, with_damage}
use Rattle.pgs_shards.specs.Listings.{after_list, with_listed}
use Rattle.pgs_shards.specs.Scans.{scan_answer, after_scan, hand_answer, after_hand, with_handed}
use Rattle.pgs_placement.specs.State.{PlacementState}
use Rattle.pgs_placement.specs.Basics.{given, applied_by, after_pulling, after_telling, after_applying, after_scanning}
use Rattle.pgs_placement.specs.Cited.{IsCited, IsFaultCited, Cites, AreCited}
use Rattle.pgs_placement.proofs.Members.{Keeps, lift, GoesOn, goes_nowhere, goes_one, by_apply, by_list, keeps_apply, keeps_list, scan_goes_on, hand_goes_on}

-- ---- histories of members that go on

pub is_cited_more : (old new : List Member) (past : List Event) (place : ℕ) (map : ScrubMap) → GoesOn (past_in old map.osd) (past_in new map.osd) → IsCited old past place map
    → IsCited new past place map
is_cited_more old new past place map on h = record {
  within = on.longer place h.within;
  ended = ap (λ shard. handed_in map.osd (scanning shard)) (on.before place h.within) ∙ h.ended;
  items = ap applied_items (on.before place h.within) ∙ h.items;
  needed = h.needed;
  logged = h.logged;
  of = h.of;
  seen = λ chunk now number id inside. h.seen chunk now number id inside ∙ ap (seen_entry (is_deep (last_kind past)) id) (sym (on.before place h.within));
}

pub fault_cited_more : (old new : List Member) (serial chunk osd count : ℕ) → GoesOn (past_in old osd) (past_in new osd) → IsFaultCited old serial chunk osd count → IsFaultCited new serial chunk osd count
fault_cited_more old new serial zero osd count on h = record {
  place = h.place;
  within = on.longer h.place h.within;
  failed = ap (λ shard. slice_get shard 0) (on.before h.place h.within) ∙ h.failed;
}
fault_cited_more old new serial (suc chunk) osd count on h = record {
  place = h.place;
  applied = h.applied;
  within = on.longer h.place h.within;
  ended = ap (λ shard. handed_in osd (scanning shard)) (on.before h.place h.within) ∙ h.ended;
}

cites_more : (old new : List Member) (event : Event) (past : List Event) → ((osd : ℕ) → GoesOn (past_in old osd) (past_in new osd)) → Cites old event past → Cites new event past
cites_more old new (Take place map answer) past on h = is_cited_more old new past place map (on map.osd) h
cites_more old new (Submit write answer) past on h = tt
cites_more old new (Admit write answer) past on h = tt
cites_more old new (Collect id version) past on h = tt
cites_more old new (Pull osd from to asked) past on h = tt
cites_more old new (Tell osd count) past on h = tt
cites_more old new (Begin kind answer) past on h = tt
cites_more old new (Open serial listed answer) past on h = tt
cites_more old new (Close chunk answer) past on h = tt
cites_more old new (Reserve serial osd denied answer) past on h = tt
cites_more old new (Fault serial chunk osd count answer) past on h = fault_cited_more old new serial chunk osd count (on osd) h
cites_more old new (Interval osds answer) past on h = tt

pub all_cited : (old new : List Member) (past : List Event) → ((osd : ℕ) → GoesOn (past_in old osd) (past_in new osd)) → AreCited old past → AreCited new past
all_cited old new [] on h = tt
all_cited old new (event ∷ past) on h = (cites_more old new event past on h.0, all_cited old new past on h.1)

-- the member of an OSD changes
pub cited_member : (members : List Member) (change : Member → Member) (osd : ℕ) (past : List Event) → Keeps change → ((m : Member) → GoesOn m.past (change m).past) → AreCited members past
    → AreCited (with_member osd change members) past
cited_member members change osd past keeps on h =
    all_cited members (with_member osd change members) past (λ q. lift GoesOn change osd q members keeps (λ m same. on m) goes_nowhere) h

-- ---- steps

pub cited_apply : (w : PlacementState) (group osd : ℕ) → AreCited w.members w.past → AreCited (after_applying w group osd).members (after_applying w group osd).past
cited_apply w group osd h =
    cited_member w.members after_apply osd w.past keeps_apply
    (λ m. by_apply (GoesOn m.past) m (goes_nowhere m.past) (λ count. goes_one (DeviceFault count) m.past) (λ waiting. goes_one _ m.past)) h

pub cited_damage : (w : PlacementState) (osd : ℕ) (family : Family) (snap : ℕ) (damage : Damage) → AreCited w.members w.past → AreCited (with_damage osd family snap damage w.members) w.past
cited_damage w osd family snap damage h = cited_member w.members (after_damage family snap damage) osd w.past (λ m. refl) (λ m. goes_one _ m.past) h

pub cited_list : (members : List Member) (limit : ℕ) (start : Bound) (osd : ℕ) (past : List Event) → AreCited members past → AreCited (with_listed limit start osd members) past
cited_list members limit start osd past h =
    cited_member members (after_list limit start) osd past (keeps_list limit start)
    (λ m. by_list (GoesOn m.past) limit start m (goes_nowhere m.past) (λ count. goes_one (ListFailed count) m.past)) h

pub cited_pull : (w : PlacementState) (group osd : ℕ) → AreCited w.members w.past → AreCited (after_pulling w group osd).members (after_pulling w group osd).past
cited_pull w group osd h =
    (elim (gives w.past osd (new_ask w.made w.past osd)) as (λ b.
    AreCited (cond b (with_event osd (given w osd) w.members) w.members) (cond b (Pull osd (pulled w.past osd) (last_number w.past) (new_ask w.made w.past osd) ∷ w.past) w.past)) [
      | true ↦ (tt, cited_member w.members (after_event (given w osd)) osd w.past (λ m. refl) (λ m. goes_one _ m.past) h)
      | false ↦ h
    ])

pub cited_tell : (w : PlacementState) (group osd : ℕ) → AreCited w.members w.past → AreCited (after_telling w group osd).members (after_telling w group osd).past
cited_tell w group osd h =
    (elim (nat_lt (told w.past osd) (applied_by w osd)) as (λ b. AreCited w.members (cond b (Tell osd (applied_by w osd) ∷ w.past) w.past)) [
      | true ↦ (tt, h)
      | false ↦ h
    ])

pub cited_collect : (members : List Member) (past : List Event) (id : ReqId) (answer : CollectAnswer) → AreCited members past → AreCited members (after_collected past id answer)
cited_collect members past id (StillParked chunk) h = h
cited_collect members past id (Refused refusal) h = h
cited_collect members past id Unknown h = h
cited_collect members past id (NotYet osd count) h = h
cited_collect members past id (Acked version) h =
    (elim (collected past id) as (λ b. AreCited members (cond b past (Collect id version ∷ past))) [
      | true ↦ h
      | false ↦ (tt, h)
    ])

pub cited_scan : (w : PlacementState) (group osd : ℕ) → AreCited w.members w.past → AreCited (after_scanning w group osd).members (after_scanning w group osd).past
cited_scan w group osd h = cited_member w.members (after_scan w.stride) osd w.past (λ m. refl) (λ m. scan_goes_on (scan_answer w.stride m) m.past) h

pub goes_handed : (members : List Member) (osd q : ℕ) → GoesOn (past_in members q) (past_in (with_handed osd members) q)
goes_handed members osd q = lift GoesOn after_hand osd q members (λ m. refl) (λ m same. hand_goes_on (hand_answer m) m.past) goes_nowhere

pub cited_hand : (members : List Member) (osd : ℕ) (past : List Event) → AreCited members past → AreCited (with_handed osd members) past
cited_hand members osd past h = all_cited members (with_handed osd members) past (goes_handed members osd) h

pub cited_close : (members : List Member) (past : List Event) (chunk : ℕ) (answer : CloseAnswer) → AreCited members past → AreCited members (after_closed past chunk answer)
cited_close members past chunk closes.NoChunk h = (tt, h)
cited_close members past chunk closes.ClosedBefore h = (tt, h)
cited_close members past chunk (closes.Preempted request) h = (tt, h)
cited_close members past chunk (closes.IntervalChanged old new) h = (tt, h)
cited_close members past chunk (closes.DeviceFault osd count) h = (tt, h)
cited_close members past chunk (closes.NotYet osd) h = h
cited_close members past chunk (closes.Closed report completes) h = (tt, h)
