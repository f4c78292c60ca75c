-- Every single step keeps what holds also between the writes that are taken up after it.
use Rattle.std.proofs.Common.{◌≡◌, ℕ, ◌≤◌, true, false, cond, List, [], ◌∷◌, length, Option, Some, None, refl, sym, ap, ◌∙◌, subst, arith}
use Rattle.std.specs.Prelude.{is_some, slice_get}
use Rattle.pgs_request.specs.declared.req_id.ReqId.{ReqId}
use Rattle.pgs_request.specs.declared.snap_context.SnapContext.{SnapContext}
use Rattle.pgs_request.specs.declared.op.Op.{Op}
use Rattle.pgs_name.specs.declared.object_id.ObjectId.{ObjectId}
use Rattle.pgs_range.specs.declared.bound.Bound.{Bound}
use Rattle.pgs_chunk.specs.Positions.{Ascends}
use Rattle.pgs_chunk.proofs.Members.{none_ascend}
use Rattle.pgs_lines.specs.Contexts.{meant}
use Rattle.pgs_lines.specs.declared.object.Object.{Object}
use Rattle.pgs_lines.specs.declared.snap.Snap.{Snap}
use Rattle.pgs_lines.specs.declared.damage.Damage.{Damage}
use Rattle.pgs_lines.specs.declared.kind.Kind.{Kind}
use Rattle.pgs_lines.specs.declared.basic.Basic.{Basic}
use Rattle.pgs_lines.specs.declared.basic.Basic.TheVariants as basics
use Rattle.pgs_map.specs.declared.scrub_map.ScrubMap.{ScrubMap}
use Rattle.pgs_op.specs.declared.write.Write.{Write}
use Rattle.pgs_done.specs.declared.done.Done.{Done}
use Rattle.pgs_done.specs.declared.done.Done.TheVariants as dones
use Rattle.pgs_done.specs.declared.take_answer.TakeAnswer.TheVariants.{NotDone}
use Rattle.pgs_history.specs.Acting.{acting, IsActing}
use Rattle.pgs_history.specs.Members.{collected}
use Rattle.pgs_history.specs.Scrubs.{IsBegun, present, claims_at, opened, open_number, start, limit_now}
use Rattle.pgs_history.specs.Answers.{submit_answer, admit_answer, collect_answer, begin_answer, reserve_answer, open_answer, close_answer, fault_answer, interval_answer}
use Rattle.pgs_history.specs.After.{after_collected, after_reserve, after_take, after_fault, after_closed}
use Rattle.pgs_history.specs.Parked.{next_admitted, is_admitting}
use Rattle.pgs_history.specs.Legal.{IsLegal, IsDenial}
use Rattle.pgs_history.specs.declared.begin_answer.BeginAnswer.{BeginAnswer}
use Rattle.pgs_history.specs.declared.begin_answer.BeginAnswer.TheVariants.{Busy, Began}
use Rattle.pgs_history.specs.declared.collect_answer.CollectAnswer.{CollectAnswer}
use Rattle.pgs_history.specs.declared.collect_answer.CollectAnswer.TheVariants.{StillParked, Refused, Unknown, NotYet, Acked}
use Rattle.pgs_history.specs.declared.close_answer.CloseAnswer.{CloseAnswer}
use Rattle.pgs_history.specs.declared.close_answer.CloseAnswer.TheVariants as closes
use Rattle.pgs_history.specs.declared.interval_answer.IntervalAnswer.{IntervalAnswer}
use Rattle.pgs_history.specs.declared.event.Event.{Event}
use Rattle.pgs_history.specs.declared.event.Event.TheVariants.{Admit, Begin, Open, Collect, Interval}
use Rattle.pgs_history.specs.declared.made.Made.{Made}
use Rattle.pgs_history.proofs.Legal.{legal_submit, legal_collect, legal_pull, legal_tell, legal_close}
use Rattle.pgs_history.proofs.Ids.{numbered, distinct}
use Rattle.pgs_exchange.specs.declared.scan_result.ScanResult.{ScanResult}
use Rattle.pgs_exchange.specs.declared.scan_result.Found.{Found}
use Rattle.pgs_exchange.specs.declared.scan_result.Found.TheVariants as results
use Rattle.pgs_shard_history.specs.Stores.{applied}
use Rattle.pgs_shard_history.specs.declared.event.Event.{Event as ShardEvent}
use Rattle.pgs_shards.specs.Members.{past_in}
use Rattle.pgs_shards.specs.Damages.{after_damage}
use Rattle.pgs_shards.specs.Listings.{with_listed}
use Rattle.pgs_shards.specs.Scans.{scan_answer, after_scan, after_answer, hand_in, with_handed}
use Rattle.pgs_shards.specs.declared.list_answer.ListAnswer.{ListAnswer}
use Rattle.pgs_shards.specs.declared.list_answer.ListAnswer.TheVariants as listings
use Rattle.pgs_slots.specs.Rows.{AreRowsSized, with_claim, with_release, claim_answer}
use Rattle.pgs_slots.specs.declared.claim_answer.ClaimAnswer.{ClaimAnswer}
use Rattle.pgs_slots.specs.declared.claim_answer.ClaimAnswer.TheVariants as claims
use Rattle.pgs_slots.specs.declared.holder.Holder.{Holder}
use Rattle.pgs_slots.specs.declared.row.Row.{Row}
use Rattle.pgs_placement.specs.State.{PlacementState}
use Rattle.pgs_placement.specs.Naming.{id_of, family_of, snap_of, damage_of, kind_of, write_of}
use Rattle.pgs_placement.specs.Said.{open_said}
use Rattle.pgs_placement.specs.Basics.{after_write, after_collecting, after_pulling, after_telling, after_applying, after_damaging, after_scanning, after_changing, applied_by}
use Rattle.pgs_placement.specs.Scrubs.{after_beginning, scrub_of, claim_made, claimed_at, after_claiming, over_at, released_of, after_releasing, is_unlisted, primary_of, primary_lists, with_primary_listed, opened_with, opened_by, opening_of, after_opening, found_taken, handed_taken, after_taking, after_closing}
use Rattle.pgs_placement.specs.Admissions.{admitting}
use Rattle.pgs_placement.specs.Steps.{basic_done}
use Rattle.pgs_placement.specs.Counts.{is_member, IsNamed, AreInStep}
use Rattle.pgs_placement.specs.Acknowledged.{StillHolds, AreAcknowledged}
use Rattle.pgs_placement.specs.Cited.{AreCited, IsFaultCited}
use Rattle.pgs_placement.specs.Sound.{IsSteady, IsSound}
use Rattle.pgs_placement.proofs.Asks.{AsksStay, same_asks, closed_asks, open_asks, close_asks, reserve_asks, fault_asks, interval_asks, present_begun}
use Rattle.pgs_placement.proofs.Mapped.{at_end}
use Rattle.pgs_placement.proofs.Members.{scan_applied, legal_in, list_ascends, list_failed}
use Rattle.pgs_placement.proofs.InStep.{AreQuiet, in_quiet, in_submit, in_admit, collect_quiet, in_tell, in_pull, in_apply, in_damage, in_scan, in_hand, in_list, in_done}
use Rattle.pgs_placement.proofs.Acks.{Grows, acks_grow, grows_write, grows_admit, grows_quiet, grows_pull, grows_tell, grows_apply, grows_member, grows_list, grows_hand, grows_done, grows_interval, collect_holds}
use Rattle.pgs_placement.proofs.Cites.{is_cited_more, fault_cited_more, goes_handed, cited_apply, cited_damage, cited_list, cited_pull, cited_tell, cited_collect, cited_scan, cited_hand, cited_close}
use Rattle.pgs_placement.proofs.Inside.{none_open}
use Rattle.pgs_placement.proofs.Slots.{IsToldDenial, claim_sized, release_sized, told_denial}
use Rattle.pgs_placement.proofs.Takes.{take_of, take_cited, fault_cited}

-- what most steps leave as it is
record Fixed : Type 0 where
  stride : ℕ
  slots : List Row

abbrev fixed : PlacementState → Fixed
fixed w = record { stride = w.stride; slots = w.slots }

-- one thing more was done
kept_steady : (a b : PlacementState) (done : Done) → IsSteady a → AreInStep b → Grows a b → b.done ≡ done ∷ a.done → StillHolds b.made b.members b.past done → AreCited b.members b.past → fixed b ≡ fixed a → IsSteady b
kept_steady a b done h in_step grows is holds cited same = record {
  in_step = in_step;
  orderly = record { items = numbered b.made b.past in_step.legal; requests = distinct b.made b.past in_step.legal };
  acknowledged = subst (AreAcknowledged b.made b.members b.past) (sym is) (holds, acks_grow a b h.in_step in_step grows h.acknowledged);
  cited = cited;
  acting = subst (λ made. IsActing made made.members) (sym grows.same) h.acting;
  stride = subst (λ (f : Fixed). 1 ≤ f.stride) (sym same) h.stride;
  sized = subst (λ (f : Fixed). AreRowsSized f.slots) (sym same) h.sized;
}

-- ---- what clients and members do

steady_write : (w : PlacementState) (client serial : ℕ) (object : Object) (context : SnapContext) (op : Op) → IsSound w → IsSteady (after_write w client serial object context op)
steady_write w client serial object context op s =
    let write : Write = write_of client serial object context op in
    let h = s.steady in
    kept_steady w (after_write w client serial object context op) _ h
    (in_submit w write (submit_answer w.made w.past write) (after_write w client serial object context op).done (legal_submit w.made w.past write s.idle h.in_step.legal) refl h.in_step)
    (grows_write w client serial object context op) refl tt (tt, h.cited) refl

collect_acting : (made : Made) (past : List Event) (id : ReqId) (answer : CollectAnswer) → acting made (after_collected past id answer) ≡ acting made past
collect_acting made past id (StillParked chunk) = refl
collect_acting made past id (Refused refusal) = refl
collect_acting made past id Unknown = refl
collect_acting made past id (NotYet osd count) = refl
collect_acting made past id (Acked version) =
    (elim (collected past id) as (λ v. acting made (cond v past (Collect id version ∷ past)) ≡ acting made past) [
      | true ↦ refl
      | false ↦ refl
    ])

steady_collect : (w : PlacementState) (group client serial : ℕ) → IsSound w → IsSteady (after_collecting w group client serial)
steady_collect w group client serial s =
    let h = s.steady in
    let answer = collect_answer w.made w.past (id_of client serial) in
    let quiet = collect_quiet w.past (id_of client serial) answer in
    let done : List Done = (after_collecting w group client serial).done in
    let after : AreInStep (after_collecting w group client serial) = in_quiet w (after_collecting w group client serial).past done (legal_collect w.made w.past (id_of client serial) s.idle h.in_step.legal) quiet h.in_step in
    let grows : Grows w (after_collecting w group client serial) = grows_quiet w (after_collecting w group client serial).past done quiet (collect_acting w.made w.past (id_of client serial) answer) in
    kept_steady w (after_collecting w group client serial) _ h after grows refl (collect_holds w group client serial answer h.in_step h.acting after grows refl) (cited_collect w.members w.past (id_of client serial) answer h.cited) refl

pub steady_pull : (w : PlacementState) (group osd : ℕ) → IsSound w → is_member w.made osd ≡ true → IsSteady (after_pulling w group osd)
steady_pull w group osd s member =
    let h = s.steady in
    kept_steady w (after_pulling w group osd) _ h (in_pull w group osd (legal_pull w.made w.past osd s.idle h.in_step.legal) member h.in_step) (grows_pull w group osd) refl tt (cited_pull w group osd h.cited) refl

pub steady_apply : (w : PlacementState) (group osd : ℕ) → IsSteady w → IsSteady (after_applying w group osd)
steady_apply w group osd h = kept_steady w (after_applying w group osd) _ h (in_apply w group osd h.in_step) (grows_apply w group osd) refl tt (cited_apply w group osd h.cited) refl

pub steady_tell : (w : PlacementState) (group osd : ℕ) → IsSound w → IsSteady (after_telling w group osd)
steady_tell w group osd s =
    let h = s.steady in
    kept_steady w (after_telling w group osd) _ h (in_tell w group osd (legal_tell w.made w.past osd (applied_by w osd) s.idle h.in_step.legal) h.in_step) (grows_tell w group osd) refl tt (cited_tell w group osd h.cited) refl

steady_damage : (w : PlacementState) (group osd : ℕ) (object : Object) (snap : Snap) (damage : Damage) → IsSteady w → IsSteady (after_damaging w group osd object snap damage)
steady_damage w group osd object snap damage h =
    kept_steady w (after_damaging w group osd object snap damage) _ h (in_damage w group osd object snap damage h.in_step)
    (grows_member w (after_damage (family_of object) (snap_of snap) (damage_of damage)) osd _ (λ m. refl) (λ m. omega arith)) refl tt
    (cited_damage w osd (family_of object) (snap_of snap) (damage_of damage) h.cited) refl

as_much : (old new : List ShardEvent) → applied new ≡ applied old → applied old ≤ applied new
as_much old new same = omega (arith, same)

pub steady_scan : (w : PlacementState) (group osd : ℕ) → IsSteady w → IsSteady (after_scanning w group osd)
steady_scan w group osd h =
    kept_steady w (after_scanning w group osd) _ h (in_scan w group osd h.in_step)
    (grows_member w (after_scan w.stride) osd _ (λ m. refl) (λ m. as_much m.past (after_answer (scan_answer w.stride m) m.past) (scan_applied (scan_answer w.stride m) m.past))) refl tt
    (cited_scan w group osd h.cited) refl

-- ---- a scrub

-- an event that leaves members and log as they are
steady_quiet : (w : PlacementState) (past : List Event) (done : Done) → IsLegal w.made past → AreQuiet w.past past → acting w.made past ≡ acting w.made w.past → IsSteady w → AreCited w.members past
    → StillHolds w.made w.members past done → IsSteady (record w { past = past; done = done ∷ w.done })
steady_quiet w past done legal quiet acts h cited holds =
    kept_steady w (record w { past = past; done = done ∷ w.done }) done h (in_quiet w past (done ∷ w.done) legal quiet h.in_step) (grows_quiet w past (done ∷ w.done) quiet acts) refl holds cited refl

-- no event, but something done
steady_done : (w : PlacementState) (done : Done) → IsSteady w → StillHolds w.made w.members w.past done → IsSteady (record w { done = done ∷ w.done })
steady_done w done h holds = kept_steady w (record w { done = done ∷ w.done }) done h (in_done w (done ∷ w.done) h.in_step) (grows_done w (done ∷ w.done)) refl holds h.cited refl

-- with other slots, and other lines of what was done
pub steady_lent : (w : PlacementState) (slots : List Row) (dones : List Done) → IsSteady w → AreRowsSized slots → AreAcknowledged w.made w.members w.past dones
    → IsSteady (record w { slots = slots; done = dones })
steady_lent w slots dones h sized acks = record {
  in_step = record { legal = h.in_step.legal; named = h.in_step.named; whole = h.in_step.whole; each = h.in_step.each };
  orderly = record { items = h.orderly.items; requests = h.orderly.requests };
  acknowledged = acks;
  cited = h.cited;
  acting = h.acting;
  stride = h.stride;
  sized = sized;
}

steady_slots : (w : PlacementState) (slots : List Row) → IsSteady w → AreRowsSized slots → IsSteady (record w { slots = slots })
steady_slots w slots h sized = steady_lent w slots w.done h sized h.acknowledged

pub steady_begin : (w : PlacementState) (group : ℕ) (kind : Kind) → IsSound w → IsSteady (after_beginning w group kind)
steady_begin w group kind s =
    let past : List Event = (after_beginning w group kind).past in
    steady_quiet w past (dones.Begin group kind _) (s.idle, refl, s.steady.in_step.legal)
    (record { pulls = λ osd. refl; tells = λ osd. refl; items = refl; requests = refl; asks = begin_asks (begin_answer w.made w.past) refl }) refl s.steady (tt, s.steady.cited) tt
  where
    begin_asks : (answer : BeginAnswer) → answer ≡ begin_answer w.made w.past → AsksStay w.past (Begin (kind_of kind) answer ∷ w.past)
    begin_asks (Busy serial) e = same_asks w.past (Begin (kind_of kind) (Busy serial) ∷ w.past) refl refl refl refl
    begin_asks (Began serial first) e =
        closed_asks w.past (Begin (kind_of kind) (Began serial first) ∷ w.past) refl (none_open w.made w.past serial first s.steady.in_step.legal e) (omega arith)

-- ---- claims and releases

reserve_steady : (w : PlacementState) (serial osd : ℕ) (denied : Option (List Holder)) (done : Done) → IsSound w → IsBegun w.past serial → IsDenial denied
    → StillHolds w.made w.members (after_reserve w.made w.past serial osd denied) done
    → IsSteady (record w { past = after_reserve w.made w.past serial osd denied; done = done ∷ w.done })
reserve_steady w serial osd denied done s begun denial holds =
    steady_quiet w (after_reserve w.made w.past serial osd denied) done (s.idle, (begun, denial, refl), s.steady.in_step.legal)
    (record { pulls = λ q. refl; tells = λ q. refl; items = refl; requests = refl; asks = reserve_asks w.made w.past serial osd denied (reserve_answer w.made w.past serial osd denied) }) refl
    s.steady (tt, s.steady.cited) holds

claim_steady : (w : PlacementState) (group serial osd : ℕ) (answer : ClaimAnswer) → IsSound w → IsBegun w.past serial → IsToldDenial answer → IsSteady (claim_made answer serial osd w group)
claim_steady w group serial osd (claims.Claimed slot) s begun denial =
    reserve_steady w serial osd None (dones.Claim group _) s begun tt tt
claim_steady w group serial osd (claims.Denied holders) s begun denial = reserve_steady w serial osd (Some holders) (dones.Claim group _) s begun denial tt
claim_steady w group serial osd claims.Unknown s begun denial = steady_done w (dones.Claim group _) s.steady tt

claimed_steady : (w : PlacementState) (group : ℕ) (serial osd : Option ℕ) → IsSound w → present w.past ≡ serial → IsSteady (claimed_at serial osd w group)
claimed_steady w group None osd s is = steady_done w (dones.Claim group _) s.steady tt
claimed_steady w group (Some serial) None s is = steady_done w (dones.Claim group _) s.steady tt
claimed_steady w group (Some serial) (Some osd) s is =
    let slots : List Row = with_claim osd (scrub_of w serial) w.slots in
    claim_steady (record w { slots = slots }) group serial osd (claim_answer w.slots osd)
    (record { steady = steady_slots w slots s.steady (claim_sized osd (scrub_of w serial) w.slots s.steady.sized); idle = s.idle })
    (present_begun w.made w.past serial s.steady.in_step.legal is) (told_denial w.slots osd s.steady.sized)

pub steady_claim : (w : PlacementState) (group : ℕ) → IsSound w → IsSteady (after_claiming w group)
steady_claim w group s = claimed_steady w group (present w.past) (claims_at w.made w.past) s refl

released_steady : (w : PlacementState) (group osd : ℕ) (holder : Option Holder) → IsSteady w → IsSteady (released_of holder w group osd)
released_steady w group osd None h = steady_done w (dones.Release group osd _) h tt
released_steady w group osd (Some holder) h =
    steady_slots (record w { done = dones.Release group osd _ ∷ w.done }) (with_release osd holder w.slots) (steady_done w (dones.Release group osd _) h tt) (release_sized osd holder w.slots h.sized)

pub steady_release : (w : PlacementState) (group osd : ℕ) → IsSteady w → IsSteady (after_releasing w group osd)
steady_release w group osd h = released_steady w group osd (over_at w osd) h

-- ---- open

open_with : (w : PlacementState) (group serial : ℕ) (ids : List ObjectId) → IsSound w → IsBegun w.past serial → Ascends ids → IsSteady (opened_with ids serial w group)
open_with w group serial ids s begun ascends =
    let answer = open_answer w.made w.past serial ids in
    steady_quiet w (Open serial ids answer ∷ w.past) (dones.Open group (open_said answer)) (s.idle, (begun, ascends, refl), s.steady.in_step.legal)
    (record { pulls = λ osd. refl; tells = λ osd. refl; items = refl; requests = refl; asks = open_asks w.made w.past serial ids answer refl }) refl s.steady (tt, s.steady.cited) tt

-- the primary listed
pub steady_list : (w : PlacementState) (limit : ℕ) (start : Bound) (osd : ℕ) → IsSteady w → IsSteady (record w { members = with_listed limit start osd w.members })
steady_list w limit start osd h = record {
  in_step = in_list w limit start osd w.done h.in_step;
  orderly = record { items = h.orderly.items; requests = h.orderly.requests };
  acknowledged = acks_grow w (record w { members = with_listed limit start osd w.members }) h.in_step (in_list w limit start osd w.done h.in_step) (grows_list w limit start osd w.done) h.acknowledged;
  cited = cited_list w.members limit start osd w.past h.cited;
  acting = h.acting;
  stride = h.stride;
  sized = h.sized;
}

fault_quiet : (made : Made) (past : List Event) (serial chunk osd count : ℕ) → AreQuiet past (after_fault made past serial chunk osd count)
fault_quiet made past serial chunk osd count =
    record { pulls = λ q. refl; tells = λ q. refl; items = refl; requests = refl; asks = fault_asks past serial chunk osd count (fault_answer made past serial chunk) }

-- a fault is given to the group
fault_steady : (w : PlacementState) (serial chunk osd count : ℕ) (done : Done) → IsSteady w → is_admitting w.past ≡ false → IsBegun w.past serial → IsFaultCited w.members serial chunk osd count
    → StillHolds w.made w.members (after_fault w.made w.past serial chunk osd count) done
    → IsSteady (record w { past = after_fault w.made w.past serial chunk osd count; done = done ∷ w.done })
fault_steady w serial chunk osd count done h idle begun cited holds =
    steady_quiet w (after_fault w.made w.past serial chunk osd count) done (idle, (begun, refl), h.in_step.legal) (fault_quiet w.made w.past serial chunk osd count) refl h (cited, h.cited) holds

open_by : (w : PlacementState) (group serial : ℕ) (answer : ListAnswer) → IsSound w → IsBegun w.past serial → primary_lists w ≡ answer → IsSteady (opened_by answer serial w group)
open_by w group serial (listings.Listed ids) s begun is =
    let listed : PlacementState = record w { members = with_primary_listed w } in
    open_with listed group serial ids (record { steady = steady_list w (limit_now w.made w.past) (start w.past) (primary_of w) s.steady; idle = s.idle }) begun
    (list_ascends (limit_now w.made w.past) (start w.past) w.members (primary_of w) ids is)
open_by w group serial (listings.Fault count) s begun is =
    let listed : PlacementState = record w { members = with_primary_listed w } in
    let failed = list_failed (limit_now w.made w.past) (start w.past) w.members (primary_of w) count is in
    fault_steady listed serial 0 (primary_of w) count (dones.Open group _) (steady_list w (limit_now w.made w.past) (start w.past) (primary_of w) s.steady) s.idle begun
    (record { place = length (past_in (with_primary_listed w) (primary_of w)); within = omega arith; failed = ap (λ shard. slice_get shard 0) (at_end (past_in (with_primary_listed w) (primary_of w))) ∙ failed }) tt

open_steady : (w : PlacementState) (group : ℕ) (now : Option ℕ) → IsSound w → present w.past ≡ now → IsSteady (opening_of now w group)
open_steady w group None s is = steady_done w (dones.Open group _) s.steady tt
open_steady w group (Some serial) s is =
    let begun = present_begun w.made w.past serial s.steady.in_step.legal is in
    (elim (is_unlisted (claims_at w.made w.past) (open_number w.past)) as (λ b. IsSteady (cond b (opened_with [] serial w group) (opened_by (primary_lists w) serial w group))) [
      | true ↦ open_with w group serial [] s begun none_ascend
      | false ↦ open_by w group serial (primary_lists w) s begun refl
    ])

pub steady_open : (w : PlacementState) (group : ℕ) → IsSound w → IsSteady (after_opening w group)
steady_open w group s = open_steady w group (present w.past) s refl

-- ---- take

-- a member handed
pub steady_hand : (w : PlacementState) (osd : ℕ) → IsSteady w → IsSteady (record w { members = with_handed osd w.members })
steady_hand w osd h = record {
  in_step = in_hand w osd w.done h.in_step;
  orderly = record { items = h.orderly.items; requests = h.orderly.requests };
  acknowledged = acks_grow w (record w { members = with_handed osd w.members }) h.in_step (in_hand w osd w.done h.in_step) (grows_hand w osd w.done) h.acknowledged;
  cited = cited_hand w.members osd w.past h.cited;
  acting = h.acting;
  stride = h.stride;
  sized = h.sized;
}

take_quiet : (past : List Event) (place : ℕ) (map : ScrubMap) → AreQuiet past (after_take past place map)
take_quiet past place map = record { pulls = λ q. refl; tells = λ q. refl; items = refl; requests = refl; asks = same_asks past (after_take past place map) refl refl refl refl }

map_steady : (w : PlacementState) (group osd : ℕ) (scanned : ScanResult) (map : ScrubMap) → IsSound w → is_member w.made osd ≡ true → hand_in w.members osd ≡ Some scanned → scanned.found ≡ results.Map map
    → IsSteady (found_taken (results.Map map) scanned w group osd)
map_steady w group osd scanned map s member e f =
    let h = s.steady in
    let between : PlacementState = record w { members = with_handed osd w.members } in
    let legal : IsLegal w.made (after_take w.past scanned.place map) = (s.idle, (refl, take_of w osd scanned map s member e f), h.in_step.legal) in
    let cited = take_cited w.stride w.members w.past osd scanned map (legal_in w.stride w.members osd h.in_step.whole) (h.in_step.each osd member) e f in
    steady_quiet between (after_take w.past scanned.place map) (dones.Take group osd _) legal (take_quiet w.past scanned.place map) refl (steady_hand w osd h)
    (is_cited_more w.members (with_handed osd w.members) w.past scanned.place map (goes_handed w.members osd map.osd) cited, cited_hand w.members osd w.past h.cited) tt

list_fault_steady : (w : PlacementState) (group osd : ℕ) (scanned : ScanResult) (count : ℕ) → IsSound w → is_member w.made osd ≡ true → hand_in w.members osd ≡ Some scanned → scanned.found ≡ results.ListFault count
    → IsSteady (found_taken (results.ListFault count) scanned w group osd)
list_fault_steady w group osd scanned count s member e f =
    let h = s.steady in
    let told = fault_cited w.stride w.members w.past osd scanned count (legal_in w.stride w.members osd h.in_step.whole) (h.in_step.each osd member) e f in
    fault_steady (record w { members = with_handed osd w.members }) scanned.serial scanned.chunk osd count (dones.Take group osd _) (steady_hand w osd h) s.idle told.1
    (fault_cited_more w.members (with_handed osd w.members) scanned.serial scanned.chunk osd count (goes_handed w.members osd osd) told.0) tt

found_steady : (w : PlacementState) (group osd : ℕ) (scanned : ScanResult) (found : Found) → IsSound w → is_member w.made osd ≡ true → hand_in w.members osd ≡ Some scanned → scanned.found ≡ found
    → IsSteady (found_taken found scanned w group osd)
found_steady w group osd scanned (results.Map map) s member e f = map_steady w group osd scanned map s member e f
found_steady w group osd scanned (results.ListFault count) s member e f = list_fault_steady w group osd scanned count s member e f

take_steady : (w : PlacementState) (group osd : ℕ) (scanned : Option ScanResult) → IsSound w → is_member w.made osd ≡ true → hand_in w.members osd ≡ scanned → IsSteady (handed_taken scanned w group osd)
take_steady w group osd None s member e = steady_done w (dones.Take group osd NotDone) s.steady tt
take_steady w group osd (Some scanned) s member e = found_steady w group osd scanned scanned.found s member e refl

pub steady_take : (w : PlacementState) (group osd : ℕ) → IsSound w → is_member w.made osd ≡ true → IsSteady (after_taking w group osd)
steady_take w group osd s member = take_steady w group osd (hand_in w.members osd) s member refl

-- ---- who acts

pub steady_change : (w : PlacementState) (group : ℕ) (osds : List ℕ) → IsSound w → IsActing w.made osds → IsSteady (after_changing w group osds)
steady_change w group osds s proper =
    let h = s.steady in
    let answer : IntervalAnswer = interval_answer w.made w.past osds in
    let legal : IsLegal w.made (Interval osds answer ∷ w.past) = (s.idle, (proper, refl), h.in_step.legal) in
    kept_steady w (after_changing w group osds) _ h
    (in_quiet w (Interval osds answer ∷ w.past) (after_changing w group osds).done legal
    (record { pulls = λ q. refl; tells = λ q. refl; items = refl; requests = refl; asks = interval_asks w.past osds answer }) h.in_step)
    (grows_interval w osds answer (after_changing w group osds).done h.in_step proper refl legal) refl tt (tt, h.cited) refl

-- ---- close

closed_quiet : (past : List Event) (chunk : ℕ) (answer : CloseAnswer) → AreQuiet past (after_closed past chunk answer)
closed_quiet past chunk closes.NoChunk = record { pulls = λ q. refl; tells = λ q. refl; items = refl; requests = refl; asks = close_asks past chunk closes.NoChunk }
closed_quiet past chunk closes.ClosedBefore = record { pulls = λ q. refl; tells = λ q. refl; items = refl; requests = refl; asks = close_asks past chunk closes.ClosedBefore }
closed_quiet past chunk (closes.Preempted request) = record { pulls = λ q. refl; tells = λ q. refl; items = refl; requests = refl; asks = close_asks past chunk (closes.Preempted request) }
closed_quiet past chunk (closes.IntervalChanged old new) = record { pulls = λ q. refl; tells = λ q. refl; items = refl; requests = refl; asks = close_asks past chunk (closes.IntervalChanged old new) }
closed_quiet past chunk (closes.DeviceFault osd count) = record { pulls = λ q. refl; tells = λ q. refl; items = refl; requests = refl; asks = close_asks past chunk (closes.DeviceFault osd count) }
closed_quiet past chunk (closes.NotYet osd) = record { pulls = λ q. refl; tells = λ q. refl; items = refl; requests = refl; asks = close_asks past chunk (closes.NotYet osd) }
closed_quiet past chunk (closes.Closed report completes) = record { pulls = λ q. refl; tells = λ q. refl; items = refl; requests = refl; asks = close_asks past chunk (closes.Closed report completes) }

close_acting : (made : Made) (past : List Event) (chunk : ℕ) (answer : CloseAnswer) → acting made (after_closed past chunk answer) ≡ acting made past
close_acting made past chunk closes.NoChunk = refl
close_acting made past chunk closes.ClosedBefore = refl
close_acting made past chunk (closes.Preempted request) = refl
close_acting made past chunk (closes.IntervalChanged old new) = refl
close_acting made past chunk (closes.DeviceFault osd count) = refl
close_acting made past chunk (closes.NotYet osd) = refl
close_acting made past chunk (closes.Closed report completes) = refl

pub steady_close : (w : PlacementState) (group : ℕ) → IsSound w → IsSteady (after_closing w group)
steady_close w group s =
    let answer = close_answer w.made w.past (opened w.past) in
    steady_quiet w (after_closing w group).past _ (legal_close w.made w.past (opened w.past) s.idle s.steady.in_step.legal) (closed_quiet w.past (opened w.past) answer) (close_acting w.made w.past (opened w.past) answer)
    s.steady
    (cited_close w.members w.past (opened w.past) answer s.steady.cited) tt

-- ---- any of them

pub basic_done_steady : (w : PlacementState) (basic : Basic) → IsSound w → IsNamed w.made basic → IsSteady (basic_done w basic)
basic_done_steady w (basics.Write client serial object context op) s named = steady_write w client serial object (meant context) op s
basic_done_steady w (basics.Collect group client serial) s named = steady_collect w group client serial s
basic_done_steady w (basics.Pull group osd) s named = steady_pull w group osd s named
basic_done_steady w (basics.Apply group osd) s named = steady_apply w group osd s.steady
basic_done_steady w (basics.Tell group osd) s named = steady_tell w group osd s
basic_done_steady w (basics.Damage group osd object snap damage) s named = steady_damage w group osd object snap damage s.steady
basic_done_steady w (basics.Begin group kind) s named = steady_begin w group kind s
basic_done_steady w (basics.Open group) s named = steady_open w group s
basic_done_steady w (basics.Scan group osd) s named = steady_scan w group osd s.steady
basic_done_steady w (basics.Take group osd) s named = steady_take w group osd s named
basic_done_steady w (basics.Close group) s named = steady_close w group s
basic_done_steady w (basics.Claim group) s named = steady_claim w group s
basic_done_steady w (basics.Release group osd) s named = steady_release w group osd s.steady
basic_done_steady w (basics.Interval group osds) s named = steady_change w group osds s named
basic_done_steady w (basics.Job group kind rank moment) s named = s.steady
basic_done_steady w (basics.Unjob group) s named = s.steady
basic_done_steady w (basics.Pick moment) s named = s.steady

-- a write is taken up
admit_steady : (w : PlacementState) (write : Write) → next_admitted w.past ≡ Some write → IsSteady w → IsSteady (admitting (Some write) w)
admit_steady w write next h =
    let answer = admit_answer w.made w.past write in
    let legal : IsLegal w.made (Admit write answer ∷ w.past) = (ap is_some next, (next, refl), h.in_step.legal) in
    kept_steady w (admitting (Some write) w) _ h (in_admit w write answer (admitting (Some write) w).done legal refl h.in_step)
    (grows_admit w write answer (admitting (Some write) w).done h.in_step.legal next) refl tt (tt, h.cited) refl

admitting_steady : (w : PlacementState) (next : Option Write) → next_admitted w.past ≡ next → IsSteady w → IsSteady (admitting next w)
admitting_steady w None e h = h
admitting_steady w (Some write) e h = admit_steady w write e h

pub steady_admit : (w : PlacementState) → IsSteady w → IsSteady (admitting (next_admitted w.past) w)
steady_admit w h = admitting_steady w (next_admitted w.past) refl h
