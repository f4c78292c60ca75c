-- Every step keeps what is sound.
use Rattle.std.proofs.Common.{◌≡◌, ℕ, zero, suc, ◌<◌, ◌≤◌, nat_lt, true, false, cond, List, [], ◌∷◌, length, map, get_or, Option, Some, None, refl, sym, ◌∙◌, subst, arith}
use Rattle.pgs_history.specs.Acting.{acting, AreMembers, IsActing}
use Rattle.pgs_history.specs.Members.{pulled, told}
use Rattle.pgs_history.specs.Scrubs.{present, claims_at, open_number}
use Rattle.pgs_history.specs.Answers.{last_number, new_ask}
use Rattle.pgs_history.specs.After.{after_pull, after_tell, gives}
use Rattle.pgs_history.specs.Parked.{is_admitting}
use Rattle.pgs_history.specs.declared.event.Event.{Event}
use Rattle.pgs_history.specs.declared.event.Event.TheVariants.{Pull, Tell}
use Rattle.pgs_history.specs.declared.made.Made.{Made}
use Rattle.pgs_history.proofs.Causes.{caused}
use Rattle.pgs_history.proofs.Fates.{fated}
use Rattle.pgs_history.proofs.Joined.{caught_up, members_act}
use Rattle.pgs_history.proofs.Rows.{tiled}
use Rattle.pgs_history.proofs.Gates.{waiting as all_waiting, none_above}
use Rattle.pgs_lines.specs.declared.basic.Basic.{Basic}
use Rattle.pgs_lines.specs.declared.basic.Basic.TheVariants as basics
use Rattle.pgs_lines.specs.declared.kind.Kind.{Kind}
use Rattle.pgs_done.specs.declared.done.Done.{Done}
use Rattle.pgs_done.specs.declared.done.Done.TheVariants as dones
use Rattle.pgs_exchange.specs.declared.scan_result.ScanResult.{ScanResult}
use Rattle.pgs_exchange.specs.declared.scan_result.Found.{Found}
use Rattle.pgs_exchange.specs.declared.scan_result.Found.TheVariants as results
use Rattle.pgs_shards.specs.Members.{Member}
use Rattle.pgs_shards.specs.Scans.{hand_in}
use Rattle.pgs_shards.specs.declared.list_answer.ListAnswer.{ListAnswer}
use Rattle.pgs_shards.specs.declared.list_answer.ListAnswer.TheVariants as listings
use Rattle.pgs_shards.specs.declared.osd_device.OsdDevice.{OsdDevice}
use Rattle.pgs_slots.specs.Rows.{AreRowsSized, with_claim, claim_answer}
use Rattle.pgs_slots.specs.declared.claim_answer.ClaimAnswer.{ClaimAnswer}
use Rattle.pgs_slots.specs.declared.claim_answer.ClaimAnswer.TheVariants as claims
use Rattle.pgs_slots.specs.declared.holder.Holder.{Holder}
use Rattle.pgs_slots.specs.declared.row.Row.{Row}
use Rattle.pgs_placement.specs.State.{PlacementState, opening}
use Rattle.pgs_placement.specs.Basics.{applied_by, after_pulling, after_telling, after_applying, after_scanning}
use Rattle.pgs_placement.specs.Scrubs.{after_beginning, scrub_of, claim_made, claimed_at, after_claiming, over_at, released_of, after_releasing, is_unlisted, primary_lists, opened_with, opened_by, opening_of, after_opening, found_taken, handed_taken, after_taking, after_closing}
use Rattle.pgs_placement.specs.Lists.{after_listing}
use Rattle.pgs_placement.specs.Admissions.{all_admitted}
use Rattle.pgs_placement.specs.Steps.{basic_done, after_basic}
use Rattle.pgs_placement.specs.Counts.{is_member, IsNamed}
use Rattle.pgs_placement.specs.Scrubbed.{AreScrubbed}
use Rattle.pgs_placement.specs.Sound.{IsSteady, IsSound}
use Rattle.pgs_placement.proofs.InStep.{in_opening}
use Rattle.pgs_placement.proofs.Added.{IsOf, Adds, adds_none, adds_one, adds_both}
use Rattle.pgs_placement.proofs.Admissions.{all_sound, all_made, all_add}
use Rattle.pgs_placement.proofs.Inside.{wait_inside, used_most}
use Rattle.pgs_placement.proofs.Versions.{have_versions}
use Rattle.pgs_placement.proofs.Compared.{are_compared}
use Rattle.pgs_placement.proofs.Steady.{steady_lent, steady_pull, steady_apply, steady_tell, steady_scan, steady_begin, steady_claim, steady_release, steady_open, steady_take, steady_close, basic_done_steady}

-- ---- steps after which nothing is to be taken up

idle_pull : (made : Made) (past : List Event) (osd : ℕ) → is_admitting past ≡ false → is_admitting (after_pull made past osd) ≡ false
idle_pull made past osd idle =
    (elim (gives past osd (new_ask made past osd)) as (λ b. is_admitting (cond b (Pull osd (pulled past osd) (last_number past) (new_ask made past osd) ∷ past) past) ≡ false) [
      | true ↦ idle
      | false ↦ idle
    ])

idle_tell : (past : List Event) (osd applied : ℕ) → is_admitting past ≡ false → is_admitting (after_tell past osd applied) ≡ false
idle_tell past osd applied idle =
    (elim (nat_lt (told past osd) applied) as (λ b. is_admitting (cond b (Tell osd applied ∷ past) past) ≡ false) [
      | true ↦ idle
      | false ↦ idle
    ])

idle_claim : (answer : ClaimAnswer) (serial osd : ℕ) (w : PlacementState) (group : ℕ) → is_admitting w.past ≡ false → is_admitting (claim_made answer serial osd w group).past ≡ false
idle_claim (claims.Claimed slot) serial osd w group idle = idle
idle_claim (claims.Denied holders) serial osd w group idle = idle
idle_claim claims.Unknown serial osd w group idle = idle

idle_claimed : (serial osd : Option ℕ) (w : PlacementState) (group : ℕ) → is_admitting w.past ≡ false → is_admitting (claimed_at serial osd w group).past ≡ false
idle_claimed None osd w group idle = idle
idle_claimed (Some serial) None w group idle = idle
idle_claimed (Some serial) (Some osd) w group idle = idle_claim (claim_answer w.slots osd) serial osd (record w { slots = with_claim osd (scrub_of w serial) w.slots }) group idle

idle_released : (holder : Option Holder) (w : PlacementState) (group osd : ℕ) → is_admitting w.past ≡ false → is_admitting (released_of holder w group osd).past ≡ false
idle_released None w group osd idle = idle
idle_released (Some holder) w group osd idle = idle

-- ---- on from a group

-- what is sound, with the group made as before, and lines added that are its own
pub record IsOn (start now : PlacementState) : Type 0 where
  pub sound : IsSound now
  pub same : now.made ≡ start.made
  pub adds : Adds start.made.number start.done now.done

pub on_itself : (w : PlacementState) → IsSound w → IsOn w w
on_itself w s = record { sound = s; same = refl; adds = adds_none w.made.number w.done }

pub on_again : (a b c : PlacementState) → IsOn a b → IsOn b c → IsOn a c
on_again a b c g h = record {
  sound = h.sound;
  same = h.same ∙ g.same;
  adds = adds_both a.made.number a.done b.done c.done g.adds (subst (λ (made : Made). Adds made.number b.done c.done) g.same h.adds);
}

-- the group is made as before, and its own lines are added
record IsFrom (start now : PlacementState) : Type 0 where
  same : now.made ≡ start.made
  adds : (number : ℕ) → start.made.number ≡ number → Adds number start.done now.done

from_one : (w : PlacementState) (past : List Event) (members : List Member) (slots : List Row) (line : Done) → ((number : ℕ) → w.made.number ≡ number → IsOf number line)
    → IsFrom w (record w { past = past; members = members; slots = slots; done = line ∷ w.done })
from_one w past members slots line own = record { same = refl; adds = λ number is. adds_one number line w.done (own number is) }

on_from : (w v : PlacementState) → IsSound v → IsFrom w v → IsOn w v
on_from w v s f = record { sound = s; same = f.same; adds = f.adds w.made.number refl }

-- behind these the writes that waited are taken up
on_admitted : (w v : PlacementState) → IsSteady v → IsFrom w v → IsOn w (all_admitted v)
on_admitted w v h f = record {
  sound = all_sound v h;
  same = all_made v ∙ f.same;
  adds = adds_both w.made.number w.done v.done (all_admitted v).done (f.adds w.made.number refl) (all_add w.made.number v);
}

pub on_pull : (w : PlacementState) (group osd : ℕ) → IsSound w → is_member w.made osd ≡ true → IsOn w (after_pulling w group osd)
on_pull w group osd s member =
    let now : PlacementState = after_pulling w group osd in
    on_from w now (record { steady = steady_pull w group osd s member; idle = idle_pull w.made w.past osd s.idle }) (from_one w now.past now.members w.slots (dones.Pull group osd _ _ _) (λ number is. tt))

pub on_apply : (w : PlacementState) (group osd : ℕ) → IsSound w → IsOn w (after_applying w group osd)
on_apply w group osd s =
    let now : PlacementState = after_applying w group osd in
    on_from w now (record { steady = steady_apply w group osd s.steady; idle = s.idle }) (from_one w now.past now.members w.slots (dones.Apply group osd _) (λ number is. tt))

pub on_tell : (w : PlacementState) (group osd : ℕ) → IsSound w → IsOn w (after_telling w group osd)
on_tell w group osd s =
    let now : PlacementState = after_telling w group osd in
    on_from w now (record { steady = steady_tell w group osd s; idle = idle_tell w.past osd (applied_by w osd) s.idle }) (from_one w now.past now.members w.slots (dones.Tell group osd _) (λ number is. tt))

-- a list is a line, and changes nothing else
pub on_list : (w : PlacementState) (text : List ℕ) → IsSound w → IsOn w (after_listing text w)
on_list w text s =
    let now : PlacementState = after_listing text w in
    on_from w now (record {
      steady = steady_lent w w.slots (dones.Listed text ∷ w.done) s.steady s.steady.sized (tt, s.steady.acknowledged);
      idle = s.idle;
    }) (from_one w w.past w.members w.slots (dones.Listed text) (λ number is. tt))

pub on_scan : (w : PlacementState) (group osd : ℕ) → IsSound w → IsOn w (after_scanning w group osd)
on_scan w group osd s =
    let now : PlacementState = after_scanning w group osd in
    on_from w now (record { steady = steady_scan w group osd s.steady; idle = s.idle }) (from_one w now.past now.members w.slots (dones.Scan group osd _) (λ number is. tt))

pub on_begin : (w : PlacementState) (group : ℕ) (kind : Kind) → IsSound w → IsOn w (after_beginning w group kind)
on_begin w group kind s =
    let now : PlacementState = after_beginning w group kind in
    on_from w now (record { steady = steady_begin w group kind s; idle = s.idle }) (from_one w now.past now.members w.slots (dones.Begin group kind _) (λ number is. tt))

claim_from : (answer : ClaimAnswer) (serial osd : ℕ) (slots : List Row) (w : PlacementState) (group : ℕ) → IsFrom w (claim_made answer serial osd (record w { slots = slots }) group)
claim_from (claims.Claimed slot) serial osd slots w group = from_one w _ w.members slots (dones.Claim group _) (λ number is. tt)
claim_from (claims.Denied holders) serial osd slots w group = from_one w _ w.members slots (dones.Claim group _) (λ number is. tt)
claim_from claims.Unknown serial osd slots w group = from_one w w.past w.members slots (dones.Claim group _) (λ number is. tt)

claimed_from : (serial osd : Option ℕ) (w : PlacementState) (group : ℕ) → IsFrom w (claimed_at serial osd w group)
claimed_from None osd w group = from_one w w.past w.members w.slots (dones.Claim group _) (λ number is. tt)
claimed_from (Some serial) None w group = from_one w w.past w.members w.slots (dones.Claim group _) (λ number is. tt)
claimed_from (Some serial) (Some osd) w group = claim_from (claim_answer w.slots osd) serial osd (with_claim osd (scrub_of w serial) w.slots) w group

pub on_claim : (w : PlacementState) (group : ℕ) → IsSound w → IsOn w (after_claiming w group)
on_claim w group s =
    on_from w (after_claiming w group) (record { steady = steady_claim w group s; idle = idle_claimed (present w.past) (claims_at w.made w.past) w group s.idle })
    (claimed_from (present w.past) (claims_at w.made w.past) w group)

released_from : (holder : Option Holder) (w : PlacementState) (group osd : ℕ) → IsFrom w (released_of holder w group osd)
released_from None w group osd = from_one w w.past w.members w.slots (dones.Release group osd _) (λ number is. tt)
released_from (Some holder) w group osd = from_one w w.past w.members _ (dones.Release group osd _) (λ number is. tt)

pub on_release : (w : PlacementState) (group osd : ℕ) → IsSound w → IsOn w (after_releasing w group osd)
on_release w group osd s =
    on_from w (after_releasing w group osd) (record { steady = steady_release w group osd s.steady; idle = idle_released (over_at w osd) w group osd s.idle })
    (released_from (over_at w osd) w group osd)

opened_from : (answer : ListAnswer) (serial : ℕ) (w : PlacementState) (group : ℕ) → IsFrom w (opened_by answer serial w group)
opened_from (listings.Listed ids) serial w group = from_one w _ _ w.slots (dones.Open group _) (λ number is. tt)
opened_from (listings.Fault count) serial w group = from_one w _ _ w.slots (dones.Open group _) (λ number is. tt)

opening_from : (now : Option ℕ) (w : PlacementState) (group : ℕ) → IsFrom w (opening_of now w group)
opening_from None w group = from_one w w.past w.members w.slots (dones.Open group _) (λ number is. tt)
opening_from (Some serial) w group =
    (elim (is_unlisted (claims_at w.made w.past) (open_number w.past)) as (λ b. IsFrom w (cond b (opened_with [] serial w group) (opened_by (primary_lists w) serial w group))) [
      | true ↦ from_one w _ w.members w.slots (dones.Open group _) (λ number is. tt)
      | false ↦ opened_from (primary_lists w) serial w group
    ])

pub on_open : (w : PlacementState) (group : ℕ) → IsSound w → IsOn w (all_admitted (after_opening w group))
on_open w group s = on_admitted w (after_opening w group) (steady_open w group s) (opening_from (present w.past) w group)

found_from : (found : Found) (scanned : ScanResult) (w : PlacementState) (group osd : ℕ) → IsFrom w (found_taken found scanned w group osd)
found_from (results.Map map) scanned w group osd = from_one w _ _ w.slots (dones.Take group osd _) (λ number is. tt)
found_from (results.ListFault count) scanned w group osd = from_one w _ _ w.slots (dones.Take group osd _) (λ number is. tt)

handed_from : (scanned : Option ScanResult) (w : PlacementState) (group osd : ℕ) → IsFrom w (handed_taken scanned w group osd)
handed_from None w group osd = from_one w w.past w.members w.slots (dones.Take group osd _) (λ number is. tt)
handed_from (Some scanned) w group osd = found_from scanned.found scanned w group osd

pub on_take : (w : PlacementState) (group osd : ℕ) → IsSound w → is_member w.made osd ≡ true → IsOn w (all_admitted (after_taking w group osd))
on_take w group osd s member = on_admitted w (after_taking w group osd) (steady_take w group osd s member) (handed_from (hand_in w.members osd) w group osd)

close_from : (w : PlacementState) (group : ℕ) → IsFrom w (after_closing w group)
close_from w group = from_one w _ w.members w.slots (dones.Close group _) (λ number is. tt)

pub on_close : (w : PlacementState) (group : ℕ) → IsSound w → IsOn w (all_admitted (after_closing w group))
on_close w group s = on_admitted w (after_closing w group) (steady_close w group s) (close_from w group)

-- ---- single steps

from_itself : (w : PlacementState) → IsFrom w w
from_itself w = record { same = refl; adds = λ number is. adds_none number w.done }

done_from : (w : PlacementState) (basic : Basic) → IsNamed w.made basic → IsFrom w (basic_done w basic)
done_from w (basics.Write client serial object context op) named = from_one w _ w.members w.slots (dones.Write client serial object _ op _) (λ number is. tt)
done_from w (basics.Collect group client serial) named = from_one w _ w.members w.slots (dones.Collect group client serial _) (λ number is. named ∙ is)
done_from w (basics.Pull group osd) named = from_one w _ _ w.slots (dones.Pull group osd _ _ _) (λ number is. tt)
done_from w (basics.Apply group osd) named = from_one w w.past _ w.slots (dones.Apply group osd _) (λ number is. tt)
done_from w (basics.Tell group osd) named = from_one w _ w.members w.slots (dones.Tell group osd _) (λ number is. tt)
done_from w (basics.Damage group osd object snap damage) named = from_one w w.past _ w.slots (dones.Damage group osd object snap damage _) (λ number is. tt)
done_from w (basics.Begin group kind) named = from_one w _ w.members w.slots (dones.Begin group kind _) (λ number is. tt)
done_from w (basics.Open group) named = opening_from (present w.past) w group
done_from w (basics.Scan group osd) named = from_one w w.past _ w.slots (dones.Scan group osd _) (λ number is. tt)
done_from w (basics.Take group osd) named = handed_from (hand_in w.members osd) w group osd
done_from w (basics.Close group) named = close_from w group
done_from w (basics.Claim group) named = claimed_from (present w.past) (claims_at w.made w.past) w group
done_from w (basics.Release group osd) named = released_from (over_at w osd) w group osd
done_from w (basics.Interval group osds) named = from_one w _ w.members w.slots (dones.Interval group osds _) (λ number is. tt)
done_from w (basics.Job group kind rank moment) named = from_itself w
done_from w (basics.Unjob group) named = from_itself w
done_from w (basics.Pick moment) named = from_itself w

pub on_basic : (w : PlacementState) (basic : Basic) → IsSound w → IsNamed w.made basic → IsOn w (after_basic w basic)
on_basic w basic s named = on_admitted w (basic_done w basic) (basic_done_steady w basic s named) (done_from w basic named)

pub sound_basic : (w : PlacementState) (basic : Basic) → IsSound w → IsNamed w.made basic → IsSound (after_basic w basic)
sound_basic w basic s named = (on_basic w basic s named).sound

-- ---- members

-- members of a list
abbrev pub AreOfMembers : Made → List ℕ → Type 0
AreOfMembers made [] = Unit {0}
AreOfMembers made (osd ∷ osds) = (is_member made osd ≡ true) × AreOfMembers made osds

of_members : (made : Made) (osds : List ℕ) → AreMembers made.members osds → AreOfMembers made osds
of_members made [] h = tt
of_members made (osd ∷ osds) h = (h.0, of_members made osds h.2)

-- the acting OSDs are members
pub acting_members : (w : PlacementState) → IsSound w → AreOfMembers w.made (acting w.made w.past)
acting_members w s = of_members w.made (acting w.made w.past) (members_act w.made w.past s.steady.in_step.legal s.steady.acting).members

-- and so are all members
pub all_members : (w : PlacementState) → IsSound w → AreOfMembers w.made w.made.members
all_members w s = of_members w.made w.made.members s.steady.acting.members

pub member_at : (made : Made) (osds : List ℕ) (place d : ℕ) → place < length osds → AreOfMembers made osds → is_member made (get_or osds place d) ≡ true
member_at made [] place d within h = absurd (omega (arith, within))
member_at made (osd ∷ osds) zero d within h = h.0
member_at made (osd ∷ osds) (suc place) d within h = member_at made osds place d (let size : suc place < suc (length osds) = within in omega (arith, size)) h.1

-- ---- the beginning

pub opening_sound : (w : PlacementState) (made : Made) (devices : List OsdDevice) (stride : ℕ) (slots : List Row) → w ≡ opening made devices stride slots → map (λ d. d.osd) devices ≡ made.members
    → IsActing made made.members → 1 ≤ stride → AreRowsSized slots → IsSound w
opening_sound w made devices stride slots is named may least sized = subst IsSound (sym is) (record {
  steady = record {
    in_step = in_opening made devices stride slots named;
    orderly = record { items = tt; requests = tt };
    acknowledged = tt;
    cited = tt;
    acting = may;
    stride = least;
    sized = sized;
  };
  idle = refl;
})

-- ---- of scrubs

pub scrubbed_where : (w : PlacementState) → IsSound w → AreScrubbed w
scrubbed_where w s =
    let legal = s.steady.in_step.legal in
    record {
      fates = fated w.made w.past legal;
      caused = caused w.made w.past legal;
      caught_up = caught_up w.made w.past legal;
      tiles = tiled w.made w.past legal;
      waiting = all_waiting w.made w.past legal;
      outside = none_above w.made w.past legal;
      inside = wait_inside w.made w.past legal;
      spare = used_most w.made w.past legal;
      cited = s.steady.cited;
      versions = have_versions w.made w.members w.past legal s.steady.cited;
      compared = are_compared w.made w.members w.past legal s.steady.cited;
    }
