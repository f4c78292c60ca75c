-- A whole scrub keeps what is sound, and its loops are what is defined.
use Rattle.std.proofs.Common.{◌≡◌, ℕ, suc, ◌+◌, ◌<◌, ◌≤◌, Bool, true, false, cond, List, [], ◌∷◌, length, get_or, take, drop, refl, sym, ap, ◌∙◌, subst, arith}
use Rattle.std.proofs.lemmas.List.{drop_more, drop_all}
use Rattle.pgs_lines.specs.declared.kind.Kind.{Kind}
use Rattle.pgs_history.specs.Acting.{acting}
use Rattle.pgs_history.specs.Answers.{begin_answer}
use Rattle.pgs_history.specs.declared.begin_answer.BeginAnswer.{BeginAnswer}
use Rattle.pgs_history.specs.declared.begin_answer.BeginAnswer.TheVariants as begins
use Rattle.pgs_shards.specs.Scans.{scan_in}
use Rattle.pgs_placement.specs.State.{PlacementState}
use Rattle.pgs_placement.specs.Admissions.{all_admitted}
use Rattle.pgs_placement.specs.Basics.{after_applying, after_pulling, after_scanning}
use Rattle.pgs_placement.specs.Counts.{is_member}
use Rattle.pgs_placement.specs.Repeats.{MOST}
use Rattle.pgs_placement.specs.Scrubs.{after_beginning, after_claiming, after_releasing, after_opening, after_taking, after_closing, is_going, grants}
use Rattle.pgs_placement.specs.Sound.{IsSound}
use Rattle.pgs_placement.specs.Sweeps.{goes_on, is_early, scanned_on, scanned_out, member_scrubbed, all_scrubbed, closed_if, scanned_if, chunk_done, walked, claimed_all, granted, released_all, walked_if, scrubbed_at, scrubbed, swept}
use Rattle.pgs_placement.proofs.Repeats.{IsLeft, left_begins, left_next, left_stops, left_ends, on_repeated}
use Rattle.pgs_placement.proofs.Sound.{IsOn, on_itself, on_again, on_pull, on_apply, on_scan, on_begin, on_claim, on_release, on_open, on_take, on_close, AreOfMembers, acting_members, member_at}

-- ---- a member's scan

step_on : (early : Bool) (w : PlacementState) (group osd : ℕ) → IsSound w → IsOn w (cond early (after_applying (after_scanning w group osd) group osd) (after_scanning w group osd))
step_on true w group osd s =
    let one = on_scan w group osd s in
    on_again w (after_scanning w group osd) (after_applying (after_scanning w group osd) group osd) one (on_apply (after_scanning w group osd) group osd one.sound)
step_on false w group osd s = on_scan w group osd s

on_scanned : (w : PlacementState) (group osd : ℕ) → IsSound w → IsOn w (scanned_on w group osd)
on_scanned w group osd s = step_on (is_early (scan_in w.stride w.members osd)) w group osd s

on_out : (n : ℕ) (w : PlacementState) (group osd : ℕ) → IsSound w → IsOn w (scanned_out n w group osd)
on_out n w group osd s = on_repeated (λ x. scanned_on x group osd) (λ x. goes_on (scan_in x.stride x.members osd)) (λ x h. on_scanned x group osd h) n w s

member_by : (n : ℕ) (w : PlacementState) (group osd : ℕ) → IsSound w → is_member w.made osd ≡ true → IsOn w (all_admitted (after_taking (scanned_out n (after_pulling w group osd) group osd) group osd))
member_by n w group osd s member =
    let pulled : PlacementState = after_pulling w group osd in
    let out : PlacementState = scanned_out n pulled group osd in
    let p = on_pull w group osd s member in
    let o = on_again w pulled out p (on_out n pulled group osd p.sound) in
    on_again w out (all_admitted (after_taking out group osd)) o (on_take out group osd o.sound (ap (λ made. is_member made osd) o.same ∙ member))

pub on_member : (w : PlacementState) (group osd : ℕ) → IsSound w → is_member w.made osd ≡ true → IsOn w (member_scrubbed w group osd)
on_member w group osd s member = member_by MOST w group osd s member

pub on_all : (w : PlacementState) (group : ℕ) (osds : List ℕ) → IsSound w → AreOfMembers w.made osds → IsOn w (all_scrubbed w group osds)
on_all w group [] s all = on_itself w s
on_all w group (osd ∷ osds) s all =
    let one = on_member w group osd s all.0 in
    elim (is_going w) as (λ b. IsOn w (cond b (all_scrubbed (member_scrubbed w group osd) group osds) w)) [
      | true ↦ on_again w (member_scrubbed w group osd) (all_scrubbed (member_scrubbed w group osd) group osds) one
          (on_all (member_scrubbed w group osd) group osds one.sound (subst (λ made. AreOfMembers made osds) (sym one.same) all.1))
      | false ↦ on_itself w s
    ]

-- ---- a chunk

on_closed : (w : PlacementState) (group : ℕ) → IsSound w → IsOn w (closed_if w group)
on_closed w group s =
    elim (is_going w) as (λ b. IsOn w (cond b (all_admitted (after_closing w group)) w)) [
      | true ↦ on_close w group s
      | false ↦ on_itself w s
    ]

pub on_scanned_if : (w : PlacementState) (group : ℕ) → IsSound w → IsOn w (scanned_if w group)
on_scanned_if w group s =
    let all : PlacementState = all_scrubbed w group (acting w.made w.past) in
    let a = on_all w group (acting w.made w.past) s (acting_members w s) in
    elim (is_going w) as (λ b. IsOn w (cond b (closed_if all group) w)) [
      | true ↦ on_again w all (closed_if all group) a (on_closed all group a.sound)
      | false ↦ on_itself w s
    ]

pub on_chunk : (w : PlacementState) (group : ℕ) → IsSound w → IsOn w (chunk_done w group)
on_chunk w group s =
    let o : PlacementState = all_admitted (after_opening w group) in
    let one = on_open w group s in
    on_again w o (chunk_done w group) one (on_scanned_if o group one.sound)

pub on_walked : (n : ℕ) (w : PlacementState) (group : ℕ) → IsSound w → IsOn w (walked n w group)
on_walked n w group s = on_repeated (λ x. chunk_done x group) (λ x. is_going (chunk_done x group)) (λ x h. on_chunk x group h) n w s

-- ---- slots

pub on_claims : (w : PlacementState) (group : ℕ) (osds : List ℕ) → IsSound w → IsOn w (claimed_all w group osds)
on_claims w group [] s = on_itself w s
on_claims w group (osd ∷ osds) s =
    let one = on_claim w group s in
    elim (grants w) as (λ b. IsOn w (cond b (claimed_all (after_claiming w group) group osds) (after_claiming w group))) [
      | true ↦ on_again w (after_claiming w group) (claimed_all (after_claiming w group) group osds) one (on_claims (after_claiming w group) group osds one.sound)
      | false ↦ one
    ]

pub on_releases : (w : PlacementState) (group : ℕ) (osds : List ℕ) → IsSound w → IsOn w (released_all w group osds)
on_releases w group [] s = on_itself w s
on_releases w group (osd ∷ osds) s =
    let one = on_release w group osd s in
    on_again w (after_releasing w group osd) (released_all w group (osd ∷ osds)) one (on_releases (after_releasing w group osd) group osds one.sound)

-- ---- the whole

walked_on : (n : ℕ) (w : PlacementState) (group : ℕ) → IsSound w → IsOn w (cond (is_going w) (walked n w group) w)
walked_on n w group s =
    elim (is_going w) as (λ b. IsOn w (cond b (walked n w group) w)) [
      | true ↦ on_walked n w group s
      | false ↦ on_itself w s
    ]

pub on_walked_if : (w : PlacementState) (group : ℕ) → IsSound w → IsOn w (walked_if w group)
on_walked_if w group s = walked_on MOST w group s

on_scrubbed : (w : PlacementState) (group : ℕ) (osds : List ℕ) → IsSound w → IsOn w (scrubbed_at w group osds)
on_scrubbed w group osds s =
    let c : PlacementState = claimed_all w group osds in
    let claims = on_claims w group osds s in
    let walks = on_again w c (walked_if c group) claims (on_walked_if c group claims.sound) in
    on_again w (walked_if c group) (scrubbed_at w group osds) walks (on_releases (walked_if c group) group (take (granted w group osds) osds) walks.sound)

scrub_on : (answer : BeginAnswer) (w : PlacementState) (group : ℕ) → IsSound w → IsOn w (scrubbed answer w group)
scrub_on (begins.Busy serial) w group s = on_itself w s
scrub_on (begins.Began serial first) w group s = on_scrubbed w group (acting w.made w.past) s

pub on_swept : (w : PlacementState) (group : ℕ) (kind : Kind) → IsSound w → IsOn w (swept w group kind)
on_swept w group kind s =
    let one = on_begin w group kind s in
    on_again w (after_beginning w group kind) (swept w group kind) one (scrub_on (begin_answer w.made w.past) (after_beginning w group kind) group one.sound)

-- ---- the code: a scan, step after step

pub record IsScanning (first : PlacementState) (group osd most counter : ℕ) (now : PlacementState) : Type 0 where
  pub left : IsLeft (λ x. scanned_on x group osd) (λ x. goes_on (scan_in x.stride x.members osd)) first most counter now

pub scanning_begins : (first : PlacementState) (group osd most : ℕ) → IsScanning first group osd most 0 first
scanning_begins first group osd most = record { left = left_begins (λ x. scanned_on x group osd) (λ x. goes_on (scan_in x.stride x.members osd)) first most }

pub scanning_next : (first : PlacementState) (group osd most counter : ℕ) (now next : PlacementState) → IsScanning first group osd most counter now → counter < most
    → goes_on (scan_in now.stride now.members osd) ≡ true → next ≡ scanned_on now group osd → IsScanning first group osd most (counter + 1) next
scanning_next first group osd most counter now next h within goes e =
    record { left = left_next (λ x. scanned_on x group osd) (λ x. goes_on (scan_in x.stride x.members osd)) first most counter now next h.left within goes e }

pub scanning_stops : (first : PlacementState) (group osd most counter : ℕ) (now next : PlacementState) → IsScanning first group osd most counter now → counter < most
    → goes_on (scan_in now.stride now.members osd) ≡ false → next ≡ scanned_on now group osd → most ≡ MOST → next ≡ scanned_out MOST first group osd
scanning_stops first group osd most counter now next h within stops e is =
    left_stops (λ x. scanned_on x group osd) (λ x. goes_on (scan_in x.stride x.members osd)) first most counter now next h.left within stops e ∙ ap (λ n. scanned_out n first group osd) is

pub scanning_ends : (first : PlacementState) (group osd most counter : ℕ) (now : PlacementState) → IsScanning first group osd most counter now → most ≤ counter → most ≡ MOST → now ≡ scanned_out MOST first group osd
scanning_ends first group osd most counter now h over is =
    left_ends (λ x. scanned_on x group osd) (λ x. goes_on (scan_in x.stride x.members osd)) first most counter now h.left over ∙ ap (λ n. scanned_out n first group osd) is

pub ruleset scanning = (scanning_begins, scanning_next, scanning_stops, scanning_ends)

-- a member that pulled and scanned may hand
pub out_is_on : (w p v : PlacementState) (group osd : ℕ) → IsSound w → is_member w.made osd ≡ true → p ≡ after_pulling w group osd → v ≡ scanned_out MOST p group osd → IsOn w v
out_is_on w p v group osd s member pulled out =
    let one = on_pull w group osd s member in
    subst (IsOn w) (sym (out ∙ ap (λ x. scanned_out MOST x group osd) pulled))
    (on_again w (after_pulling w group osd) (scanned_out MOST (after_pulling w group osd) group osd) one (on_out MOST (after_pulling w group osd) group osd one.sound))

pub out_is_sound : (w p v : PlacementState) (group osd : ℕ) → IsSound w → is_member w.made osd ≡ true → p ≡ after_pulling w group osd → v ≡ scanned_out MOST p group osd → IsSound v
out_is_sound w p v group osd s member pulled out = (out_is_on w p v group osd s member pulled out).sound

pub out_is_member : (w p v : PlacementState) (group osd : ℕ) → IsSound w → is_member w.made osd ≡ true → p ≡ after_pulling w group osd → v ≡ scanned_out MOST p group osd → is_member v.made osd ≡ true
out_is_member w p v group osd s member pulled out = ap (λ made. is_member made osd) (out_is_on w p v group osd s member pulled out).same ∙ member

pub ruleset scrubbing = (out_is_sound, out_is_member)

-- ---- the acting OSDs, of which those from a place on are left

pub record IsScrubbing (start : PlacementState) (group : ℕ) (osds : List ℕ) (place : ℕ) (now : PlacementState) : Type 0 where
  pub all : osds ≡ acting start.made start.past
  pub rest : all_scrubbed now group (drop place osds) ≡ all_scrubbed start group (acting start.made start.past)
  pub sound : IsSound now
  pub members : AreOfMembers now.made osds

pub scrubbing_begins : (start : PlacementState) (group : ℕ) (osds : List ℕ) → IsSound start → osds ≡ acting start.made start.past → IsScrubbing start group osds 0 start
scrubbing_begins start group osds sound is =
    record { all = is; rest = ap (all_scrubbed start group) is; sound = sound; members = subst (AreOfMembers start.made) (sym is) (acting_members start sound) }

pub scrubbing_member : (start : PlacementState) (group : ℕ) (osds : List ℕ) (place : ℕ) (now : PlacementState) (osd : ℕ) → IsScrubbing start group osds place now
    → place < length osds → osd ≡ get_or osds place osd → is_member now.made osd ≡ true
scrubbing_member start group osds place now osd h within is = ap (is_member now.made) is ∙ member_at now.made osds place osd within h.members

left_at : (w : PlacementState) (group : ℕ) (osds : List ℕ) (place d : ℕ) → place < length osds → is_going w ≡ true
    → all_scrubbed w group (drop place osds) ≡ all_scrubbed (member_scrubbed w group (get_or osds place d)) group (drop (place + 1) osds)
left_at w group osds place d within on =
    ap (all_scrubbed w group) (drop_more osds place d within)
    ∙ ap (λ b. cond b (all_scrubbed (member_scrubbed w group (get_or osds place d)) group (drop (place + 1) osds)) w) on

pub scrubbing_next : (start : PlacementState) (group : ℕ) (osds : List ℕ) (place : ℕ) (now next : PlacementState) (d : ℕ) → IsScrubbing start group osds place now
    → place < length osds → is_going now ≡ true → next ≡ member_scrubbed now group (get_or osds place d) → IsScrubbing start group osds (place + 1) next
scrubbing_next start group osds place now next d h within on e =
    let osd : ℕ = get_or osds place d in
    let one = on_member now group osd h.sound (member_at now.made osds place d within h.members) in
    subst (IsScrubbing start group osds (place + 1)) (sym e) (record {
      all = h.all;
      rest = sym (left_at now group osds place d within on) ∙ h.rest;
      sound = one.sound;
      members = subst (λ made. AreOfMembers made osds) (sym one.same) h.members;
    })

stopped_at : (w : PlacementState) (group : ℕ) (osds : List ℕ) → is_going w ≡ false → all_scrubbed w group osds ≡ w
stopped_at w group [] off = refl
stopped_at w group (osd ∷ osds) off = ap (λ b. cond b (all_scrubbed (member_scrubbed w group osd) group osds) w) off

pub scrubbing_stops : (start : PlacementState) (group : ℕ) (osds : List ℕ) (place : ℕ) (now : PlacementState) → IsScrubbing start group osds place now
    → is_going now ≡ false → now ≡ all_scrubbed start group (acting start.made start.past)
scrubbing_stops start group osds place now h off = sym (stopped_at now group (drop place osds) off) ∙ h.rest

pub scrubbing_ends : (start : PlacementState) (group : ℕ) (osds : List ℕ) (place : ℕ) (now : PlacementState) → IsScrubbing start group osds place now
    → length osds ≤ place → now ≡ all_scrubbed start group (acting start.made start.past)
scrubbing_ends start group osds place now h done = sym (ap (all_scrubbed now group) (drop_all place osds done)) ∙ h.rest

pub ruleset members = (scrubbing_stops, scrubbing_ends)

-- ---- a chunk

pub opened_sound : (w o v : PlacementState) (group : ℕ) → IsSound w → o ≡ after_opening w group → v ≡ all_admitted o → IsSound v
opened_sound w o v group s e is = subst IsSound (sym (is ∙ ap all_admitted e)) (on_open w group s).sound

pub scanned_sound : (w v : PlacementState) (group : ℕ) → IsSound w → v ≡ all_scrubbed w group (acting w.made w.past) → IsSound v
scanned_sound w v group s e = subst IsSound (sym e) (on_all w group (acting w.made w.past) s (acting_members w s)).sound

-- ---- chunk after chunk

pub record IsWalking (first : PlacementState) (group most counter : ℕ) (now : PlacementState) : Type 0 where
  pub left : IsLeft (λ x. chunk_done x group) (λ x. is_going (chunk_done x group)) first most counter now
  pub sound : IsSound now

pub walking_begins : (first : PlacementState) (group most : ℕ) → IsSound first → IsWalking first group most 0 first
walking_begins first group most s = record { left = left_begins (λ x. chunk_done x group) (λ x. is_going (chunk_done x group)) first most; sound = s }

pub walking_next : (first : PlacementState) (group most counter : ℕ) (now next : PlacementState) → IsWalking first group most counter now → counter < most
    → next ≡ chunk_done now group → is_going next ≡ true → IsWalking first group most (counter + 1) next
walking_next first group most counter now next h within e on = record {
  left = left_next (λ x. chunk_done x group) (λ x. is_going (chunk_done x group)) first most counter now next h.left within (ap is_going (sym e) ∙ on) e;
  sound = subst IsSound (sym e) (on_chunk now group h.sound).sound;
}

pub walking_stops : (first : PlacementState) (group most counter : ℕ) (now next : PlacementState) → IsWalking first group most counter now → counter < most
    → next ≡ chunk_done now group → is_going next ≡ false → most ≡ MOST → next ≡ walked MOST first group
walking_stops first group most counter now next h within e off is =
    left_stops (λ x. chunk_done x group) (λ x. is_going (chunk_done x group)) first most counter now next h.left within (ap is_going (sym e) ∙ off) e ∙ ap (λ n. walked n first group) is

pub walking_ends : (first : PlacementState) (group most counter : ℕ) (now : PlacementState) → IsWalking first group most counter now → most ≤ counter → most ≡ MOST → now ≡ walked MOST first group
walking_ends first group most counter now h over is =
    left_ends (λ x. chunk_done x group) (λ x. is_going (chunk_done x group)) first most counter now h.left over ∙ ap (λ n. walked n first group) is

pub ruleset walking = (walking_begins, walking_next, walking_stops, walking_ends)

-- ---- claims and releases, of which those from a place on are left

pub record IsClaiming (start : PlacementState) (group : ℕ) (osds : List ℕ) (place : ℕ) (now : PlacementState) : Type 0 where
  pub rest : claimed_all now group (drop place osds) ≡ claimed_all start group osds
  pub count : place + granted now group (drop place osds) ≡ granted start group osds
  pub sound : IsSound now

none_before : (n : ℕ) → 0 + n ≡ n
none_before n = omega arith

pub claiming_begins : (start : PlacementState) (group : ℕ) (osds : List ℕ) → IsSound start → IsClaiming start group osds 0 start
claiming_begins start group osds sound = record { rest = refl; count = none_before (granted start group osds); sound = sound }

claims_at_place : (w : PlacementState) (group : ℕ) (osds : List ℕ) (place : ℕ) → place < length osds → (drop place osds ≡ get_or osds place 0 ∷ drop (place + 1) osds)
claims_at_place w group osds place within = drop_more osds place 0 within

pub claiming_next : (start : PlacementState) (group : ℕ) (osds : List ℕ) (place : ℕ) (now next : PlacementState) → IsClaiming start group osds place now → place < length osds
    → grants now ≡ true → next ≡ after_claiming now group → IsClaiming start group osds (place + 1) next
claiming_next start group osds place now next h within on e =
    let d : ℕ = get_or osds place 0 in
    let more : granted now group (drop place osds) ≡ suc (granted (after_claiming now group) group (drop (place + 1) osds)) =
    ap (granted now group) (claims_at_place now group osds place within) ∙ ap (λ b. cond b (suc (granted (after_claiming now group) group (drop (place + 1) osds))) 0) on in
    let count = h.count in
    subst (IsClaiming start group osds (place + 1)) (sym e) (record {
      rest = sym (ap (claimed_all now group) (claims_at_place now group osds place within)
          ∙ ap (λ b. cond b (claimed_all (after_claiming now group) group (drop (place + 1) osds)) (after_claiming now group)) on) ∙ h.rest;
      count = omega (arith, more, count);
      sound = (on_claim now group h.sound).sound;
    })

pub claiming_stops : (start : PlacementState) (group : ℕ) (osds : List ℕ) (place : ℕ) (now next : PlacementState) → IsClaiming start group osds place now → place < length osds
    → grants now ≡ false → next ≡ after_claiming now group → next ≡ claimed_all start group osds
claiming_stops start group osds place now next h within off e =
    e ∙ sym (ap (claimed_all now group) (claims_at_place now group osds place within)
    ∙ ap (λ b. cond b (claimed_all (after_claiming now group) group (drop (place + 1) osds)) (after_claiming now group)) off) ∙ h.rest

pub claiming_count : (start : PlacementState) (group : ℕ) (osds : List ℕ) (place : ℕ) (now : PlacementState) → IsClaiming start group osds place now → place < length osds
    → grants now ≡ false → place ≡ granted start group osds
claiming_count start group osds place now h within off =
    let none : granted now group (drop place osds) ≡ 0 =
    ap (granted now group) (claims_at_place now group osds place within) ∙ ap (λ b. cond b (suc (granted (after_claiming now group) group (drop (place + 1) osds))) 0) off in
    let count = h.count in
    omega (arith, none, count)

pub claiming_ends : (start : PlacementState) (group : ℕ) (osds : List ℕ) (place : ℕ) (now : PlacementState) → IsClaiming start group osds place now → length osds ≤ place
    → now ≡ claimed_all start group osds
claiming_ends start group osds place now h done = sym (ap (claimed_all now group) (drop_all place osds done)) ∙ h.rest

pub claiming_all : (start : PlacementState) (group : ℕ) (osds : List ℕ) (place : ℕ) (now : PlacementState) → IsClaiming start group osds place now → length osds ≤ place
    → place ≤ length osds → length osds ≡ granted start group osds
claiming_all start group osds place now h done within =
    let none : granted now group (drop place osds) ≡ 0 = ap (granted now group) (drop_all place osds done) in
    let count = h.count in
    omega (arith, none, count, done, within)

pub record IsReleasing (start : PlacementState) (group : ℕ) (osds : List ℕ) (place : ℕ) (now : PlacementState) : Type 0 where
  pub rest : released_all now group (drop place osds) ≡ released_all start group osds

pub releasing_begins : (start : PlacementState) (group : ℕ) (osds : List ℕ) → IsReleasing start group osds 0 start
releasing_begins start group osds = record { rest = refl }

pub releasing_next : (start : PlacementState) (group : ℕ) (osds : List ℕ) (place : ℕ) (now next : PlacementState) (d : ℕ) → IsReleasing start group osds place now → place < length osds
    → next ≡ after_releasing now group (get_or osds place d) → IsReleasing start group osds (place + 1) next
releasing_next start group osds place now next d h within e =
    subst (IsReleasing start group osds (place + 1)) (sym e) (record { rest = sym (ap (released_all now group) (drop_more osds place d within)) ∙ h.rest })

pub releasing_ends : (start : PlacementState) (group : ℕ) (osds : List ℕ) (place : ℕ) (now : PlacementState) → IsReleasing start group osds place now → length osds ≤ place
    → now ≡ released_all start group osds
releasing_ends start group osds place now h done = sym (ap (released_all now group) (drop_all place osds done)) ∙ h.rest

pub ruleset releasing = (releasing_begins, releasing_next, releasing_ends)

-- ---- the whole

pub begun_sound : (w v : PlacementState) (group : ℕ) (kind : Kind) → IsSound w → v ≡ after_beginning w group kind → IsSound v
begun_sound w v group kind s e = subst IsSound (sym e) (on_begin w group kind s).sound

pub claims_sound : (w v : PlacementState) (group : ℕ) (osds : List ℕ) → IsSound w → v ≡ claimed_all w group osds → IsSound v
claims_sound w v group osds s e = subst IsSound (sym e) (on_claims w group osds s).sound

pub swept_began : (w v r : PlacementState) (group : ℕ) (kind : Kind) (serial first : ℕ) → begins.Began serial first ≡ begin_answer w.made w.past → v ≡ after_beginning w group kind
    → r ≡ scrubbed_at v group (acting v.made v.past) → r ≡ swept w group kind
swept_began w v r group kind serial first began e is =
    is ∙ ap (λ x. scrubbed_at x group (acting x.made x.past)) e ∙ ap (λ a. scrubbed a (after_beginning w group kind) group) began

pub swept_busy : (w v : PlacementState) (group : ℕ) (kind : Kind) (serial : ℕ) → begins.Busy serial ≡ begin_answer w.made w.past → v ≡ after_beginning w group kind → v ≡ swept w group kind
swept_busy w v group kind serial busy e = e ∙ ap (λ a. scrubbed a (after_beginning w group kind) group) busy

pub ruleset sweeping = (begun_sound, swept_began, swept_busy)
