-- Settling keeps what is sound, and its loops are what is defined.
use Rattle.std.proofs.Common.{◌≡◌, ℕ, ◌+◌, ◌<◌, ◌≤◌, get_or, drop, true, false, List, [], ◌∷◌, length, refl, sym, ap, ◌∙◌, subst}
use Rattle.std.proofs.lemmas.List.{drop_more, drop_all}
use Rattle.pgs_history.specs.Parked.{is_admitting}
use Rattle.pgs_shards.specs.Applies.{apply_in}
use Rattle.pgs_placement.specs.State.{PlacementState}
use Rattle.pgs_placement.specs.Basics.{after_applying, after_pulling}
use Rattle.pgs_placement.specs.Counts.{is_member}
use Rattle.pgs_placement.specs.Repeats.{MOST}
use Rattle.pgs_placement.specs.Steps.{is_waiting, applied_out, member_settled, settled}
use Rattle.pgs_placement.specs.Sound.{IsSound}
use Rattle.pgs_placement.proofs.Repeats.{IsLeft, left_begins, left_next, left_stops, left_ends, on_repeated}
use Rattle.pgs_placement.proofs.Sound.{IsOn, on_itself, on_again, on_pull, on_apply, on_tell, AreOfMembers, all_members, member_at}

-- ---- what is sound stays so

pub on_applied : (n : ℕ) (w : PlacementState) (group osd : ℕ) → IsSound w → IsOn w (applied_out n w group osd)
on_applied n w group osd s = on_repeated (λ x. after_applying x group osd) (λ x. is_waiting (apply_in x.members osd)) (λ x h. on_apply x group osd h) n w s

pub on_member : (w : PlacementState) (group osd : ℕ) → IsSound w → is_member w.made osd ≡ true → IsOn w (member_settled w group osd)
on_member w group osd s member =
    let pulled : PlacementState = after_pulling w group osd in
    let p = on_pull w group osd s member in
    let a = on_applied MOST pulled group osd p.sound in
    on_again w pulled (member_settled w group osd) p
    (on_again pulled (applied_out MOST pulled group osd) (member_settled w group osd) a (on_tell (applied_out MOST pulled group osd) group osd a.sound))

pub on_settled : (w : PlacementState) (group : ℕ) (osds : List ℕ) → IsSound w → AreOfMembers w.made osds → IsOn w (settled w group osds)
on_settled w group [] s all = on_itself w s
on_settled w group (osd ∷ osds) s all =
    let one = on_member w group osd s all.0 in
    on_again w (member_settled w group osd) (settled w group (osd ∷ osds)) one
    (on_settled (member_settled w group osd) group osds one.sound (subst (λ made. AreOfMembers made osds) (sym one.same) all.1))

-- ---- applying until nothing waits

pub record IsApplying (first : PlacementState) (group osd most counter : ℕ) (now : PlacementState) : Type 0 where
  pub left : IsLeft (λ x. after_applying x group osd) (λ x. is_waiting (apply_in x.members osd)) first most counter now

pub applying_begins : (first : PlacementState) (group osd most : ℕ) → IsApplying first group osd most 0 first
applying_begins first group osd most = record { left = left_begins (λ x. after_applying x group osd) (λ x. is_waiting (apply_in x.members osd)) first most }

pub applying_next : (first : PlacementState) (group osd most counter : ℕ) (now next : PlacementState) → IsApplying first group osd most counter now → counter < most
    → is_waiting (apply_in now.members osd) ≡ true → next ≡ after_applying now group osd → IsApplying first group osd most (counter + 1) next
applying_next first group osd most counter now next h within on e =
    record { left = left_next (λ x. after_applying x group osd) (λ x. is_waiting (apply_in x.members osd)) first most counter now next h.left within on e }

pub applying_stops : (first : PlacementState) (group osd most counter : ℕ) (now next : PlacementState) → IsApplying first group osd most counter now → counter < most
    → is_waiting (apply_in now.members osd) ≡ false → next ≡ after_applying now group osd → most ≡ MOST → next ≡ applied_out MOST first group osd
applying_stops first group osd most counter now next h within stops e is =
    left_stops (λ x. after_applying x group osd) (λ x. is_waiting (apply_in x.members osd)) first most counter now next h.left within stops e ∙ ap (λ n. applied_out n first group osd) is

pub applying_ends : (first : PlacementState) (group osd most counter : ℕ) (now : PlacementState) → IsApplying first group osd most counter now → most ≤ counter → most ≡ MOST → now ≡ applied_out MOST first group osd
applying_ends first group osd most counter now h over is =
    left_ends (λ x. after_applying x group osd) (λ x. is_waiting (apply_in x.members osd)) first most counter now h.left over ∙ ap (λ n. applied_out n first group osd) is

pub ruleset applying = (applying_begins, applying_next, applying_stops, applying_ends)

-- then nothing is to be taken up
pub applied_idle : (w p v : PlacementState) (group osd : ℕ) → IsSound w → is_member w.made osd ≡ true → p ≡ after_pulling w group osd → v ≡ applied_out MOST p group osd → is_admitting v.past ≡ false
applied_idle w p v group osd s member pulled applied =
    ap (λ x. is_admitting x.past) (applied ∙ ap (λ x. applied_out MOST x group osd) pulled)
    ∙ (on_applied MOST (after_pulling w group osd) group osd (on_pull w group osd s member).sound).sound.idle

-- ---- on the way through the members, of which those from a place on are left

pub record IsSettling (start : PlacementState) (group : ℕ) (members : List ℕ) (place : ℕ) (now : PlacementState) : Type 0 where
  pub all : members ≡ start.made.members
  pub rest : settled now group (drop place members) ≡ settled start group start.made.members
  pub sound : IsSound now
  pub same : now.made ≡ start.made

pub settling_begins : (start : PlacementState) (group : ℕ) (members : List ℕ) → IsSound start → members ≡ start.made.members → IsSettling start group members 0 start
settling_begins start group members sound is = record { all = is; rest = ap (settled start group) is; sound = sound; same = refl }

pub settling_member : (start : PlacementState) (group : ℕ) (members : List ℕ) (place : ℕ) (now : PlacementState) (osd : ℕ) → IsSettling start group members place now
    → place < length members → osd ≡ get_or members place osd → is_member now.made osd ≡ true
settling_member start group members place now osd h within is =
    ap (is_member now.made) is
    ∙ member_at now.made members place osd within (subst (AreOfMembers now.made) (ap (λ made. made.members) h.same ∙ sym h.all) (all_members now h.sound))

pub settling_next : (start : PlacementState) (group : ℕ) (members : List ℕ) (place : ℕ) (now next : PlacementState) (d : ℕ) → IsSettling start group members place now
    → place < length members → next ≡ member_settled now group (get_or members place d) → IsSettling start group members (place + 1) next
settling_next start group members place now next d h within e =
    let osd : ℕ = get_or members place d in
    let member = member_at now.made members place d within (subst (AreOfMembers now.made) (ap (λ made. made.members) h.same ∙ sym h.all) (all_members now h.sound)) in
    let one = on_member now group osd h.sound member in
    subst (IsSettling start group members (place + 1)) (sym e) (record {
      all = h.all;
      rest = sym (ap (settled now group) (drop_more members place d within)) ∙ h.rest;
      sound = one.sound;
      same = one.same ∙ h.same;
    })

pub settling_ends : (start : PlacementState) (group : ℕ) (members : List ℕ) (place : ℕ) (now : PlacementState) → IsSettling start group members place now
    → length members ≤ place → now ≡ settled start group start.made.members
settling_ends start group members place now h done = sym (ap (settled now group) (drop_all place members done)) ∙ h.rest

pub ruleset settling = (settling_begins, settling_member, settling_next, settling_ends)
