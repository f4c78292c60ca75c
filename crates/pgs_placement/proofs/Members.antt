-- The history of an OSD goes on, and those of the others stay.
use Rattle.std.proofs.Common.{◌≡◌, ℕ, ◌≤◌, ◌==◌, ◌||◌, Bool, true, false, cond, List, [], ◌∷◌, length, map, refl, sym, ap, ◌∙◌, subst, arith}
use Rattle.std.specs.Prelude.{Option, Some, None, slice_get}
use Rattle.std.specs.List.{list_any, AllByRecursion}
use Rattle.std.proofs.lemmas.Bool.Decides.{nat_tests}
use Rattle.pgs_name.specs.declared.object_id.ObjectId.{ObjectId}
use Rattle.pgs_range.specs.declared.bound.Bound.{Bound}
use Rattle.pgs_chunk.specs.Positions.{Ascends}
use Rattle.pgs_chunk.specs.Listings.{listing}
use Rattle.pgs_chunk.proofs.Chunks.{from_ascends}
use Rattle.pgs_chunk.proofs.Listings.{is_listing, front_ascends}
use Rattle.pgs_chunk.proofs.Members.{none_ascend}
use Rattle.pgs_medium.specs.declared.call_kind.CallKind.TheVariants as kinds
use Rattle.pgs_shard.specs.Scans.{handed_in, past_after_hand}
use Rattle.pgs_exchange.specs.declared.scan_result.ScanResult.{ScanResult}
use Rattle.pgs_shard.specs.declared.scan_answer.ScanAnswer.{ScanAnswer}
use Rattle.pgs_shard.specs.declared.scan_answer.ScanAnswer.TheVariants as scans
use Rattle.pgs_shard_history.specs.Legal.{IsLegal}
use Rattle.pgs_shard_history.specs.Positions.{positions}
use Rattle.pgs_shard_history.specs.Scanning.{scanning}
use Rattle.pgs_shard_history.specs.Scans.{at_place}
use Rattle.pgs_shard_history.specs.Stores.{applied}
use Rattle.pgs_shard_history.specs.declared.event.Event.{Event}
use Rattle.pgs_shard_history.specs.declared.event.Event.TheVariants.{Handed, Applied, DeviceFault, ListFailed}
use Rattle.pgs_shard_history.proofs.Positions.{are_positions}
use Rattle.pgs_shards.specs.Devices.{fails}
use Rattle.pgs_shards.specs.Members.{Member, beginning, past_in, with_member}
use Rattle.pgs_shards.specs.declared.osd_device.OsdDevice.{OsdDevice}
use Rattle.pgs_shards.specs.Applies.{waits, next_number, next_drops, apply_answer, applied_by, after_apply}
use Rattle.pgs_shards.specs.declared.apply_answer.ApplyAnswer.{ApplyAnswer}
use Rattle.pgs_shards.specs.declared.apply_answer.ApplyAnswer.TheVariants as answers
use Rattle.pgs_medium.specs.Calls.{one_more}
use Rattle.pgs_shards.specs.Listings.{failing_of, list_told, list_answer, list_in, listed_by, after_list, with_listed}
use Rattle.pgs_shards.specs.Scans.{after_answer, hand_in}
use Rattle.pgs_shards.specs.Whole.{IsWholeMember}
use Rattle.pgs_shards.specs.declared.list_answer.ListAnswer.TheVariants.{Listed, Fault}
use Rattle.pgs_placement.proofs.Mapped.{at_place_more}

same_osd : (a b : ℕ) → (a == b) ≡ true → a ≡ b
same_osd a b e = grind (arith, nat_tests, e)

-- ---- the member of an OSD changes

-- a change leaves members their OSDs
abbrev pub Keeps : (Member → Member) → Type 0
Keeps change = (member : Member) → (change member).osd ≡ member.osd

-- what holds of the history of a member and of what it becomes holds of that of every OSD
pub lift : (P : List Event → List Event → Type 0) (change : Member → Member) (osd q : ℕ) (members : List Member) → Keeps change
    → ((member : Member) → member.osd ≡ osd → P member.past (change member).past) → ((past : List Event) → P past past)
    → P (past_in members q) (past_in (with_member osd change members) q)
lift P change osd q [] keeps one none = none []
lift P change osd q (member ∷ members) keeps one none =
    let rest = lift P change osd q members keeps one none in
    let Q : Bool → Type 0 = λ b. (member.osd == osd) ≡ b
    → P (cond (member.osd == q) member.past (past_in members q)) (past_in (cond b (change member ∷ members) (member ∷ with_member osd change members)) q) in
    (elim (member.osd == osd) as Q [
      | true ↦ λ here. subst (λ o. P (cond (member.osd == q) member.past (past_in members q)) (cond (o == q) (change member).past (past_in members q))) (sym (keeps member))
          (elim (member.osd == q) as (λ c. P (cond c member.past (past_in members q)) (cond c (change member).past (past_in members q))) [
            | true ↦ one member (same_osd member.osd osd here)
            | false ↦ none (past_in members q)
          ])
      | false ↦ λ there. (elim (member.osd == q) as (λ c. P (cond c member.past (past_in members q)) (cond c member.past (past_in (with_member osd change members) q))) [
        | true ↦ none member.past
        | false ↦ rest
      ])
    ]) refl

abbrev pub has : List Member → ℕ → Bool
has members osd = list_any (λ other. other == osd) (map (λ member. member.osd) members)

-- of the OSD itself, where it is a member
pub past_here : (P : List Event → List Event → Type 0) (change : Member → Member) (osd : ℕ) (members : List Member) → Keeps change
    → ((member : Member) → member.osd ≡ osd → P member.past (change member).past) → has members osd ≡ true
    → P (past_in members osd) (past_in (with_member osd change members) osd)
past_here P change osd [] keeps one there = absurd cc
past_here P change osd (member ∷ members) keeps one there =
    let Q : Bool → Type 0 = λ b. (member.osd == osd) ≡ b → (b || has members osd) ≡ true
    → P (cond b member.past (past_in members osd)) (past_in (cond b (change member ∷ members) (member ∷ with_member osd change members)) osd) in
    (elim (member.osd == osd) as Q [
      | true ↦ λ here found.
          subst (λ o. P member.past (cond (o == osd) (change member).past (past_in members osd))) (sym (keeps member))
          (subst (λ b. P member.past (cond b (change member).past (past_in members osd))) (sym here) (one member (same_osd member.osd osd here)))
      | false ↦ λ other found.
          subst (λ b. P (past_in members osd) (cond b member.past (past_in (with_member osd change members) osd))) (sym other) (past_here P change osd members keeps one found)
    ]) refl there

-- another OSD's stays
pub past_other : (change : Member → Member) (osd q : ℕ) (members : List Member) → Keeps change → (osd == q) ≡ false
    → past_in (with_member osd change members) q ≡ past_in members q
past_other change osd q members keeps apart = by_case members
  where
    by_case : (members : List Member) → past_in (with_member osd change members) q ≡ past_in members q
    by_case [] = refl
    by_case (member ∷ members) =
        let rest = by_case members in
        let Q : Bool → Type 0 = λ b. (member.osd == osd) ≡ b
        → past_in (cond b (change member ∷ members) (member ∷ with_member osd change members)) q ≡ cond (member.osd == q) member.past (past_in members q) in
        (elim (member.osd == osd) as Q [
          | true ↦ λ here.
              let is : member.osd ≡ osd = same_osd member.osd osd here in
              let other : (member.osd == q) ≡ false = ap (λ o. o == q) is ∙ apart in
              ap (λ o. cond (o == q) (change member).past (past_in members q)) (keeps member)
              ∙ ap (λ c. cond c (change member).past (past_in members q)) other
              ∙ sym (ap (λ c. cond c member.past (past_in members q)) other)
          | false ↦ λ there. ap (λ l. cond (member.osd == q) member.past l) rest
        ]) refl

pub osds_kept : (change : Member → Member) (osd : ℕ) (members : List Member) → Keeps change
    → map (λ member. member.osd) (with_member osd change members) ≡ map (λ member. member.osd) members
osds_kept change osd [] keeps = refl
osds_kept change osd (member ∷ members) keeps =
    let rest = osds_kept change osd members keeps in
    elim (member.osd == osd) as (λ b. map (λ m. m.osd) (cond b (change member ∷ members) (member ∷ with_member osd change members)) ≡ member.osd ∷ map (λ m. m.osd) members) [
      | true ↦ ap (λ o. o ∷ map (λ m. m.osd) members) (keeps member)
      | false ↦ ap (λ l. member.osd ∷ l) rest
    ]

-- what holds of each member holds after the change, which it is where the history is that of the OSD
pub all_changed : (P : Member → Type 0) (change : Member → Member) (osd : ℕ) (members : List Member)
    → ((member : Member) → member.osd ≡ osd → past_in members osd ≡ member.past → P member → P (change member))
    → AllByRecursion P members → AllByRecursion P (with_member osd change members)
all_changed P change osd [] one all = tt
all_changed P change osd (member ∷ members) one all =
    let Q : Bool → Type 0 = λ b. (member.osd == osd) ≡ b → AllByRecursion P (cond b (change member ∷ members) (member ∷ with_member osd change members)) in
    (elim (member.osd == osd) as Q [
      | true ↦ λ here. (one member (same_osd member.osd osd here) (ap (λ b. cond b member.past (past_in members osd)) here) all.0, all.1)
      | false ↦ λ other. (
        all.0,
        all_changed P change osd members (λ m same is p. one m same (ap (λ b. cond b member.past (past_in members osd)) other ∙ is) p) all.1,
      )
    ]) refl

pub osds_begun : (devices : List OsdDevice) → map (λ m. m.osd) (beginning devices) ≡ map (λ d. d.osd) devices
osds_begun [] = refl
osds_begun (device ∷ devices) = ap (λ l. device.osd ∷ l) (osds_begun devices)

pub past_begun : (devices : List OsdDevice) (osd : ℕ) → past_in (beginning devices) osd ≡ []
past_begun [] osd = refl
past_begun (device ∷ devices) osd =
    let rest = past_begun devices osd in
    elim (device.osd == osd) as (λ b. cond b [] (past_in (beginning devices) osd) ≡ []) [
      | true ↦ refl
      | false ↦ rest
    ]

-- each history is legal
pub legal_in : (stride : ℕ) (members : List Member) (osd : ℕ) → AllByRecursion (IsWholeMember stride) members → IsLegal stride (past_in members osd)
legal_in stride [] osd whole = tt
legal_in stride (member ∷ members) osd whole =
    let rest = legal_in stride members osd whole.1 in
    elim (member.osd == osd) as (λ b. IsLegal stride (cond b member.past (past_in members osd))) [
      | true ↦ whole.0.legal
      | false ↦ rest
    ]

-- ---- a history goes on, or stays

pub record GoesOn (old new : List Event) : Type 0 where
  pub longer : (place : ℕ) → place ≤ length old → place ≤ length new
  pub before : (place : ℕ) → place ≤ length old → at_place place new ≡ at_place place old

pub goes_nowhere : (past : List Event) → GoesOn past past
goes_nowhere past = record { longer = λ place h. h; before = λ place h. refl }

pub goes_one : (event : Event) (past : List Event) → GoesOn past (event ∷ past)
goes_one event past = record { longer = λ place h. omega (arith, h); before = λ place h. at_place_more event past place h }

-- ---- changes leave members their OSDs

applied_osd : (answer : ApplyAnswer) (member : Member) → (applied_by answer member).osd ≡ member.osd
applied_osd (answers.NotYet count) member = refl
applied_osd (answers.Applied number drops) member = refl
applied_osd (answers.DeviceFault count) member = refl

pub keeps_apply : Keeps after_apply
keeps_apply member = applied_osd (apply_answer member) member

listed_osd : (limit : ℕ) (start : Bound) (member : Member) (calls : Option ℕ) → (listed_by calls limit start member).osd ≡ member.osd
listed_osd limit start member None = refl
listed_osd limit start member (Some calls) = refl

pub keeps_list : (limit : ℕ) (start : Bound) → Keeps (after_list limit start)
keeps_list limit start member = listed_osd limit start member (failing_of limit start member)

-- ---- applying and listing, by what becomes of a history

pub by_apply : (P : List Event → Type 0) (member : Member) → P member.past → ((count : ℕ) → P (DeviceFault count ∷ member.past))
    → (waits member.past ≡ true → P (Applied (next_number member.past) (next_drops member.past) ∷ member.past)) → P (after_apply member).past
by_apply P member stays fails_so applies =
    let Q : Bool → Type 0 = λ w. waits member.past ≡ w
    → P (applied_by (cond w (cond (fails kinds.Write member.device) (answers.DeviceFault (one_more member.device.faults)) (answers.Applied (next_number member.past) (next_drops member.past))) (answers.NotYet (applied member.past))) member).past in
    (elim (waits member.past) as Q [
      | true ↦ λ waiting. (elim (fails kinds.Write member.device) as
          (λ f. P (applied_by (cond f (answers.DeviceFault (one_more member.device.faults)) (answers.Applied (next_number member.past) (next_drops member.past))) member).past) [
            | true ↦ fails_so (one_more member.device.faults)
            | false ↦ applies waiting
          ])
      | false ↦ λ idle. stays
    ]) refl

pub by_list : (P : List Event → Type 0) (limit : ℕ) (start : Bound) (member : Member) → P member.past → ((count : ℕ) → P (ListFailed count ∷ member.past)) → P (after_list limit start member).past
by_list P limit start member stays fails_so = told (failing_of limit start member)
  where
    told : (calls : Option ℕ) → P (listed_by calls limit start member).past
    told None = stays
    told (Some calls) = fails_so _

-- ---- scanning and handing

pub scan_goes_on : (answer : ScanAnswer) (past : List Event) → GoesOn past (after_answer answer past)
scan_goes_on scans.Idle past = goes_nowhere past
scan_goes_on (scans.NotYet count needed) past = goes_nowhere past
scan_goes_on (scans.Found id) past = goes_one _ past
scan_goes_on scans.More past = goes_one _ past
scan_goes_on (scans.Passed id mark) past = goes_one _ past
scan_goes_on scans.Done past = goes_one _ past
scan_goes_on (scans.ListFault count) past = goes_one _ past

pub scan_applied : (answer : ScanAnswer) (past : List Event) → applied (after_answer answer past) ≡ applied past
scan_applied scans.Idle past = refl
scan_applied (scans.NotYet count needed) past = refl
scan_applied (scans.Found id) past = refl
scan_applied scans.More past = refl
scan_applied (scans.Passed id mark) past = refl
scan_applied scans.Done past = refl
scan_applied (scans.ListFault count) past = refl

pub hand_goes_on : (scanned : Option ScanResult) (past : List Event) → GoesOn past (past_after_hand scanned past)
hand_goes_on None past = goes_nowhere past
hand_goes_on (Some scanned) past = goes_one Handed past

pub hand_applied : (scanned : Option ScanResult) (past : List Event) → applied (past_after_hand scanned past) ≡ applied past
hand_applied None past = refl
hand_applied (Some scanned) past = refl

-- what an OSD hands is told by its history
pub hand_of : (members : List Member) (osd : ℕ) → hand_in members osd ≡ handed_in osd (scanning (past_in members osd))
hand_of [] osd = refl
hand_of (member ∷ members) osd =
    let rest = hand_of members osd in
    let Q : Bool → Type 0 = λ b. (member.osd == osd) ≡ b
    → cond b (handed_in member.osd (scanning member.past)) (hand_in members osd) ≡ handed_in osd (scanning (cond b member.past (past_in members osd))) in
    (elim (member.osd == osd) as Q [
      | true ↦ λ here. ap (λ o. handed_in o (scanning member.past)) (same_osd member.osd osd here)
      | false ↦ λ there. rest
    ]) refl

-- ---- listing

listing_ascends : (limit : ℕ) (from : Bound) (ps : List ObjectId) → Ascends ps → Ascends (listing limit from ps)
listing_ascends limit from ps h =
    let l = is_listing limit from ps in
    front_ascends (listing limit from ps) l.rest (subst Ascends l.whole (from_ascends from ps h))

-- what is listed is in order
pub list_ascends : (limit : ℕ) (start : Bound) (members : List Member) (osd : ℕ) (ids : List ObjectId) → list_in limit start members osd ≡ Listed ids → Ascends ids
list_ascends limit start [] osd ids e = let is : [] ≡ ids = cc in subst Ascends is none_ascend
list_ascends limit start (member ∷ members) osd ids e =
    (elim (member.osd == osd) as (λ b. cond b (list_answer limit start member) (list_in limit start members osd) ≡ Listed ids → Ascends ids) [
      | true ↦ λ e. told_ascends (failing_of limit start member) e
      | false ↦ λ e. list_ascends limit start members osd ids e
    ]) e
  where
    told_ascends : (calls : Option ℕ) → list_told calls limit start member ≡ Listed ids → Ascends ids
    told_ascends None e =
        let is : listing limit start (positions member.past) ≡ ids = cc in
        subst Ascends is (listing_ascends limit start (positions member.past) (are_positions member.past).ascends)
    told_ascends (Some calls) e = absurd cc

-- a listing that failed is the last event of its OSD
pub list_failed : (limit : ℕ) (start : Bound) (members : List Member) (osd count : ℕ) → list_in limit start members osd ≡ Fault count
    → slice_get (past_in (with_listed limit start osd members) osd) 0 ≡ Some (ListFailed count)
list_failed limit start [] osd count e = absurd cc
list_failed limit start (member ∷ members) osd count e =
    let Q : Bool → Type 0 = λ b. (member.osd == osd) ≡ b → cond b (list_answer limit start member) (list_in limit start members osd) ≡ Fault count
    → slice_get (past_in (cond b (after_list limit start member ∷ members) (member ∷ with_listed limit start osd members)) osd) 0 ≡ Some (ListFailed count) in
    (elim (member.osd == osd) as Q [
      | true ↦ λ here e.
          ap (λ o. slice_get (cond (o == osd) (after_list limit start member).past (past_in members osd)) 0) (keeps_list limit start member)
          ∙ ap (λ b. slice_get (cond b (after_list limit start member).past (past_in members osd)) 0) here
          ∙ told_failed (failing_of limit start member) e
      | false ↦ λ other e.
          ap (λ b. slice_get (cond b member.past (past_in (with_listed limit start osd members) osd)) 0) other ∙ list_failed limit start members osd count e
    ]) refl e
  where
    told_failed : (calls : Option ℕ) → list_told calls limit start member ≡ Fault count → slice_get (listed_by calls limit start member).past 0 ≡ Some (ListFailed count)
    told_failed None e = absurd cc
    told_failed (Some calls) e = let is : one_more member.device.faults ≡ count = cc in ap (λ n. Some (ListFailed n)) is
