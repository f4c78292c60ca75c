-- Each step keeps a member whole.
use Rattle.std.proofs.Common.{◌≡◌, ℕ, ◌≤◌, ◌==◌, Bool, true, false, cond, List, [], ◌∷◌, Option, Some, None, refl, sym, ap, ◌∙◌, subst, arith}
use Rattle.std.specs.List.{AllByRecursion}
use Rattle.std.proofs.lemmas.Bool.Decides.{nat_tests}
use Rattle.pgs_cause.specs.Count.{LAST_COUNT}
use Rattle.pgs_name.specs.Families.{Family}
use Rattle.pgs_range.specs.declared.bound.Bound.{Bound}
use Rattle.pgs_chunk.specs.declared.ask.Ask.{Ask}
use Rattle.pgs_copy.specs.declared.damage.Damage.{Damage}
use Rattle.pgs_medium.specs.Calls.{one_more}
use Rattle.pgs_medium.specs.declared.call_kind.CallKind.TheVariants as kinds
use Rattle.pgs_medium.specs.declared.item.Item.{Item}
use Rattle.pgs_shard.specs.Listed.{calls_for}
use Rattle.pgs_shard.specs.Scans.{past_after_hand}
use Rattle.pgs_exchange.specs.declared.scan_result.ScanResult.{ScanResult}
use Rattle.pgs_shard.specs.declared.scan_answer.ScanAnswer.{ScanAnswer}
use Rattle.pgs_shard.specs.declared.scan_answer.ScanAnswer.TheVariants as answers
use Rattle.pgs_shard_history.specs.Legal.{IsDue}
use Rattle.pgs_shard_history.specs.Scanning.{Scanning, scanning}
use Rattle.pgs_shard_history.specs.Stores.{applied, last_count}
use Rattle.pgs_shard_history.specs.declared.event.Event.{Event}
use Rattle.pgs_shard_history.specs.declared.event.Event.TheVariants.{Fed}
use Rattle.pgs_shards.specs.Applies.{waits, next_number, next_drops, applied_by, after_apply, with_applied}
use Rattle.pgs_shards.specs.Damages.{after_damage, with_damage}
use Rattle.pgs_shards.specs.Devices.{DeviceCalls, fails, answered, failed, called, answered_all}
use Rattle.pgs_shards.specs.Listings.{listing_of, failing_of, listed_by, after_list, with_listed}
use Rattle.pgs_shards.specs.Members.{Member, begun, beginning, with_member, past_in, after_event, with_event}
use Rattle.pgs_shards.specs.Scans.{scan_answer, after_answer, device_after, after_scan, with_scanned, hand_answer, after_hand, with_handed}
use Rattle.pgs_shards.specs.Whole.{IsWholeMember}
use Rattle.pgs_shards.specs.declared.apply_answer.ApplyAnswer.TheVariants as applies
use Rattle.pgs_shards.specs.declared.osd_device.OsdDevice.{OsdDevice}
use Rattle.pgs_shards.proofs.Called.{IsGoneOn, stayed, called_on, reading_on, count_rose, count_within, all_faults}
use Rattle.pgs_shards.proofs.Scans.{IsAnswerOf, IsCounting, answer_due, scan_legal, hand_legal}

-- ---- at its beginning

pub whole_begun : (stride : ℕ) (device : OsdDevice) → IsWholeMember stride (begun device)
whole_begun stride device = record { legal = tt; counted = omega arith; bounded = grind arith }

-- ---- feeding

pub whole_event : (stride from : ℕ) (items : List Item) (ask : Option Ask) (m : Member) → IsWholeMember stride m → IsDue stride (Fed from items ask) m.past
    → IsWholeMember stride (after_event (Fed from items ask) m)
whole_event stride from items ask m h due = record { legal = (due, h.legal); counted = h.counted; bounded = h.bounded }

-- ---- applying

applied_whole : (stride : ℕ) (m : Member) → IsWholeMember stride m → waits m.past ≡ true → IsWholeMember stride (applied_by (applies.Applied (next_number m.past) (next_drops m.past)) m)
applied_whole stride m h w =
    record { legal = ((refl, grind (arith, nat_tests, w), refl), h.legal); counted = h.counted; bounded = h.bounded }

fault_whole : (stride : ℕ) (m : Member) → IsWholeMember stride m → waits m.past ≡ true → IsWholeMember stride (applied_by (applies.DeviceFault (one_more m.device.faults)) m)
fault_whole stride m h w = record {
  legal = ((grind (arith, nat_tests, w), count_rose (last_count m.past) m.device.faults h.counted h.bounded), h.legal);
  counted = omega arith;
  bounded = count_within m.device.faults;
}

pub whole_apply : (stride : ℕ) (m : Member) → IsWholeMember stride m → IsWholeMember stride (after_apply m)
whole_apply stride m h =
    let done = applies.Applied (next_number m.past) (next_drops m.past) in
    let fault = applies.DeviceFault (one_more m.device.faults) in
    let P : Bool → Type 0 = λ v. waits m.past ≡ v → IsWholeMember stride (applied_by (cond v (cond (fails kinds.Write m.device) fault done) (applies.NotYet (applied m.past))) m) in
    (elim (waits m.past) as P [
      | true ↦ λ w. (elim (fails kinds.Write m.device) as (λ v. IsWholeMember stride (applied_by (cond v fault done) m)) [
        | true ↦ fault_whole stride m h w
        | false ↦ applied_whole stride m h w
      ])
      | false ↦ λ none. h
    ]) refl

-- ---- damage

pub whole_damage : (stride : ℕ) (family : Family) (snap : ℕ) (damage : Damage) (m : Member) → IsWholeMember stride m → IsWholeMember stride (after_damage family snap damage m)
whole_damage stride family snap damage m h = record { legal = (refl, h.legal); counted = h.counted; bounded = h.bounded }

-- ---- listing

listed_whole : (stride limit : ℕ) (start : Bound) (failing : Option ℕ) (m : Member) → IsWholeMember stride m → IsWholeMember stride (listed_by failing limit start m)
listed_whole stride limit start None m h =
    let calls : ℕ = calls_for limit (listing_of limit start m) in
    record {
      legal = h.legal;
      counted = subst (λ n. last_count m.past ≤ n) (sym (all_faults calls m.device)) h.counted;
      bounded = subst (λ n. n ≤ LAST_COUNT) (sym (all_faults calls m.device)) h.bounded;
    }
listed_whole stride limit start (Some calls) m h = record {
  legal = (count_rose (last_count m.past) m.device.faults h.counted h.bounded, h.legal);
  counted = subst (λ n. one_more m.device.faults ≤ one_more n) (sym (all_faults calls m.device)) (same (one_more m.device.faults));
  bounded = count_within (answered_all kinds.List calls m.device).faults;
}
  where
    same : (n : ℕ) → n ≤ n
    same n = omega arith

pub whole_list : (stride limit : ℕ) (start : Bound) (m : Member) → IsWholeMember stride m → IsWholeMember stride (after_list limit start m)
whole_list stride limit start m h = listed_whole stride limit start (failing_of limit start m) m h

-- ---- scanning

-- what an answer leaves of the count
gone_on : (stride : ℕ) (answer : ScanAnswer) (s : Scanning) (device : DeviceCalls) → device.faults ≤ LAST_COUNT → IsGoneOn device (device_after stride answer s device)
gone_on stride answers.Idle s device within = stayed device within
gone_on stride (answers.NotYet count needed) s device within = stayed device within
gone_on stride (answers.Found id) s device within = called_on kinds.List device within
gone_on stride answers.More s device within = reading_on stride s.steps s.copy device within
gone_on stride (answers.Passed id mark) s device within = reading_on stride s.steps s.copy device within
gone_on stride answers.Done s device within = called_on kinds.List device within
gone_on stride (answers.ListFault count) s device within = called_on kinds.List device within

-- a fault that is kept is counted
fault_counted : (device : DeviceCalls) (count : ℕ) → fails kinds.List device ≡ true → count ≡ one_more device.faults → count ≤ (called kinds.List device).faults
fault_counted device count f is =
    let faults : (called kinds.List device).faults ≡ count =
    ap (λ v. (cond v (failed kinds.List device) (answered kinds.List device)).faults) f ∙ sym is in
    omega (arith, faults)

count_kept : (stride : ℕ) (m : Member) (answer : ScanAnswer) → IsWholeMember stride m → IsAnswerOf stride (scanning m.past).ask (scanning m.past) m answer
    → last_count (after_answer answer m.past) ≤ (device_after stride answer (scanning m.past) m.device).faults
count_kept stride m answers.Idle h due = h.counted
count_kept stride m (answers.NotYet count needed) h due = h.counted
count_kept stride m (answers.Found id) h due = omega (arith, h.counted, (gone_on stride (answers.Found id) (scanning m.past) m.device h.bounded).faults)
count_kept stride m answers.More h due = omega (arith, h.counted, (gone_on stride answers.More (scanning m.past) m.device h.bounded).faults)
count_kept stride m (answers.Passed id mark) h due = omega (arith, h.counted, (gone_on stride (answers.Passed id mark) (scanning m.past) m.device h.bounded).faults)
count_kept stride m answers.Done h due = omega (arith, h.counted, (gone_on stride answers.Done (scanning m.past) m.device h.bounded).faults)
count_kept stride m (answers.ListFault count) h due = fault_counted m.device count due.1 due.2

pub whole_scan : (stride : ℕ) (m : Member) → IsWholeMember stride m → IsWholeMember stride (after_scan stride m)
whole_scan stride m h =
    let counting : IsCounting m = record { counted = h.counted; bounded = h.bounded } in
    let answer : ScanAnswer = scan_answer stride m in
    let on : IsGoneOn m.device (device_after stride answer (scanning m.past) m.device) = gone_on stride answer (scanning m.past) m.device h.bounded in
    record {
      legal = scan_legal stride m counting h.legal;
      counted = count_kept stride m answer h (answer_due stride m counting h.legal);
      bounded = on.within;
    }

-- ---- handing

handed_count : (deposit : Option ScanResult) (past : List Event) → last_count (past_after_hand deposit past) ≡ last_count past
handed_count None past = refl
handed_count (Some deposit) past = refl

pub whole_hand : (stride : ℕ) (m : Member) → IsWholeMember stride m → IsWholeMember stride (after_hand m)
whole_hand stride m h = record {
  legal = hand_legal stride m.osd m.past h.legal;
  counted = subst (λ n. n ≤ m.device.faults) (sym (handed_count (hand_answer m) m.past)) h.counted;
  bounded = h.bounded;
}

-- ---- of all members

abbrev pub AreWhole : ℕ → List Member → Type 0
AreWhole stride members = AllByRecursion (IsWholeMember stride) members

pub begun_whole : (stride : ℕ) (devices : List OsdDevice) → AreWhole stride (beginning devices)
begun_whole stride [] = tt
begun_whole stride (device ∷ devices) = (whole_begun stride device, begun_whole stride devices)

same_number : (m n : ℕ) → (m == n) ≡ true → m ≡ n
same_number m n e = grind (arith, nat_tests)

-- one of them changes, and the others stay
pub all_whole : (stride osd : ℕ) (change : Member → Member) (members : List Member) → ((m : Member) → m.osd ≡ osd → IsWholeMember stride m → IsWholeMember stride (change m))
    → AreWhole stride members → AreWhole stride (with_member osd change members)
all_whole stride osd change [] keeps all = tt
all_whole stride osd change (member ∷ members) keeps all =
    let P : Bool → Type 0 = λ v. (member.osd == osd) ≡ v → AreWhole stride (cond v (change member ∷ members) (member ∷ with_member osd change members)) in
    (elim (member.osd == osd) as P [
      | true ↦ λ here. (keeps member (same_number member.osd osd here) all.0, all.1)
      | false ↦ λ other. (all.0, all_whole stride osd change members keeps all.1)
    ]) refl

pub applied_all : (stride osd : ℕ) (members : List Member) → AreWhole stride members → AreWhole stride (with_applied osd members)
applied_all stride osd members all = all_whole stride osd after_apply members (λ m is. whole_apply stride m) all

pub damaged_all : (stride osd : ℕ) (family : Family) (snap : ℕ) (damage : Damage) (members : List Member) → AreWhole stride members → AreWhole stride (with_damage osd family snap damage members)
damaged_all stride osd family snap damage members all = all_whole stride osd (after_damage family snap damage) members (λ m is. whole_damage stride family snap damage m) all

pub listed_all : (stride limit : ℕ) (start : Bound) (osd : ℕ) (members : List Member) → AreWhole stride members → AreWhole stride (with_listed limit start osd members)
listed_all stride limit start osd members all = all_whole stride osd (after_list limit start) members (λ m is. whole_list stride limit start m) all

pub scanned_all : (stride osd : ℕ) (members : List Member) → AreWhole stride members → AreWhole stride (with_scanned stride osd members)
scanned_all stride osd members all = all_whole stride osd (after_scan stride) members (λ m is. whole_scan stride m) all

pub handed_all : (stride osd : ℕ) (members : List Member) → AreWhole stride members → AreWhole stride (with_handed osd members)
handed_all stride osd members all = all_whole stride osd after_hand members (λ m is. whole_hand stride m) all

-- a feed is due of the first member of the OSD, and changes no other
pub fed_all : (stride osd from : ℕ) (items : List Item) (ask : Option Ask) (members : List Member) → IsDue stride (Fed from items ask) (past_in members osd) → AreWhole stride members
    → AreWhole stride (with_event osd (Fed from items ask) members)
fed_all stride osd from items ask [] due all = tt
fed_all stride osd from items ask (member ∷ members) due all =
    let P : Bool → Type 0 = λ v. IsDue stride (Fed from items ask) (cond v member.past (past_in members osd))
    → AreWhole stride (cond v (after_event (Fed from items ask) member ∷ members) (member ∷ with_event osd (Fed from items ask) members)) in
    (elim (member.osd == osd) as P [
      | true ↦ λ d. (whole_event stride from items ask member all.0 d, all.1)
      | false ↦ λ d. (all.0, fed_all stride osd from items ask members d all.1)
    ]) due
