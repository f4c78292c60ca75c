-- A step of a scan keeps a history legal, and so does the handing of what the scan ended with.
use Rattle.std.proofs.Common.{◌≡◌, ℕ, zero, suc, ◌≤◌, ◌+◌, nat_lt, Bool, true, false, cond, List, Option, Some, None, refl, sym, subst, arith}
use Rattle.std.proofs.lemmas.Bool.Decides.{nat_tests}
use Rattle.pgs_bytes.proofs.Facts.{none_some, some_same}
use Rattle.pgs_name.specs.declared.object_id.ObjectId.{ObjectId}
use Rattle.pgs_range.specs.Listed.{IsNext}
use Rattle.pgs_chunk.specs.declared.ask.Ask.{Ask}
use Rattle.pgs_copy.specs.declared.obj_copy.ObjCopy.{ObjCopy}
use Rattle.pgs_map.specs.declared.entry.Entry.{Entry}
use Rattle.pgs_scan.specs.Reads.{steps_left_open, strides, pages}
use Rattle.pgs_scan.specs.declared.mark.Mark.TheVariants as marks
use Rattle.pgs_store.specs.Stores.{is_stored}
use Rattle.pgs_shard_history.specs.Legal.{IsLegal, MayList, IsListing, IsListFailing, IsGoingOn, IsPassing, HasEnded}
use Rattle.pgs_shard_history.specs.Positions.{positions}
use Rattle.pgs_shard_history.specs.Scanning.{Scanning, scanning, cursor_of}
use Rattle.pgs_shard_history.specs.Scans.{IsReading, IsSoundScan}
use Rattle.pgs_cause.specs.Count.{LAST_COUNT}
use Rattle.pgs_medium.specs.Calls.{one_more}
use Rattle.pgs_medium.specs.declared.call_kind.CallKind.TheVariants as kinds
use Rattle.pgs_shard_history.specs.Stores.{applied, stored_by, last_count}
use Rattle.pgs_shard_history.specs.declared.event.Event.{Event}
use Rattle.pgs_shard_history.specs.declared.phase.Phase.{Phase}
use Rattle.pgs_shard_history.specs.declared.phase.Phase.TheVariants.{Waiting, Between, Reading, Mapped, Failed, Over}
use Rattle.pgs_shard_history.proofs.Positions.{are_positions}
use Rattle.pgs_shard_history.proofs.Scans.{sound}
use Rattle.pgs_shard.specs.Scans.{IsIdle, IsEarly, handed_at, handed_in, past_after_hand}
use Rattle.pgs_exchange.specs.declared.scan_result.ScanResult.{ScanResult}
use Rattle.pgs_shard.specs.declared.scan_answer.ScanAnswer.{ScanAnswer}
use Rattle.pgs_shard.specs.declared.scan_answer.ScanAnswer.TheVariants as answers
use Rattle.pgs_shards.specs.Devices.{fails}
use Rattle.pgs_shards.specs.Members.{Member}
use Rattle.pgs_shards.specs.Scans.{next_position, listed, list_step, failed_step, read_fails, read_step, step_at, step_of, scan_answer, after_answer}
use Rattle.pgs_shards.proofs.Called.{count_rose}
use Rattle.pgs_shards.proofs.Next.{next_found}

-- a scan by its fields
abbrev pub scan_with : Option Ask → Phase → Option ObjectId → Option ObjCopy → ℕ → List Entry → Scanning
scan_with ask phase last copy steps entries = record { ask = ask; phase = phase; last = last; copy = copy; steps = steps; entries = entries }

-- ---- each answer comes where it is due

-- a listing of the scan of an ask failed, and the device counts one fault more
abbrev pub IsListFault : Option Ask → Scanning → Member → ℕ → Type 0
IsListFault ask s m count = IsListFailing ask s m.past count × (fails kinds.List m.device ≡ true) × (count ≡ one_more m.device.faults)

-- an answer of a step of a scan
abbrev pub IsAnswerOf : ℕ → Option Ask → Scanning → Member → ScanAnswer → Type 0
IsAnswerOf stride ask s m answers.Idle = IsIdle ask s
IsAnswerOf stride ask s m (answers.NotYet count needed) = IsEarly ask s count needed × (count ≡ applied m.past)
IsAnswerOf stride ask s m (answers.Found id) = IsListing ask s m.past (Some id)
IsAnswerOf stride ask s m answers.More = IsGoingOn stride s s.copy
IsAnswerOf stride ask s m (answers.Passed id mark) = IsPassing stride s s.copy id mark
IsAnswerOf stride ask s m answers.Done = IsListing ask s m.past None
IsAnswerOf stride ask s m (answers.ListFault count) = IsListFault ask s m count

-- the count of the member's device is no less than each that was kept
pub record IsCounting (m : Member) : Type 0 where
  pub counted : last_count m.past ≤ m.device.faults
  pub bounded : m.device.faults ≤ LAST_COUNT

is_next : (ask : Ask) (last : Option ObjectId) (past : List Event) → IsNext (is_stored (stored_by past)) (cursor_of ask last) ask.range.to (next_position ask last past)
is_next ask last past = next_found (is_stored (stored_by past)) (cursor_of ask last) ask.range.to (positions past) (are_positions past)

-- the next position is found, or none is left
found_due : (stride : ℕ) (ask : Ask) (s : Scanning) (m : Member) (next : Option ObjectId) → IsListing (Some ask) s m.past next → IsAnswerOf stride (Some ask) s m (listed next)
found_due stride ask s m None is = is
found_due stride ask s m (Some id) is = is

-- a step that lists, where it may
list_due : (stride : ℕ) (ask : Ask) (s : Scanning) (m : Member) → IsCounting m → MayList s.phase ask (applied m.past) → IsAnswerOf stride (Some ask) s m (list_step ask s m)
list_due stride ask s m counting may =
    let P : Bool → Type 0 = λ v. fails kinds.List m.device ≡ v
    → IsAnswerOf stride (Some ask) s m (cond v (answers.ListFault (one_more m.device.faults)) (listed (next_position ask s.last m.past))) in
    (elim (fails kinds.List m.device) as P [
      | true ↦ λ f. ((may, count_rose (last_count m.past) m.device.faults counting.counted counting.bounded), f, refl)
      | false ↦ λ fine. found_due stride ask s m (next_position ask s.last m.past) (may, is_next ask s.last m.past)
    ]) refl

-- a scan that waits begins once the item that its ask needs is applied
waiting_due : (stride : ℕ) (ask : Ask) (last : Option ObjectId) (copy : Option ObjCopy) (steps : ℕ) (entries : List Entry) (m : Member) → IsCounting m
    → IsAnswerOf stride (Some ask) (scan_with (Some ask) Waiting last copy steps entries) m (step_at stride Waiting ask (scan_with (Some ask) Waiting last copy steps entries) m)
waiting_due stride ask last copy steps entries m counting =
    let s : Scanning = scan_with (Some ask) Waiting last copy steps entries in
    let P : Bool → Type 0 = λ v. nat_lt (applied m.past) ask.needed ≡ v → IsAnswerOf stride (Some ask) s m (cond v (answers.NotYet (applied m.past) ask.needed) (list_step ask s m)) in
    (elim (nat_lt (applied m.past) ask.needed) as P [
      | true ↦ λ less. ((refl, refl, grind (arith, nat_tests, less)), refl)
      | false ↦ λ enough. list_due stride ask s m counting (grind (arith, nat_tests, enough))
    ]) refl

-- more than the first step of a copy is made in a deep scrub alone
deep_so : (deep : Bool) (steps parts : ℕ) → suc steps ≤ cond deep parts 0 → deep ≡ true
deep_so true steps parts h = refl
deep_so false steps parts h = absurd (omega (arith, h))

-- a step at which the device fails
failed_due : (stride : ℕ) (ask : Ask) (id : ObjectId) (copy : ObjCopy) (steps : ℕ) (entries : List Entry) (m : Member) → steps ≤ steps_left_open ask.deep stride copy
    → IsAnswerOf stride (Some ask) (scan_with (Some ask) Reading (Some id) (Some copy) steps entries) m (failed_step steps id)
failed_due stride ask id copy zero entries m within = (refl, refl, refl)
failed_due stride ask id copy (suc steps) entries m within = (refl, refl, (deep_so ask.deep steps (strides stride copy + pages copy) within, omega arith))

-- a copy that is read
reading_by : (stride : ℕ) (ask : Ask) (id : ObjectId) (copy : ObjCopy) (steps : ℕ) (entries : List Entry) (m : Member) → steps ≤ steps_left_open ask.deep stride copy
    → IsAnswerOf stride (Some ask) (scan_with (Some ask) Reading (Some id) (Some copy) steps entries) m
    (read_step stride ask (scan_with (Some ask) Reading (Some id) (Some copy) steps entries) (Some id) (Some copy) m.device)
reading_by stride ask id copy steps entries m within =
    let left : ℕ = steps_left_open ask.deep stride copy in
    let s : Scanning = scan_with (Some ask) Reading (Some id) (Some copy) steps entries in
    let P : Bool → Type 0 = λ v. nat_lt steps left ≡ v → IsAnswerOf stride (Some ask) s m (cond v answers.More (answers.Passed id marks.Fine)) in
    let fine : IsAnswerOf stride (Some ask) s m (cond (nat_lt steps left) answers.More (answers.Passed id marks.Fine)) =
    (elim (nat_lt steps left) as P [
      | true ↦ λ less. (refl, grind (arith, nat_tests, less))
      | false ↦ λ all. (refl, refl, grind (arith, nat_tests, all, within))
    ]) refl in
    (elim (read_fails stride steps copy m.device) as (λ v. IsAnswerOf stride (Some ask) s m (cond v (failed_step steps id) (cond (nat_lt steps left) answers.More (answers.Passed id marks.Fine)))) [
      | true ↦ failed_due stride ask id copy steps entries m within
      | false ↦ fine
    ])

reading_due : (stride : ℕ) (ask : Ask) (last : Option ObjectId) (copy : Option ObjCopy) (steps : ℕ) (entries : List Entry) (m : Member)
    → IsReading stride ask (scan_with (Some ask) Reading last copy steps entries) (applied m.past) (stored_by m.past)
    → IsAnswerOf stride (Some ask) (scan_with (Some ask) Reading last copy steps entries) m
    (read_step stride ask (scan_with (Some ask) Reading last copy steps entries) last copy m.device)
reading_due stride ask None copy steps entries m h = absurd (none_some h.id h.last)
reading_due stride ask (Some id) None steps entries m h = absurd (none_some h.copy h.found)
reading_due stride ask (Some id) (Some copy) steps entries m h =
    reading_by stride ask id copy steps entries m (subst (λ c. steps ≤ steps_left_open ask.deep stride c) (sym (some_same copy h.copy h.found)) h.steps)

step_due : (stride : ℕ) (ask : Option Ask) (phase : Phase) (last : Option ObjectId) (copy : Option ObjCopy) (steps : ℕ) (entries : List Entry) (m : Member) → IsCounting m
    → IsSoundScan stride ask (scan_with ask phase last copy steps entries) (applied m.past) (stored_by m.past)
    → IsAnswerOf stride ask (scan_with ask phase last copy steps entries) m (step_of stride ask (scan_with ask phase last copy steps entries) m)
step_due stride None phase last copy steps entries m counting h = tt
step_due stride (Some ask) Waiting last copy steps entries m counting h = waiting_due stride ask last copy steps entries m counting
step_due stride (Some ask) Between last copy steps entries m counting h = list_due stride ask (scan_with (Some ask) Between last copy steps entries) m counting tt
step_due stride (Some ask) Reading last copy steps entries m counting h = reading_due stride ask last copy steps entries m h
step_due stride (Some ask) (Mapped place then) last copy steps entries m counting h = tt
step_due stride (Some ask) (Failed place then count) last copy steps entries m counting h = tt
step_due stride (Some ask) Over last copy steps entries m counting h = tt

pub answer_due : (stride : ℕ) (m : Member) → IsCounting m → IsLegal stride m.past → IsAnswerOf stride (scanning m.past).ask (scanning m.past) m (scan_answer stride m)
answer_due stride m counting legal =
    let s : Scanning = scanning m.past in step_due stride s.ask s.phase s.last s.copy s.steps s.entries m counting (sound stride m.past legal)

-- ---- a step keeps a history legal

answer_legal : (stride : ℕ) (m : Member) (answer : ScanAnswer) → IsAnswerOf stride (scanning m.past).ask (scanning m.past) m answer → IsLegal stride m.past
    → IsLegal stride (after_answer answer m.past)
answer_legal stride m answers.Idle due legal = legal
answer_legal stride m (answers.NotYet count needed) due legal = legal
answer_legal stride m (answers.Found id) due legal = (due, legal)
answer_legal stride m answers.More due legal = (due, legal)
answer_legal stride m (answers.Passed id mark) due legal = (due, legal)
answer_legal stride m answers.Done due legal = (due, legal)
answer_legal stride m (answers.ListFault count) due legal = (due.0, legal)

pub scan_legal : (stride : ℕ) (m : Member) → IsCounting m → IsLegal stride m.past → IsLegal stride (after_answer (scan_answer stride m) m.past)
scan_legal stride m counting legal = answer_legal stride m (scan_answer stride m) (answer_due stride m counting legal) legal

-- ---- and so does the handing

-- what is handed is of a scan that ended
abbrev IsOfEnded : Phase → Option ScanResult → Type 0
IsOfEnded phase None = Unit {0}
IsOfEnded phase (Some deposit) = HasEnded phase

handed_ended : (osd : ℕ) (phase : Phase) (ask : Ask) (entries : List Entry) → IsOfEnded phase (handed_at osd phase ask entries)
handed_ended osd Waiting ask entries = tt
handed_ended osd Between ask entries = tt
handed_ended osd Reading ask entries = tt
handed_ended osd (Mapped place count) ask entries = tt
handed_ended osd (Failed place count faults) ask entries = tt
handed_ended osd Over ask entries = tt

handed_of : (osd : ℕ) (ask : Option Ask) (phase : Phase) (last : Option ObjectId) (copy : Option ObjCopy) (steps : ℕ) (entries : List Entry)
    → IsOfEnded phase (handed_in osd (scan_with ask phase last copy steps entries))
handed_of osd None phase last copy steps entries = tt
handed_of osd (Some ask) phase last copy steps entries = handed_ended osd phase ask entries

deposit_legal : (stride : ℕ) (past : List Event) (deposit : Option ScanResult) → IsOfEnded (scanning past).phase deposit → IsLegal stride past → IsLegal stride (past_after_hand deposit past)
deposit_legal stride past None ended legal = legal
deposit_legal stride past (Some deposit) ended legal = (ended, legal)

pub hand_legal : (stride osd : ℕ) (past : List Event) → IsLegal stride past → IsLegal stride (past_after_hand (handed_in osd (scanning past)) past)
hand_legal stride osd past legal =
    let s : Scanning = scanning past in
    deposit_legal stride past (handed_in osd s) (handed_of osd s.ask s.phase s.last s.copy s.steps s.entries) legal
