-- A step of a scan over a device whose failing calls are told answers what is defined, and leaves it.
use Rattle.std.proofs.Common.{◌≡◌, ℕ, zero, suc, ◌<◌, ◌≤◌, nat_lt, Bool, true, false, cond, List, Option, Some, None, IfOk, OnOk, OnErr, Result, Ok, Err, refl, sym, ap, ◌∙◌, subst, arith}
use Rattle.std.proofs.lemmas.Bool.Decides.{nat_tests}
use Rattle.pgs_bytes.proofs.Facts.{none_some}
use Rattle.pgs_name.specs.declared.object_id.ObjectId.{ObjectId}
use Rattle.pgs_chunk.specs.declared.ask.Ask.{Ask}
use Rattle.pgs_copy.specs.declared.obj_copy.ObjCopy.{ObjCopy}
use Rattle.pgs_map.specs.declared.entry.Entry.{Entry}
use Rattle.pgs_medium.specs.Calls.{one_more}
use Rattle.pgs_medium.specs.Device.{Device}
use Rattle.pgs_medium.specs.Ram.{device_of}
use Rattle.pgs_medium.specs.declared.call_kind.CallKind.TheVariants as kinds
use Rattle.pgs_medium.specs.declared.ram_medium.RamMedium.{RamMedium}
use Rattle.pgs_scan.specs.Reads.{steps_left_open}
use Rattle.pgs_scan.specs.declared.mark.Mark.TheVariants as marks
use Rattle.pgs_store.specs.Stores.{Stored, is_stored}
use Rattle.pgs_shard_history.specs.Legal.{IsLegal, MayList, IsListing, IsListFailing, IsGoingOn, IsPassing}
use Rattle.pgs_shard_history.specs.Positions.{positions}
use Rattle.pgs_shard_history.specs.Scanning.{Scanning, scanning, cursor_of}
use Rattle.pgs_shard_history.specs.Scans.{IsReading, IsAt, IsSoundScan}
use Rattle.pgs_shard_history.specs.Stores.{applied, stored_by}
use Rattle.pgs_shard_history.specs.declared.event.Event.{Event}
use Rattle.pgs_shard_history.specs.declared.phase.Phase.{Phase}
use Rattle.pgs_shard_history.specs.declared.phase.Phase.TheVariants.{Waiting, Between, Reading, Mapped, Failed, Over}
use Rattle.pgs_shard_history.proofs.Positions.{are_positions}
use Rattle.pgs_shard_history.proofs.Scans.{sound}
use Rattle.pgs_shard.specs.Scans.{IsIdleIn, IsIdle, IsEarly, IsScanAnswer, IsReadCall, IsScanCall, IsScanLeft, past_after_scan}
use Rattle.pgs_shard.specs.State.{ShardState}
use Rattle.pgs_shard.specs.declared.scan_answer.ScanAnswer.{ScanAnswer}
use Rattle.pgs_shard.specs.declared.scan_answer.ScanAnswer.TheVariants as answers
use Rattle.pgs_shards.specs.Devices.{DeviceCalls, calls_seen, fails}
use Rattle.pgs_shards.specs.Kept.{seen, IsMemberCalledOn}
use Rattle.pgs_shards.specs.Members.{Member}
use Rattle.pgs_shards.specs.Scans.{next_position, listed, list_step, failed_step, read_fails, step_at, step_of, scan_answer, after_answer, device_after, after_scan}
use Rattle.pgs_shards.proofs.Called.{IsKnown, called_is, failed_is, read_answer, read_left}
use Rattle.pgs_shards.proofs.Next.{found_next}
use Rattle.pgs_shards.proofs.Scans.{scan_with}

abbrev Shard : Type 0
Shard = ShardState RamMedium

-- ---- each answer is the one that is defined

less : (a b : ℕ) → a < b → nat_lt a b ≡ true
less a b h = grind (arith, nat_tests)

not_less : (a b : ℕ) → b ≤ a → nat_lt a b ≡ false
not_less a b h = grind (arith, nat_tests)

idle_at : (stride : ℕ) (phase : Phase) (ask : Ask) (s : Scanning) (m : Member) → IsIdleIn phase → answers.Idle ≡ step_at stride phase ask s m
idle_at stride Waiting ask s m h = absurd h
idle_at stride Between ask s m h = absurd h
idle_at stride Reading ask s m h = absurd h
idle_at stride (Mapped place count) ask s m h = refl
idle_at stride (Failed place count faults) ask s m h = refl
idle_at stride Over ask s m h = refl

idle_is : (stride : ℕ) (ask : Option Ask) (s : Scanning) (m : Member) → IsIdle ask s → answers.Idle ≡ step_of stride ask s m
idle_is stride None s m h = refl
idle_is stride (Some ask) s m h = idle_at stride s.phase ask s m h

early_is : (stride : ℕ) (ask : Option Ask) (s : Scanning) (m : Member) (count needed : ℕ) → IsEarly ask s count needed → count ≡ applied m.past
    → answers.NotYet count needed ≡ step_of stride ask s m
early_is stride None s m count needed h is = absurd h
early_is stride (Some ask) s m count needed h is =
    let early : applied m.past < ask.needed = subst (λ n. n < ask.needed) is (subst (λ n. count < n) h.1 h.2) in
    (λ i. answers.NotYet (is i) (h.1 i))
    ∙ sym (ap (λ v. cond v (answers.NotYet (applied m.past) ask.needed) (list_step ask s m)) (less (applied m.past) ask.needed early))
    ∙ sym (ap (λ p. step_at stride p ask s m) h.0)

-- a step that lists, by where the scan is
lists_at : (stride : ℕ) (phase : Phase) (ask : Ask) (s : Scanning) (m : Member) (answer : ScanAnswer) → MayList phase ask (applied m.past) → list_step ask s m ≡ answer
    → answer ≡ step_at stride phase ask s m
lists_at stride Waiting ask s m answer may is =
    sym is ∙ sym (ap (λ v. cond v (answers.NotYet (applied m.past) ask.needed) (list_step ask s m)) (not_less (applied m.past) ask.needed may))
lists_at stride Between ask s m answer may is = sym is
lists_at stride Reading ask s m answer may is = absurd may
lists_at stride (Mapped place count) ask s m answer may is = absurd may
lists_at stride (Failed place count faults) ask s m answer may is = absurd may
lists_at stride Over ask s m answer may is = absurd may

list_is : (stride : ℕ) (ask : Option Ask) (s : Scanning) (m : Member) (next : Option ObjectId) → IsListing ask s m.past next → fails kinds.List m.device ≡ false
    → listed next ≡ step_of stride ask s m
list_is stride None s m next h fine = absurd h
list_is stride (Some ask) s m next h fine =
    let is : next_position ask s.last m.past ≡ next =
    found_next (is_stored (stored_by m.past)) (cursor_of ask s.last) ask.range.to (positions m.past) next (are_positions m.past) h.1 in
    lists_at stride s.phase ask s m (listed next) h.0
    (ap (λ v. cond v (answers.ListFault (one_more m.device.faults)) (listed (next_position ask s.last m.past))) fine ∙ ap listed is)

fault_is : (stride : ℕ) (ask : Option Ask) (s : Scanning) (m : Member) (count : ℕ) → IsListFailing ask s m.past count → fails kinds.List m.device ≡ true → count ≡ one_more m.device.faults
    → answers.ListFault count ≡ step_of stride ask s m
fault_is stride None s m count h f is = absurd h
fault_is stride (Some ask) s m count h f is =
    lists_at stride s.phase ask s m (answers.ListFault count) h.0
    (ap (λ v. cond v (answers.ListFault (one_more m.device.faults)) (listed (next_position ask s.last m.past))) f ∙ ap answers.ListFault (sym is))

-- without an ask nothing is read
unread : (phase : Phase) → phase ≡ Waiting → phase ≡ Reading → ⊥
unread phase w r = waits (sym w ∙ r)
  where
    waits : Waiting ≡ Reading → ⊥
    waits e = cc

-- whether a step within a copy fails, if there is one
abbrev ReadsAs : ℕ → ℕ → Option ObjCopy → Bool → DeviceCalls → Type 0
ReadsAs stride steps None v device = Unit {0}
ReadsAs stride steps (Some copy) v device = read_fails stride steps copy device ≡ v

reads_as : (stride steps : ℕ) (copy : Option ObjCopy) (v : Bool) (old new : Device) → IsKnown old → IsReadCall stride steps copy v old new → ReadsAs stride steps copy v (calls_seen old)
reads_as stride steps None v old new known call = tt
reads_as stride steps (Some copy) v old new known call = read_answer stride steps copy v old new known call

-- a step within a copy, by whether it fails
read_by : (stride : ℕ) (ask : Ask) (id : ObjectId) (copy : ObjCopy) (steps : ℕ) (entries : List Entry) (phase : Phase) (m : Member) (answer : ScanAnswer) (v : Bool)
    → read_fails stride steps copy m.device ≡ v → cond v (failed_step steps id) (cond (nat_lt steps (steps_left_open ask.deep stride copy)) answers.More (answers.Passed id marks.Fine)) ≡ answer
    → phase ≡ Reading → answer ≡ step_at stride phase ask (scan_with (Some ask) phase (Some id) (Some copy) steps entries) m
read_by stride ask id copy steps entries phase m answer v f is reading =
    sym is
    ∙ sym (ap (λ b. cond b (failed_step steps id) (cond (nat_lt steps (steps_left_open ask.deep stride copy)) answers.More (answers.Passed id marks.Fine))) f)
    ∙ sym (ap (λ p. step_at stride p ask (scan_with (Some ask) phase (Some id) (Some copy) steps entries) m) reading)

more_is : (stride : ℕ) (ask : Option Ask) (phase : Phase) (last : Option ObjectId) (copy : Option ObjCopy) (steps : ℕ) (entries : List Entry) (m : Member) (count : ℕ) (stored : Stored)
    → IsSoundScan stride ask (scan_with ask phase last copy steps entries) count stored → IsGoingOn stride (scan_with ask phase last copy steps entries) copy
    → ReadsAs stride steps copy false m.device → answers.More ≡ step_of stride ask (scan_with ask phase last copy steps entries) m
more_is stride ask phase last None steps entries m count stored h due call = absurd due
more_is stride None phase last (Some copy) steps entries m count stored h due call = absurd (unread phase (ap (λ (s : Scanning). s.phase) h) due.0)
more_is stride (Some ask) phase None (Some copy) steps entries m count stored h due call =
    let at : IsReading stride ask (scan_with (Some ask) phase None (Some copy) steps entries) count stored =
    subst (λ p. IsAt stride p ask (scan_with (Some ask) phase None (Some copy) steps entries) count stored) due.0 h in
    absurd (none_some at.id at.last)
more_is stride (Some ask) phase (Some id) (Some copy) steps entries m count stored h due call =
    read_by stride ask id copy steps entries phase m answers.More false call
    (ap (λ v. cond v answers.More (answers.Passed id marks.Fine)) (less steps (steps_left_open ask.deep stride copy) due.1)) due.0

-- a copy that was passed, where the answer of its last step is known
passed_by : (stride : ℕ) (ask : Ask) (id : ObjectId) (last : Option ObjectId) (copy : ObjCopy) (steps : ℕ) (entries : List Entry) (phase : Phase) (m : Member) (answer : ScanAnswer) (v : Bool)
    → read_fails stride steps copy m.device ≡ v → cond v (failed_step steps id) (cond (nat_lt steps (steps_left_open ask.deep stride copy)) answers.More (answers.Passed id marks.Fine)) ≡ answer
    → phase ≡ Reading → last ≡ Some id → answer ≡ step_at stride phase ask (scan_with (Some ask) phase last (Some copy) steps entries) m
passed_by stride ask id last copy steps entries phase m answer v f is reading there =
    read_by stride ask id copy steps entries phase m answer v f is reading
    ∙ sym (ap (λ l. step_at stride phase ask (scan_with (Some ask) phase l (Some copy) steps entries) m) there)

passed_is : (stride : ℕ) (ask : Option Ask) (phase : Phase) (last : Option ObjectId) (copy : Option ObjCopy) (steps : ℕ) (entries : List Entry) (m : Member) (id : ObjectId) (count : ℕ)
    (stored : Stored) → IsSoundScan stride ask (scan_with ask phase last copy steps entries) count stored
    → IsPassing stride (scan_with ask phase last copy steps entries) copy id marks.Fine
    → ReadsAs stride steps copy false m.device → answers.Passed id marks.Fine ≡ step_of stride ask (scan_with ask phase last copy steps entries) m
passed_is stride ask phase last None steps entries m id count stored h due call = absurd due
passed_is stride None phase last (Some copy) steps entries m id count stored h due call = absurd (unread phase (ap (λ (s : Scanning). s.phase) h) due.0)
passed_is stride (Some ask) phase last (Some copy) steps entries m id count stored h due call =
    passed_by stride ask id last copy steps entries phase m (answers.Passed id marks.Fine) false call
    (ap (λ v. cond v answers.More (answers.Passed id marks.Fine)) (not_less steps (steps_left_open ask.deep stride copy) (all steps (steps_left_open ask.deep stride copy) due.2))) due.0 due.1
  where
    all : (m n : ℕ) → m ≡ n → n ≤ m
    all m n e = omega (arith, e)

stat_is : (stride : ℕ) (ask : Option Ask) (phase : Phase) (last : Option ObjectId) (copy : Option ObjCopy) (steps : ℕ) (entries : List Entry) (m : Member) (id : ObjectId) (count : ℕ)
    (stored : Stored) → IsSoundScan stride ask (scan_with ask phase last copy steps entries) count stored
    → IsPassing stride (scan_with ask phase last copy steps entries) copy id marks.StatError
    → ReadsAs stride steps copy true m.device → answers.Passed id marks.StatError ≡ step_of stride ask (scan_with ask phase last copy steps entries) m
stat_is stride ask phase last None steps entries m id count stored h due call = absurd due
stat_is stride None phase last (Some copy) steps entries m id count stored h due call = absurd (unread phase (ap (λ (s : Scanning). s.phase) h) due.0)
stat_is stride (Some ask) phase last (Some copy) steps entries m id count stored h due call =
    passed_by stride ask id last copy steps entries phase m (answers.Passed id marks.StatError) true call
    (ap (λ n. failed_step n id) due.2) due.0 due.1

half_read_is : (stride : ℕ) (ask : Option Ask) (phase : Phase) (last : Option ObjectId) (copy : Option ObjCopy) (steps : ℕ) (entries : List Entry) (m : Member) (id : ObjectId) (count : ℕ)
    (stored : Stored) → IsSoundScan stride ask (scan_with ask phase last copy steps entries) count stored
    → IsPassing stride (scan_with ask phase last copy steps entries) copy id marks.ReadError
    → ReadsAs stride steps copy true m.device → answers.Passed id marks.ReadError ≡ step_of stride ask (scan_with ask phase last copy steps entries) m
half_read_is stride ask phase last None steps entries m id count stored h due call = absurd due
half_read_is stride None phase last (Some copy) steps entries m id count stored h due call = absurd (unread phase (ap (λ (s : Scanning). s.phase) h) due.0)
half_read_is stride (Some ask) phase last (Some copy) zero entries m id count stored h due call = absurd (none due.2.1)
  where
    none : 1 ≤ 0 → ⊥
    none e = omega (arith, e)
half_read_is stride (Some ask) phase last (Some copy) (suc steps) entries m id count stored h due call =
    passed_by stride ask id last copy (suc steps) entries phase m (answers.Passed id marks.ReadError) true call
    refl due.0 due.1

-- a member over a device
abbrev member : ℕ → List Event → Device → Member
member osd past device = record { osd = osd; past = past; device = calls_seen device }

answer_is : (stride osd : ℕ) (past : List Event) (old new : Device) (answer : ScanAnswer) → IsLegal stride past → IsKnown old → IsScanAnswer stride past answer
    → IsScanCall stride (scanning past) answer old new → answer ≡ scan_answer stride (member osd past old)
answer_is stride osd past old new answers.Idle legal known is call = idle_is stride (scanning past).ask (scanning past) (member osd past old) is
answer_is stride osd past old new (answers.NotYet count needed) legal known is call =
    early_is stride (scanning past).ask (scanning past) (member osd past old) count needed is.0 is.1
answer_is stride osd past old new (answers.Found id) legal known is call =
    list_is stride (scanning past).ask (scanning past) (member osd past old) (Some id) is (called_is kinds.List false old new known call).0
answer_is stride osd past old new answers.More legal known is call =
    let s : Scanning = scanning past in
    more_is stride s.ask s.phase s.last s.copy s.steps s.entries (member osd past old) (applied past) (stored_by past) (sound stride past legal) is
    (reads_as stride s.steps s.copy false old new known call)
answer_is stride osd past old new (answers.Passed id marks.Fine) legal known is call =
    let s : Scanning = scanning past in
    passed_is stride s.ask s.phase s.last s.copy s.steps s.entries (member osd past old) id (applied past) (stored_by past) (sound stride past legal) is
    (reads_as stride s.steps s.copy false old new known call)
answer_is stride osd past old new (answers.Passed id marks.StatError) legal known is call =
    let s : Scanning = scanning past in
    stat_is stride s.ask s.phase s.last s.copy s.steps s.entries (member osd past old) id (applied past) (stored_by past) (sound stride past legal) is
    (reads_as stride s.steps s.copy true old new known call)
answer_is stride osd past old new (answers.Passed id marks.ReadError) legal known is call =
    let s : Scanning = scanning past in
    half_read_is stride s.ask s.phase s.last s.copy s.steps s.entries (member osd past old) id (applied past) (stored_by past) (sound stride past legal) is
    (reads_as stride s.steps s.copy true old new known call)
answer_is stride osd past old new answers.Done legal known is call =
    list_is stride (scanning past).ask (scanning past) (member osd past old) None is (called_is kinds.List false old new known call).0
answer_is stride osd past old new (answers.ListFault count) legal known is call =
    let failed = failed_is kinds.List old new known call.0 in
    fault_is stride (scanning past).ask (scanning past) (member osd past old) count is failed.0 (call.1 ∙ failed.2)

-- ---- the device after it

device_is : (stride : ℕ) (s : Scanning) (answer : ScanAnswer) (old new : Device) → IsKnown old → IsScanCall stride s answer old new
    → calls_seen new ≡ device_after stride answer s (calls_seen old)
device_is stride s answers.Idle old new known call = ap calls_seen call
device_is stride s (answers.NotYet count needed) old new known call = ap calls_seen call
device_is stride s (answers.Found id) old new known call = (called_is kinds.List false old new known call).1
device_is stride s answers.More old new known call = read_left stride s.steps s.copy false old new known call
device_is stride s (answers.Passed id marks.Fine) old new known call = read_left stride s.steps s.copy false old new known call
device_is stride s (answers.Passed id marks.StatError) old new known call = read_left stride s.steps s.copy true old new known call
device_is stride s (answers.Passed id marks.ReadError) old new known call = read_left stride s.steps s.copy true old new known call
device_is stride s answers.Done old new known call = (called_is kinds.List false old new known call).1
device_is stride s (answers.ListFault count) old new known call = (called_is kinds.List true old new known call.0).1

-- ---- what a step of a shard in memory tells and leaves

kept_as : (E : Type 0) (answer : ScanAnswer) (past : List Event) → past_after_scan {E = E} (Ok answer) past ≡ after_answer answer past
kept_as E answers.Idle past = refl
kept_as E (answers.NotYet count needed) past = refl
kept_as E (answers.Found id) past = refl
kept_as E answers.More past = refl
kept_as E (answers.Passed id mark) past = refl
kept_as E answers.Done past = refl
kept_as E (answers.ListFault count) past = refl

known : (shard : Shard) → IsKnown (device_of shard.medium)
known shard = (shard.medium.failing, refl)

pub scan_told : {E : Type 0} (old new : Shard) (result : Result ScanAnswer E) → IsLegal old.stride old.past
    → IfOk result (λ answer. IsScanAnswer old.stride old.past answer) → IsScanLeft old.stride (scanning old.past) (device_of old.medium) result (device_of new.medium)
    → IfOk result (λ answer. answer ≡ scan_answer old.stride (seen old))
scan_told old new (Ok answer) legal is left = answer_is old.stride old.osd old.past (device_of old.medium) (device_of new.medium) answer legal (known old) is left
scan_told old new (Err error) legal is left = tt

pub scan_kept : {E : Type 0} (old new : Shard) (result : Result ScanAnswer E) → IsLegal old.stride old.past
    → IfOk result (λ answer. IsScanAnswer old.stride old.past answer) → IsScanLeft old.stride (scanning old.past) (device_of old.medium) result (device_of new.medium)
    → new.past ≡ past_after_scan result old.past → new.osd ≡ old.osd → OnOk result (seen new ≡ after_scan old.stride (seen old))
scan_kept {E} old new (Ok answer) legal is left kept o =
    let told : answer ≡ scan_answer old.stride (seen old) = answer_is old.stride old.osd old.past (device_of old.medium) (device_of new.medium) answer legal (known old) is left in
    let past : new.past ≡ after_answer answer old.past = kept ∙ kept_as E answer old.past in
    let device : calls_seen (device_of new.medium) ≡ device_after old.stride answer (scanning old.past) (calls_seen (device_of old.medium)) =
    device_is old.stride (scanning old.past) answer (device_of old.medium) (device_of new.medium) (known old) left in
    (λ i. record { osd = o i; past = past i; device = device i })
    ∙ (λ i. record { osd = old.osd; past = after_answer (told i) old.past; device = device_after old.stride (told i) (scanning old.past) (calls_seen (device_of old.medium)) })
scan_kept old new (Err error) legal is left kept o = tt

pub scan_lost : {E : Type 0} (old new : Shard) (result : Result ScanAnswer E)
    → IsScanLeft old.stride (scanning old.past) (device_of old.medium) result (device_of new.medium)
    → new.past ≡ past_after_scan result old.past → new.osd ≡ old.osd → OnErr result (IsMemberCalledOn (seen old) (seen new))
scan_lost old new (Ok answer) left kept o = tt
scan_lost old new (Err error) left kept o = record { osd = o; past = kept; device = record { failing = left.failing; faults = left.faults } }

pub ruleset scans = (scan_told, scan_kept, scan_lost)
