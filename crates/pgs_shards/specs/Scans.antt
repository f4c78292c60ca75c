-- What a small step of a member's scan comes to, and what it hands.
use Rattle.std.specs.Prelude.{ℕ, zero, suc, ◌||◌, Bool, nat_lt, List, ◌∷◌, Option, Some, None, find, if◌then◌else◌}
use Rattle.pgs_name.specs.declared.object_id.ObjectId.{ObjectId}
use Rattle.pgs_range.specs.Listed.{is_ahead}
use Rattle.pgs_chunk.specs.declared.ask.Ask.{Ask}
use Rattle.pgs_copy.specs.declared.obj_copy.ObjCopy.{ObjCopy}
use Rattle.pgs_medium.specs.Calls.{one_more}
use Rattle.pgs_medium.specs.declared.call_kind.CallKind.TheVariants as kinds
use Rattle.pgs_scan.specs.Calls.{kind_of}
use Rattle.pgs_scan.specs.Reads.{read_after, steps_left_open}
use Rattle.pgs_scan.specs.declared.mark.Mark.TheVariants.{Fine, StatError, ReadError}
use Rattle.pgs_shard_history.specs.Positions.{positions}
use Rattle.pgs_shard_history.specs.Scanning.{Scanning, scanning, cursor_of}
use Rattle.pgs_shard_history.specs.Stores.{applied}
use Rattle.pgs_shard_history.specs.declared.event.Event.{Event}
use Rattle.pgs_shard_history.specs.declared.event.Event.TheVariants.{Scanned}
use Rattle.pgs_shard_history.specs.declared.phase.Phase.{Phase}
use Rattle.pgs_shard_history.specs.declared.phase.Phase.TheVariants as phases
use Rattle.pgs_shard_history.specs.declared.scan_event.ScanEvent.TheVariants as events
use Rattle.pgs_shard.specs.Scans.{handed_in, past_after_hand}
use Rattle.pgs_exchange.specs.declared.scan_result.ScanResult.{ScanResult}
use Rattle.pgs_shard.specs.declared.scan_answer.ScanAnswer.{ScanAnswer}
use Rattle.pgs_shard.specs.declared.scan_answer.ScanAnswer.TheVariants as answers
use Rattle.pgs_shards.specs.Devices.{DeviceCalls, fails, called}
use Rattle.pgs_shards.specs.Members.{Member, of_member, with_member}

-- ---- calls

-- the first step of a copy makes two calls, the second also where the first fails
abbrev pub stat_fails : DeviceCalls → Bool
stat_fails device = fails kinds.Stat device || fails kinds.Attrs (called kinds.Stat device)

abbrev pub stat_called : DeviceCalls → DeviceCalls
stat_called device = called kinds.Attrs (called kinds.Stat device)

-- whether the step of a copy fails of which so many steps were made, and the device after it
abbrev pub read_fails : ℕ → ℕ → ObjCopy → DeviceCalls → Bool
read_fails stride zero copy device = stat_fails device
read_fails stride (suc steps) copy device = fails (kind_of (read_after stride (suc steps) copy)) device

abbrev pub read_called : ℕ → ℕ → ObjCopy → DeviceCalls → DeviceCalls
read_called stride zero copy device = stat_called device
read_called stride (suc steps) copy device = called (kind_of (read_after stride (suc steps) copy)) device

-- ---- a step of a scan

-- the first position that is stored, of the families of an ask, behind the one found last
abbrev pub next_position : Ask → Option ObjectId → List Event → Option ObjectId
next_position ask last past = find (is_ahead (cursor_of ask last) ask.range.to) (positions past)

abbrev pub listed : Option ObjectId → ScanAnswer
listed None = answers.Done
listed (Some id) = answers.Found id

-- a step that lists
abbrev pub list_step : Ask → Scanning → Member → ScanAnswer
list_step ask s member = if fails kinds.List member.device then answers.ListFault (one_more member.device.faults) else listed (next_position ask s.last member.past)

-- the mark of a position at which a step failed: the first of a copy's steps tells its size and attributes
abbrev pub failed_step : ℕ → ObjectId → ScanAnswer
failed_step zero id = answers.Passed id StatError
failed_step (suc steps) id = answers.Passed id ReadError

-- a step within the copy of the position found last: it fails, more is left of the copy, or it was read whole
abbrev pub read_step : ℕ → Ask → Scanning → Option ObjectId → Option ObjCopy → DeviceCalls → ScanAnswer
read_step stride ask s (Some id) (Some copy) device =
    if read_fails stride s.steps copy device
    then failed_step s.steps id
    else (if nat_lt s.steps (steps_left_open ask.deep stride copy) then answers.More else answers.Passed id Fine)
read_step stride ask s last copy device = answers.Idle

-- by where the scan of an ask is
abbrev pub step_at : ℕ → Phase → Ask → Scanning → Member → ScanAnswer
step_at stride phases.Waiting ask s member = if nat_lt (applied member.past) ask.needed then answers.NotYet (applied member.past) ask.needed else list_step ask s member
step_at stride phases.Between ask s member = list_step ask s member
step_at stride phases.Reading ask s member = read_step stride ask s s.last s.copy member.device
step_at stride phase ask s member = answers.Idle

abbrev pub step_of : ℕ → Option Ask → Scanning → Member → ScanAnswer
step_of stride None s member = answers.Idle
step_of stride (Some ask) s member = step_at stride s.phase ask s member

-- what a step answers, of so many bytes at most
abbrev pub scan_answer : ℕ → Member → ScanAnswer
scan_answer stride member = step_of stride (scanning member.past).ask (scanning member.past) member

-- every answer but the first two is kept
abbrev pub after_answer : ScanAnswer → List Event → List Event
after_answer answers.Idle past = past
after_answer (answers.NotYet count needed) past = past
after_answer (answers.Found id) past = Scanned (events.Found id) ∷ past
after_answer answers.More past = Scanned events.More ∷ past
after_answer (answers.Passed id mark) past = Scanned (events.Passed id mark) ∷ past
after_answer answers.Done past = Scanned events.Done ∷ past
after_answer (answers.ListFault count) past = Scanned (events.ListFault count) ∷ past

-- the device after a step within a copy, if there is one
abbrev pub reading_called : ℕ → ℕ → Option ObjCopy → DeviceCalls → DeviceCalls
reading_called stride steps None device = device
reading_called stride steps (Some copy) device = read_called stride steps copy device

-- the device after a step
abbrev pub device_after : ℕ → ScanAnswer → Scanning → DeviceCalls → DeviceCalls
device_after stride answers.Idle s device = device
device_after stride (answers.NotYet count needed) s device = device
device_after stride (answers.Found id) s device = called kinds.List device
device_after stride answers.Done s device = called kinds.List device
device_after stride (answers.ListFault count) s device = called kinds.List device
device_after stride answers.More s device = reading_called stride s.steps s.copy device
device_after stride (answers.Passed id mark) s device = reading_called stride s.steps s.copy device

-- a member after a step
abbrev pub after_scan : ℕ → Member → Member
after_scan stride member = record member {
  past = after_answer (scan_answer stride member) member.past;
  device = device_after stride (scan_answer stride member) (scanning member.past) member.device;
}

-- ---- of an OSD: one that is no member has no ask

abbrev pub scan_in : ℕ → List Member → ℕ → ScanAnswer
scan_in stride members osd = of_member (scan_answer stride) answers.Idle members osd

abbrev pub with_scanned : ℕ → ℕ → List Member → List Member
with_scanned stride osd members = with_member osd (after_scan stride) members

-- ---- what its scan ended with, handed once

abbrev pub hand_answer : Member → Option ScanResult
hand_answer member = handed_in member.osd (scanning member.past)

-- a member after it
abbrev pub after_hand : Member → Member
after_hand member = record member { past = past_after_hand (hand_answer member) member.past }

abbrev pub hand_in : List Member → ℕ → Option ScanResult
hand_in members osd = of_member hand_answer None members osd

abbrev pub with_handed : ℕ → List Member → List Member
with_handed osd members = with_member osd after_hand members
