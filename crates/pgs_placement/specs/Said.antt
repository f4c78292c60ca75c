-- How lines say what a group and a shard answer.
use Rattle.std.specs.Prelude.{ℕ, ◌==◌, List, map, Option, Some, None, if◌then◌else◌}
use Rattle.pgs_lines.specs.declared.object.Object.{Object}
use Rattle.pgs_name.specs.Bounds.{kept_key}
use Rattle.pgs_name.specs.Families.{Family}
use Rattle.pgs_name.specs.declared.object_id.ObjectId.{ObjectId}
use Rattle.pgs_name.specs.declared.object_id.TheConstants.{HEAD}
use Rattle.pgs_range.specs.declared.bound.Bound.{Bound}
use Rattle.pgs_range.specs.declared.bound.Bound.TheVariants as bounds
use Rattle.pgs_range.specs.declared.family_range.FamilyRange.{FamilyRange}
use Rattle.pgs_scan.specs.declared.mark.Mark.{Mark}
use Rattle.pgs_scan.specs.declared.mark.Mark.TheVariants as marks
use Rattle.pgs_done.specs.declared.bound.Bound.{Bound as LineBound}
use Rattle.pgs_done.specs.declared.bound.Bound.TheVariants as line_bounds
use Rattle.pgs_done.specs.declared.range.Range.{Range as LineRange}
use Rattle.pgs_done.specs.declared.position.Position.{Position}
use Rattle.pgs_done.specs.declared.mark.Mark.{Mark as LineMark}
use Rattle.pgs_done.specs.declared.mark.Mark.TheVariants as line_marks
use Rattle.pgs_done.specs.declared.write_answer.WriteAnswer.{WriteAnswer as LineWrite}
use Rattle.pgs_done.specs.declared.write_answer.WriteAnswer.TheVariants as line_writes
use Rattle.pgs_done.specs.declared.collect_answer.CollectAnswer.{CollectAnswer as LineCollect}
use Rattle.pgs_done.specs.declared.collect_answer.CollectAnswer.TheVariants as line_collects
use Rattle.pgs_done.specs.declared.apply_answer.ApplyAnswer.{ApplyAnswer as LineApply}
use Rattle.pgs_done.specs.declared.apply_answer.ApplyAnswer.TheVariants as line_applies
use Rattle.pgs_done.specs.declared.damage_answer.DamageAnswer.{DamageAnswer as LineDamageAnswer}
use Rattle.pgs_done.specs.declared.damage_answer.DamageAnswer.TheVariants as line_damages
use Rattle.pgs_done.specs.declared.begin_answer.BeginAnswer.{BeginAnswer as LineBegin}
use Rattle.pgs_done.specs.declared.begin_answer.BeginAnswer.TheVariants as line_begins
use Rattle.pgs_done.specs.declared.open_answer.OpenAnswer.{OpenAnswer as LineOpen}
use Rattle.pgs_done.specs.declared.open_answer.OpenAnswer.TheVariants as line_opens
use Rattle.pgs_done.specs.declared.scan_answer.ScanAnswer.{ScanAnswer as LineScan}
use Rattle.pgs_done.specs.declared.scan_answer.ScanAnswer.TheVariants as line_scans
use Rattle.pgs_done.specs.declared.take_answer.TakeAnswer.{TakeAnswer as LineTake}
use Rattle.pgs_done.specs.declared.take_answer.TakeAnswer.TheVariants as line_takes
use Rattle.pgs_done.specs.declared.close_answer.CloseAnswer.{CloseAnswer as LineClose}
use Rattle.pgs_done.specs.declared.close_answer.CloseAnswer.TheVariants as line_closes
use Rattle.pgs_done.specs.declared.interval_answer.IntervalAnswer.{IntervalAnswer as LineInterval}
use Rattle.pgs_done.specs.declared.interval_answer.IntervalAnswer.TheVariants as line_intervals
use Rattle.pgs_done.specs.declared.claim_answer.ClaimAnswer.{ClaimAnswer as LineClaim}
use Rattle.pgs_done.specs.declared.claim_answer.ClaimAnswer.TheVariants as line_claims
use Rattle.pgs_done.specs.declared.holder.Holder.{Holder as LineHolder}
use Rattle.pgs_slots.specs.declared.holder.Holder.{Holder}
use Rattle.pgs_shards.specs.declared.apply_answer.ApplyAnswer.{ApplyAnswer}
use Rattle.pgs_shards.specs.declared.apply_answer.ApplyAnswer.TheVariants as applies
use Rattle.pgs_history.specs.declared.interval_answer.IntervalAnswer.{IntervalAnswer}
use Rattle.pgs_history.specs.declared.interval_answer.IntervalAnswer.TheVariants as intervals
use Rattle.pgs_history.specs.declared.reserve_answer.ReserveAnswer.{ReserveAnswer}
use Rattle.pgs_history.specs.declared.reserve_answer.ReserveAnswer.TheVariants as reserves
use Rattle.pgs_history.specs.declared.fault_answer.FaultAnswer.{FaultAnswer}
use Rattle.pgs_history.specs.declared.fault_answer.FaultAnswer.TheVariants as faults
use Rattle.pgs_history.specs.declared.write_answer.WriteAnswer.{WriteAnswer}
use Rattle.pgs_history.specs.declared.write_answer.WriteAnswer.TheVariants as writes
use Rattle.pgs_history.specs.declared.collect_answer.CollectAnswer.{CollectAnswer}
use Rattle.pgs_history.specs.declared.collect_answer.CollectAnswer.TheVariants as collects
use Rattle.pgs_history.specs.declared.begin_answer.BeginAnswer.{BeginAnswer}
use Rattle.pgs_history.specs.declared.begin_answer.BeginAnswer.TheVariants as begins
use Rattle.pgs_history.specs.declared.open_answer.OpenAnswer.{OpenAnswer}
use Rattle.pgs_history.specs.declared.open_answer.OpenAnswer.TheVariants as opens
use Rattle.pgs_history.specs.declared.take_answer.TakeAnswer.{TakeAnswer}
use Rattle.pgs_history.specs.declared.take_answer.TakeAnswer.TheVariants as takes
use Rattle.pgs_group.specs.declared.close_told.CloseTold.{CloseTold}
use Rattle.pgs_group.specs.declared.close_told.CloseTold.TheVariants as told
use Rattle.pgs_shard.specs.declared.scan_answer.ScanAnswer.{ScanAnswer}
use Rattle.pgs_shard.specs.declared.scan_answer.ScanAnswer.TheVariants as scans
use Rattle.pgs_shard_history.specs.declared.damage_answer.DamageAnswer.{DamageAnswer}
use Rattle.pgs_shard_history.specs.declared.damage_answer.DamageAnswer.TheVariants as damages

-- ---- names

-- a key that is the name is written as an empty one
abbrev pub object_of : Family → Object
object_of f = record { space = f.space; key = kept_key f.key f.name; name = f.name }

-- the head is no snap
abbrev pub snap_said : ℕ → Option ℕ
snap_said snap = if snap == HEAD then None else Some snap

abbrev pub position_said : ObjectId → Position
position_said id = record { object = object_of id.family; snap = snap_said id.snap }

abbrev pub bound_said : Bound → LineBound
bound_said bounds.Min = line_bounds.Min
bound_said (bounds.At family) = line_bounds.At (object_of family)
bound_said bounds.Max = line_bounds.Max

abbrev pub range_said : FamilyRange → LineRange
range_said range = record { from = bound_said range.from; to = bound_said range.to }

abbrev pub mark_said : Mark → LineMark
mark_said marks.Fine = line_marks.Fine
mark_said marks.StatError = line_marks.StatError
mark_said marks.ReadError = line_marks.ReadError

-- ---- what clients are answered

abbrev pub write_said : WriteAnswer → LineWrite
write_said (writes.Declined declined) = line_writes.Declined declined
write_said (writes.Parked range) = line_writes.Parked (range_said range)
write_said (writes.QueueFull count) = line_writes.QueueFull count
write_said (writes.Accepted version preempts) = line_writes.Accepted version preempts

abbrev pub collect_said : CollectAnswer → LineCollect
collect_said (collects.StillParked chunk) = line_collects.StillParked chunk
collect_said (collects.Refused refusal) = line_collects.Refused refusal
collect_said collects.Unknown = line_collects.Unknown
collect_said (collects.NotYet osd count) = line_collects.NotYet osd count
collect_said (collects.Acked version) = line_collects.Acked version

-- who acts
abbrev pub interval_said : IntervalAnswer → LineInterval
interval_said (intervals.LastEpoch epoch) = line_intervals.LastEpoch epoch
interval_said (intervals.NotCaughtUp osd told length) = line_intervals.NotCaughtUp osd told length
interval_said (intervals.Changed epoch ends) = line_intervals.Changed epoch ends

-- ---- what members are

abbrev pub apply_said : ApplyAnswer → LineApply
apply_said (applies.NotYet count) = line_applies.NotYet count
apply_said (applies.Applied number drops) = line_applies.Applied number drops
apply_said (applies.DeviceFault count) = line_applies.DeviceFault count

abbrev pub damage_said : DamageAnswer → LineDamageAnswer
damage_said damages.Damaged = line_damages.Damaged
damage_said damages.BeingRead = line_damages.BeingRead
damage_said (damages.ShardFull bytes) = line_damages.ShardFull bytes

abbrev pub scan_said : ScanAnswer → LineScan
scan_said scans.Idle = line_scans.Idle
scan_said (scans.NotYet count needed) = line_scans.NotYet count needed
scan_said (scans.Found id) = line_scans.Found (position_said id)
scan_said scans.More = line_scans.More
scan_said (scans.Passed id mark) = line_scans.Passed (position_said id) (mark_said mark)
scan_said scans.Done = line_scans.Done
scan_said (scans.ListFault count) = line_scans.ListFault count

-- ---- what a scrub is

abbrev pub begin_said : BeginAnswer → LineBegin
begin_said (begins.Busy serial) = line_begins.Busy serial
begin_said (begins.Began serial first) = line_begins.Began serial

abbrev pub holder_said : Holder → LineHolder
holder_said holder = record { group = holder.group; serial = holder.serial }

abbrev pub holders_said : List Holder → List LineHolder
holders_said holders = map holder_said holders

-- of a slot of an OSD that a scrub claimed
abbrev pub claim_said : ℕ → ℕ → ReserveAnswer → LineClaim
claim_said osd slot reserves.Reserved = line_claims.Reserved osd slot
claim_said osd slot answer = line_claims.Claimed osd slot

abbrev pub open_said : OpenAnswer → LineOpen
open_said (opens.Over cause) = line_opens.NoScrub
open_said (opens.StillReserving osd) = line_opens.Reserving osd
open_said (opens.Already chunk) = line_opens.Already chunk
open_said (opens.Opened chunk) = line_opens.Opened chunk.number (range_said chunk.range) chunk.version chunk.limit chunk.firm

-- of a map that was made when so many items were applied, at a place of its OSD's history
abbrev pub take_said : ℕ → ℕ → TakeAnswer → LineTake
take_said applied place (takes.Stale chunk) = line_takes.Stale chunk
take_said applied place takes.Taken = line_takes.Taken applied place

-- of so many faults of a device, of which a scan was the last
abbrev pub fault_said : ℕ → FaultAnswer → LineTake
fault_said count (faults.Stale chunk) = line_takes.Stale chunk
fault_said count faults.Ended = line_takes.Fault count

abbrev pub close_said : ℕ → CloseTold → LineClose
close_said chunk told.NoChunk = line_closes.NoChunk
close_said chunk told.ClosedBefore = line_closes.ClosedBefore chunk
close_said chunk (told.Preempted request) = line_closes.Preempted request.client request.serial
close_said chunk (told.IntervalChanged old new) = line_closes.IntervalChanged old new
close_said chunk (told.DeviceFault osd count) = line_closes.DeviceFault osd count
close_said chunk (told.NotYet osd) = line_closes.NotYet osd
close_said chunk (told.Closed findings snaps completes) = line_closes.Closed chunk findings snaps completes
