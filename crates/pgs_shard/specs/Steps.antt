-- Where a shard's scan is when a step of it is made.
use Rattle.std.specs.Prelude.{ℕ, ◌≡◌, ◌≤◌, Option, Some, None, Result}
use Rattle.pgs_name.specs.declared.object_id.ObjectId.{ObjectId}
use Rattle.pgs_chunk.specs.declared.ask.Ask.{Ask}
use Rattle.pgs_copy.specs.declared.obj_copy.ObjCopy.{ObjCopy}
use Rattle.pgs_medium.specs.Device.{Device, IsListed}
use Rattle.pgs_medium.specs.declared.medium_error.MediumError.{MediumError}
use Rattle.pgs_scan.specs.Calls.{IsReadOnAt}
use Rattle.pgs_scan.specs.Reads.{Read}
use Rattle.pgs_scan.specs.Steps.{IsFrontAt}
use Rattle.pgs_scan.specs.declared.reading_step.ReadingStep.{ReadingStep}
use Rattle.pgs_shard_history.specs.Legal.{MayList}
use Rattle.pgs_shard_history.specs.Scanning.{Scanning, cursor_of}
use Rattle.pgs_shard_history.specs.declared.phase.Phase.TheVariants as phases
use Rattle.pgs_shard.specs.Scan.{Scan, going_on}

-- what a listing of the range of an ask answers and leaves, behind the position found last
abbrev pub IsListedFor : Option Ask → Option ObjectId → Device → Result (Option ObjectId) MediumError → Device → Type 0
IsListedFor None last old answer new = ⊥
IsListedFor (Some ask) last old answer new = IsListed (cursor_of ask last) ask.range.to old answer new

-- there is an ask, and its scan lists next
abbrev pub MayListNext : Option Ask → Scanning → ℕ → Type 0
MayListNext None s count = ⊥
MayListNext (Some ask) s count = MayList s.phase ask count

-- a copy was found, and nothing of it is read
pub record IsStatNext (s : Scanning) : Type 0 where
  pub phase : s.phase ≡ phases.Reading
  pub steps : s.steps ≡ 0

-- a copy was found, and its size and attributes are read
pub record IsReadNext (s : Scanning) : Type 0 where
  pub phase : s.phase ≡ phases.Reading
  pub steps : 1 ≤ s.steps

-- ---- reading on

-- what was read is a front of a copy that is there
abbrev pub IsFrontOf : Option ObjCopy → Option Read → Type 0
IsFrontOf copy None = ⊥
IsFrontOf copy (Some read) = IsFrontAt copy read

-- what a further step of reading answers and leaves
pub record IsReadTo {E : Type 0} (stride : ℕ) (copy : Option ObjCopy) (old : Device) (read : Read) (before : Scan) (answer : Result ReadingStep E) (new : Device) (after : Scan) : Type 0 where
  pub now : Read
  pub step : IsReadOnAt stride copy old read answer new now
  pub kept : after ≡ going_on now before

abbrev pub IsReadBy : {E : Type 0} → ℕ → Option ObjCopy → Device → Option Read → Scan → Result ReadingStep E → Device → Scan → Type 0
IsReadBy stride copy old None before answer new after = ⊥
IsReadBy stride copy old (Some read) before answer new after = IsReadTo stride copy old read before answer new after

abbrev pub IsReadFor : {E : Type 0} → ℕ → Option ObjCopy → Device → Scan → Result ReadingStep E → Device → Scan → Type 0
IsReadFor stride copy old before answer new after = IsReadBy stride copy old before.reading before answer new after
