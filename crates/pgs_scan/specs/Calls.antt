-- What the steps of reading a copy leave of a device.
use Rattle.std.specs.Prelude.{ℕ, ◌≡◌, ◌≤◌, Bool, true, false, ◌||◌, Option, Some, None, Result, Ok, Err, if◌then◌else◌}
use Rattle.pgs_copy.specs.declared.obj_copy.ObjCopy.{ObjCopy}
use Rattle.pgs_medium.specs.Device.{Device, answered, IsFailed, IsTold}
use Rattle.pgs_medium.specs.declared.call_kind.CallKind.{CallKind}
use Rattle.pgs_medium.specs.declared.call_kind.CallKind.TheVariants as kinds
use Rattle.pgs_scan.specs.Reads.{Read}
use Rattle.pgs_scan.specs.Steps.{begun, read_on, leaves_more, has_data_left}
use Rattle.pgs_scan.specs.declared.reading_step.ReadingStep.{ReadingStep}
use Rattle.pgs_scan.specs.declared.reading_step.ReadingStep.TheVariants as steps

-- a device after calls that changed no copy, and where memory may have run out behind some of them
pub record IsOnlyRead (old new : Device) : Type 0 where
  pub stored : new.stored ≡ old.stored
  pub failing : new.failing ≡ old.failing
  pub faults : old.faults ≤ new.faults

-- one call of a kind that failed, or didn't
abbrev pub IsCalled : CallKind → Bool → Device → Device → Type 0
IsCalled kind false old new = (new ≡ answered kind old) × IsTold kind old false
IsCalled kind true old new = IsFailed kind old new

-- one of each: both are made, also where the first failed
pub record AreCalled (stat attrs : Bool) (old new : Device) : Type 0 where
  pub between : Device
  pub first : IsCalled kinds.Stat stat old between
  pub second : IsCalled kinds.Attrs attrs between new

-- at least one of them failed
pub record IsStatFailure (old new : Device) : Type 0 where
  pub stat : Bool
  pub attrs : Bool
  pub some : stat || attrs ≡ true
  pub calls : AreCalled stat attrs old new

-- What the first step answers and leaves: what was read of the copy; or nothing, where a call failed; without memory no copy has changed.
abbrev pub IsBegun : {E : Type 0} → Option ObjCopy → Device → Result (Option Read) E → Device → Type 0
IsBegun None old answer new = ⊥
IsBegun (Some copy) old (Ok (Some read)) new = AreCalled false false old new × (read ≡ begun copy)
IsBegun (Some copy) old (Ok None) new = IsStatFailure old new
IsBegun (Some copy) old (Err _) new = IsOnlyRead old new

-- a further step makes one call
abbrev pub kind_of : Read → CallKind
kind_of read = if has_data_left read then kinds.Read else kinds.Omap

-- What a further step answers and leaves: where its call failed, or without memory, what was read stays as it was.
abbrev pub IsReadOn : {E : Type 0} → ℕ → ObjCopy → Device → Read → Result ReadingStep E → Device → Read → Type 0
IsReadOn stride copy old before (Ok steps.More) new after = IsCalled (kind_of before) false old new × (leaves_more copy before ≡ true) × (after ≡ read_on stride copy before)
IsReadOn stride copy old before (Ok steps.Whole) new after = IsCalled (kind_of before) false old new × (leaves_more copy before ≡ false) × (after ≡ read_on stride copy before)
IsReadOn stride copy old before (Ok steps.Failed) new after = IsFailed (kind_of before) old new × (after ≡ before)
IsReadOn stride copy old before (Err _) new after = IsOnlyRead old new × (after ≡ before)

abbrev pub IsReadOnAt : {E : Type 0} → ℕ → Option ObjCopy → Device → Read → Result ReadingStep E → Device → Read → Type 0
IsReadOnAt stride None old before answer new after = ⊥
IsReadOnAt stride (Some copy) old before answer new after = IsReadOn stride copy old before answer new after
