-- Devices, and what a call leaves of one.
use Rattle.std.specs.Prelude.{ℕ, ◌≡◌, Bool, true, false, List, Option, IfSome, Result, Ok, Err}
use Rattle.pgs_cause.specs.Count.{Rose}
use Rattle.pgs_name.specs.Families.{Family}
use Rattle.pgs_name.specs.declared.object_id.ObjectId.{ObjectId}
use Rattle.pgs_range.specs.Listed.{IsNext}
use Rattle.pgs_range.specs.declared.bound.Bound.{Bound}
use Rattle.pgs_range.specs.declared.cursor.Cursor.{Cursor}
use Rattle.pgs_copy.specs.declared.damage.Damage.{Damage}
use Rattle.pgs_store.specs.Stores.{Stored, nothing_stored, is_stored, affected, harmed}
use Rattle.pgs_medium.specs.Calls.{one_more, is_named}
use Rattle.pgs_medium.specs.declared.call_count.CallCount.{CallCount}
use Rattle.pgs_medium.specs.declared.call_kind.CallKind.{CallKind}
use Rattle.pgs_medium.specs.declared.call_kind.CallKind.TheVariants as kinds
use Rattle.pgs_medium.specs.declared.failing_call.FailingCall.{FailingCall}
use Rattle.pgs_medium.specs.declared.item.Item.{Item}
use Rattle.pgs_medium.specs.declared.medium_error.MediumError.{MediumError}
use Rattle.pgs_medium.specs.declared.medium_error.MediumError.TheVariants.{Failed, Memory}

-- the numbers after a call that was answered
abbrev pub after_answer : CallCount → CallCount
after_answer calls = record calls { made = one_more calls.made }

-- the numbers after a call that failed
abbrev pub after_failure : CallCount → CallCount
after_failure calls = record { made = one_more calls.made; failed = one_more calls.failed }

-- no call
abbrev pub no_calls : CallCount
no_calls = record { made = 0; failed = 0 }

-- A device: the copies that it holds, the count of its faults, the numbers of its calls of each kind, and the calls that are to fail, where they are told.
pub record Device : Type 0 where
  pub stored : Stored
  pub faults : ℕ
  pub writes : CallCount
  pub lists : CallCount
  pub stats : CallCount
  pub attrs : CallCount
  pub reads : CallCount
  pub omaps : CallCount
  pub failing : Option (List FailingCall)

-- a device that holds nothing, and of which no call was made
abbrev pub empty_device : Option (List FailingCall) → Device
empty_device failing = record {
  stored = nothing_stored;
  faults = 0;
  writes = no_calls;
  lists = no_calls;
  stats = no_calls;
  attrs = no_calls;
  reads = no_calls;
  omaps = no_calls;
  failing = failing;
}

-- the numbers of the calls of a kind
abbrev pub calls_of : CallKind → Device → CallCount
calls_of kinds.Write device = device.writes
calls_of kinds.List device = device.lists
calls_of kinds.Stat device = device.stats
calls_of kinds.Attrs device = device.attrs
calls_of kinds.Read device = device.reads
calls_of kinds.Omap device = device.omaps

-- a device with other numbers of the calls of a kind
abbrev pub with_calls : CallKind → CallCount → Device → Device
with_calls kinds.Write calls device = record device { writes = calls }
with_calls kinds.List calls device = record device { lists = calls }
with_calls kinds.Stat calls device = record device { stats = calls }
with_calls kinds.Attrs calls device = record device { attrs = calls }
with_calls kinds.Read calls device = record device { reads = calls }
with_calls kinds.Omap calls device = record device { omaps = calls }

-- whether the next call of a kind is to fail, where that is told
abbrev pub IsTold : CallKind → Device → Bool → Type 0
IsTold kind device fails = IfSome device.failing (λ calls. is_named kind (one_more (calls_of kind device).made) calls ≡ fails)

-- a device after an item was written
abbrev pub written : Item → Device → Device
written item device = record device { stored = affected item.family item.effects device.stored; writes = after_answer device.writes }

-- a device after a write that failed: its copies stay, and its count of faults is another
abbrev pub not_written : ℕ → Device → Device
not_written faults device = record device { faults = faults; writes = after_failure device.writes }

-- a device after a listing that it answered
abbrev pub listed : Device → Device
listed device = record device { lists = after_answer device.lists }

-- a device after a listing that failed: its count of faults is another
abbrev pub not_listed : ℕ → Device → Device
not_listed faults device = record device { faults = faults; lists = after_failure device.lists }

-- a device after a call of a kind that it answered, and that changed no copy
abbrev pub answered : CallKind → Device → Device
answered kind device = with_calls kind (after_answer (calls_of kind device)) device

-- a device after a call of a kind that failed: its count of faults is another
abbrev pub not_answered : CallKind → ℕ → Device → Device
not_answered kind faults device = with_calls kind (after_failure (calls_of kind device)) (record device { faults = faults })

-- an item was written, where no list names the call
abbrev pub IsDone : Item → Device → Device → Type 0
IsDone item old new = (new ≡ written item old) × IsTold kinds.Write old false

-- a listing was answered, where no list names the call: by the least position that is stored behind the cursor and below the bound
abbrev pub IsAnswered : Cursor → Bound → Device → Option ObjectId → Device → Type 0
IsAnswered cursor to old next new = (new ≡ listed old) × IsTold kinds.List old false × IsNext (is_stored old.stored) cursor to next

-- where the calls that are to fail are told, a fault is counted once
abbrev pub IsCounted : Device → Device → Type 0
IsCounted old new = IfSome old.failing (λ calls. new.faults ≡ one_more old.faults)

-- a call of a kind failed: where the calls that are to fail are told, they name it
abbrev pub IsFailed : CallKind → Device → Device → Type 0
IsFailed kind old new = (new ≡ not_answered kind new.faults old) × Rose old.faults new.faults × IsTold kind old true × IsCounted old new

-- what a write leaves, by its answer; without memory nothing changes
abbrev pub IsWritten : {A : Type 0} → Item → Device → Result A MediumError → Device → Type 0
IsWritten item old (Ok _) new = IsDone item old new
IsWritten item old (Err Failed) new = IsFailed kinds.Write old new
IsWritten item old (Err Memory) new = new ≡ old

-- what a listing answers, and what it leaves; without memory nothing changes
abbrev pub IsListed : Cursor → Bound → Device → Result (Option ObjectId) MediumError → Device → Type 0
IsListed cursor to old (Ok next) new = IsAnswered cursor to old next new
IsListed cursor to old (Err Failed) new = IsFailed kinds.List old new
IsListed cursor to old (Err Memory) new = new ≡ old

-- a copy was read by a call of a kind, where no list names the call
abbrev pub IsRead : {A : Type 0} → CallKind → A → Device → A → Device → Type 0
IsRead kind expected old value new = (new ≡ answered kind old) × IsTold kind old false × (value ≡ expected)

-- what a reading call of a kind answers, and what it leaves; without memory nothing changes
abbrev pub IsReadAs : {A : Type 0} → CallKind → A → Device → Result A MediumError → Device → Type 0
IsReadAs kind expected old (Ok value) new = IsRead kind expected old value new
IsReadAs kind expected old (Err Failed) new = IsFailed kind old new
IsReadAs kind expected old (Err Memory) new = new ≡ old

-- a device after damage to a copy
abbrev pub with_damage : Family → ℕ → Damage → Device → Device
with_damage family snap damage device = record device { stored = harmed family snap damage device.stored }

-- what damage leaves, by its answer: no number of a call changes, and without memory nothing does
abbrev pub IsDamaged : {A E : Type 0} → Family → ℕ → Damage → Device → Result A E → Device → Type 0
IsDamaged family snap damage old (Ok _) new = new ≡ with_damage family snap damage old
IsDamaged family snap damage old (Err _) new = new ≡ old
