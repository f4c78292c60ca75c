-- A member's device as it is seen: how its calls went, and which are to fail. What it holds is what the member's events say.
use Rattle.std.specs.Prelude.{ℕ, zero, suc, Bool, false, List, Option, Some, None, if◌then◌else◌}
use Rattle.pgs_medium.specs.Calls.{one_more, is_named}
use Rattle.pgs_medium.specs.Device.{Device, after_answer, after_failure, no_calls}
use Rattle.pgs_medium.specs.declared.call_count.CallCount.{CallCount}
use Rattle.pgs_medium.specs.declared.call_kind.CallKind.{CallKind}
use Rattle.pgs_medium.specs.declared.call_kind.CallKind.TheVariants as kinds
use Rattle.pgs_medium.specs.declared.failing_call.FailingCall.{FailingCall}

-- A device without its copies: the count of its faults, the numbers of its calls of each kind, and the calls that are to fail, where they are told.
pub record DeviceCalls : Type 0 where
  pub faults : ℕ
  pub writes : CallCount
  pub lists : CallCount
  pub stats : CallCount
  pub attrs : CallCount
  pub reads : CallCount
  pub omaps : CallCount
  pub failing : Option (List FailingCall)

abbrev pub calls_seen : Device → DeviceCalls
calls_seen device = record {
  faults = device.faults;
  writes = device.writes;
  lists = device.lists;
  stats = device.stats;
  attrs = device.attrs;
  reads = device.reads;
  omaps = device.omaps;
  failing = device.failing;
}

-- no call was made
abbrev pub uncalled : Option (List FailingCall) → DeviceCalls
uncalled failing = record {
  faults = 0;
  writes = no_calls;
  lists = no_calls;
  stats = no_calls;
  attrs = no_calls;
  reads = no_calls;
  omaps = no_calls;
  failing = failing;
}

-- the numbers of the calls of a kind
abbrev pub calls_of : CallKind → DeviceCalls → CallCount
calls_of kinds.Write device = device.writes
calls_of kinds.List device = device.lists
calls_of kinds.Stat device = device.stats
calls_of kinds.Attrs device = device.attrs
calls_of kinds.Read device = device.reads
calls_of kinds.Omap device = device.omaps

-- with other numbers of the calls of a kind
abbrev pub with_calls : CallKind → CallCount → DeviceCalls → DeviceCalls
with_calls kinds.Write calls device = record device { writes = calls }
with_calls kinds.List calls device = record device { lists = calls }
with_calls kinds.Stat calls device = record device { stats = calls }
with_calls kinds.Attrs calls device = record device { attrs = calls }
with_calls kinds.Read calls device = record device { reads = calls }
with_calls kinds.Omap calls device = record device { omaps = calls }

-- ---- which call fails

abbrev pub names : CallKind → ℕ → Option (List FailingCall) → Bool
names kind number None = false
names kind number (Some calls) = is_named kind number calls

-- whether the next call of a kind is to fail
abbrev pub fails : CallKind → DeviceCalls → Bool
fails kind device = names kind (one_more (calls_of kind device).made) device.failing

-- ---- what a call leaves

-- a device after a call of a kind that it answered
abbrev pub answered : CallKind → DeviceCalls → DeviceCalls
answered kind device = with_calls kind (after_answer (calls_of kind device)) device

-- after one that failed: a fault more is counted
abbrev pub failed : CallKind → DeviceCalls → DeviceCalls
failed kind device = with_calls kind (after_failure (calls_of kind device)) (record device { faults = one_more device.faults })

-- after a call of a kind, which fails where it is to
abbrev pub called : CallKind → DeviceCalls → DeviceCalls
called kind device = if fails kind device then failed kind device else answered kind device

-- after so many calls of a kind that it answered
abbrev pub answered_all : CallKind → ℕ → DeviceCalls → DeviceCalls
answered_all kind zero device = device
answered_all kind (suc calls) device = answered kind (answered_all kind calls device)
