-- What a group begins with: the devices of its members, and the slots of all OSDs.
use Rattle.std.specs.Prelude.{ℕ, List, map}
use Rattle.pgs_lines.specs.declared.call.Call.{Call}
use Rattle.pgs_lines.specs.declared.call.Call.TheVariants as calls
use Rattle.pgs_order.specs.Order.{fails_of}
use Rattle.pgs_order.specs.declared.declarations.Osd.{Osd}
use Rattle.pgs_order.specs.declared.declarations.Fail.{Fail}
use Rattle.pgs_medium.specs.declared.call_kind.CallKind.{CallKind}
use Rattle.pgs_medium.specs.declared.call_kind.CallKind.TheVariants as kinds
use Rattle.pgs_medium.specs.declared.failing_call.FailingCall.{FailingCall}
use Rattle.pgs_shards.specs.declared.osd_device.OsdDevice.{OsdDevice}
use Rattle.pgs_slots.specs.declared.osd_slots.OsdSlots.{OsdSlots}

-- the kind of a call
abbrev pub kind_of : Call → CallKind
kind_of calls.List = kinds.List
kind_of calls.Stat = kinds.Stat
kind_of calls.Attrs = kinds.Attrs
kind_of calls.Read = kinds.Read
kind_of calls.Omap = kinds.Omap
kind_of calls.Write = kinds.Write

-- the calls of a device that are declared to fail
abbrev pub call_of : Fail → FailingCall
call_of fail = record { kind = kind_of fail.call; number = fail.number }

abbrev pub calls_of : List Fail → List FailingCall
calls_of fails = map call_of fails

-- the device by which an OSD stores a group
abbrev pub device_of : List Fail → ℕ → ℕ → OsdDevice
device_of fails group osd = record { osd = osd; failing = calls_of (fails_of group osd fails) }

-- the devices by which these OSDs store a group
abbrev pub devices_of : List Fail → ℕ → List ℕ → List OsdDevice
devices_of fails group osds = map (device_of fails group) osds

-- the slots that OSDs are declared with
abbrev pub slots_of : Osd → OsdSlots
slots_of osd = record { osd = osd.osd; slots = osd.slots }

abbrev pub all_slots : List Osd → List OsdSlots
all_slots osds = map slots_of osds
