-- The device in memory.
use Rattle.std.specs.Prelude.{Some}
use Rattle.pgs_store.specs.Kept.{stored}
use Rattle.pgs_medium.specs.Device.{Device}
use Rattle.pgs_medium.specs.declared.ram_medium.RamMedium.{RamMedium}

-- a device in memory is seen as what its store holds and its numbers
abbrev pub device_of : RamMedium → Device
device_of ram = record {
  stored = stored ram.store;
  faults = ram.faults;
  writes = ram.writes;
  lists = ram.lists;
  stats = ram.stats;
  attrs = ram.attrs;
  reads = ram.reads;
  omaps = ram.omaps;
  failing = Some ram.failing;
}
