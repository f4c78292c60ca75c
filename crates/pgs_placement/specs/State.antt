-- What a placement group is seen as.
use Rattle.std.specs.Prelude.{ℕ, List, []}
use Rattle.pgs_done.specs.declared.done.Done.{Done}
use Rattle.pgs_history.specs.declared.event.Event.{Event}
use Rattle.pgs_history.specs.declared.made.Made.{Made}
use Rattle.pgs_shards.specs.Members.{Member, beginning}
use Rattle.pgs_shards.specs.declared.osd_device.OsdDevice.{OsdDevice}
use Rattle.pgs_slots.specs.declared.row.Row.{Row}

-- A group: what it was made with and its events; how many bytes its members read of a copy at a step, and the members with their events and devices; the
-- slots of all OSDs, and all that was done, with the answers, which all groups share. Each list has the newest first, but that of the members, which stand
-- in declared order.
pub record PlacementState : Type 0 where
  pub made : Made
  pub stride : ℕ
  pub past : List Event
  pub members : List Member
  pub slots : List Row
  pub done : List Done

-- before the first step
abbrev pub opening : Made → List OsdDevice → ℕ → List Row → PlacementState
opening made devices stride slots = record { made = made; stride = stride; past = []; members = beginning devices; slots = slots; done = [] }
