-- What the groups of a pool begin with.
use Rattle.std.specs.Prelude.{◌≡◌, ◌≤◌, List, [], map}
use Rattle.pgs_history.specs.Acting.{IsActing}
use Rattle.pgs_shards.specs.declared.osd_device.OsdDevice.{OsdDevice}
use Rattle.pgs_placement.specs.State.{PlacementState, opening}

-- a group before the first step, over empty devices of its members, who may act
pub record IsOpening (group : PlacementState) : Type 0 where
  pub devices : List OsdDevice
  pub is : group ≡ opening group.made devices group.stride []
  pub named : map (λ device. device.osd) devices ≡ group.made.members
  pub acting : IsActing group.made group.made.members
  pub stride : 1 ≤ group.stride
