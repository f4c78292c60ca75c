-- What every run of steps keeps.
use Rattle.std.specs.Prelude.{◌≤◌}
use Rattle.std.specs.List.{AllByRecursion}
use Rattle.pgs_slots.specs.Rows.{AreRowsSized}
use Rattle.pgs_placement.specs.Acknowledged.{AreAcknowledged as AreAcknowledgedIn}
use Rattle.pgs_placement.specs.Counts.{AreInStep as IsInStep, IsOrderly}
use Rattle.pgs_placement.specs.Scrubbed.{AreScrubbed as IsScrubbed}
use Rattle.pgs_placement.specs.Sound.{IsSound as IsSoundGroup}
use Rattle.pgs_world.specs.State.{WorldState, lent, mades}
use Rattle.pgs_world.specs.Pool.{AreApart}

pub record IsSound (w : WorldState) : Type 0 where
  -- each group is sound, with the slots and with all that was done
  pub each : AllByRecursion (λ group. IsSoundGroup (lent w group)) w.groups
  -- no two groups have one number
  pub apart : AreApart (mades w.groups)
  pub few : w.bits ≤ 3
  -- each OSD has 1 to 8 slots
  pub sized : AreRowsSized w.slots

-- ---- what that says of the groups

-- every answer that a write is acknowledged holds now, in the group that it names
abbrev pub AreAcknowledged : WorldState → Type 0
AreAcknowledged w = AllByRecursion (λ group. AreAcknowledgedIn group.made group.members group.past w.done) w.groups

-- each group's members are in step with it
abbrev pub AreInStep : WorldState → Type 0
AreInStep w = AllByRecursion (λ group. IsInStep (lent w group)) w.groups

-- each group's log is in order
abbrev pub AreOrderly : WorldState → Type 0
AreOrderly w = AllByRecursion (λ group. IsOrderly (lent w group)) w.groups

-- so are the scrubs of each group
abbrev pub AreScrubbed : WorldState → Type 0
AreScrubbed w = AllByRecursion (λ group. IsScrubbed (lent w group)) w.groups
