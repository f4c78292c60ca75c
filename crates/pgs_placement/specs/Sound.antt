-- What every run of steps keeps.
use Rattle.std.specs.Prelude.{◌≡◌, ◌≤◌, false}
use Rattle.pgs_history.specs.Acting.{IsActing}
use Rattle.pgs_history.specs.Parked.{is_admitting}
use Rattle.pgs_slots.specs.Rows.{AreRowsSized}
use Rattle.pgs_placement.specs.State.{PlacementState}
use Rattle.pgs_placement.specs.Counts.{AreInStep, IsOrderly}
use Rattle.pgs_placement.specs.Cited.{AreCited}
use Rattle.pgs_placement.specs.Acknowledged.{AreAcknowledged}

-- also between the writes that are taken up after a step
pub record IsSteady (w : PlacementState) : Type 0 where
  pub in_step : AreInStep w
  pub orderly : IsOrderly w
  pub acknowledged : AreAcknowledged w.made w.members w.past w.done
  pub cited : AreCited w.members w.past
  -- the members may act
  pub acting : IsActing w.made w.made.members
  pub stride : 1 ≤ w.stride
  -- each OSD has 1 to 8 slots
  pub sized : AreRowsSized w.slots

-- between steps no write is to be taken up
pub record IsSound (w : PlacementState) : Type 0 where
  pub steady : IsSteady w
  pub idle : is_admitting w.past ≡ false
