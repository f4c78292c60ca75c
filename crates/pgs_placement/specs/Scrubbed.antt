-- What holds of the scrubs of a group.
use Rattle.std.specs.Prelude.{◌≤◌}
use Rattle.pgs_history.specs.Chunks.{AreFated, AreTiled, AreCaused}
use Rattle.pgs_history.specs.Joined.{AreCaughtUp}
use Rattle.pgs_history.specs.Scrubs.{used}
use Rattle.pgs_history.specs.Parked.{AreWaiting, NoneAbove}
use Rattle.pgs_placement.specs.State.{PlacementState}
use Rattle.pgs_placement.specs.Cited.{AreCited}
use Rattle.pgs_placement.specs.Compared.{AreCompared}
use Rattle.pgs_placement.specs.Versions.{HaveVersions, WaitInside}

-- Each chunk that was opened was closed, gave way to a write or ended with its scrub once, but for the one that is open. The closed chunks of each scrub lie in a row from the
-- least bound on, and those of one that is complete end above all families and hold each family once.
pub record AreScrubbed (w : PlacementState) : Type 0 where
  pub fates : AreFated w.made w.past
  -- each scrub that ended has one cause: it completed, a claim was denied, the acting OSDs changed, or a device failed
  pub caused : AreCaused w.made w.past
  -- an OSD that came to act had told of all the log
  pub caught_up : AreCaughtUp w.made w.past
  pub tiles : AreTiled w.past
  -- writes wait only for an open chunk that is firm and has their family
  pub waiting : AreWaiting w.past
  -- nothing came into the range of an open chunk after it was opened
  pub outside : NoneAbove w.past
  -- and only such writes were parked, or turned away since as many wait as may
  pub inside : WaitInside w.past
  -- the scrub that began last gave way no more often than it may
  pub spare : used w.past ≤ w.made.limits.preemptions
  -- each map that the group was given is what its OSD's scan had ended with at the place of its history that the take names, and each fault is one of a
  -- scan or of a listing
  pub cited : AreCited w.members w.past
  -- each map that was taken tells of copies at its chunk's one version
  pub versions : HaveVersions w.members w.past
  -- and each chunk that was closed compared one such map of each acting OSD
  pub compared : AreCompared w.made w.members w.past
