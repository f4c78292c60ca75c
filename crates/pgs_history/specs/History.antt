-- What a group is seen as.
use Rattle.std.specs.Prelude.{List}
use Rattle.pgs_history.specs.declared.event.Event.{Event}
use Rattle.pgs_history.specs.declared.made.Made.{Made}

-- what it was made with, and its events, the newest first
pub record History : Type 0 where
  pub made : Made
  pub past : List Event
