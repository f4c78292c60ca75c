-- What a world is seen as.
use Rattle.std.specs.Prelude.{ℕ, List, [], map}
use Rattle.pgs_done.specs.declared.done.Done.{Done}
use Rattle.pgs_history.specs.declared.event.Event.{Event}
use Rattle.pgs_history.specs.declared.made.Made.{Made}
use Rattle.pgs_queue.specs.declared.job.Job.{Job}
use Rattle.pgs_shards.specs.Members.{Member}
use Rattle.pgs_slots.specs.declared.row.Row.{Row}
use Rattle.pgs_placement.specs.State.{PlacementState}

-- A group between its steps: what it was made with, how many bytes its members read of a copy at a step, its events, the newest first, and the members in
-- declared order.
pub record GroupState : Type 0 where
  pub made : Made
  pub stride : ℕ
  pub past : List Event
  pub members : List Member

-- The groups of a pool, of which there are 2^bits; the slots of all OSDs; the jobs that wait; and all that was done, with the answers, the newest first.
pub record WorldState : Type 0 where
  pub bits : ℕ
  pub groups : List GroupState
  pub slots : List Row
  pub jobs : List Job
  pub done : List Done

-- a group while it makes a step: it has the slots, and what was done
abbrev pub lent : WorldState → GroupState → PlacementState
lent w group = record { made = group.made; stride = group.stride; past = group.past; members = group.members; slots = w.slots; done = w.done }

-- and without them
abbrev pub own : PlacementState → GroupState
own group = record { made = group.made; stride = group.stride; past = group.past; members = group.members }

abbrev pub mades : List GroupState → List Made
mades groups = map (λ group. group.made) groups

-- a pool before the first step
abbrev pub opening : ℕ → List GroupState → List Row → WorldState
opening bits groups slots = record { bits = bits; groups = groups; slots = slots; jobs = []; done = [] }
