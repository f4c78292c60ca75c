-- What the steps of a script do, one after another.
use Rattle.std.specs.Prelude.{ℕ, List, [], ◌∷◌, Option, Some, None}
use Rattle.pgs_lines.specs.declared.basic.Basic.TheVariants as basics
use Rattle.pgs_lines.specs.declared.step.Step.{Step}
use Rattle.pgs_lines.specs.declared.step.Step.TheVariants as steps
use Rattle.pgs_placement.specs.State.{PlacementState}
use Rattle.pgs_placement.specs.Steps.{after_step as placement_after}
use Rattle.pgs_world.specs.State.{GroupState, WorldState, lent, own}
use Rattle.pgs_world.specs.Pool.{step_group, group_in, with_group}
use Rattle.pgs_world.specs.Jobs.{after_queueing, after_dropping, after_picking}

-- ---- a step of a group

-- a group made a step, and gives back the slots and what was done
abbrev pub given_back : ℕ → PlacementState → WorldState → WorldState
given_back number group w = record w { groups = with_group number (own group) w.groups; slots = group.slots; done = group.done }

abbrev pub stepped_by : Option GroupState → ℕ → WorldState → Step → WorldState
stepped_by None number w step = w
stepped_by (Some group) number w step = given_back number (placement_after (lent w group) step) w

-- the group of a number makes a step, with the slots and with what was done
abbrev pub stepped_in : ℕ → WorldState → Step → WorldState
stepped_in number w step = stepped_by (group_in w.groups number) number w step

-- ---- a step of the queue

abbrev pub queued : WorldState → Step → WorldState
queued w (steps.Basic (basics.Job group kind rank moment)) = after_queueing w group kind rank moment
queued w (steps.Basic (basics.Unjob group)) = after_dropping w group
queued w (steps.Basic (basics.Pick moment)) = after_picking w moment
queued w step = w

-- ---- any step

abbrev pub stepped : Option ℕ → WorldState → Step → WorldState
stepped None w step = queued w step
stepped (Some number) w step = stepped_in number w step

abbrev pub after_step : WorldState → Step → WorldState
after_step w step = stepped (step_group w.bits step) w step

abbrev pub after_steps : WorldState → List Step → WorldState
after_steps w [] = w
after_steps w (step ∷ steps) = after_steps (after_step w step) steps
