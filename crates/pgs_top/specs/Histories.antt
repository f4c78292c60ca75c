-- What happens in a script.
use Rattle.std.specs.Prelude.{ℕ, ◌≤◌, List, [], map, Option, Some, None}
use Rattle.std.specs.List.{AllByRecursion}
use Rattle.pgs_lines.specs.declared.step.Step.{Step}
use Rattle.pgs_order.specs.Order.{nothing_declared}
use Rattle.pgs_order.specs.declared.declarations.Group.{Group}
use Rattle.pgs_order.specs.declared.declarations.Declarations.{Declarations}
use Rattle.pgs_order.specs.declared.step_script.StepScript.{StepScript}
use Rattle.pgs_chunk.specs.declared.settings.Settings.{Settings}
use Rattle.pgs_history.specs.declared.made.Made.{Made}
use Rattle.pgs_slots.specs.Rows.{free_rows}
use Rattle.pgs_placement.specs.State.{PlacementState, opening}
use Rattle.pgs_world.specs.State.{WorldState, own, mades, opening as world_opening}
use Rattle.pgs_world.specs.Opening.{IsOpening}
use Rattle.pgs_world.specs.Pool.{AreApart}
use Rattle.pgs_world.specs.Steps.{after_steps}
use Rattle.pgs_world.specs.Named.{AreNamed}
use Rattle.pgs_top.specs.Opening.{devices_of, all_slots}
use Rattle.pgs_top.specs.declared.histories.Histories.{Histories}

-- what a declared group is made with
abbrev pub made_of : Settings → Group → Made
made_of settings group = record { number = group.group; epoch = group.epoch; members = group.members; limits = settings.limits }

-- a declared group before the first step: its members over empty devices
abbrev pub opening_of : Settings → Declarations → Group → PlacementState
opening_of settings declared group = opening (made_of settings group) (devices_of declared.fails group.group group.members) settings.stride []

abbrev pub groups_of : Settings → Declarations → List PlacementState
groups_of settings declared = map (opening_of settings declared) declared.groups

-- what the declared groups are made with
abbrev pub mades_of : Settings → Declarations → List Made
mades_of settings declared = mades (map own (groups_of settings declared))

-- a declared pool before the first step: each slot of each OSD is free
abbrev pub pool_opening : ℕ → Settings → Declarations → WorldState
pool_opening bits settings declared = world_opening bits (map own (groups_of settings declared)) (free_rows (all_slots declared.osds))

-- and after all steps
abbrev pub pool_world : ℕ → Settings → Declarations → List Step → WorldState
pool_world bits settings declared script = after_steps (pool_opening bits settings declared) script

-- none where no pool is declared
abbrev pub world_of : Option ℕ → Settings → Declarations → List Step → Option WorldState
world_of None settings declared script = None
world_of (Some bits) settings declared script = Some (pool_world bits settings declared script)

abbrev pub histories_of : Settings → StepScript → Histories
histories_of settings script = record { declared = script.declared; world = world_of script.declared.bits settings script.declared script.steps }

abbrev pub no_histories : Histories
no_histories = record { declared = nothing_declared; world = None }

-- a fact of the world, where there is one
abbrev pub OfWorld : (WorldState → Type 0) → Option WorldState → Type 0
OfWorld P None = Unit {0}
OfWorld P (Some world) = P world

-- what a world asks for: at most eight groups, each over its members, who may act, and no two of one number; and the script's steps name what is there
pub record IsFit (settings : Settings) (declared : Declarations) (script : List Step) (bits : ℕ) : Type 0 where
  pub few : bits ≤ 3
  pub groups : AllByRecursion (λ group. IsOpening group) (groups_of settings declared)
  pub apart : AreApart (mades_of settings declared)
  pub named : AreNamed bits (mades_of settings declared) script

-- a fact of the pool's bits, where one is declared
abbrev pub OfPool : (ℕ → Type 0) → Option ℕ → Type 0
OfPool P None = Unit {0}
OfPool P (Some bits) = P bits
