-- What the steps of a script name.
use Rattle.std.specs.Prelude.{ℕ, List, Option, Some, None}
use Rattle.std.specs.List.{AllByRecursion}
use Rattle.pgs_lines.specs.declared.step.Step.{Step}
use Rattle.pgs_history.specs.declared.made.Made.{Made}
use Rattle.pgs_placement.specs.Counts.{IsNamedStep as IsNamedIn}
use Rattle.pgs_world.specs.Pool.{made_in, step_group}

abbrev pub IsNamedBy : Option Made → Step → Type 0
IsNamedBy None step = ⊥
IsNamedBy (Some made) step = IsNamedIn made step

abbrev pub IsNamedOf : Option ℕ → List Made → Step → Type 0
IsNamedOf None mades step = Unit {0}
IsNamedOf (Some number) mades step = IsNamedBy (made_in mades number) step

-- the group of a step is there, and the OSDs that it names are members, where its answer turns on that
abbrev pub IsNamedStep : ℕ → List Made → Step → Type 0
IsNamedStep bits mades step = IsNamedOf (step_group bits step) mades step

abbrev pub AreNamed : ℕ → List Made → List Step → Type 0
AreNamed bits mades script = AllByRecursion (IsNamedStep bits mades) script
