-- What holds of a script that was read.
use Rattle.std.specs.Prelude.{ℕ, ◌≡◌, ◌≤◌, nat_eq, Bool, true, List, map, length, Option, Some, None}
use Rattle.std.specs.List.{AllByRecursion, IsDistinct}
use Rattle.pgs_words.specs.Forms.{has_some}
use Rattle.pgs_lines.specs.declared.basic.Basic.{Basic}
use Rattle.pgs_lines.specs.declared.basic.Basic.TheVariants as basics
use Rattle.pgs_lines.specs.declared.step.Step.{Step}
use Rattle.pgs_lines.specs.declared.step.Step.TheVariants as steps
use Rattle.pgs_order.specs.Order.{are_declared, are_distinct, is_member, is_of_pool, are_whole, is_closed, step_is_named}
use Rattle.pgs_order.specs.declared.declarations.Osd.{Osd}
use Rattle.pgs_order.specs.declared.declarations.Group.{Group}
use Rattle.pgs_order.specs.declared.declarations.Fail.{Fail}
use Rattle.pgs_order.specs.declared.declarations.Declarations.{Declarations}
use Rattle.pgs_order.specs.declared.step_script.StepScript.{StepScript}

-- a pool has one to 8 groups, if there is one
abbrev pub IsPool : Option ℕ → Type 0
IsPool None = Unit {0}
IsPool (Some bits) = bits ≤ 3

-- an OSD whose number is at most 63, with one to 8 slots
pub record IsOsd (osd : Osd) : Type 0 where
  pub number : osd.osd ≤ 63
  pub some : 1 ≤ osd.slots
  pub few : osd.slots ≤ 8

abbrev pub osd_numbers : List Osd → List ℕ
osd_numbers osds = map (λ osd. osd.osd) osds

-- at most 16 OSDs, no two of one number
pub record AreOsds (osds : List Osd) : Type 0 where
  pub each : AllByRecursion (λ osd. IsOsd osd) osds
  pub apart : IsDistinct nat_eq (osd_numbers osds)
  pub few : length osds ≤ 16

-- a group of the pool, with one to 8 members, all of them different and declared
pub record IsGroup (bits : Option ℕ) (osds : List Osd) (group : Group) : Type 0 where
  pub of_pool : is_of_pool bits group.group ≡ true
  pub epoch : 1 ≤ group.epoch
  pub declared : are_declared osds group.members ≡ true
  pub distinct : are_distinct group.members ≡ true
  pub some : has_some group.members ≡ true
  pub few : length group.members ≤ 8

abbrev pub group_numbers : List Group → List ℕ
group_numbers groups = map (λ group. group.group) groups

-- groups of the pool, no two of one number
pub record AreGroups (bits : Option ℕ) (osds : List Osd) (groups : List Group) : Type 0 where
  pub each : AllByRecursion (λ group. IsGroup bits osds group) groups
  pub apart : IsDistinct nat_eq (group_numbers groups)

-- a call of a member's device
pub record IsFail (groups : List Group) (fail : Fail) : Type 0 where
  pub member : is_member groups fail.group fail.osd ≡ true
  pub number : 1 ≤ fail.number

-- at most 1,000 of them
pub record AreFails (groups : List Group) (fails : List Fail) : Type 0 where
  pub each : AllByRecursion (λ fail. IsFail groups fail) fails
  pub few : length fails ≤ 1000

-- declarations that are in order, as far as they go
pub record AreDeclared (declared : Declarations) : Type 0 where
  pub pool : IsPool declared.bits
  pub osds : AreOsds declared.osds
  pub groups : AreGroups declared.bits declared.osds declared.groups
  pub fails : AreFails declared.groups declared.fails

-- whether a step that says who acts names one at least
abbrev pub basic_has_acting : Basic → Bool
basic_has_acting (basics.Interval group acting) = has_some acting
basic_has_acting basic = true

abbrev pub has_acting : Step → Bool
has_acting (steps.Basic basic) = basic_has_acting basic
has_acting step = true

-- a step that names what is declared: a group, and where it names an OSD, a member of it; and where it says who acts, it
-- names one at least
pub record IsNamed (groups : List Group) (step : Step) : Type 0 where
  pub declared : step_is_named groups step ≡ true
  pub some : has_acting step ≡ true

abbrev pub AreNamed : List Group → List Step → Type 0
AreNamed groups steps = AllByRecursion (λ step. IsNamed groups step) steps

-- a script whose lines are in order
pub record IsOrdered (s : StepScript) : Type 0 where
  pub declared : AreDeclared s.declared
  pub named : AreNamed s.declared.groups s.steps
  -- where there is a step, the pool and each of its groups is declared,
  pub some : has_some s.steps ≡ true → are_whole s.declared ≡ true
  -- and behind `end` they are, or nothing is
  pub closed : s.over ≡ true → is_closed s.declared ≡ true
