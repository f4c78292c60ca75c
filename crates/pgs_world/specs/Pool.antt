-- Which group a step is one of.
use Rattle.std.specs.Prelude.{ℕ, ◌==◌, ◌%◌, ◌^◌, ◌≡◌, List, [], ◌∷◌, Option, Some, None, if◌then◌else◌}
use Rattle.pgs_name.specs.Families.{Family}
use Rattle.pgs_name.specs.Order.{hash_of}
use Rattle.pgs_lines.specs.declared.basic.Basic.{Basic}
use Rattle.pgs_lines.specs.declared.basic.Basic.TheVariants as basics
use Rattle.pgs_lines.specs.declared.step.Step.{Step}
use Rattle.pgs_lines.specs.declared.step.Step.TheVariants as steps
use Rattle.pgs_history.specs.declared.made.Made.{Made}
use Rattle.pgs_placement.specs.Naming.{family_of}
use Rattle.pgs_world.specs.State.{GroupState}

-- the group of a family in a pool of 2^bits groups: the low bits of its hash
abbrev pub number_of : ℕ → Family → ℕ
number_of bits family = hash_of family % 2 ^ bits

-- The group that a step is one of: a write is one of its family's group, the other steps name theirs; and what becomes of jobs is a step of none, since they
-- wait in the queue of all groups.
abbrev pub basic_group : ℕ → Basic → Option ℕ
basic_group bits (basics.Write client serial object context op) = Some (number_of bits (family_of object))
basic_group bits (basics.Collect group client serial) = Some group
basic_group bits (basics.Pull group osd) = Some group
basic_group bits (basics.Apply group osd) = Some group
basic_group bits (basics.Tell group osd) = Some group
basic_group bits (basics.Damage group osd object snap damage) = Some group
basic_group bits (basics.Begin group kind) = Some group
basic_group bits (basics.Open group) = Some group
basic_group bits (basics.Scan group osd) = Some group
basic_group bits (basics.Take group osd) = Some group
basic_group bits (basics.Close group) = Some group
basic_group bits (basics.Claim group) = Some group
basic_group bits (basics.Release group osd) = Some group
basic_group bits (basics.Interval group osds) = Some group
basic_group bits (basics.Job group kind rank moment) = None
basic_group bits (basics.Unjob group) = None
basic_group bits (basics.Pick moment) = None

abbrev pub step_group : ℕ → Step → Option ℕ
step_group bits (steps.Basic basic) = basic_group bits basic
step_group bits (steps.Settle group) = Some group
step_group bits (steps.Sweep group kind) = Some group
step_group bits (steps.ListObj group) = Some group
step_group bits (steps.ListSnap group) = Some group

-- the group of a number
abbrev pub group_in : List GroupState → ℕ → Option GroupState
group_in [] number = None
group_in (group ∷ groups) number = if group.made.number == number then Some group else group_in groups number

-- the groups with another in the place of the one of a number
abbrev pub with_group : ℕ → GroupState → List GroupState → List GroupState
with_group number new [] = []
with_group number new (group ∷ groups) = if group.made.number == number then new ∷ groups else group ∷ with_group number new groups

-- what the group of a number was made with
abbrev pub made_in : List Made → ℕ → Option Made
made_in [] number = None
made_in (made ∷ mades) number = if made.number == number then Some made else made_in mades number

-- no two groups have one number: there is no later one of the number of each
abbrev pub AreApart : List Made → Type 0
AreApart [] = Unit {0}
AreApart (made ∷ mades) = (made_in mades made.number ≡ None) × AreApart mades
