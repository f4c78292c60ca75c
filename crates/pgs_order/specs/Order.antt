-- Which lines of a script may follow which.
use Rattle.std.specs.Prelude.{ℕ, ◌==◌, ◌^◌, ◌&&◌, ◌||◌, if◌then◌else◌, Bool, true, false, not, nat_lt, nat_le, List, [], ◌∷◌, ◌++◌, length, Option, Some, None, is_some, is_none}
use Rattle.std.specs.List.{list_any, list_all, filter}
use Rattle.pgs_request.specs.Payloads.{size_of}
use Rattle.pgs_request.specs.declared.payload.Payload.{Payload}
use Rattle.pgs_request.specs.declared.op.Op.{Op}
use Rattle.pgs_request.specs.declared.op.Op.TheVariants.{SetAttr, SetOmap, SetHeader}
use Rattle.pgs_lines.specs.Contexts.{meant}
use Rattle.pgs_lines.specs.declared.damage.Damage.{Damage}
use Rattle.pgs_lines.specs.declared.damage.Damage.TheVariants as damages
use Rattle.pgs_lines.specs.declared.basic.Basic.{Basic}
use Rattle.pgs_lines.specs.declared.basic.Basic.TheVariants as basics
use Rattle.pgs_lines.specs.declared.step.Step.{Step}
use Rattle.pgs_lines.specs.declared.step.Step.TheVariants as steps
use Rattle.pgs_lines.specs.declared.line.Line.{Line}
use Rattle.pgs_lines.specs.declared.line.Line.TheVariants as lines
use Rattle.pgs_order.specs.declared.declarations.Osd.{Osd}
use Rattle.pgs_order.specs.declared.declarations.Group.{Group}
use Rattle.pgs_order.specs.declared.declarations.Fail.{Fail}
use Rattle.pgs_order.specs.declared.declarations.Declarations.{Declarations}
use Rattle.pgs_order.specs.declared.step_script.StepScript.{StepScript}

-- ---- before the first line

abbrev pub nothing_declared : Declarations
nothing_declared = record { bits = None; osds = []; groups = []; fails = [] }

abbrev pub nothing_said : StepScript
nothing_said = record { declared = nothing_declared; steps = []; over = false }

-- ---- lines that say nothing

-- an empty line, and one that begins with `#`
abbrev pub passed : List ℕ → Bool
passed [] = true
passed (b ∷ bs) = b == 35

-- ---- what is declared

abbrev pub has : List ℕ → ℕ → Bool
has numbers number = list_any (λ n. n == number) numbers

abbrev pub has_osd : List Osd → ℕ → Bool
has_osd osds number = list_any (λ osd. osd.osd == number) osds

abbrev pub has_group : List Group → ℕ → Bool
has_group groups number = list_any (λ group. group.group == number) groups

-- whether a group has this number and this member
abbrev pub is_in : ℕ → ℕ → Group → Bool
is_in number osd group = (group.group == number) && has group.members osd

-- whether an OSD is a member of a declared group
abbrev pub is_member : List Group → ℕ → ℕ → Bool
is_member groups number osd = list_any (is_in number osd) groups

abbrev pub are_members : List Group → ℕ → List ℕ → Bool
are_members groups number osds = list_all (λ osd. is_member groups number osd) osds

abbrev pub are_declared : List Osd → List ℕ → Bool
are_declared osds members = list_all (λ member. has_osd osds member) members

abbrev pub are_distinct : List ℕ → Bool
are_distinct [] = true
are_distinct (n ∷ ns) = not (has ns n) && are_distinct ns

-- whether a number is below 2^bits
abbrev pub is_below : ℕ → ℕ → Bool
is_below bits number = nat_lt number (2 ^ bits)

-- whether a number is that of a group of the pool
abbrev pub is_of_pool : Option ℕ → ℕ → Bool
is_of_pool None number = false
is_of_pool (Some bits) number = is_below bits number

abbrev pub has_all : Option ℕ → ℕ → Bool
has_all None count = false
has_all (Some bits) count = count == 2 ^ bits

-- whether the pool is declared, and each of its groups: no group is declared twice
abbrev pub are_whole : Declarations → Bool
are_whole declared = has_all declared.bits (length declared.groups)

-- all is declared, or nothing
abbrev pub is_closed : Declarations → Bool
is_closed declared = is_none declared.bits || are_whole declared

-- ---- what is declared of a group

-- the group of a number
abbrev pub group_of : List Group → ℕ → Option Group
group_of [] number = None
group_of (group ∷ groups) number = if group.group == number then Some group else group_of groups number

-- whether a call is one of the device by which an OSD stores a group
abbrev pub is_of : ℕ → ℕ → Fail → Bool
is_of group osd fail = (fail.group == group) && (fail.osd == osd)

-- the calls that fail of the device by which an OSD stores a group
abbrev pub fails_of : ℕ → ℕ → List Fail → List Fail
fails_of group osd fails = filter (is_of group osd) fails

-- ---- which line may stand where

-- once, before all other declarations
abbrev pub pool_follows : Declarations → Bool
pool_follows declared = is_none declared.bits

-- behind the pool and before the groups, each number once
abbrev pub osd_follows : Declarations → ℕ → Bool
osd_follows declared osd = is_some declared.bits && (length declared.groups == 0) && not (has_osd declared.osds osd)

-- behind the OSDs, each group of the pool once; its members are declared and distinct
abbrev pub group_follows : Declarations → ℕ → List ℕ → Bool
group_follows declared group members =
    is_of_pool declared.bits group && not (has_group declared.groups group) && are_declared declared.osds members && are_distinct members

-- behind the groups and before the steps, of a member of a group
abbrev pub fail_follows : StepScript → ℕ → ℕ → Bool
fail_follows s group osd = are_whole s.declared && (length s.steps == 0) && is_member s.declared.groups group osd

-- members of a declared group, all different
abbrev pub acting_follows : List Group → ℕ → List ℕ → Bool
acting_follows groups group acting = has_group groups group && are_members groups group acting && are_distinct acting

-- whether what a step names is declared: a group, and where it names an OSD, a member of it. A write names neither, since its
-- object's space, key and name say which group it goes to, and a pick is from the queue of all groups
abbrev pub basic_is_named : List Group → Basic → Bool
basic_is_named groups (basics.Write client serial object context op) = true
basic_is_named groups (basics.Collect group client serial) = has_group groups group
basic_is_named groups (basics.Pull group osd) = is_member groups group osd
basic_is_named groups (basics.Apply group osd) = is_member groups group osd
basic_is_named groups (basics.Tell group osd) = is_member groups group osd
basic_is_named groups (basics.Damage group osd object snap damage) = is_member groups group osd
basic_is_named groups (basics.Begin group kind) = has_group groups group
basic_is_named groups (basics.Open group) = has_group groups group
basic_is_named groups (basics.Scan group osd) = is_member groups group osd
basic_is_named groups (basics.Take group osd) = is_member groups group osd
basic_is_named groups (basics.Close group) = has_group groups group
basic_is_named groups (basics.Interval group acting) = acting_follows groups group acting
basic_is_named groups (basics.Claim group) = has_group groups group
basic_is_named groups (basics.Release group osd) = is_member groups group osd
basic_is_named groups (basics.Job group kind rank moment) = has_group groups group
basic_is_named groups (basics.Unjob group) = has_group groups group
basic_is_named groups (basics.Pick moment) = true

abbrev pub step_is_named : List Group → Step → Bool
step_is_named groups (steps.Basic basic) = basic_is_named groups basic
step_is_named groups (steps.Settle group) = has_group groups group
step_is_named groups (steps.Sweep group kind) = has_group groups group
step_is_named groups (steps.ListObj group) = has_group groups group
step_is_named groups (steps.ListSnap group) = has_group groups group

-- a step may stand where all is declared, and `end` there and where nothing is
abbrev pub allows : StepScript → Line → Bool
allows s (lines.Pool bits) = pool_follows s.declared
allows s (lines.Osd osd slots) = osd_follows s.declared osd
allows s (lines.Group group epoch members) = group_follows s.declared group members
allows s (lines.Fail group osd call number) = fail_follows s group osd
allows s (lines.Step step) = are_whole s.declared && step_is_named s.declared.groups step
allows s lines.End = is_closed s.declared

-- ---- limits

-- the value of an attribute or of an omap's key has at most 65,536 bytes, and a header too
abbrev pub is_long : Payload → Bool
is_long payload = nat_lt 65536 (size_of payload)

abbrev pub op_passes : Op → Bool
op_passes (SetAttr name payload) = is_long payload
op_passes (SetOmap key payload) = is_long payload
op_passes (SetHeader payload) = is_long payload
op_passes op = false

-- the data that damage puts in the place of a copy's own has at most 4,194,304 bytes, as an object's
abbrev pub is_large : Payload → Bool
is_large payload = nat_lt 4194304 (size_of payload)

-- what damage puts into a copy has the limits of what it takes the place of
abbrev pub damage_passes : Damage → Bool
damage_passes (damages.SetData payload) = is_large payload
damage_passes (damages.SetAttr name payload) = is_long payload
damage_passes (damages.SetOmap key payload) = is_long payload
damage_passes (damages.SetHeader payload) = is_long payload
damage_passes damage = false

-- and a context has at most 64 snaps
abbrev pub basic_passes : Basic → Bool
basic_passes (basics.Write client serial object context op) = nat_lt 64 (length (meant context).snaps) || op_passes op
basic_passes (basics.Damage group osd object snap damage) = damage_passes damage
basic_passes basic = false

abbrev pub step_passes : Step → Bool
step_passes (steps.Basic basic) = basic_passes basic
step_passes step = false

-- a pool has at most 3 bits; an OSD's number is at most 63, it has at most 8 slots, and there are at most 16 OSDs; a group has
-- at most 8 members; and at most 1,000 lines say which calls fail
abbrev pub passes : StepScript → Line → Bool
passes s (lines.Pool bits) = nat_lt 3 bits
passes s (lines.Osd osd slots) = nat_lt 63 osd || nat_lt 8 slots || nat_le 16 (length s.declared.osds)
passes s (lines.Group group epoch members) = nat_lt 8 (length members)
passes s (lines.Fail group osd call number) = nat_le 1000 (length s.declared.fails)
passes s (lines.Step step) = step_passes step
passes s lines.End = false

-- ---- what was said with a line more

abbrev pub after : StepScript → Line → StepScript
after s (lines.Pool bits) = record s { declared = record s.declared { bits = Some bits } }
after s (lines.Osd osd slots) = record s { declared = record s.declared { osds = s.declared.osds ++ record { osd = osd; slots = slots } ∷ [] } }
after s (lines.Group group epoch members) =
    record s { declared = record s.declared { groups = s.declared.groups ++ record { group = group; epoch = epoch; members = members } ∷ [] } }
after s (lines.Fail group osd call number) =
    record s { declared = record s.declared { fails = s.declared.fails ++ record { group = group; osd = osd; call = call; number = number } ∷ [] } }
after s (lines.Step step) = record s { steps = s.steps ++ step ∷ [] }
after s lines.End = record s { over = true }
