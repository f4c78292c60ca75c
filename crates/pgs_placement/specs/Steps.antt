-- What the steps of a script do to the group that they name.
use Rattle.std.specs.Prelude.{ℕ, Bool, true, false, List, [], ◌∷◌}
use Rattle.pgs_lines.specs.Contexts.{meant}
use Rattle.pgs_lines.specs.declared.basic.Basic.{Basic}
use Rattle.pgs_lines.specs.declared.basic.Basic.TheVariants as basics
use Rattle.pgs_lines.specs.declared.step.Step.{Step}
use Rattle.pgs_lines.specs.declared.step.Step.TheVariants as steps
use Rattle.pgs_shards.specs.Applies.{apply_in}
use Rattle.pgs_shards.specs.declared.apply_answer.ApplyAnswer.{ApplyAnswer}
use Rattle.pgs_shards.specs.declared.apply_answer.ApplyAnswer.TheVariants as applies
use Rattle.pgs_placement.specs.State.{PlacementState}
use Rattle.pgs_placement.specs.Admissions.{all_admitted}
use Rattle.pgs_placement.specs.Basics.{after_write, after_collecting, after_pulling, after_telling, after_applying, after_damaging, after_scanning, after_changing}
use Rattle.pgs_placement.specs.Scrubs.{after_beginning, after_claiming, after_releasing, after_opening, after_taking, after_closing}
use Rattle.pgs_placement.specs.Lists.{obj_text, snap_text, after_listing}
use Rattle.pgs_placement.specs.Repeats.{MOST, repeated}
use Rattle.pgs_placement.specs.Sweeps.{swept}

-- ---- a single step, and then the writes that are to be taken up; a job waits in the queue of all groups, and changes no group

abbrev pub basic_done : PlacementState → Basic → PlacementState
basic_done w (basics.Write client serial object context op) = after_write w client serial object (meant context) op
basic_done w (basics.Collect group client serial) = after_collecting w group client serial
basic_done w (basics.Pull group osd) = after_pulling w group osd
basic_done w (basics.Apply group osd) = after_applying w group osd
basic_done w (basics.Tell group osd) = after_telling w group osd
basic_done w (basics.Damage group osd object snap damage) = after_damaging w group osd object snap damage
basic_done w (basics.Begin group kind) = after_beginning w group kind
basic_done w (basics.Open group) = after_opening w group
basic_done w (basics.Scan group osd) = after_scanning w group osd
basic_done w (basics.Take group osd) = after_taking w group osd
basic_done w (basics.Close group) = after_closing w group
basic_done w (basics.Claim group) = after_claiming w group
basic_done w (basics.Release group osd) = after_releasing w group osd
basic_done w (basics.Interval group osds) = after_changing w group osds
basic_done w (basics.Job group kind rank moment) = w
basic_done w (basics.Unjob group) = w
basic_done w (basics.Pick moment) = w

-- a step of a scrub
abbrev pub is_scrub : Basic → Bool
is_scrub (basics.Begin group kind) = true
is_scrub (basics.Open group) = true
is_scrub (basics.Scan group osd) = true
is_scrub (basics.Take group osd) = true
is_scrub (basics.Close group) = true
is_scrub (basics.Claim group) = true
is_scrub (basics.Release group osd) = true
is_scrub basic = false

abbrev pub after_basic : PlacementState → Basic → PlacementState
after_basic w basic = all_admitted (basic_done w basic)

-- ---- settling: each member pulls, applies until nothing waits, and tells

-- an item was applied, or its device failed, so that it waits still
abbrev pub is_waiting : ApplyAnswer → Bool
is_waiting (applies.NotYet count) = false
is_waiting (applies.Applied number drops) = true
is_waiting (applies.DeviceFault count) = true

-- applied until the answer is that nothing waits
abbrev pub applied_out : ℕ → PlacementState → ℕ → ℕ → PlacementState
applied_out n w group osd = repeated (λ x. after_applying x group osd) (λ x. is_waiting (apply_in x.members osd)) n w

abbrev pub member_settled : PlacementState → ℕ → ℕ → PlacementState
member_settled w group osd = after_telling (applied_out MOST (after_pulling w group osd) group osd) group osd

abbrev pub settled : PlacementState → ℕ → List ℕ → PlacementState
settled w group [] = w
settled w group (osd ∷ osds) = settled (member_settled w group osd) group osds

-- ---- steps

abbrev pub after_step : PlacementState → Step → PlacementState
after_step w (steps.Basic basic) = after_basic w basic
after_step w (steps.Settle group) = settled w group w.made.members
after_step w (steps.Sweep group kind) = swept w group kind
after_step w (steps.ListObj group) = after_listing (obj_text w) w
after_step w (steps.ListSnap group) = after_listing (snap_text w) w
