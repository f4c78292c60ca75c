-- How the lines are spelled that do something.
use Rattle.std.specs.Prelude.{ℕ, List, [], ◌∷◌, Option, option_map, codes}
use Rattle.pgs_words.specs.Forms.{Row, Spelling, last, said, row, by_rows}
use Rattle.pgs_words.specs.Fields.{number}
use Rattle.pgs_lines.specs.Basics.{scrub_form, basic_said, basic_read}
use Rattle.pgs_lines.specs.declared.step.Step.{Step}
use Rattle.pgs_lines.specs.declared.step.Step.TheVariants as steps

abbrev pub step_said : Step → Spelling
step_said (steps.Basic basic) = basic_said basic
step_said (steps.Settle group) = said (codes "settle") (last number) group
step_said (steps.Sweep group k) = said (codes "sweep") scrub_form (group, k)
step_said (steps.ListObj group) = said (codes "list-obj") (last number) group
step_said (steps.ListSnap group) = said (codes "list-snap") (last number) group

unfoldable pub step_rows : List (Row Step)
step_rows =
    row (codes "settle") (last number) (λ x. steps.Settle x)
    ∷ row (codes "sweep") scrub_form (λ x. steps.Sweep x.0 x.1)
    ∷ row (codes "list-obj") (last number) (λ x. steps.ListObj x)
    ∷ row (codes "list-snap") (last number) (λ x. steps.ListSnap x)
    ∷ []

abbrev pub basic_step_read : List ℕ → List (List ℕ) → Option Step
basic_step_read word words = option_map (λ x. steps.Basic x) (basic_read word words)

unfoldable pub step_read : List ℕ → List (List ℕ) → Option Step
step_read word words = by_rows step_rows basic_step_read word words

-- what follows the word of a kind, read
abbrev pub settle_read : List (List ℕ) → Option Step
settle_read words = option_map (λ x. steps.Settle x) ((last number).read words)

abbrev pub sweep_read : List (List ℕ) → Option Step
sweep_read words = option_map (λ x. steps.Sweep x.0 x.1) (scrub_form.read words)

abbrev pub list_obj_read : List (List ℕ) → Option Step
list_obj_read words = option_map (λ x. steps.ListObj x) ((last number).read words)

abbrev pub list_snap_read : List (List ℕ) → Option Step
list_snap_read words = option_map (λ x. steps.ListSnap x) ((last number).read words)
