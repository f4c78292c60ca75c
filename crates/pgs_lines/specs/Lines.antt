-- How the lines of a script are spelled.
use Rattle.std.specs.Prelude.{ℕ, ◌&&◌, Bool, nat_le, List, [], ◌∷◌, Option, option_map, codes}
use Rattle.pgs_words.specs.Forms.{Field, Form, Row, Spelling, parts, nothing, field, last, kinds, said, row, by_rows}
use Rattle.pgs_words.specs.Fields.{number, positive}
use Rattle.pgs_lines.specs.Objects.{call, members_form}
use Rattle.pgs_lines.specs.declared.call.Call.{Call}
use Rattle.pgs_lines.specs.Steps.{step_said, step_read}
use Rattle.pgs_lines.specs.declared.line.Line.{Line}
use Rattle.pgs_lines.specs.declared.line.Line.TheVariants as lines

-- N SLOTS
abbrev pub osd_form : Form (ℕ × ℕ)
osd_form = field number (last positive)

-- G EPOCH OSD OSD ..
abbrev pub group_form : Form (ℕ × (ℕ × List ℕ))
group_form = field number (field positive members_form)

-- G OSD CALL NTH
abbrev pub fail_form : Form (ℕ × (ℕ × (Call × ℕ)))
fail_form = field number (field number (field call (last positive)))

abbrev pub line_said : Line → Spelling
line_said (lines.Pool bits) = said (codes "pool") (last number) bits
line_said (lines.Osd osd slots) = said (codes "osd") osd_form (osd, slots)
line_said (lines.Group group epoch members) = said (codes "group") group_form (group, (epoch, members))
line_said (lines.Fail group osd c nth) = said (codes "fail") fail_form (group, (osd, (c, nth)))
line_said (lines.Step step) = step_said step
line_said lines.End = said (codes "end") nothing tt

unfoldable pub line_rows : List (Row Line)
line_rows =
    row (codes "pool") (last number) (λ x. lines.Pool x)
    ∷ row (codes "osd") osd_form (λ x. lines.Osd x.0 x.1)
    ∷ row (codes "group") group_form (λ x. lines.Group x.0 x.1.0 x.1.1)
    ∷ row (codes "fail") fail_form (λ x. lines.Fail x.0 x.1.0 x.1.1.0 x.1.1.1)
    ∷ row (codes "end") nothing (λ x. lines.End)
    ∷ []

abbrev pub step_line_read : List ℕ → List (List ℕ) → Option Line
step_line_read word words = option_map (λ x. lines.Step x) (step_read word words)

unfoldable pub line_read : List ℕ → List (List ℕ) → Option Line
line_read word words = by_rows line_rows step_line_read word words

abbrev pub line_form : Form Line
line_form = kinds line_said line_read

-- words with one space between two of them
abbrev pub line : Field Line
line = parts 32 line_form

-- the bytes of a line: those of words, and the space
abbrev pub in_line : ℕ → Bool
in_line b = nat_le 32 b && nat_le b 126

-- what follows the word of a kind, read
abbrev pub pool_read : List (List ℕ) → Option Line
pool_read words = option_map (λ x. lines.Pool x) ((last number).read words)

abbrev pub osd_read : List (List ℕ) → Option Line
osd_read words = option_map (λ x. lines.Osd x.0 x.1) (osd_form.read words)

abbrev pub group_read : List (List ℕ) → Option Line
group_read words = option_map (λ x. lines.Group x.0 x.1.0 x.1.1) (group_form.read words)

abbrev pub fail_read : List (List ℕ) → Option Line
fail_read words = option_map (λ x. lines.Fail x.0 x.1.0 x.1.1.0 x.1.1.1) (fail_form.read words)

abbrev pub end_read : List (List ℕ) → Option Line
end_read words = option_map (λ x. lines.End) (nothing.read words)
