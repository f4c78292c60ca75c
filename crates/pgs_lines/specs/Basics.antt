-- How the lines are spelled that do one thing.
use Rattle.std.specs.Prelude.{ℕ, List, [], ◌∷◌, Option, option_map, codes}
use Rattle.pgs_words.specs.Forms.{Form, Row, Spelling, field, last, said, row, by_rows, no_row}
use Rattle.pgs_words.specs.Fields.{number}
use Rattle.pgs_request.specs.declared.op.Op.{Op}
use Rattle.pgs_lines.specs.Contexts.{context}
use Rattle.pgs_lines.specs.Objects.{op, snap, kind, rank, members_form, named}
use Rattle.pgs_lines.specs.Damages.{damage}
use Rattle.pgs_lines.specs.declared.context.Context.{Context}
use Rattle.pgs_lines.specs.declared.damage.Damage.{Damage}
use Rattle.pgs_lines.specs.declared.kind.Kind.{Kind}
use Rattle.pgs_lines.specs.declared.snap.Snap.{Snap}
use Rattle.pgs_lines.specs.declared.basic.Basic.{Basic}
use Rattle.pgs_lines.specs.declared.basic.Basic.TheVariants as basics

-- CLIENT SERIAL SPACE KEY NAME CTX OP
abbrev pub write_form : Form (ℕ × (ℕ × (List ℕ × (List ℕ × (List ℕ × (Context × Op))))))
write_form = field number (field number (named (field context op)))

abbrev pub write_of : ℕ × (ℕ × (List ℕ × (List ℕ × (List ℕ × (Context × Op))))) → Basic
write_of x = basics.Write x.0 x.1.0 (record { space = x.1.1.0; key = x.1.1.1.0; name = x.1.1.1.1.0 }) x.1.1.1.1.1.0 x.1.1.1.1.1.1

-- G CLIENT SERIAL
abbrev pub collect_form : Form (ℕ × (ℕ × ℕ))
collect_form = field number (field number (last number))

-- G OSD
abbrev pub member_form : Form (ℕ × ℕ)
member_form = field number (last number)

-- G KIND
abbrev pub scrub_form : Form (ℕ × Kind)
scrub_form = field number (last kind)

-- G OSD SPACE KEY NAME SNAP DAMAGE
abbrev pub damage_form : Form (ℕ × (ℕ × (List ℕ × (List ℕ × (List ℕ × (Snap × Damage))))))
damage_form = field number (field number (named (field snap damage)))

abbrev pub damage_of : ℕ × (ℕ × (List ℕ × (List ℕ × (List ℕ × (Snap × Damage))))) → Basic
damage_of x = basics.Damage x.0 x.1.0 (record { space = x.1.1.0; key = x.1.1.1.0; name = x.1.1.1.1.0 }) x.1.1.1.1.1.0 x.1.1.1.1.1.1

-- G OSD OSD ..
abbrev pub interval_form : Form (ℕ × List ℕ)
interval_form = field number members_form

-- G KIND RANK MOMENT
abbrev pub job_form : Form (ℕ × (Kind × (ℕ × ℕ)))
job_form = field number (field kind (field rank (last number)))

abbrev pub basic_said : Basic → Spelling
basic_said (basics.Write client serial o c p) = said (codes "write") write_form (client, (serial, (o.space, (o.key, (o.name, (c, p))))))
basic_said (basics.Collect group client serial) = said (codes "collect") collect_form (group, (client, serial))
basic_said (basics.Pull group osd) = said (codes "pull") member_form (group, osd)
basic_said (basics.Apply group osd) = said (codes "apply") member_form (group, osd)
basic_said (basics.Tell group osd) = said (codes "tell") member_form (group, osd)
basic_said (basics.Damage group osd o s d) = said (codes "damage") damage_form (group, (osd, (o.space, (o.key, (o.name, (s, d))))))
basic_said (basics.Begin group k) = said (codes "begin") scrub_form (group, k)
basic_said (basics.Open group) = said (codes "open") (last number) group
basic_said (basics.Scan group osd) = said (codes "scan") member_form (group, osd)
basic_said (basics.Take group osd) = said (codes "take") member_form (group, osd)
basic_said (basics.Close group) = said (codes "close") (last number) group
basic_said (basics.Interval group acting) = said (codes "interval") interval_form (group, acting)
basic_said (basics.Claim group) = said (codes "claim") (last number) group
basic_said (basics.Release group osd) = said (codes "release") member_form (group, osd)
basic_said (basics.Job group k r moment) = said (codes "job") job_form (group, (k, (r, moment)))
basic_said (basics.Unjob group) = said (codes "unjob") (last number) group
basic_said (basics.Pick moment) = said (codes "pick") (last number) moment

-- the steps that say who acts and which scrubs may begin
unfoldable pub plan_rows : List (Row Basic)
plan_rows =
    row (codes "interval") interval_form (λ x. basics.Interval x.0 x.1)
    ∷ row (codes "claim") (last number) (λ x. basics.Claim x)
    ∷ row (codes "release") member_form (λ x. basics.Release x.0 x.1)
    ∷ row (codes "job") job_form (λ x. basics.Job x.0 x.1.0 x.1.1.0 x.1.1.1)
    ∷ row (codes "unjob") (last number) (λ x. basics.Unjob x)
    ∷ row (codes "pick") (last number) (λ x. basics.Pick x)
    ∷ []

unfoldable pub plan_read : List ℕ → List (List ℕ) → Option Basic
plan_read word words = by_rows plan_rows no_row word words

-- the steps of a scrub
unfoldable pub scrub_rows : List (Row Basic)
scrub_rows =
    row (codes "begin") scrub_form (λ x. basics.Begin x.0 x.1)
    ∷ row (codes "open") (last number) (λ x. basics.Open x)
    ∷ row (codes "scan") member_form (λ x. basics.Scan x.0 x.1)
    ∷ row (codes "take") member_form (λ x. basics.Take x.0 x.1)
    ∷ row (codes "close") (last number) (λ x. basics.Close x)
    ∷ []

unfoldable pub scrub_read : List ℕ → List (List ℕ) → Option Basic
scrub_read word words = by_rows scrub_rows plan_read word words

unfoldable pub basic_rows : List (Row Basic)
basic_rows =
    row (codes "write") write_form write_of
    ∷ row (codes "collect") collect_form (λ x. basics.Collect x.0 x.1.0 x.1.1)
    ∷ row (codes "pull") member_form (λ x. basics.Pull x.0 x.1)
    ∷ row (codes "apply") member_form (λ x. basics.Apply x.0 x.1)
    ∷ row (codes "tell") member_form (λ x. basics.Tell x.0 x.1)
    ∷ row (codes "damage") damage_form damage_of
    ∷ []

unfoldable pub basic_read : List ℕ → List (List ℕ) → Option Basic
basic_read word words = by_rows basic_rows scrub_read word words

-- what follows the word of a kind, read
abbrev pub write_read : List (List ℕ) → Option Basic
write_read words = option_map write_of (write_form.read words)

abbrev pub collect_read : List (List ℕ) → Option Basic
collect_read words = option_map (λ x. basics.Collect x.0 x.1.0 x.1.1) (collect_form.read words)

abbrev pub damage_read : List (List ℕ) → Option Basic
damage_read words = option_map damage_of (damage_form.read words)

abbrev pub begin_read : List (List ℕ) → Option Basic
begin_read words = option_map (λ x. basics.Begin x.0 x.1) (scrub_form.read words)

abbrev pub interval_read : List (List ℕ) → Option Basic
interval_read words = option_map (λ x. basics.Interval x.0 x.1) (interval_form.read words)

abbrev pub job_read : List (List ℕ) → Option Basic
job_read words = option_map (λ x. basics.Job x.0 x.1.0 x.1.1.0 x.1.1.1) (job_form.read words)
