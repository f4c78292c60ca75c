-- Each line is read as it is spelled, and spelled as it is read.
use Rattle.std.proofs.Common.{◌≡◌, ℕ, ◌==◌, true, false, [], ◌∷◌, Option, Some, None, refl, ◌∙◌, ap, subst, arith}
use Rattle.std.specs.Prelude.{nat_le, option_map, codes}
use Rattle.std.specs.List.{list_all}
use Rattle.std.proofs.lemmas.Bool.Decides.{nat_tests}
use Rattle.pgs_words.specs.Forms.{Form, field, last, nothing, each, has_some, no_row, read_rows}
use Rattle.pgs_words.specs.Fields.{number, positive, plain_byte, number_of, digits_from}
use Rattle.pgs_words.proofs.Laws.{FieldLaws, FormLaws, mapped_of}
use Rattle.pgs_words.proofs.FormLaws.{nothing_laws, field_laws, last_laws, each_laws, such_laws, such_form_laws, seen_field_laws, parts_laws}
use Rattle.pgs_words.proofs.KindLaws.{IsKind, IsSpelled, kind_of, FindsSpelled, row_finds, no_row_finds, by_rows_finds, kinds_laws, keyword_laws}
use Rattle.pgs_words.proofs.FieldLaws.{word_of_laws, dash_or_laws, number_word, positive_word}
use Rattle.pgs_lines.specs.Choices.{word_or}
use Rattle.pgs_lines.specs.Contexts.{context}
use Rattle.pgs_lines.specs.Objects.{op, snap_of, clone_in, snap, kind_word, kind, call_word, calls_of, call, rank, members_form, space, key, name, named}
use Rattle.pgs_lines.specs.Damages.{damage}
use Rattle.pgs_lines.specs.Basics.{write_form, write_of, collect_form, member_form, scrub_form, damage_form, damage_of, interval_form, job_form, basic_said, plan_rows, plan_read, scrub_rows, scrub_read, basic_rows, basic_read}
use Rattle.pgs_lines.specs.Steps.{step_said, step_rows, basic_step_read, step_read}
use Rattle.pgs_lines.specs.Lines.{osd_form, group_form, fail_form, line_said, line_rows, step_line_read, line_read, line_form, line, in_line}
use Rattle.pgs_lines.specs.declared.kind.Kind.{Kind}
use Rattle.pgs_lines.specs.declared.kind.Kind.TheVariants.{Shallow, Deep}
use Rattle.pgs_lines.specs.declared.snap.Snap.{Snap}
use Rattle.pgs_lines.specs.declared.call.Call.{Call}
use Rattle.pgs_lines.specs.declared.call.Call.TheVariants as calls
use Rattle.pgs_lines.specs.declared.snap.Snap.TheVariants as snaps
use Rattle.pgs_lines.specs.declared.basic.Basic.{Basic}
use Rattle.pgs_lines.specs.declared.basic.Basic.TheVariants as basics
use Rattle.pgs_lines.specs.declared.step.Step.{Step}
use Rattle.pgs_lines.specs.declared.step.Step.TheVariants as steps
use Rattle.pgs_lines.specs.declared.line.Line.{Line}
use Rattle.pgs_lines.specs.declared.line.Line.TheVariants as lines
use Rattle.pgs_lines.proofs.ChoiceLaws.{word_or_laws}
use Rattle.pgs_lines.proofs.ContextLaws.{context_laws}
use Rattle.pgs_lines.proofs.OpLaws.{op_laws}
use Rattle.pgs_lines.proofs.DamageLaws.{damage_laws}

-- ---- words for values

snap_again : (x : Snap) → snap_of (clone_in x) ≡ x
snap_again snaps.Head = refl
snap_again (snaps.Clone n) = refl

clone_again : (x : Option ℕ) → clone_in (snap_of x) ≡ x
clone_again None = refl
clone_again (Some n) = refl

head_is_none : positive.read (codes "head") ≡ None
unfolding number_of digits_from
head_is_none = refl

snap_laws : FieldLaws plain_byte snap
snap_laws = seen_field_laws plain_byte snap_of clone_in (word_or (codes "head") positive)
    (word_or_laws plain_byte (codes "head") positive refl head_is_none positive_word) snap_again clone_again

kind_again : (x : Kind) → kind.read (kind_word x) ≡ Some x
kind_again Shallow = refl
kind_again Deep = refl

kind_keeps : (x : Kind) → list_all plain_byte (kind_word x) ≡ true
kind_keeps Shallow = refl
kind_keeps Deep = refl

kind_laws : FieldLaws plain_byte kind
kind_laws = keyword_laws plain_byte kind_word ((codes "shallow", Shallow) ∷ (codes "deep", Deep) ∷ []) (refl, (refl, tt)) kind_again kind_keeps

call_again : (x : Call) → call.read (call_word x) ≡ Some x
call_again calls.List = refl
call_again calls.Stat = refl
call_again calls.Attrs = refl
call_again calls.Read = refl
call_again calls.Omap = refl
call_again calls.Write = refl

call_keeps : (x : Call) → list_all plain_byte (call_word x) ≡ true
call_keeps calls.List = refl
call_keeps calls.Stat = refl
call_keeps calls.Attrs = refl
call_keeps calls.Read = refl
call_keeps calls.Omap = refl
call_keeps calls.Write = refl

call_laws : FieldLaws plain_byte call
call_laws = keyword_laws plain_byte call_word calls_of (refl, (refl, (refl, (refl, (refl, (refl, tt)))))) call_again call_keeps

rank_laws : FieldLaws plain_byte rank
rank_laws = such_laws plain_byte (λ n. nat_le n 255) number number_word

members_laws : FormLaws plain_byte members_form
members_laws = such_form_laws plain_byte has_some (each number) (each_laws plain_byte number number_word)

-- ---- steps that do one thing

settle_laws : FormLaws plain_byte (last number)
settle_laws = last_laws plain_byte number number_word

member_laws : FormLaws plain_byte member_form
member_laws = field_laws plain_byte number (last number) number_word settle_laws

named_laws : {B : Type 0} (b : Form B) → FormLaws plain_byte b → FormLaws plain_byte (named b)
named_laws b laws = field_laws plain_byte space (field key (field name b)) (dash_or_laws 64)
    (field_laws plain_byte key (field name b) (dash_or_laws 255) (field_laws plain_byte name b (word_of_laws 1 255) laws))

write_laws : FormLaws plain_byte write_form
write_laws = field_laws plain_byte number (field number (named (field context op))) number_word
    (field_laws plain_byte number (named (field context op)) number_word
    (named_laws (field context op) (field_laws plain_byte context op context_laws op_laws)))

collect_laws : FormLaws plain_byte collect_form
collect_laws = field_laws plain_byte number (field number (last number)) number_word member_laws

scrub_laws : FormLaws plain_byte scrub_form
scrub_laws = field_laws plain_byte number (last kind) number_word (last_laws plain_byte kind kind_laws)

damage_form_laws : FormLaws plain_byte damage_form
damage_form_laws = field_laws plain_byte number (field number (named (field snap damage))) number_word
    (field_laws plain_byte number (named (field snap damage)) number_word
    (named_laws (field snap damage) (field_laws plain_byte snap damage snap_laws damage_laws)))

interval_laws : FormLaws plain_byte interval_form
interval_laws = field_laws plain_byte number members_form number_word members_laws

job_laws : FormLaws plain_byte job_form
job_laws = field_laws plain_byte number (field kind (field rank (last number))) number_word
    (field_laws plain_byte kind (field rank (last number)) kind_laws (field_laws plain_byte rank (last number) rank_laws settle_laws))

basic_kind : (x : Basic) → IsKind plain_byte basic_read (basic_said x) x
unfolding basic_read basic_rows scrub_read scrub_rows plan_read plan_rows
basic_kind (basics.Write client serial o c p) =
    kind_of plain_byte basic_read (codes "write") write_form write_of write_laws (λ ws. refl) refl (client, (serial, (o.space, (o.key, (o.name, (c, p))))))
basic_kind (basics.Collect group client serial) =
    kind_of plain_byte basic_read (codes "collect") collect_form (λ x. basics.Collect x.0 x.1.0 x.1.1) collect_laws (λ ws. refl) refl (group, (client, serial))
basic_kind (basics.Pull group osd) =
    kind_of plain_byte basic_read (codes "pull") member_form (λ x. basics.Pull x.0 x.1) member_laws (λ ws. refl) refl (group, osd)
basic_kind (basics.Apply group osd) =
    kind_of plain_byte basic_read (codes "apply") member_form (λ x. basics.Apply x.0 x.1) member_laws (λ ws. refl) refl (group, osd)
basic_kind (basics.Tell group osd) =
    kind_of plain_byte basic_read (codes "tell") member_form (λ x. basics.Tell x.0 x.1) member_laws (λ ws. refl) refl (group, osd)
basic_kind (basics.Damage group osd o s d) =
    kind_of plain_byte basic_read (codes "damage") damage_form damage_of damage_form_laws (λ ws. refl) refl (group, (osd, (o.space, (o.key, (o.name, (s, d))))))
basic_kind (basics.Begin group k) =
    kind_of plain_byte basic_read (codes "begin") scrub_form (λ x. basics.Begin x.0 x.1) scrub_laws (λ ws. refl) refl (group, k)
basic_kind (basics.Open group) = kind_of plain_byte basic_read (codes "open") (last number) (λ x. basics.Open x) settle_laws (λ ws. refl) refl group
basic_kind (basics.Scan group osd) =
    kind_of plain_byte basic_read (codes "scan") member_form (λ x. basics.Scan x.0 x.1) member_laws (λ ws. refl) refl (group, osd)
basic_kind (basics.Take group osd) =
    kind_of plain_byte basic_read (codes "take") member_form (λ x. basics.Take x.0 x.1) member_laws (λ ws. refl) refl (group, osd)
basic_kind (basics.Close group) = kind_of plain_byte basic_read (codes "close") (last number) (λ x. basics.Close x) settle_laws (λ ws. refl) refl group
basic_kind (basics.Interval group acting) =
    kind_of plain_byte basic_read (codes "interval") interval_form (λ x. basics.Interval x.0 x.1) interval_laws (λ ws. refl) refl (group, acting)
basic_kind (basics.Claim group) = kind_of plain_byte basic_read (codes "claim") (last number) (λ x. basics.Claim x) settle_laws (λ ws. refl) refl group
basic_kind (basics.Release group osd) =
    kind_of plain_byte basic_read (codes "release") member_form (λ x. basics.Release x.0 x.1) member_laws (λ ws. refl) refl (group, osd)
basic_kind (basics.Job group k r moment) =
    kind_of plain_byte basic_read (codes "job") job_form (λ x. basics.Job x.0 x.1.0 x.1.1.0 x.1.1.1) job_laws (λ ws. refl) refl (group, (k, (r, moment)))
basic_kind (basics.Unjob group) = kind_of plain_byte basic_read (codes "unjob") (last number) (λ x. basics.Unjob x) settle_laws (λ ws. refl) refl group
basic_kind (basics.Pick moment) = kind_of plain_byte basic_read (codes "pick") (last number) (λ x. basics.Pick x) settle_laws (λ ws. refl) refl moment

plan_finds : FindsSpelled basic_said plan_read
unfolding plan_read plan_rows
plan_finds = by_rows_finds basic_said plan_rows no_row (
  row_finds plain_byte basic_said (codes "interval") interval_form (λ x. basics.Interval x.0 x.1) interval_laws (λ y. refl),
  (
    row_finds plain_byte basic_said (codes "claim") (last number) (λ x. basics.Claim x) settle_laws (λ y. refl),
    (
      row_finds plain_byte basic_said (codes "release") member_form (λ x. basics.Release x.0 x.1) member_laws (λ y. refl),
      (
        row_finds plain_byte basic_said (codes "job") job_form (λ x. basics.Job x.0 x.1.0 x.1.1.0 x.1.1.1) job_laws (λ y. refl),
        (
          row_finds plain_byte basic_said (codes "unjob") (last number) (λ x. basics.Unjob x) settle_laws (λ y. refl),
          (
            row_finds plain_byte basic_said (codes "pick") (last number) (λ x. basics.Pick x) settle_laws (λ y. refl),
            tt,
          ),
        ),
      ),
    ),
  ),
)
    (no_row_finds basic_said)

scrub_finds : FindsSpelled basic_said scrub_read
unfolding scrub_read scrub_rows
scrub_finds = by_rows_finds basic_said scrub_rows plan_read (
  row_finds plain_byte basic_said (codes "begin") scrub_form (λ x. basics.Begin x.0 x.1) scrub_laws (λ y. refl),
  (
    row_finds plain_byte basic_said (codes "open") (last number) (λ x. basics.Open x) settle_laws (λ y. refl),
    (
      row_finds plain_byte basic_said (codes "scan") member_form (λ x. basics.Scan x.0 x.1) member_laws (λ y. refl),
      (
        row_finds plain_byte basic_said (codes "take") member_form (λ x. basics.Take x.0 x.1) member_laws (λ y. refl),
        (
          row_finds plain_byte basic_said (codes "close") (last number) (λ x. basics.Close x) settle_laws (λ y. refl),
          tt,
        ),
      ),
    ),
  ),
)
    plan_finds

basic_finds : FindsSpelled basic_said basic_read
unfolding basic_read basic_rows
basic_finds = by_rows_finds basic_said basic_rows scrub_read (
  row_finds plain_byte basic_said (codes "write") write_form write_of write_laws (λ y. refl),
  (
    row_finds plain_byte basic_said (codes "collect") collect_form (λ x. basics.Collect x.0 x.1.0 x.1.1) collect_laws (λ y. refl),
    (
      row_finds plain_byte basic_said (codes "pull") member_form (λ x. basics.Pull x.0 x.1) member_laws (λ y. refl),
      (
        row_finds plain_byte basic_said (codes "apply") member_form (λ x. basics.Apply x.0 x.1) member_laws (λ y. refl),
        (
          row_finds plain_byte basic_said (codes "tell") member_form (λ x. basics.Tell x.0 x.1) member_laws (λ y. refl),
          (
            row_finds plain_byte basic_said (codes "damage") damage_form damage_of damage_form_laws (λ y. refl),
            tt,
          ),
        ),
      ),
    ),
  ),
)
    scrub_finds

-- ---- steps

-- the word of a basic step is that of no other step
basic_passed_on : (b : Basic) → read_rows step_read (basic_said b).words ≡ option_map (λ x. steps.Basic x) (read_rows basic_read (basic_said b).words)
unfolding step_read step_rows
basic_passed_on (basics.Write client serial o c p) = refl
basic_passed_on (basics.Collect group client serial) = refl
basic_passed_on (basics.Pull group osd) = refl
basic_passed_on (basics.Apply group osd) = refl
basic_passed_on (basics.Tell group osd) = refl
basic_passed_on (basics.Damage group osd o s d) = refl
basic_passed_on (basics.Begin group k) = refl
basic_passed_on (basics.Open group) = refl
basic_passed_on (basics.Scan group osd) = refl
basic_passed_on (basics.Take group osd) = refl
basic_passed_on (basics.Close group) = refl
basic_passed_on (basics.Interval group acting) = refl
basic_passed_on (basics.Claim group) = refl
basic_passed_on (basics.Release group osd) = refl
basic_passed_on (basics.Job group k r moment) = refl
basic_passed_on (basics.Unjob group) = refl
basic_passed_on (basics.Pick moment) = refl

basic_step_kind : (b : Basic) → IsKind plain_byte basic_read (basic_said b) b → IsKind plain_byte step_read (basic_said b) (steps.Basic b)
basic_step_kind b k = record {
  again = λ e. basic_passed_on b ∙ ap (option_map (λ x. steps.Basic x)) (k.again e);
  keeps = k.keeps;
}

step_kind : (x : Step) → IsKind plain_byte step_read (step_said x) x
unfolding step_read step_rows
step_kind (steps.Basic b) = basic_step_kind b (basic_kind b)
step_kind (steps.Settle group) =
    kind_of plain_byte step_read (codes "settle") (last number) (λ x. steps.Settle x) settle_laws (λ ws. refl) refl group
step_kind (steps.Sweep group k) =
    kind_of plain_byte step_read (codes "sweep") scrub_form (λ x. steps.Sweep x.0 x.1) scrub_laws (λ ws. refl) refl (group, k)
step_kind (steps.ListObj group) =
    kind_of plain_byte step_read (codes "list-obj") (last number) (λ x. steps.ListObj x) settle_laws (λ ws. refl) refl group
step_kind (steps.ListSnap group) =
    kind_of plain_byte step_read (codes "list-snap") (last number) (λ x. steps.ListSnap x) settle_laws (λ ws. refl) refl group

basic_step_finds : FindsSpelled step_said basic_step_read
basic_step_finds word ws x e =
    let m = mapped_of (λ b. steps.Basic b) (basic_read word ws) x e in
    subst (λ y. IsSpelled step_said (word ∷ ws) y) m.maps (basic_finds word ws m.value m.is)

step_finds : FindsSpelled step_said step_read
unfolding step_read step_rows
step_finds = by_rows_finds step_said step_rows basic_step_read (
  row_finds plain_byte step_said (codes "settle") (last number) (λ x. steps.Settle x) settle_laws (λ y. refl),
  (
    row_finds plain_byte step_said (codes "sweep") scrub_form (λ x. steps.Sweep x.0 x.1) scrub_laws (λ y. refl),
    (
      row_finds plain_byte step_said (codes "list-obj") (last number) (λ x. steps.ListObj x) settle_laws (λ y. refl),
      (
        row_finds plain_byte step_said (codes "list-snap") (last number) (λ x. steps.ListSnap x) settle_laws (λ y. refl),
        tt,
      ),
    ),
  ),
)
    basic_step_finds

-- ---- lines

osd_laws : FormLaws plain_byte osd_form
osd_laws = field_laws plain_byte number (last positive) number_word (last_laws plain_byte positive positive_word)

group_laws : FormLaws plain_byte group_form
group_laws = field_laws plain_byte number (field positive members_form) number_word (field_laws plain_byte positive members_form positive_word members_laws)

fail_laws : FormLaws plain_byte fail_form
fail_laws = field_laws plain_byte number (field number (field call (last positive))) number_word
    (field_laws plain_byte number (field call (last positive)) number_word
    (field_laws plain_byte call (last positive) call_laws (last_laws plain_byte positive positive_word)))

-- the word of a step is that of no other line
basic_line_passed_on : (b : Basic) → read_rows line_read (basic_said b).words ≡ option_map (λ x. lines.Step x) (read_rows step_read (basic_said b).words)
unfolding line_read line_rows
basic_line_passed_on (basics.Write client serial o c p) = refl
basic_line_passed_on (basics.Collect group client serial) = refl
basic_line_passed_on (basics.Pull group osd) = refl
basic_line_passed_on (basics.Apply group osd) = refl
basic_line_passed_on (basics.Tell group osd) = refl
basic_line_passed_on (basics.Damage group osd o s d) = refl
basic_line_passed_on (basics.Begin group k) = refl
basic_line_passed_on (basics.Open group) = refl
basic_line_passed_on (basics.Scan group osd) = refl
basic_line_passed_on (basics.Take group osd) = refl
basic_line_passed_on (basics.Close group) = refl
basic_line_passed_on (basics.Interval group acting) = refl
basic_line_passed_on (basics.Claim group) = refl
basic_line_passed_on (basics.Release group osd) = refl
basic_line_passed_on (basics.Job group k r moment) = refl
basic_line_passed_on (basics.Unjob group) = refl
basic_line_passed_on (basics.Pick moment) = refl

step_passed_on : (s : Step) → read_rows line_read (step_said s).words ≡ option_map (λ x. lines.Step x) (read_rows step_read (step_said s).words)
unfolding line_read line_rows
step_passed_on (steps.Basic b) = basic_line_passed_on b
step_passed_on (steps.Settle group) = refl
step_passed_on (steps.Sweep group k) = refl
step_passed_on (steps.ListObj group) = refl
step_passed_on (steps.ListSnap group) = refl

step_line_kind : (s : Step) → IsKind plain_byte step_read (step_said s) s → IsKind plain_byte line_read (step_said s) (lines.Step s)
step_line_kind s k = record {
  again = λ e. step_passed_on s ∙ ap (option_map (λ x. lines.Step x)) (k.again e);
  keeps = k.keeps;
}

line_kind : (x : Line) → IsKind plain_byte line_read (line_said x) x
unfolding line_read line_rows
line_kind (lines.Pool bits) = kind_of plain_byte line_read (codes "pool") (last number) (λ x. lines.Pool x) settle_laws (λ ws. refl) refl bits
line_kind (lines.Osd osd slots) = kind_of plain_byte line_read (codes "osd") osd_form (λ x. lines.Osd x.0 x.1) osd_laws (λ ws. refl) refl (osd, slots)
line_kind (lines.Group group epoch members) =
    kind_of plain_byte line_read (codes "group") group_form (λ x. lines.Group x.0 x.1.0 x.1.1) group_laws (λ ws. refl) refl (group, (epoch, members))
line_kind (lines.Fail group osd c nth) =
    kind_of plain_byte line_read (codes "fail") fail_form (λ x. lines.Fail x.0 x.1.0 x.1.1.0 x.1.1.1) fail_laws (λ ws. refl) refl (group, (osd, (c, nth)))
line_kind (lines.Step step) = step_line_kind step (step_kind step)
line_kind lines.End = kind_of plain_byte line_read (codes "end") nothing (λ x. lines.End) (nothing_laws plain_byte) (λ ws. refl) refl tt

step_line_finds : FindsSpelled line_said step_line_read
step_line_finds word ws x e =
    let m = mapped_of (λ s. lines.Step s) (step_read word ws) x e in
    subst (λ y. IsSpelled line_said (word ∷ ws) y) m.maps (step_finds word ws m.value m.is)

line_finds : FindsSpelled line_said line_read
unfolding line_read line_rows
line_finds = by_rows_finds line_said line_rows step_line_read (
  row_finds plain_byte line_said (codes "pool") (last number) (λ x. lines.Pool x) settle_laws (λ y. refl),
  (
    row_finds plain_byte line_said (codes "osd") osd_form (λ x. lines.Osd x.0 x.1) osd_laws (λ y. refl),
    (
      row_finds plain_byte line_said (codes "group") group_form (λ x. lines.Group x.0 x.1.0 x.1.1) group_laws (λ y. refl),
      (
        row_finds plain_byte line_said (codes "fail") fail_form (λ x. lines.Fail x.0 x.1.0 x.1.1.0 x.1.1.1) fail_laws (λ y. refl),
        (
          row_finds plain_byte line_said (codes "end") nothing (λ x. lines.End) (nothing_laws plain_byte) (λ y. refl),
          tt,
        ),
      ),
    ),
  ),
)
    step_line_finds

line_form_laws : FormLaws plain_byte line_form
line_form_laws = kinds_laws plain_byte line_said line_read line_kind line_finds

pub basic_has_some : (b : Basic) → has_some (basic_said b).words ≡ true
basic_has_some (basics.Write client serial o c p) = refl
basic_has_some (basics.Collect group client serial) = refl
basic_has_some (basics.Pull group osd) = refl
basic_has_some (basics.Apply group osd) = refl
basic_has_some (basics.Tell group osd) = refl
basic_has_some (basics.Damage group osd o s d) = refl
basic_has_some (basics.Begin group k) = refl
basic_has_some (basics.Open group) = refl
basic_has_some (basics.Scan group osd) = refl
basic_has_some (basics.Take group osd) = refl
basic_has_some (basics.Close group) = refl
basic_has_some (basics.Interval group acting) = refl
basic_has_some (basics.Claim group) = refl
basic_has_some (basics.Release group osd) = refl
basic_has_some (basics.Job group k r moment) = refl
basic_has_some (basics.Unjob group) = refl
basic_has_some (basics.Pick moment) = refl

step_has_some : (s : Step) → has_some (step_said s).words ≡ true
step_has_some (steps.Basic b) = basic_has_some b
step_has_some (steps.Settle group) = refl
step_has_some (steps.Sweep group k) = refl
step_has_some (steps.ListObj group) = refl
step_has_some (steps.ListSnap group) = refl

line_has_some : (x : Line) → line_form.fits x ≡ true → has_some (line_form.spell x) ≡ true
line_has_some (lines.Pool bits) e = refl
line_has_some (lines.Osd osd slots) e = refl
line_has_some (lines.Group group epoch members) e = refl
line_has_some (lines.Fail group osd c nth) e = refl
line_has_some (lines.Step step) e = step_has_some step
line_has_some lines.End e = refl

no_space : (b : ℕ) → plain_byte b ≡ true → (b == 32) ≡ false
no_space b e = grind (arith, nat_tests)

plain_in_line : (b : ℕ) → plain_byte b ≡ true → in_line b ≡ true
plain_in_line b e = grind (arith, nat_tests)

pub line_laws : FieldLaws in_line line
line_laws = parts_laws plain_byte in_line 32 line_form line_form_laws no_space plain_in_line refl line_has_some
