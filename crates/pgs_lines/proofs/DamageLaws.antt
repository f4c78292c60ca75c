-- What damage does is read as it is spelled, and spelled as it is read.
use Rattle.std.proofs.Common.{refl}
use Rattle.std.specs.Prelude.{codes}
use Rattle.pgs_words.specs.Forms.{last, nothing, no_row}
use Rattle.pgs_words.specs.Fields.{number, positive_byte, plain_byte}
use Rattle.pgs_words.proofs.Laws.{FormLaws}
use Rattle.pgs_words.proofs.FormLaws.{nothing_laws, field_laws, last_laws}
use Rattle.pgs_words.proofs.KindLaws.{IsKind, kind_of, FindsSpelled, row_finds, no_row_finds, by_rows_finds, kinds_laws}
use Rattle.pgs_words.proofs.FieldLaws.{word_of_laws, number_word, positive_byte_word}
use Rattle.pgs_lines.specs.Objects.{omap_key, last_payload, omap_form}
use Rattle.pgs_lines.specs.Damages.{stored_name, flip_form, stored_form, damage_said, damage_rows, damage_read, damage}
use Rattle.pgs_lines.specs.declared.damage.Damage.{Damage}
use Rattle.pgs_lines.specs.declared.damage.Damage.TheVariants as damages
use Rattle.pgs_lines.proofs.OpLaws.{last_payload_laws, size_laws, omap_laws, rmomap_laws}

flip_laws : FormLaws plain_byte flip_form
flip_laws = field_laws plain_byte number (last positive_byte) number_word (last_laws plain_byte positive_byte positive_byte_word)

stored_laws : FormLaws plain_byte stored_form
stored_laws = field_laws plain_byte stored_name last_payload (word_of_laws 1 64) last_payload_laws

rmstored_laws : FormLaws plain_byte (last stored_name)
rmstored_laws = last_laws plain_byte stored_name (word_of_laws 1 64)

damage_kind : (x : Damage) → IsKind plain_byte damage_read (damage_said x) x
unfolding damage_read damage_rows
damage_kind damages.Lose = kind_of plain_byte damage_read (codes "lose") nothing (λ x. damages.Lose) (nothing_laws plain_byte) (λ ws. refl) refl tt
damage_kind (damages.Flip at xor) = kind_of plain_byte damage_read (codes "flip") flip_form (λ x. damages.Flip x.0 x.1) flip_laws (λ ws. refl) refl (at, xor)
damage_kind (damages.Cut size) = kind_of plain_byte damage_read (codes "cut") (last number) (λ n. damages.Cut n) size_laws (λ ws. refl) refl size
damage_kind (damages.SetData p) = kind_of plain_byte damage_read (codes "data") last_payload (λ p. damages.SetData p) last_payload_laws (λ ws. refl) refl p
damage_kind (damages.SetAttr n p) = kind_of plain_byte damage_read (codes "attr") stored_form (λ x. damages.SetAttr x.0 x.1) stored_laws (λ ws. refl) refl (n, p)
damage_kind (damages.RmAttr n) = kind_of plain_byte damage_read (codes "rmattr") (last stored_name) (λ n. damages.RmAttr n) rmstored_laws (λ ws. refl) refl n
damage_kind (damages.SetOmap k p) = kind_of plain_byte damage_read (codes "omap") omap_form (λ x. damages.SetOmap x.0 x.1) omap_laws (λ ws. refl) refl (k, p)
damage_kind (damages.RmOmap k) = kind_of plain_byte damage_read (codes "rmomap") (last omap_key) (λ k. damages.RmOmap k) rmomap_laws (λ ws. refl) refl k
damage_kind (damages.SetHeader p) = kind_of plain_byte damage_read (codes "header") last_payload (λ p. damages.SetHeader p) last_payload_laws (λ ws. refl) refl p

damage_finds : FindsSpelled damage_said damage_read
unfolding damage_read damage_rows
damage_finds = by_rows_finds damage_said damage_rows no_row (
  row_finds plain_byte damage_said (codes "lose") nothing (λ x. damages.Lose) (nothing_laws plain_byte) (λ y. refl),
  (
    row_finds plain_byte damage_said (codes "flip") flip_form (λ x. damages.Flip x.0 x.1) flip_laws (λ y. refl),
    (
      row_finds plain_byte damage_said (codes "cut") (last number) (λ n. damages.Cut n) size_laws (λ y. refl),
      (
        row_finds plain_byte damage_said (codes "data") last_payload (λ p. damages.SetData p) last_payload_laws (λ y. refl),
        (
          row_finds plain_byte damage_said (codes "attr") stored_form (λ x. damages.SetAttr x.0 x.1) stored_laws (λ y. refl),
          (
            row_finds plain_byte damage_said (codes "rmattr") (last stored_name) (λ n. damages.RmAttr n) rmstored_laws (λ y. refl),
            (
              row_finds plain_byte damage_said (codes "omap") omap_form (λ x. damages.SetOmap x.0 x.1) omap_laws (λ y. refl),
              (
                row_finds plain_byte damage_said (codes "rmomap") (last omap_key) (λ k. damages.RmOmap k) rmomap_laws (λ y. refl),
                (
                  row_finds plain_byte damage_said (codes "header") last_payload (λ p. damages.SetHeader p) last_payload_laws (λ y. refl),
                  tt,
                ),
              ),
            ),
          ),
        ),
      ),
    ),
  ),
)
    (no_row_finds damage_said)

pub damage_laws : FormLaws plain_byte damage
damage_laws = kinds_laws plain_byte damage_said damage_read damage_kind damage_finds
