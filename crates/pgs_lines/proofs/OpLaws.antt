-- What a write does is read as it is spelled, and spelled as it is read.
use Rattle.std.proofs.Common.{◌≡◌, ℕ, ◌^◌, ◌==◌, true, false, List, Some, refl, arith}
use Rattle.std.specs.Prelude.{codes}
use Rattle.std.proofs.lemmas.Bool.Decides.{nat_tests}
use Rattle.pgs_words.specs.Forms.{field, last, nothing, no_row, after_front}
use Rattle.pgs_words.specs.Fields.{number, is_plain, plain_byte, word_of}
use Rattle.pgs_words.specs.Hex.{hex, hex_byte}
use Rattle.pgs_words.proofs.Laws.{FieldLaws, FormLaws}
use Rattle.pgs_words.proofs.FormLaws.{weaker, nothing_laws, field_laws, last_laws, such_laws, itself_laws, parts_laws}
use Rattle.pgs_words.proofs.KindLaws.{IsKind, kind_of, FindsSpelled, row_finds, no_row_finds, by_rows_finds, kinds_laws}
use Rattle.pgs_words.proofs.FrontLaws.{IsWriting, IsWritten, front_of, front_finds, by_fronts_finds, fronts_laws}
use Rattle.pgs_words.proofs.FieldLaws.{is_digit, number_laws, word_of_laws, number_word}
use Rattle.pgs_words.proofs.HexLaws.{is_hex_digit, hex_plain, hex_laws, hex_byte_laws}
use Rattle.pgs_request.specs.declared.payload.Payload.{Payload}
use Rattle.pgs_request.specs.declared.payload.Payload.TheVariants.{Text, Hex, Fill}
use Rattle.pgs_request.specs.declared.op.Op.{Op}
use Rattle.pgs_request.specs.declared.op.Op.TheVariants as ops
use Rattle.pgs_lines.specs.Payload.{plain, filled, payload_said, payload_fronts, payload_read, payload}
use Rattle.pgs_lines.specs.Objects.{is_user, attr_name, omap_key, last_payload, put_form, attr_form, omap_form, op_said, op_rows, op_read, op}

-- ---- payloads

plain_laws : FieldLaws plain_byte plain
plain_laws = itself_laws plain_byte is_plain (λ w e. e)

hex_word : FieldLaws plain_byte hex
hex_word = weaker is_hex_digit plain_byte hex hex_plain hex_laws

digit_is_hex : (b : ℕ) → is_digit b ≡ true → is_hex_digit b ≡ true
digit_is_hex b e = grind (arith, nat_tests)

no_colon : (b : ℕ) → is_hex_digit b ≡ true → (b == 58) ≡ false
no_colon b e = grind (arith, nat_tests)

number_hex : FieldLaws is_hex_digit number
number_hex = weaker is_digit is_hex_digit number digit_is_hex (number_laws (2 ^ 32) (omega arith) (omega arith))

filled_laws : FieldLaws plain_byte filled
filled_laws = parts_laws is_hex_digit plain_byte 58 (field number (last hex_byte))
    (field_laws is_hex_digit number (last hex_byte) number_hex (last_laws is_hex_digit hex_byte hex_byte_laws)) no_colon hex_plain refl (λ x e. refl)

payload_kind : (x : Payload) → IsWriting plain_byte payload_read (payload_said x) x
unfolding payload_read payload_fronts after_front
payload_kind (Text bytes) = front_of plain_byte payload_read (codes "text:") plain (λ x. Text x) plain_laws (λ w. refl) refl bytes
payload_kind (Hex bytes) = front_of plain_byte payload_read (codes "hex:") hex (λ x. Hex x) hex_word (λ w. refl) refl bytes
payload_kind (Fill count byte) = front_of plain_byte payload_read (codes "fill:") filled (λ x. Fill x.0 x.1) filled_laws (λ w. refl) refl (count, byte)

payload_finds : (w : List ℕ) (x : Payload) → payload_read w ≡ Some x → IsWritten payload_said w x
unfolding payload_read payload_fronts
payload_finds = by_fronts_finds payload_said payload_fronts (
  front_finds plain_byte payload_said (codes "text:") plain (λ x. Text x) plain_laws (λ y. refl),
  (
    front_finds plain_byte payload_said (codes "hex:") hex (λ x. Hex x) hex_word (λ y. refl),
    (
      front_finds plain_byte payload_said (codes "fill:") filled (λ x. Fill x.0 x.1) filled_laws (λ y. refl),
      tt,
    ),
  ),
)

payload_laws : FieldLaws plain_byte payload
payload_laws = fronts_laws plain_byte payload_said payload_read payload_kind payload_finds

-- ---- what a write does

pub last_payload_laws : FormLaws plain_byte last_payload
last_payload_laws = last_laws plain_byte payload payload_laws

attr_name_laws : FieldLaws plain_byte attr_name
attr_name_laws = such_laws plain_byte is_user (word_of 1 64) (word_of_laws 1 64)

put_laws : FormLaws plain_byte put_form
put_laws = field_laws plain_byte number last_payload number_word last_payload_laws

pub size_laws : FormLaws plain_byte (last number)
size_laws = last_laws plain_byte number number_word

attr_laws : FormLaws plain_byte attr_form
attr_laws = field_laws plain_byte attr_name last_payload attr_name_laws last_payload_laws

rmattr_laws : FormLaws plain_byte (last attr_name)
rmattr_laws = last_laws plain_byte attr_name attr_name_laws

pub omap_laws : FormLaws plain_byte omap_form
omap_laws = field_laws plain_byte omap_key last_payload (word_of_laws 1 255) last_payload_laws

pub rmomap_laws : FormLaws plain_byte (last omap_key)
rmomap_laws = last_laws plain_byte omap_key (word_of_laws 1 255)

op_kind : (x : Op) → IsKind plain_byte op_read (op_said x) x
unfolding op_read op_rows
op_kind (ops.Full p) = kind_of plain_byte op_read (codes "full") last_payload (λ p. ops.Full p) last_payload_laws (λ ws. refl) refl p
op_kind (ops.Write at p) = kind_of plain_byte op_read (codes "write") put_form (λ x. ops.Write x.0 x.1) put_laws (λ ws. refl) refl (at, p)
op_kind (ops.Truncate size) = kind_of plain_byte op_read (codes "trunc") (last number) (λ n. ops.Truncate n) size_laws (λ ws. refl) refl size
op_kind (ops.SetAttr n p) = kind_of plain_byte op_read (codes "attr") attr_form (λ x. ops.SetAttr x.0 x.1) attr_laws (λ ws. refl) refl (n, p)
op_kind (ops.RmAttr n) = kind_of plain_byte op_read (codes "rmattr") (last attr_name) (λ n. ops.RmAttr n) rmattr_laws (λ ws. refl) refl n
op_kind (ops.SetOmap k p) = kind_of plain_byte op_read (codes "omap") omap_form (λ x. ops.SetOmap x.0 x.1) omap_laws (λ ws. refl) refl (k, p)
op_kind (ops.RmOmap k) = kind_of plain_byte op_read (codes "rmomap") (last omap_key) (λ k. ops.RmOmap k) rmomap_laws (λ ws. refl) refl k
op_kind (ops.SetHeader p) = kind_of plain_byte op_read (codes "header") last_payload (λ p. ops.SetHeader p) last_payload_laws (λ ws. refl) refl p
op_kind ops.Remove = kind_of plain_byte op_read (codes "remove") nothing (λ x. ops.Remove) (nothing_laws plain_byte) (λ ws. refl) refl tt

op_finds : FindsSpelled op_said op_read
unfolding op_read op_rows
op_finds = by_rows_finds op_said op_rows no_row (
  row_finds plain_byte op_said (codes "full") last_payload (λ p. ops.Full p) last_payload_laws (λ y. refl),
  (
    row_finds plain_byte op_said (codes "write") put_form (λ x. ops.Write x.0 x.1) put_laws (λ y. refl),
    (
      row_finds plain_byte op_said (codes "trunc") (last number) (λ n. ops.Truncate n) size_laws (λ y. refl),
      (
        row_finds plain_byte op_said (codes "attr") attr_form (λ x. ops.SetAttr x.0 x.1) attr_laws (λ y. refl),
        (
          row_finds plain_byte op_said (codes "rmattr") (last attr_name) (λ n. ops.RmAttr n) rmattr_laws (λ y. refl),
          (
            row_finds plain_byte op_said (codes "omap") omap_form (λ x. ops.SetOmap x.0 x.1) omap_laws (λ y. refl),
            (
              row_finds plain_byte op_said (codes "rmomap") (last omap_key) (λ k. ops.RmOmap k) rmomap_laws (λ y. refl),
              (
                row_finds plain_byte op_said (codes "header") last_payload (λ p. ops.SetHeader p) last_payload_laws (λ y. refl),
                (
                  row_finds plain_byte op_said (codes "remove") nothing (λ x. ops.Remove) (nothing_laws plain_byte) (λ y. refl),
                  tt,
                ),
              ),
            ),
          ),
        ),
      ),
    ),
  ),
)
    (no_row_finds op_said)

pub op_laws : FormLaws plain_byte op
op_laws = kinds_laws plain_byte op_said op_read op_kind op_finds
