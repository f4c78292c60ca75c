-- What damage does to a stored copy.
use Rattle.std.specs.Prelude.{ℕ, List, [], ◌∷◌, Option, option_map, codes}
use Rattle.pgs_words.specs.Forms.{Field, Form, Row, Spelling, nothing, field, last, kinds, said, row, by_rows, no_row}
use Rattle.pgs_words.specs.Fields.{number, positive_byte, word_of}
use Rattle.pgs_request.specs.declared.payload.Payload.{Payload}
use Rattle.pgs_lines.specs.Objects.{omap_key, last_payload, omap_form}
use Rattle.pgs_lines.specs.declared.damage.Damage.{Damage}
use Rattle.pgs_lines.specs.declared.damage.Damage.TheVariants as damages

-- the name of any attribute, a user's or not
abbrev pub stored_name : Field (List ℕ)
stored_name = word_of 1 64

-- AT XOR
abbrev pub flip_form : Form (ℕ × ℕ)
flip_form = field number (last positive_byte)

-- NAME P
abbrev pub stored_form : Form (List ℕ × Payload)
stored_form = field stored_name last_payload

abbrev pub damage_said : Damage → Spelling
damage_said damages.Lose = said (codes "lose") nothing tt
damage_said (damages.Flip at xor) = said (codes "flip") flip_form (at, xor)
damage_said (damages.Cut size) = said (codes "cut") (last number) size
damage_said (damages.SetData p) = said (codes "data") last_payload p
damage_said (damages.SetAttr n p) = said (codes "attr") stored_form (n, p)
damage_said (damages.RmAttr n) = said (codes "rmattr") (last stored_name) n
damage_said (damages.SetOmap k p) = said (codes "omap") omap_form (k, p)
damage_said (damages.RmOmap k) = said (codes "rmomap") (last omap_key) k
damage_said (damages.SetHeader p) = said (codes "header") last_payload p

unfoldable pub damage_rows : List (Row Damage)
damage_rows =
    row (codes "lose") nothing (λ x. damages.Lose)
    ∷ row (codes "flip") flip_form (λ x. damages.Flip x.0 x.1)
    ∷ row (codes "cut") (last number) (λ n. damages.Cut n)
    ∷ row (codes "data") last_payload (λ p. damages.SetData p)
    ∷ row (codes "attr") stored_form (λ x. damages.SetAttr x.0 x.1)
    ∷ row (codes "rmattr") (last stored_name) (λ n. damages.RmAttr n)
    ∷ row (codes "omap") omap_form (λ x. damages.SetOmap x.0 x.1)
    ∷ row (codes "rmomap") (last omap_key) (λ k. damages.RmOmap k)
    ∷ row (codes "header") last_payload (λ p. damages.SetHeader p)
    ∷ []

unfoldable pub damage_read : List ℕ → List (List ℕ) → Option Damage
damage_read word words = by_rows damage_rows no_row word words

abbrev pub damage : Form Damage
damage = kinds damage_said damage_read

-- what follows the word of a kind, read
abbrev pub lose_read : List (List ℕ) → Option Damage
lose_read words = option_map (λ x. damages.Lose) (nothing.read words)

abbrev pub flip_read : List (List ℕ) → Option Damage
flip_read words = option_map (λ x. damages.Flip x.0 x.1) (flip_form.read words)

abbrev pub cut_read : List (List ℕ) → Option Damage
cut_read words = option_map (λ n. damages.Cut n) ((last number).read words)

abbrev pub attr_read : List (List ℕ) → Option Damage
attr_read words = option_map (λ x. damages.SetAttr x.0 x.1) (stored_form.read words)

abbrev pub rmattr_read : List (List ℕ) → Option Damage
rmattr_read words = option_map (λ n. damages.RmAttr n) ((last stored_name).read words)

abbrev pub omap_read : List (List ℕ) → Option Damage
omap_read words = option_map (λ x. damages.SetOmap x.0 x.1) (omap_form.read words)

abbrev pub rmomap_read : List (List ℕ) → Option Damage
rmomap_read words = option_map (λ k. damages.RmOmap k) ((last omap_key).read words)
