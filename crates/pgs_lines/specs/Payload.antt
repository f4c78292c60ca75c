-- How a payload is spelled.
use Rattle.std.specs.Prelude.{ℕ, List, [], ◌∷◌, Option, option_map, codes}
use Rattle.pgs_words.specs.Forms.{Field, Front, Writing, parts, itself, field, last, front, by_fronts, written, fronts}
use Rattle.pgs_words.specs.Fields.{number, is_plain}
use Rattle.pgs_words.specs.Hex.{hex, hex_byte}
use Rattle.pgs_request.specs.declared.payload.Payload.{Payload}
use Rattle.pgs_request.specs.declared.payload.Payload.TheVariants.{Text, Hex, Fill}

-- any bytes of a word
abbrev pub plain : Field (List ℕ)
plain = itself is_plain

-- N:BB
abbrev pub filled : Field (ℕ × ℕ)
filled = parts 58 (field number (last hex_byte))

abbrev pub payload_said : Payload → Writing
payload_said (Text bytes) = written (codes "text:") plain bytes
payload_said (Hex bytes) = written (codes "hex:") hex bytes
payload_said (Fill count byte) = written (codes "fill:") filled (count, byte)

unfoldable pub payload_fronts : List (Front Payload)
payload_fronts =
    front (codes "text:") plain (λ x. Text x)
    ∷ front (codes "hex:") hex (λ x. Hex x)
    ∷ front (codes "fill:") filled (λ x. Fill x.0 x.1)
    ∷ []

unfoldable pub payload_read : List ℕ → Option Payload
payload_read text = by_fronts payload_fronts text

abbrev pub payload : Field Payload
payload = fronts payload_said payload_read

-- what follows the front of a kind, read
abbrev pub text_read : List ℕ → Option Payload
text_read text = option_map (λ x. Text x) (plain.read text)

abbrev pub hex_payload_read : List ℕ → Option Payload
hex_payload_read text = option_map (λ x. Hex x) (hex.read text)

abbrev pub fill_read : List ℕ → Option Payload
fill_read text = option_map (λ x. Fill x.0 x.1) (filled.read text)
