-- Eight digits.
use Rattle.std.proofs.Common.{◌≡◌, ℕ, ◌-◌, ◌^◌, List, [], ◌∷◌, ◌++◌, length, replicate, false, String, Global, string_bytes, append-nil, ap, ◌∙◌, arith, rules}
use Rattle.std.specs.Fmt.{padded_integral, format_spec, char_count, digits}
use Rattle.serde_json.specs.Data.{string}
use Rattle.serde_json.specs.View.{view}
use Rattle.serde_json.specs.declared.value.Value.{the_lemmas}
use Rattle.serde_json.specs.declared.value.Value.TheVariants as values
use Rattle.pgs_list_json.specs.Object.{digest_text, digest_data}

no_less : (n : ℕ) → n - 0 - 0 ≡ n
no_less n = omega arith

-- what `{:08x}` writes
eight_digits : (numeral : List ℕ) → padded_integral (format_spec 32 0 4 8 (2 ^ 64 - 1)) false [] numeral ≡ replicate (8 - length numeral) 48 ++ numeral
unfolding padded_integral char_count
eight_digits numeral = ap (λ n. replicate n 48 ++ (numeral ++ [])) (no_less (8 - length numeral)) ∙ ap (λ xs. replicate (8 - length numeral) 48 ++ xs) (append-nil numeral)

view-String : (text : String Global) → view (values.String text) ≡ string (string_bytes text)
view-String text = search (rules, the_lemmas)

pub digest_written : (digest : ℕ) (text : String Global) → string_bytes text ≡ 48 ∷ 120 ∷ padded_integral (format_spec 32 0 4 8 (2 ^ 64 - 1)) false [] (digits 16 false digest)
    → view (values.String text) ≡ digest_data digest
unfolding digest_text
digest_written digest text e = view-String text ∙ ap string (e ∙ ap (λ xs. 48 ∷ 120 ∷ xs) (eight_digits (digits 16 false digest)))
