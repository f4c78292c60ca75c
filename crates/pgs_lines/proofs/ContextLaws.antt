-- A context is read as it is spelled, and spelled as it is read.
use Rattle.std.proofs.Common.{◌≡◌, ℕ, ◌^◌, ◌==◌, ◌&&◌, Bool, true, false, List, [], ◌∷◌, Option, Some, None, refl, sym, subst, arith}
use Rattle.std.specs.Prelude.{nat_le, Result}
use Rattle.std.proofs.lemmas.Bool.Decides.{nat_tests}
use Rattle.pgs_bytes.proofs.Facts.{true_false}
use Rattle.pgs_words.specs.declared.read_error.ReadError.{ReadError}
use Rattle.pgs_words.specs.Forms.{◌>>=◌, Gives, when, parts_of, left, each, all_read, all_spelled, has_some, such_form, seen}
use Rattle.pgs_words.specs.Fields.{number, plain_byte, dash, number_of, digits_from}
use Rattle.pgs_words.proofs.Cuts.{parts_some}
use Rattle.pgs_words.proofs.Laws.{FieldLaws, FormLaws}
use Rattle.pgs_words.proofs.FormLaws.{weaker, field_laws, each_laws, such_form_laws, parts_laws, seen_laws, seen_field_laws}
use Rattle.pgs_words.proofs.FieldLaws.{is_digit, number_laws}
use Rattle.pgs_request.specs.declared.snap_context.SnapContext.{SnapContext}
use Rattle.pgs_lines.specs.Choices.{word_or, list_or_none}
use Rattle.pgs_lines.specs.Contexts.{snaps, given_form, given_of, given_parts, given, context_of, given_in, context}
use Rattle.pgs_lines.specs.declared.context.Context.{Context}
use Rattle.pgs_lines.specs.declared.context.Context.TheVariants.{Dash, Given}
use Rattle.pgs_lines.proofs.ChoiceLaws.{word_or_laws, list_or_none_laws}

-- ---- bytes

-- a digit or a comma
abbrev in_list : ℕ → Bool
in_list b = nat_le 44 b && nat_le b 57

digit_in_list : (b : ℕ) → is_digit b ≡ true → in_list b ≡ true
digit_in_list b e = grind (arith, nat_tests)

no_comma : (b : ℕ) → is_digit b ≡ true → (b == 44) ≡ false
no_comma b e = grind (arith, nat_tests)

no_colon : (b : ℕ) → in_list b ≡ true → (b == 58) ≡ false
no_colon b e = grind (arith, nat_tests)

list_plain : (b : ℕ) → in_list b ≡ true → plain_byte b ≡ true
list_plain b e = grind (arith, nat_tests)

-- ---- laws

number_digits : FieldLaws is_digit number
number_digits = number_laws (2 ^ 32) (omega arith) (omega arith)

spelled_some : (xs : List ℕ) → (such_form has_some (each number)).fits xs ≡ true → has_some (all_spelled number xs) ≡ true
spelled_some [] e = absurd (true_false (sym e))
spelled_some (x ∷ xs) e = refl

snaps_laws : FieldLaws in_list snaps
snaps_laws = parts_laws is_digit in_list 44 (such_form has_some (each number))
    (such_form_laws is_digit has_some (each number) (each_laws is_digit number number_digits)) no_comma digit_in_list refl spelled_some

given_form_laws : FormLaws in_list given_form
given_form_laws = field_laws in_list number (list_or_none snaps) (weaker is_digit in_list number digit_in_list number_digits)
    (list_or_none_laws in_list snaps refl snaps_laws)

given_laws : FieldLaws plain_byte given
given_laws = parts_laws in_list plain_byte 58 (seen given_of given_parts given_form)
    (seen_laws in_list given_of given_parts given_form given_form_laws (λ x. refl) (λ x. refl)) no_colon list_plain refl (λ x e. refl)

not_given : given.read dash ≡ None
unfolding number_of digits_from
not_given = refl

context_again : (x : Context) → context_of (given_in x) ≡ x
context_again Dash = refl
context_again (Given given) = refl

given_again : (x : Option SnapContext) → given_in (context_of x) ≡ x
given_again None = refl
given_again (Some given) = refl

pub context_laws : FieldLaws plain_byte context
context_laws = seen_field_laws plain_byte context_of given_in (word_or dash given) (word_or_laws plain_byte dash given refl not_given given_laws)
    context_again given_again

-- ---- reading snaps

-- some were read where there is a part
kept : (o : Option ℕ) (r : Option (List ℕ)) → ((o >>= λ x. r >>= λ xs. Some (x ∷ xs)) >>= λ xs. when (has_some xs) xs) ≡ (o >>= λ x. r >>= λ xs. Some (x ∷ xs))
kept None r = refl
kept (Some x) None = refl
kept (Some x) (Some xs) = refl

some_read : (ws : List (List ℕ)) → has_some ws ≡ true → (such_form has_some (each number)).read ws ≡ all_read number.read ws
some_read [] e = absurd (true_false (sym e))
some_read (w ∷ ws) e = kept (number.read w) (all_read number.read ws)

pub snaps_read : (text : List ℕ) (r : Result (List ℕ) ReadError) → Gives (λ x. x) r (all_read number.read (left 44 (Some text))) → Gives (λ x. x) r (snaps.read text)
snaps_read text r g = subst (λ o. Gives (λ x. x) r o) (sym (some_read (parts_of 44 text) (parts_some 44 text))) g
