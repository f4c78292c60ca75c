-- Tests of the user attributes of a copy.
use Rattle.std.proofs.Common.{◌≡◌, Bool, true, false, cond, ◌&&◌, ◌||◌, List, [], ◌∷◌, Some, refl, sym, ap, ◌∙◌}
use Rattle.std.specs.Prelude.{is_none}
use Rattle.std.specs.List.{filter, list_any}
use Rattle.pgs_copy.specs.Pairs.{Pairs, value_at}
use Rattle.pgs_compare.specs.Objects.{are_other, is_user, have_other_values, has_name_beside}
use Rattle.pgs_compare.specs.Parts.{has_other_value, misses_name}

any_kept : {A : Type 0} (p q : A → Bool) (x : A) (xs : List A) (kept : Bool) → list_any p (cond kept (x ∷ xs) xs) ≡ ((kept && p x) || list_any p xs)
any_kept p q x xs true = refl
any_kept p q x xs false = refl

-- a test of what passes another test is both tests
pub any_filtered : {A : Type 0} (p q : A → Bool) (xs : List A) → list_any p (filter q xs) ≡ list_any (λ x. q x && p x) xs
any_filtered p q [] = refl
any_filtered p q (x ∷ xs) = any_kept p q x (filter q xs) (q x) ∙ ap (λ b. (q x && p x) || b) (any_filtered p q xs)

pub other_values : (a b : Pairs) → list_any (has_other_value b) a ≡ have_other_values a b
other_values a b = sym (any_filtered (λ p. are_other (Some p.1) (value_at p.0 b)) (λ p. is_user p.0) a)

pub name_beside : (a b : Pairs) → list_any (misses_name b) a ≡ has_name_beside a b
name_beside a b = sym (any_filtered (λ p. is_none (value_at p.0 b)) (λ p. is_user p.0) a)
