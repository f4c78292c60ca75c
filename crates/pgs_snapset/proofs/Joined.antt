-- Appending piece after piece appends all of them.
use Rattle.std.proofs.Common.{◌≡◌, ℕ, suc, ◌+◌, ◌<◌, length, get_or, drop, drop-cons, add-one, List, ◌∷◌, ◌++◌, append_assoc, sym, ap, ◌∙◌}
use Rattle.pgs_codec.specs.Fields.{Field, all_spelled}

pub two : (old a b : List ℕ) → (old ++ a) ++ b ≡ old ++ (a ++ b)
two old a b = append_assoc old a b

pub three : (old a b c : List ℕ) → ((old ++ a) ++ b) ++ c ≡ old ++ (a ++ (b ++ c))
three old a b c = simp append_assoc

-- what is spelled and what is still to be spelled, with one more spelled
pub one_more : {A : Type 0} (a : Field A) (out more total : List ℕ) (x : A) (xs : List A) → more ≡ out ++ a.spell x → out ++ all_spelled a (x ∷ xs) ≡ total → more ++ all_spelled a xs ≡ total
one_more a out more total x xs e h = ap (λ (w : List ℕ). w ++ all_spelled a xs) e ∙ append_assoc out (a.spell x) (all_spelled a xs) ∙ h

-- the same of one that stands at a place
pub one_more_at : {A : Type 0} (a : Field A) (out more total : List ℕ) (xs : List A) (i : ℕ) (x : A) → i < length xs → x ≡ get_or xs i x → more ≡ out ++ a.spell x
    → out ++ all_spelled a (drop i xs) ≡ total → more ++ all_spelled a (drop (i + 1) xs) ≡ total
one_more_at {A} a out more total xs i x lt is e h =
    let first : drop i xs ≡ x ∷ drop (i + 1) xs = rw add-one (drop-cons xs i x lt ∙ ap (λ (y : A). y ∷ drop (suc i) xs) (sym is)) in
    one_more a out more total x (drop (i + 1) xs) e (ap (λ (ys : List A). out ++ all_spelled a ys) (sym first) ∙ h)
