-- A list that is made of another, one element after another.
use Rattle.std.proofs.Common.{◌≡◌, ℕ, ◌+◌, ◌<◌, ◌≤◌, List, [], ◌∷◌, ◌++◌, length, get_or, drop, map, refl, sym, ap, ◌∙◌, append_assoc}
use Rattle.std.proofs.lemmas.List.{drop_more, drop_all}

-- one element more is made
pub maps_next : {A B : Type 0} (f : A → B) (made new : List B) (xs : List A) (i : ℕ) (x : A) (y : B) → new ≡ made ++ y ∷ [] → made ++ map f (drop i xs) ≡ map f xs
    → i < length xs → x ≡ get_or xs i x → y ≡ f x → new ++ map f (drop (i + 1) xs) ≡ map f xs
maps_next f made new xs i x y e h within is made_of =
    ap (λ t. t ++ map f (drop (i + 1) xs)) e
    ∙ append_assoc made (y ∷ []) (map f (drop (i + 1) xs))
    ∙ ap (λ z. made ++ z ∷ map f (drop (i + 1) xs)) made_of
    ∙ ap (λ rest. made ++ rest) (sym (ap (map f) (drop_more xs i x within ∙ ap (λ z. z ∷ drop (i + 1) xs) (sym is))))
    ∙ h

append_none : {A : Type 0} (xs : List A) → xs ++ [] ≡ xs
append_none [] = refl
append_none (x ∷ xs) = ap (λ rest. x ∷ rest) (append_none xs)

-- all are made
pub maps_end : {A B : Type 0} (f : A → B) (made : List B) (xs : List A) (i : ℕ) → made ++ map f (drop i xs) ≡ map f xs → length xs ≤ i → made ≡ map f xs
maps_end f made xs i h all = sym (append_none made) ∙ ap (λ rest. made ++ map f rest) (sym (drop_all i xs all)) ∙ h

pub ruleset maps = (maps_next, maps_end)
