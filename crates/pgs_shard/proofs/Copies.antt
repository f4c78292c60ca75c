-- A list of copies that each equal what they copy is the list.
use Rattle.std.proofs.Common.{◌≡◌, List, [], ◌∷◌, refl}
use Rattle.std.specs.List.{AllZip}

pub copied : {A : Type 0} (xs ys : List A) → AllZip (λ x y. y ≡ x) xs ys → ys ≡ xs
copied [] [] h = refl
copied [] (y ∷ ys) h = absurd h
copied (x ∷ xs) [] h = absurd h
copied (x ∷ xs) (y ∷ ys) h = λ i. h.0 i ∷ copied xs ys h.1 i
