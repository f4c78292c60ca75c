-- Appending piece after piece appends all of them.
use Rattle.std.proofs.Common.{◌≡◌, ℕ, ◌+◌, ◌<◌, length, get_or, drop, drop-cons, add-one, suc, List, [], ◌∷◌, ◌++◌, Result, Ok, Err, append_assoc, append-nil, sym, ap, ◌∙◌}
use Rattle.std.specs.Prelude.{OnOk}
use Rattle.std.specs.List.{flat_map}

pub none : (old : List ℕ) → old ≡ old ++ []
none old = sym (append-nil old)

pub one : (old a : List ℕ) → old ++ a ≡ old ++ (a ++ [])
one old a = ap (λ (w : List ℕ). old ++ w) (sym (append-nil a))

pub two : (old a b : List ℕ) → (old ++ a) ++ b ≡ old ++ (a ++ b)
two old a b = append_assoc old a b

pub three : (old a b c : List ℕ) → ((old ++ a) ++ b) ++ c ≡ old ++ (a ++ (b ++ c))
three old a b c = simp append_assoc

pub four : (old a b c d : List ℕ) → (((old ++ a) ++ b) ++ c) ++ d ≡ old ++ (a ++ (b ++ (c ++ d)))
four old a b c d = simp append_assoc

-- the same where the last piece may fail
pub then_three : {A E : Type 0} (r : Result A E) (old first second new a b c : List ℕ) → first ≡ old ++ a → second ≡ first ++ b → OnOk r (new ≡ second ++ c) → OnOk r (new ≡ old ++ (a ++ (b ++ c)))
then_three (Ok x) old first second new a b c f s h = h ∙ ap (λ (w : List ℕ). w ++ c) (s ∙ ap (λ (w : List ℕ). w ++ b) f) ∙ three old a b c
then_three (Err e) old first second new a b c f s h = tt

pub then_four : {A E : Type 0} (r : Result A E) (old first second third new a b c d : List ℕ) → first ≡ old ++ a → second ≡ first ++ b → third ≡ second ++ c → OnOk r (new ≡ third ++ d) → OnOk r (new ≡ old ++ (a ++ (b ++ (c ++ d))))
then_four (Ok x) old first second third new a b c d f s t h =
    h ∙ ap (λ (w : List ℕ). w ++ d) (t ∙ ap (λ (w : List ℕ). w ++ c) (s ∙ ap (λ (w : List ℕ). w ++ b) f)) ∙ four old a b c d
then_four (Err e) old first second third new a b c d f s t h = tt

-- what is spelled and what is still to be spelled, with one more spelled
pub one_more : {A : Type 0} (spell : A → List ℕ) (out more total : List ℕ) (s t : List A) (x : A) → s ≡ x ∷ t → more ≡ out ++ spell x → out ++ flat_map spell s ≡ total → more ++ flat_map spell t ≡ total
one_more {A} spell out more total s t x is e h =
    ap (λ (w : List ℕ). w ++ flat_map spell t) e ∙ append_assoc out (spell x) (flat_map spell t) ∙ sym (ap (λ (l : List A). out ++ flat_map spell l) is) ∙ h

-- nothing is left to be spelled
pub no_more : {A : Type 0} (spell : A → List ℕ) (out total : List ℕ) (s : List A) → s ≡ [] → out ++ flat_map spell s ≡ total → out ≡ total
no_more {A} spell out total s is h = sym (append-nil out) ∙ sym (ap (λ (l : List A). out ++ flat_map spell l) is) ∙ h

-- the same of one that stands at a place
pub one_more_at : {A : Type 0} (spell : A → List ℕ) (out more total : List ℕ) (xs : List A) (i : ℕ) (x : A) → i < length xs → x ≡ get_or xs i x → more ≡ out ++ spell x
    → out ++ flat_map spell (drop i xs) ≡ total → more ++ flat_map spell (drop (i + 1) xs) ≡ total
one_more_at {A} spell out more total xs i x lt is e h =
    let first : drop i xs ≡ x ∷ drop (i + 1) xs = rw add-one (drop-cons xs i x lt ∙ ap (λ (y : A). y ∷ drop (suc i) xs) (sym is)) in
    one_more spell out more total (drop i xs) (drop (i + 1) xs) x first e h
