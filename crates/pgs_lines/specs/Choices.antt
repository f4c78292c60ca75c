-- Words that stand for no value, and parts that may be missing.
use Rattle.std.specs.Prelude.{ℕ, Bool, true, if◌then◌else◌, List, [], ◌∷◌, Option, Some, None, option_map}
use Rattle.pgs_words.specs.Forms.{Field, Form, last, same_text}

-- ---- a word of its own for no value

abbrev pub some_fits : {A : Type 0} → Field A → Option A → Bool
some_fits a None = true
some_fits a (Some x) = a.fits x

abbrev pub some_spelled : {A : Type 0} → List ℕ → Field A → Option A → List ℕ
some_spelled word a None = word
some_spelled word a (Some x) = a.spell x

abbrev pub some_read : {A : Type 0} → List ℕ → Field A → List ℕ → Option (Option A)
some_read word a w = if same_text w word then Some None else option_map (λ x. Some x) (a.read w)

abbrev pub word_or : {A : Type 0} → List ℕ → Field A → Field (Option A)
word_or word a = record { fits = some_fits a; spell = some_spelled word a; read = some_read word a }

-- ---- a list that is the last part, and no part where it is empty

abbrev pub listed_fits : {A : Type 0} → Field (List A) → List A → Bool
listed_fits a [] = true
listed_fits a (x ∷ xs) = a.fits (x ∷ xs)

abbrev pub listed_spelled : {A : Type 0} → Field (List A) → List A → List (List ℕ)
listed_spelled a [] = []
listed_spelled a (x ∷ xs) = a.spell (x ∷ xs) ∷ []

abbrev pub listed_read : {A : Type 0} → Field (List A) → List (List ℕ) → Option (List A)
listed_read a [] = Some []
listed_read a (w ∷ ws) = (last a).read (w ∷ ws)

abbrev pub list_or_none : {A : Type 0} → Field (List A) → Form (List A)
list_or_none a = record { fits = listed_fits a; spell = listed_spelled a; read = listed_read a }
