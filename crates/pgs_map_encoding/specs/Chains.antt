-- Fields alike in a row, where what may stand at a place depends on what stands before it.
use Rattle.std.specs.List.{flat_map}
use Rattle.std.specs.Prelude.{ℕ, zero, suc, Bool, true, ◌&&◌, List, [], ◌∷◌, ◌++◌, ◌-◌, length, slice_get, Option, Some, None, Result, Ok}
use Rattle.pgs_codec.specs.Reading.{Rest, Refusal, ◌>>=◌}
use Rattle.pgs_codec.specs.Fields.{Field, u32, such}

-- each value may stand behind the one before it
abbrev pub chain_fits : {A : Type 0} → (Option A → Field A) → Option A → List A → Bool
chain_fits next last [] = true
chain_fits next last (x ∷ xs) = (next last).fits x && chain_fits next (Some x) xs

unfoldable pub read_chain : {A : Type 0} → (Option A → Field A) → Option A → ℕ → Rest → Result (List A × Rest) Refusal
read_chain next last zero rest = Ok ([], rest)
read_chain next last (suc n) rest = do
  x ← (next last).read rest
  xs ← read_chain next (Some x.0) n x.1
  Ok (x.0 ∷ xs.0, xs.1)

-- So many of them as pass a test, behind their number. How one is spelled doesn't depend on the one before it.
abbrev pub chained : {A : Type 0} → (ℕ → Bool) → (A → List ℕ) → (Option A → Field A) → Field (List A)
chained test spell next = record {
  fits = λ xs. (such test u32).fits (length xs) && chain_fits next None xs;
  spell = λ xs. u32.spell (length xs) ++ flat_map spell xs;
  read = λ rest. do
    n ← (such test u32).read rest
    read_chain next None n.0 n.1;
}

-- the last of a list
abbrev pub last_of : {A : Type 0} → List A → Option A
last_of xs = slice_get xs (length xs - 1)
