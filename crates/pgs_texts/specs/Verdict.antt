-- The same, line by line, as a function.
use Rattle.std.specs.Prelude.{ℕ, ◌≡◌, ◌==◌, ◌+◌, ◌&&◌, if◌then◌else◌, List, [], ◌∷◌, length, Option, Some, None, Result, Ok, Err}
use Rattle.pgs_texts.specs.Grammar.{Grammar}
use Rattle.pgs_texts.specs.declared.script_error.ScriptError.{ScriptError}
use Rattle.pgs_texts.specs.declared.script_error.ScriptError.TheVariants.{BadLine, Limit, Memory}

infixl 10 ◌>>=◌
abbrev pub ◌>>=◌ : {A B : Type 0} → Result A ScriptError → (A → Result B ScriptError) → Result B ScriptError
(Ok x) >>= f = f x
(Err e) >>= f = Err e

-- what a function returned is what is due, unless memory ran out
abbrev pub Judges : {S : Type 0} → Result S ScriptError → Result S ScriptError → Type 0
Judges (Ok s) due = due ≡ Ok s
Judges (Err (BadLine n)) due = due ≡ Err (BadLine n)
Judges (Err (Limit n)) due = due ≡ Err (Limit n)
Judges (Err Memory) due = Unit {0}

module _ {S L : Type 0} (g : Grammar S L) where
  unfoldable pub judged : ℕ → S → Option L → Result S ScriptError
  judged n s None = Err (BadLine n)
  judged n s (Some l) = if g.allows s l then (if g.passes s l then Err (Limit n) else Ok (g.after s l)) else Err (BadLine n)

  -- a line with an end
  unfoldable pub accepted : ℕ → S → List ℕ → Result S ScriptError
  accepted n s text = if g.over s then Err (BadLine n) else (if g.passed text then Ok s else judged n s (g.line.read text))

  -- what stands behind the last end
  unfoldable pub finished : ℕ → S → List ℕ → Result S ScriptError
  finished n s text = if g.over s && length text == 0 then Ok s else Err (BadLine n)

  unfoldable pub verdict : ℕ → S → List (List ℕ) → Result S ScriptError
  verdict n s [] = Err (BadLine n)
  verdict n s (text ∷ []) = finished n s text
  verdict n s (text ∷ next ∷ rest) = accepted n s text >>= λ t. verdict (n + 1) t (next ∷ rest)
