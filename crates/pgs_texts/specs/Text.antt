-- Which text says what, and which line of a text is refused, by the spellings of lines alone.
use Rattle.std.specs.Prelude.{ℕ, ◌≡◌, ◌+◌, ◌&&◌, Bool, true, false, not, List, [], ◌∷◌, ◌++◌, length, map, Result, Ok, Err}
use Rattle.pgs_words.specs.Forms.{parts_of}
use Rattle.pgs_texts.specs.Grammar.{Grammar}
use Rattle.pgs_texts.specs.declared.script_error.ScriptError.{ScriptError}
use Rattle.pgs_texts.specs.declared.script_error.ScriptError.TheVariants.{BadLine, Limit, Memory}

-- what a line of a text is: one that is passed over, or one that says something
pub data Said (L : Type 0) : Type 0 where
  Passed : List ℕ → Said L
  Says : L → Said L

module _ {S L : Type 0} (g : Grammar S L) where
  abbrev pub said_text : Said L → List ℕ
  said_text (Passed text) = text
  said_text (Says l) = g.line.spell l

  -- it is in the grammar and may stand here, whatever limit it passes; nothing may stand behind the last line
  abbrev pub may_stand : S → Said L → Bool
  may_stand s (Passed text) = not (g.over s) && g.passed text
  may_stand s (Says l) = not (g.over s) && (g.line.fits l && g.allows s l)

  abbrev pub passes_limit : S → Said L → Bool
  passes_limit s (Passed text) = false
  passes_limit s (Says l) = g.passes s l

  abbrev pub said_after : S → Said L → S
  said_after s (Passed text) = s
  said_after s (Says l) = g.after s l

  -- these lines may follow one another, and none passes a limit
  abbrev pub Goes : S → List (Said L) → Type 0
  Goes s [] = Unit {0}
  Goes s (x ∷ xs) = (may_stand s x ≡ true) × (passes_limit s x ≡ false) × Goes (said_after s x) xs

  abbrev pub after_all : S → List (Said L) → S
  after_all s [] = s
  after_all s (x ∷ xs) = after_all (said_after s x) xs

  -- The lines, each of which has an end, say what makes script of s, and the last of them is the last line of a
  -- script. A text whose lines all have ends has one empty part more, behind the last end.
  pub record Reads (s : S) (lines : List (List ℕ)) (script : S) : Type 0 where
    pub said : List (Said L)
    pub goes : Goes s said
    pub whole : lines ≡ map said_text said ++ [] ∷ []
    pub all : after_all s said ≡ script
    pub over : g.over script ≡ true

  -- the text is that of the script
  abbrev pub IsTextOf : S → List ℕ → Type 0
  IsTextOf script text = Reads g.start (parts_of 10 text) script

  -- No line that may stand here is spelled so. Where nothing follows it, the line has no end, so it is outside
  -- unless it is the nothing behind the last line.
  abbrev pub IsOutside : S → List ℕ → List (List ℕ) → Type 0
  IsOutside s text [] = g.over s ≡ true → text ≡ [] → ⊥
  IsOutside s text (next ∷ rest) = (x : Said L) → may_stand s x ≡ true → text ≡ said_text x → ⊥

  -- a line that may stand here is spelled so, and passes a limit
  pub record TooMuch (s : S) (text : List ℕ) : Type 0 where
    pub line : Said L
    pub stands : may_stand s line ≡ true
    pub spelled : text ≡ said_text line
    pub much : passes_limit s line ≡ true

  abbrev pub IsTooMuch : S → List ℕ → List (List ℕ) → Type 0
  IsTooMuch s text [] = ⊥
  IsTooMuch s text (next ∷ rest) = TooMuch s text

  -- after s, counting from first, the lines before line m go one after another, and why line m doesn't go on
  pub record Stops (first : ℕ) (s : S) (lines : List (List ℕ)) (m : ℕ) (Why : S → List ℕ → List (List ℕ) → Type 0) : Type 0 where
    pub said : List (Said L)
    pub goes : Goes s said
    pub here : List ℕ
    pub rest : List (List ℕ)
    pub whole : lines ≡ map said_text said ++ here ∷ rest
    pub number : m ≡ first + length said
    pub why : Why (after_all s said) here rest

  -- the first line that is refused is outside the grammar
  abbrev pub IsBadLine : List ℕ → ℕ → Type 0
  IsBadLine text m = Stops 1 g.start (parts_of 10 text) m IsOutside

  -- the first line that is refused passes a limit
  abbrev pub IsLimit : List ℕ → ℕ → Type 0
  IsLimit text m = Stops 1 g.start (parts_of 10 text) m IsTooMuch

  -- what a text is: that of a script, or refused at a line; each text is one of these, and want of memory is free
  abbrev pub IsVerdict : List ℕ → Result S ScriptError → Type 0
  IsVerdict text (Ok script) = IsTextOf script text
  IsVerdict text (Err (BadLine m)) = IsBadLine text m
  IsVerdict text (Err (Limit m)) = IsLimit text m
  IsVerdict text (Err Memory) = Unit {0}
