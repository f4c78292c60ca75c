-- Lines, and which may follow which.
use Rattle.std.specs.Prelude.{ℕ, Bool, List}
use Rattle.pgs_words.specs.Forms.{Field}

-- What was said so far is an S, and a line is an L:
-- how a line is spelled; what was said before the first line; whether the last line was said; which texts are
-- passed over; whether a line may stand here; whether it passes a limit; what was said with it.
pub record Grammar (S L : Type 0) : Type 0 where
  pub line : Field L
  pub start : S
  pub over : S → Bool
  pub passed : List ℕ → Bool
  pub allows : S → L → Bool
  pub passes : S → L → Bool
  pub after : S → L → S
