-- Reading a text from its front, field by field.
use Rattle.std.specs.Prelude.{ℕ, ◌+◌, ◌==◌, if◌then◌else◌, List, length, drop, Result, Ok, Err}

-- what is left of a text: how many of its bytes were read, and the bytes behind them
pub record Rest : Type 0 where
  pub place : ℕ
  pub left : List ℕ

-- Why a field isn't read: it isn't whole, or no value that is allowed is spelled so. Each has the place at which the field starts:
-- as many bytes were read before it.
pub data Refusal : Type 0 where
  Cut : (at : ℕ) → Refusal
  Wrong : (at : ℕ) → Refusal

abbrev pub place_of : Refusal → ℕ
place_of (Cut at) = at
place_of (Wrong at) = at

-- a text of which nothing was read
abbrev pub unread : List ℕ → Rest
unread text = record { place = 0; left = text }

-- what is left behind so many bytes more
abbrev pub behind : ℕ → Rest → Rest
behind n rest = record { place = rest.place + n; left = drop n rest.left }

-- one reading after another: the first refusal is that of both
infixl 10 ◌>>=◌
abbrev pub ◌>>=◌ : {A B : Type 0} → Result A Refusal → (A → Result B Refusal) → Result B Refusal
(Ok x) >>= f = f x
(Err e) >>= f = Err e

-- A value that was read as all of a text, or the place at which the text is refused: bytes that follow the value are refused at its end.
abbrev pub ended : {A : Type 0} → Result (A × Rest) Refusal → Result A ℕ
ended (Ok x) = if length x.1.left == 0 then Ok x.0 else Err x.1.place
ended (Err e) = Err (place_of e)
