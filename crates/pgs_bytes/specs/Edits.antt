-- What edits leave of a text of bytes.
use Rattle.std.specs.Prelude.{ℕ, ◌+◌, ◌-◌, List, ◌++◌, length, take, drop, replicate}

-- cut to a length, or filled up to it with zero bytes
abbrev pub resized : ℕ → List ℕ → List ℕ
resized n bytes = take n bytes ++ replicate (n - length bytes) 0

-- with a piece from a place on: filled up to the place with zero bytes, and as it was behind the piece
abbrev pub written : ℕ → List ℕ → List ℕ → List ℕ
written at piece bytes = resized at bytes ++ piece ++ drop (at + length piece) bytes
