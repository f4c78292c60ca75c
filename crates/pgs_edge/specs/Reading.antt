-- Reading a source.
use Rattle.std.specs.Prelude.{ℕ, ◌≤◌, List, length, Option}
use Rattle.std.specs.Io.KnownBytes.{Consumes}

-- what is left is what was left, less some front of at most `most` bytes
abbrev pub TakesAtMost : Option (List ℕ) → Option (List ℕ) → ℕ → Type 0
TakesAtMost old new most = (front : List ℕ) × Consumes old new front × (length front ≤ most)

-- what is left is what was left, less some front of at least `least` bytes, which came whether they were told or not
abbrev pub GaveAtLeast : Option (List ℕ) → Option (List ℕ) → ℕ → Type 0
GaveAtLeast old new least = (front : List ℕ) × Consumes old new front × (least ≤ length front)
