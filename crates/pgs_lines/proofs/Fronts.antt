-- Lists that are read one by one.
use Rattle.std.proofs.Common.{ℕ, List, ◌++◌, Option, Some, None}

-- what was read before, and then what is read
abbrev pub with_front : List ℕ → Option (List ℕ) → Option (List ℕ)
with_front front None = None
with_front front (Some xs) = Some (front ++ xs)
