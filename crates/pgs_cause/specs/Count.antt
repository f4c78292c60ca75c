-- Counts of faults.
use Rattle.std.specs.Prelude.{ℕ, ◌≡◌, ◌≤◌, ◌^◌, ◌-◌}

-- the last value of a count, at which it stays
abbrev pub LAST_COUNT : ℕ
LAST_COUNT = 2 ^ 64 - 1

-- The count rose: it is above what it was, or it stands at its last value and stood there before.
pub record Rose (old new : ℕ) : Type 0 where
  pub kept : old ≤ new
  pub more : old ≡ new → new ≡ LAST_COUNT
