-- Numbers of calls.
use Rattle.std.specs.Prelude.{ℕ, ◌+◌, ◌==◌, min, Bool, List}
use Rattle.std.specs.List.{list_any}
use Rattle.pgs_cause.specs.Count.{LAST_COUNT}

-- a count after one more, which stays at its last value
abbrev pub one_more : ℕ → ℕ
one_more count = min (count + 1) LAST_COUNT

-- a list names the call of this number
abbrev pub is_named : List ℕ → ℕ → Bool
is_named calls number = list_any (λ call. call == number) calls
