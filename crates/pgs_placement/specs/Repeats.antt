-- Steps that are made again and again.
use Rattle.std.specs.Prelude.{ℕ, zero, suc, Bool, if◌then◌else◌}
use Rattle.pgs_placement.specs.State.{PlacementState}

-- How many steps of one kind are made in a row at most: as many as 64 bits count.
unfoldable pub MOST : ℕ
MOST = 18446744073709551615

-- a step is made at most so many times, until a test fails on what is before it; then it is made a last time
abbrev pub repeated : (PlacementState → PlacementState) → (PlacementState → Bool) → ℕ → PlacementState → PlacementState
repeated step goes zero w = w
repeated step goes (suc n) w = if goes w then repeated step goes n (step w) else step w
