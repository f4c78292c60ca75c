-- When a snapset is well formed.
use Rattle.std.specs.Prelude.{ℕ, Bool, true, false, ◌&&◌, nat_lt, nat_le, List, [], ◌∷◌}
use Rattle.std.specs.List.{list_all}
use Rattle.pgs_snapset.specs.declared.clone_facts.CloneFacts.{CloneFacts}
use Rattle.pgs_snapset.specs.declared.snapset.SnapSet.{SnapSet}

-- snaps go down: each is below the one before it, and the last of them is above a bound
abbrev pub goes_down : ℕ → ℕ → List ℕ → Bool
goes_down bound before [] = nat_lt bound before
goes_down bound before (s ∷ snaps) = nat_lt s before && goes_down bound s snaps

-- the snaps of a clone: at least one, the first not above the clone's snap, and going down to one above the clone before it
abbrev pub are_snaps : ℕ → ℕ → List ℕ → Bool
are_snaps before snap [] = false
are_snaps before snap (first ∷ snaps) = nat_le first snap && goes_down before first snaps

-- clones go up: each is above the one before it (above 0 the first), and has its snaps
abbrev pub are_clones : ℕ → List CloneFacts → Bool
are_clones before [] = true
are_clones before (c ∷ clones) = nat_lt before c.snap && are_snaps before c.snap c.snaps && are_clones c.snap clones

-- a snapset: its clones go up, and none is above its seq
abbrev pub is_well_formed : SnapSet → Bool
is_well_formed set = are_clones 0 set.clones && list_all (λ c. nat_le c.snap set.seq) set.clones
