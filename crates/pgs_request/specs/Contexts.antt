-- Which contexts of snapshots a write may have.
use Rattle.std.specs.Prelude.{ℕ, ◌+◌, ◌==◌, ◌||◌, Bool, false, nat_lt, nat_le, if◌then◌else◌, List, [], ◌∷◌, Option, Some, None}
use Rattle.pgs_request.specs.declared.snap_context.SnapContext.{SnapContext}

-- a snap isn't below the one before it, if one is
abbrev pub goes_up : Option ℕ → ℕ → Bool
goes_up None snap = false
goes_up (Some before) snap = nat_le before snap

-- a snap can't stand behind another: it is 0, it is above the seq, or it isn't below the one before it
abbrev pub is_bad : ℕ → Option ℕ → ℕ → Bool
is_bad seq before snap = snap == 0 || nat_lt seq snap || goes_up before snap

-- the place of the first bad one of the snaps that begin at a place
abbrev pub bad_from : ℕ → ℕ → Option ℕ → List ℕ → Option ℕ
bad_from place seq before [] = None
bad_from place seq before (s ∷ snaps) = if is_bad seq before s then Some place else bad_from (place + 1) seq (Some s) snaps

-- and of all snaps of a context
abbrev pub bad_place : SnapContext → Option ℕ
bad_place context = bad_from 0 context.seq None context.snaps
