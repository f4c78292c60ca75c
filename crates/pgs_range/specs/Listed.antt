-- Which position a listing gives next.
use Rattle.std.specs.Prelude.{ℕ, Bool, true, ◌≡◌, ◌&&◌, Option, Some, None}
use Rattle.std.specs.Ordering.{is_le}
use Rattle.pgs_name.specs.Positions.{position_cmp, is_before}
use Rattle.pgs_name.specs.declared.object_id.ObjectId.{ObjectId}
use Rattle.pgs_range.specs.Ranges.{is_at_most, is_above}
use Rattle.pgs_range.specs.declared.bound.Bound.{Bound}
use Rattle.pgs_range.specs.declared.cursor.Cursor.{Cursor}
use Rattle.pgs_range.specs.declared.cursor.Cursor.TheVariants.{At, After}

-- a position stands at a cursor's bound or above it, or behind its position
abbrev pub is_behind : Cursor → ObjectId → Bool
is_behind (At bound) id = is_at_most bound id.family
is_behind (After last) id = is_before last id

-- a position stands behind a cursor and below a bound
abbrev pub is_ahead : Cursor → Bound → ObjectId → Bool
is_ahead cursor to id = is_behind cursor id && is_above to id.family

-- Of the positions that pass a test, the least one behind a cursor and below a bound, or none where there is none.
abbrev pub IsNext : (ObjectId → Bool) → Cursor → Bound → Option ObjectId → Type 0
IsNext held cursor to None = (other : ObjectId) → held other ≡ true → is_ahead cursor to other ≡ true → ⊥
IsNext held cursor to (Some id) =
    (held id ≡ true) × (is_ahead cursor to id ≡ true)
    × ((other : ObjectId) → held other ≡ true → is_ahead cursor to other ≡ true → is_le (position_cmp id other) ≡ true)
