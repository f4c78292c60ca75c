-- What holds of the scrubs and chunks of a legal history.
use Rattle.std.specs.Prelude.{ℕ, ◌≡◌, ◌≤◌, ◌<◌, ◌+◌, true, List, [], ◌∷◌, length, Some, None, is_some, if◌then◌else◌, slice_get}
use Rattle.pgs_name.specs.Families.{Family}
use Rattle.pgs_range.specs.Rows.{AreInRow, times_held}
use Rattle.pgs_range.specs.declared.bound.Bound.{Bound}
use Rattle.pgs_range.specs.declared.bound.Bound.TheVariants.{Min, Max}
use Rattle.pgs_map.specs.Entries.{AreInRange}
use Rattle.pgs_history.specs.Causes.{causes, cause}
use Rattle.pgs_history.specs.Scrubs.{IsBegun, begun, present, running, opened, open_chunk, is_open, ends, fates, ended, closed_ranges, completed}
use Rattle.pgs_history.specs.declared.chunk.Chunk.{Chunk}
use Rattle.pgs_history.specs.declared.made.Made.{Made}
use Rattle.pgs_history.specs.declared.event.Event.{Event}
use Rattle.pgs_history.specs.declared.event.Event.TheVariants.{Take}

-- ---- maps

abbrev pub IsOrdered : Event → Type 0
IsOrdered (Take place map answer) = AreInRange map.range map.entries
IsOrdered event = Unit {0}

-- the entries of each map are in order and in its range
abbrev pub AreOrdered : List Event → Type 0
AreOrdered [] = Unit {0}
AreOrdered (event ∷ past) = IsOrdered event × AreOrdered past

-- ---- scrubs

-- Each scrub that began has ended by one cause, but for the one that reserves or runs, which is the one that began last: so a scrub has a cause exactly
-- where it neither reserves nor runs. Where a chunk is open, its scrub runs.
pub record AreCaused (made : Made) (past : List Event) : Type 0 where
  pub count : length (causes made past) + (if is_some (present past) then 1 else 0) ≡ begun past
  pub last : (serial : ℕ) → present past ≡ Some serial → serial ≡ begun past
  pub going : (serial : ℕ) → IsBegun past serial → cause made past serial ≡ None → present past ≡ Some serial
  pub gone : (serial : ℕ) → present past ≡ Some serial → cause made past serial ≡ None
  pub runs : (chunk : Chunk) → open_chunk past ≡ Some chunk → running past ≡ Some chunk.serial

-- ---- fates

-- Each chunk that was opened was closed, gave way to a write or ended with its scrub once, but for the one that is open: so a chunk has at most one fate,
-- and at most one chunk has none. The fates stand in the order of the chunks' numbers.
pub record AreFated (made : Made) (past : List Event) : Type 0 where
  pub each : (chunk : ℕ) → 1 ≤ chunk → chunk ≤ opened past → ends past chunk ≡ (if is_open past chunk then 0 else 1)
  pub others : (chunk : ℕ) → opened past < chunk → ends past chunk ≡ 0
  pub last : (chunk : Chunk) → open_chunk past ≡ Some chunk → chunk.number ≡ opened past
  pub count : length (fates made past) + (if is_some (open_chunk past) then 1 else 0) ≡ opened past
  pub told : (place : ℕ) → slice_get (fates made past) place ≡ ended made past (place + 1)

-- ---- tiles

-- The closed chunks of a scrub begin at the least bound, and each next one where the one before ended; those of one that is complete end above all families.
pub record IsTiled (past : List Event) (serial : ℕ) : Type 0 where
  pub end : Bound
  pub row : AreInRow Min (closed_ranges past serial) end
  pub whole : completed past serial ≡ true → end ≡ Max
  pub once : completed past serial ≡ true → (f : Family) → times_held (closed_ranges past serial) f ≡ 1

abbrev pub AreTiled : List Event → Type 0
AreTiled past = (serial : ℕ) → IsTiled past serial
