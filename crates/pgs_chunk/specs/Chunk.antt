-- The chunk that begins at a bound.
use Rattle.std.specs.Prelude.{ℕ, List, Option, Some, None}
use Rattle.pgs_name.specs.declared.object_id.ObjectId.{ObjectId}
use Rattle.pgs_range.specs.declared.bound.Bound.{Bound}
use Rattle.pgs_range.specs.declared.bound.Bound.TheVariants.{At, Max}
use Rattle.pgs_range.specs.declared.family_range.FamilyRange.{FamilyRange}
use Rattle.pgs_chunk.specs.Next.{next_position}
use Rattle.pgs_chunk.specs.Selection.{from_start}

-- the bound at a position's family, or above all families where there is none
abbrev pub bound_at : Option ObjectId → Bound
bound_at None = Max
bound_at (Some id) = At id.family

-- the families from the start to that of the first position that belongs into the next chunk
abbrev pub chunk_of : ℕ → List ObjectId → Bound → FamilyRange
chunk_of limit listed start = record { from = start; to = bound_at (next_position limit (from_start start listed)) }
