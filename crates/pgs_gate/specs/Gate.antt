-- What becomes of a client's write while a scrub has a chunk open.
use Rattle.std.specs.Prelude.{Bool, if◌then◌else◌, Option, Some, None}
use Rattle.pgs_name.specs.Families.{Family}
use Rattle.pgs_range.specs.Ranges.{in_range}
use Rattle.pgs_range.specs.declared.family_range.FamilyRange.{FamilyRange}
use Rattle.pgs_gate.specs.declared.verdict.Verdict.{Verdict}
use Rattle.pgs_gate.specs.declared.verdict.Verdict.TheVariants.{Pass, Preempts, Waits}

-- what a write can meet of an open chunk: its families, and whether it gives way to no write
pub record OpenChunk : Type 0 where
  pub range : FamilyRange
  pub firm : Bool

-- the open chunk with this range, if one is open
abbrev pub chunk_of : Option FamilyRange → Bool → Option OpenChunk
chunk_of None firm = None
chunk_of (Some range) firm = Some (record { range = range; firm = firm })

-- A write passes where no chunk is open or its family isn't in the open one's range. Else it waits where that chunk is firm, and preempts it
-- where it isn't.
abbrev pub verdict_of : Option OpenChunk → Family → Verdict
verdict_of None family = Pass
verdict_of (Some chunk) family = if in_range chunk.range family then (if chunk.firm then Waits else Preempts) else Pass
