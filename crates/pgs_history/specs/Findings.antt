-- What is kept of all that a group's scrubs found, by its events, the newest first.
use Rattle.std.specs.Prelude.{List, [], ◌∷◌, Option, Some, None}
use Rattle.pgs_incons.specs.Kept.{Kept, kept_after}
use Rattle.pgs_compare.specs.declared.report.Report.{Report}
use Rattle.pgs_history.specs.Scrubs.{open_chunk}
use Rattle.pgs_history.specs.declared.chunk.Chunk.{Chunk}
use Rattle.pgs_history.specs.declared.close_answer.CloseAnswer.TheVariants.{Closed}
use Rattle.pgs_history.specs.declared.event.Event.{Event}
use Rattle.pgs_history.specs.declared.event.Event.TheVariants.{Close}

-- what a report says of the families of a chunk, if there is one, takes the place of what was kept of them
abbrev pub with_report : Option Chunk → Report → Kept → Kept
with_report None report kept = kept
with_report (Some chunk) report kept = kept_after chunk.range report.found report.snaps kept

abbrev pub findings_after : Event → Option Chunk → Kept → Kept
findings_after (Close number (Closed report completes)) chunk kept = with_report chunk report kept
findings_after event chunk kept = kept

-- of each family what the chunk found that had it and was closed last
abbrev pub findings : List Event → Kept
findings [] = record { found = []; snaps = [] }
findings (event ∷ past) = findings_after event (open_chunk past) (findings past)
