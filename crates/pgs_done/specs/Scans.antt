-- How the answers to the steps of a member's scan are printed.
use Rattle.std.specs.Prelude.{ℕ, List, [], ◌∷◌, ◌++◌, Option, Some, None, codes}
use Rattle.std.specs.Fmt.{decimal}
use Rattle.pgs_done.specs.Ranges.{as_kept, object_words}
use Rattle.pgs_done.specs.declared.mark.Mark.{Mark}
use Rattle.pgs_done.specs.declared.mark.Mark.TheVariants as marks
use Rattle.pgs_done.specs.declared.position.Position.{Position}
use Rattle.pgs_done.specs.declared.scan_answer.ScanAnswer.{ScanAnswer}
use Rattle.pgs_done.specs.declared.scan_answer.ScanAnswer.TheVariants as scans
use Rattle.pgs_done.specs.declared.take_answer.TakeAnswer.{TakeAnswer}
use Rattle.pgs_done.specs.declared.take_answer.TakeAnswer.TheVariants as takes

-- the head, or a clone by its number
abbrev pub snap_word : Option ℕ → List ℕ
snap_word None = codes "head"
snap_word (Some snap) = decimal snap

-- SPACE KEY NAME SNAP
abbrev pub position_words : Position → List (List ℕ)
position_words position = object_words (as_kept position.object) ++ snap_word position.snap ∷ []

-- what failed, if anything did
abbrev pub mark_words : Mark → List (List ℕ)
mark_words marks.Fine = []
mark_words marks.StatError = codes "stat-error" ∷ []
mark_words marks.ReadError = codes "read-error" ∷ []

abbrev pub scan_words : ScanAnswer → List (List ℕ)
scan_words scans.Idle = codes "idle" ∷ []
scan_words (scans.NotYet applied needed) = codes "not-yet" ∷ decimal applied ∷ decimal needed ∷ []
scan_words (scans.Found position) = codes "found" ∷ position_words position
scan_words scans.More = codes "more" ∷ []
scan_words (scans.Passed position mark) = codes "passed" ∷ position_words position ++ mark_words mark
scan_words scans.Done = codes "done" ∷ []
scan_words (scans.ListFault count) = codes "list-fault" ∷ decimal count ∷ []

-- a number, or `none`
abbrev pub number_or_none : Option ℕ → List ℕ
number_or_none None = codes "none"
number_or_none (Some number) = decimal number

abbrev pub take_words : TakeAnswer → List (List ℕ)
take_words (takes.Taken applied place) = codes "taken" ∷ decimal applied ∷ decimal place ∷ []
take_words (takes.Stale chunk) = codes "stale" ∷ number_or_none chunk ∷ []
take_words takes.NotDone = codes "not-done" ∷ []
take_words (takes.Fault count) = codes "fault" ∷ decimal count ∷ []
