-- How the answers to the steps of a group's scrub are printed.
use Rattle.std.specs.Prelude.{ℕ, Bool, List, [], ◌∷◌, ◌++◌, codes}
use Rattle.std.specs.Fmt.{decimal}
use Rattle.pgs_done.specs.Words.{word_where}
use Rattle.pgs_done.specs.Ranges.{range_words}
use Rattle.pgs_done.specs.declared.begin_answer.BeginAnswer.{BeginAnswer}
use Rattle.pgs_done.specs.declared.begin_answer.BeginAnswer.TheVariants.{Began, Busy}
use Rattle.pgs_done.specs.declared.open_answer.OpenAnswer.{OpenAnswer}
use Rattle.pgs_done.specs.declared.open_answer.OpenAnswer.TheVariants as opens
use Rattle.pgs_done.specs.declared.close_answer.CloseAnswer.{CloseAnswer}
use Rattle.pgs_done.specs.declared.close_answer.CloseAnswer.TheVariants as closes

-- GROUP.SERIAL, which names a scrub
abbrev pub scrub_word : ℕ → ℕ → List ℕ
scrub_word group serial = decimal group ++ 46 ∷ decimal serial

-- what a group of this number is answered whose scrub is to begin
abbrev pub begin_words : ℕ → BeginAnswer → List (List ℕ)
begin_words group (Began serial) = codes "began" ∷ scrub_word group serial ∷ []
begin_words group (Busy serial) = codes "busy" ∷ scrub_word group serial ∷ []

-- the device of this OSD failed
abbrev pub fault_words : ℕ → ℕ → List (List ℕ)
fault_words osd count = codes "device-fault" ∷ decimal osd ∷ decimal count ∷ []

abbrev pub opened_words : ℕ → ℕ → Bool → List (List ℕ)
opened_words version limit firm = codes "version" ∷ decimal version ∷ codes "limit" ∷ decimal limit ∷ word_where firm (codes "firm")

abbrev pub open_words : OpenAnswer → List (List ℕ)
open_words (opens.Opened chunk range version limit firm) = codes "opened" ∷ decimal chunk ∷ range_words range ++ opened_words version limit firm
open_words (opens.Already chunk) = codes "already" ∷ decimal chunk ∷ []
open_words opens.NoScrub = codes "no-scrub" ∷ []
open_words (opens.Reserving osd) = codes "reserving" ∷ decimal osd ∷ []
open_words (opens.DeviceFault osd count) = fault_words osd count

abbrev pub closed_words : ℕ → ℕ → ℕ → Bool → List (List ℕ)
closed_words chunk findings snaps completes =
    codes "closed" ∷ decimal chunk ∷ codes "findings" ∷ decimal findings ∷ codes "snaps" ∷ decimal snaps ∷ word_where completes (codes "completes")

abbrev pub close_words : CloseAnswer → List (List ℕ)
close_words (closes.Closed chunk findings snaps completes) = closed_words chunk findings snaps completes
close_words (closes.NotYet osd) = codes "not-yet" ∷ decimal osd ∷ []
close_words (closes.ClosedBefore chunk) = codes "closed-before" ∷ decimal chunk ∷ []
close_words closes.NoChunk = codes "no-chunk" ∷ []
close_words (closes.Preempted client serial) = codes "preempted" ∷ decimal client ∷ decimal serial ∷ []
close_words (closes.IntervalChanged old new) = codes "interval-changed" ∷ decimal old ∷ decimal new ∷ []
close_words (closes.DeviceFault osd count) = fault_words osd count
