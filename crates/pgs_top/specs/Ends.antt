-- How a run of the program ends, and why.
use Rattle.std.specs.Prelude.{ℕ, zero, suc, ◌≡◌, ◌≤◌, ◌<◌, ◌++◌, List, [], ◌∷◌, length, take, Option, Some, None, codes}
use Rattle.std.specs.Fmt.{decimal}
use Rattle.std.specs.Io.KnownBytes.{Appends, Keeps}
use Rattle.pgs_texts.specs.Text.{IsTextOf, IsBadLine, IsLimit}
use Rattle.pgs_script.specs.Script.{script_grammar}
use Rattle.pgs_chunk.specs.declared.settings.Settings.{Settings}
use Rattle.pgs_order.specs.declared.step_script.StepScript.{StepScript}
use Rattle.pgs_top.specs.Histories.{histories_of, no_histories}
use Rattle.pgs_top.specs.Output.{text_of}
use Rattle.pgs_top.specs.declared.histories.Histories.{Histories}
use Rattle.pgs_top.specs.declared.ended.Status.{Status}
use Rattle.pgs_top.specs.declared.ended.Status.TheVariants as ends

abbrev pub status_number : Status → ℕ
status_number ends.Ok = 0
status_number ends.BadWords = 2
status_number (ends.BadLine line) = 3
status_number ends.ReadFault = 4
status_number ends.WriteFault = 5
status_number (ends.Limit line) = 6
status_number ends.Memory = 7

-- the name of a status, with the number of its line
abbrev pub status_text : Status → List ℕ
status_text ends.Ok = codes "Ok"
status_text ends.BadWords = codes "BadWords"
status_text (ends.BadLine line) = codes "BadLine " ++ decimal line
status_text ends.ReadFault = codes "ReadFault"
status_text ends.WriteFault = codes "WriteFault"
status_text (ends.Limit line) = codes "Limit " ++ decimal line
status_text ends.Memory = codes "Memory"

-- the most bytes of an input: 16 MiB
abbrev pub INPUT_MAX : ℕ
INPUT_MAX = 16777216

-- the words of the command line
abbrev pub replay_words : List (List ℕ)
replay_words = codes "replay" ∷ []

-- An input was read whole, it is the text of a script, and what happened is what happens in this script.
pub record Ran (settings : Settings) (input : List ℕ) (kept : Histories) : Type 0 where
  pub within : length input ≤ INPUT_MAX
  pub script : StepScript
  pub reads : IsTextOf script_grammar script input
  pub happened : kept ≡ histories_of settings script

-- An input was read whole and is refused at a line.
pub record RefusedAt (input : List ℕ) (line : ℕ) : Type 0 where
  pub within : length input ≤ INPUT_MAX
  pub refused : IsBadLine script_grammar input line

-- which limit an input passes: line 0 is its length
abbrev pub PassesLimit : List ℕ → ℕ → Type 0
PassesLimit input zero = INPUT_MAX < length input
PassesLimit input (suc line) = (length input ≤ INPUT_MAX) × IsLimit script_grammar input (suc line)

-- What an input and what happened are under a status. The conditions of `Ok`, `BadLine` and `Limit` exclude each other,
-- so each of them comes exactly where its condition holds, unless an end failed or memory ran out.
abbrev pub IsDue : Settings → List ℕ → Histories → Status → Type 0
IsDue settings input kept ends.Ok = Ran settings input kept
IsDue settings input kept ends.BadWords = kept ≡ no_histories
IsDue settings input kept (ends.BadLine line) = RefusedAt input line × (kept ≡ no_histories)
IsDue settings input kept ends.ReadFault = kept ≡ no_histories
IsDue settings input kept ends.WriteFault = Ran settings input kept
IsDue settings input kept (ends.Limit line) = PassesLimit input line × (kept ≡ no_histories)
IsDue settings input kept ends.Memory = kept ≡ no_histories

-- the bytes that a source had, where it tells them
abbrev pub Tells : Option (List ℕ) → List ℕ → Type 0
Tells None input = Unit {0}
Tells (Some bytes) input = bytes ≡ input

-- There is an input that the source had, under which this status is due.
pub record Due (settings : Settings) (told : Option (List ℕ)) (kept : Histories) (status : Status) : Type 0 where
  pub input : List ℕ
  pub tells : Tells told input
  pub due : IsDue settings input kept status

-- a front of a text was written
pub record WritesFront (old new : Option (List ℕ)) (text : List ℕ) : Type 0 where
  pub count : ℕ
  pub front : Appends old new (take count text)

-- What was written under a status: the text of what happened, a front of it, or nothing.
abbrev pub IsWritten : Settings → Option (List ℕ) → Option (List ℕ) → Histories → Status → Type 0
IsWritten settings old new kept ends.Ok = Appends old new (text_of settings kept)
IsWritten settings old new kept ends.BadWords = Keeps old new
IsWritten settings old new kept (ends.BadLine line) = Keeps old new
IsWritten settings old new kept ends.ReadFault = Keeps old new
IsWritten settings old new kept ends.WriteFault = WritesFront old new (text_of settings kept)
IsWritten settings old new kept (ends.Limit line) = Keeps old new
IsWritten settings old new kept ends.Memory = Keeps old new

-- ---- the parts of a run

-- A source had an input that is the text of a script.
pub record Scripted (told : Option (List ℕ)) (script : StepScript) : Type 0 where
  pub input : List ℕ
  pub tells : Tells told input
  pub within : length input ≤ INPUT_MAX
  pub reads : IsTextOf script_grammar script input

-- how a run ends without a script
abbrev pub IsRefusal : Status → Type 0
IsRefusal ends.Ok = ⊥
IsRefusal ends.BadWords = ⊥
IsRefusal (ends.BadLine line) = Unit {0}
IsRefusal ends.ReadFault = Unit {0}
IsRefusal ends.WriteFault = ⊥
IsRefusal (ends.Limit line) = Unit {0}
IsRefusal ends.Memory = Unit {0}

-- how the run of a script ends, and what happened in it
abbrev pub IsRun : Settings → StepScript → Histories → Status → Type 0
IsRun settings script kept ends.Ok = kept ≡ histories_of settings script
IsRun settings script kept ends.BadWords = ⊥
IsRun settings script kept (ends.BadLine line) = ⊥
IsRun settings script kept ends.ReadFault = ⊥
IsRun settings script kept ends.WriteFault = kept ≡ histories_of settings script
IsRun settings script kept (ends.Limit line) = ⊥
IsRun settings script kept ends.Memory = kept ≡ no_histories
