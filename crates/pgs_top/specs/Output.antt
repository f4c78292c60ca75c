-- What the program writes.
use Rattle.std.specs.Prelude.{ℕ, Bool, true, if◌then◌else◌, List, [], ◌∷◌, ◌++◌, reverse, Option, Some, None, codes}
use Rattle.pgs_done.specs.Done.{line_of, is_listed, done_line}
use Rattle.pgs_done.specs.declared.done.Done.{Done}
use Rattle.pgs_chunk.specs.declared.settings.Settings.{Settings}
use Rattle.pgs_world.specs.State.{WorldState}
use Rattle.pgs_top.specs.declared.histories.Histories.{Histories}

-- what is printed: all that was done, or the lists alone
abbrev pub is_shown : Bool → Done → Bool
is_shown lists done = if lists then is_listed done else true

abbrev pub shown_line : Bool → Done → List ℕ
shown_line lists done = if is_shown lists done then done_line done else []

-- a line for each thing that is printed, the first first
abbrev pub lines : Bool → List Done → List ℕ
lines lists [] = []
lines lists (done ∷ more) = shown_line lists done ++ lines lists more

abbrev pub world_lines : Bool → Option WorldState → List ℕ
world_lines lists None = []
world_lines lists (Some world) = lines lists (reverse world.done)

-- the text of what happened
abbrev pub text_of : Settings → Histories → List ℕ
text_of settings kept = world_lines settings.lists kept.world ++ line_of (codes "end" ∷ [])
