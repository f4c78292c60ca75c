-- How a context of snapshots is printed.
use Rattle.std.specs.Prelude.{ℕ, ◌==◌, ◌&&◌, if◌then◌else◌, List, [], ◌∷◌, ◌++◌, length}
use Rattle.std.specs.Fmt.{decimal}
use Rattle.pgs_request.specs.declared.snap_context.SnapContext.{SnapContext}
use Rattle.pgs_lines.specs.declared.context.Context.{Context}
use Rattle.pgs_lines.specs.declared.context.Context.TheVariants.{Dash, Given}

-- a dash, and no 0, stands for no snapshot
abbrev pub as_printed : SnapContext → Context
as_printed context = if context.seq == 0 && length context.snaps == 0 then Dash else Given context

-- snaps as they are appended, with a mark before the first and a comma before each other
abbrev pub marked : ℕ → List ℕ → List ℕ
marked mark [] = []
marked mark (s ∷ ss) = mark ∷ decimal s ++ marked 44 ss
