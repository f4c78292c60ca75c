use Rattle.std.proofs.Common.{◌≡◌, None, drop}
use Rattle.pgs_request.specs.Contexts.{bad_from}
use Rattle.pgs_request.proofs.snap_context.first_bad.Given as goal

abbrev pub invariant-loop-place : goal.invariant-loop-place
invariant-loop-place l = bad_from l.place l.seq l.before (drop l.place l.snaps) ≡ bad_from 0 l.seq None l.snaps
