use Rattle.std.proofs.Common.{◌≡◌, ◌++◌, drop}
use Rattle.pgs_codec.specs.Fields.{u64, all_spelled}
use Rattle.pgs_snapset.proofs.writing.put_all_snaps.Given as goal

-- what was spelled and what is still to be spelled
abbrev pub invariant-loop-snap : goal.invariant-loop-snap
invariant-loop-snap l = l.into.items ++ all_spelled u64 (drop l.snap-index l.snaps) ≡ l.fn.into.items ++ all_spelled u64 l.snaps
