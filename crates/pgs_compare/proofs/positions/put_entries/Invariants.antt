use Rattle.std.proofs.Common.{◌≡◌, drop}
use Rattle.pgs_compare.specs.Report.{with_entries}
use Rattle.pgs_compare.proofs.positions.put_entries.Given as goal

abbrev pub invariant-loop-entry : goal.invariant-loop-entry
invariant-loop-entry l = with_entries l.ids.keys (drop l.entry-index l.entries) ≡ with_entries l.fn.ids.keys l.entries
