use Rattle.std.proofs.Common.{◌≡◌, ◌++◌, drop}
use Rattle.pgs_compare.specs.Parts.{entries_seen, all_judged}
use Rattle.pgs_compare.proofs.judging.judge.Given as goal

abbrev pub invariant-loop-entry : goal.invariant-loop-entry
invariant-loop-entry l = l.judged.items ++ all_judged l.id (entries_seen (drop l.entry-index l.entries)) ≡ all_judged l.id (entries_seen l.entries)
