use Rattle.std.proofs.Common.{◌≡◌, ◌++◌, drop}
use Rattle.std.specs.List.{flat_map}
use Rattle.pgs_map_encoding.specs.Entries.{entry_spelling}
use Rattle.pgs_map_encoding.proofs.entries_writing.put_all_entries.Given as goal

-- what was spelled and what is still to be spelled
abbrev pub invariant-loop-entry : goal.invariant-loop-entry
invariant-loop-entry l = l.into.items ++ flat_map entry_spelling (drop l.entry-index l.entries) ≡ l.fn.into.items ++ flat_map entry_spelling l.entries
