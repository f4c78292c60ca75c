use Rattle.std.proofs.Common.{◌≡◌, ◌++◌}
use Rattle.std.specs.List.{flat_map}
use Rattle.pgs_map_encoding.specs.Entries.{attr_spelling}
use Rattle.pgs_map_encoding.proofs.entries_writing.put_all_attrs.Given as goal

-- what was spelled and what is still to be spelled
abbrev pub invariant-loop-name : goal.invariant-loop-name
invariant-loop-name l =
    (goal.iterator-loop-name).can_next l.name-iterator × (goal.iterator-loop-name).is_finite l.name-iterator
    × (l.into.items ++ flat_map attr_spelling l.name-iterator ≡ l.fn.into.items ++ flat_map attr_spelling l.pairs)
