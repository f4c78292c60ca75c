use Rattle.std.proofs.Common.{◌≡◌}
use Rattle.std.specs.List.{list_all}
use Rattle.pgs_map_encoding.specs.Entries.{is_short}
use Rattle.pgs_map_encoding.proofs.fits.are_short.Given as goal

-- what is left tells of all
abbrev pub invariant-loop-name : goal.invariant-loop-name
invariant-loop-name l =
    (goal.iterator-loop-name).can_next l.name-iterator × (goal.iterator-loop-name).is_finite l.name-iterator
    × (list_all is_short l.name-iterator ≡ list_all is_short l.pairs)
