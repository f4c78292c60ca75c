use Rattle.std.proofs.Common.{◌≡◌}
use Rattle.std.specs.Ordering.{nat_cmp}
use Rattle.std.specs.BTreeMap.{get}
use Rattle.pgs_copy.specs.Copies.{after_effects}
use Rattle.pgs_copy.specs.InPlace.{AreThere}
use Rattle.pgs_copy.proofs.in_place.change_all.Given as goal

abbrev pub invariant-loop-snap : goal.invariant-loop-snap
invariant-loop-snap l =
    (goal.iterator-loop-snap).can_next l.snap-iterator × (goal.iterator-loop-snap).is_finite l.snap-iterator
    × AreThere l.snap-iterator.rest.items (get nat_cmp l.copies)
    × (after_effects l.snap-iterator.rest.items (get nat_cmp l.copies) ≡ after_effects l.fn.changes.items (get nat_cmp l.fn.copies))
