use Rattle.std.proofs.Common.{◌≡◌, drop}
use Rattle.std.specs.Ordering.{nat_cmp}
use Rattle.std.specs.BTreeMap.{get}
use Rattle.pgs_copy.specs.Copies.{after_effects}
use Rattle.pgs_copy.proofs.effects.apply_in_turn.Given as goal

abbrev pub invariant-loop-snap : goal.invariant-loop-snap
invariant-loop-snap l = after_effects (drop l.snap-index l.effects) (get nat_cmp l.copies) ≡ after_effects l.effects (get nat_cmp l.fn.copies)
