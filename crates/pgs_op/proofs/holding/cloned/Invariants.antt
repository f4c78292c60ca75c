use Rattle.std.proofs.Common.{drop}
use Rattle.std.specs.Option.{option_copied}
use Rattle.std.specs.Ordering.{nat_cmp}
use Rattle.std.specs.BTreeMap.{get}
use Rattle.pgs_store.specs.Kept.{in_map}
use Rattle.pgs_op.proofs.Touching.{AreCloned}
use Rattle.pgs_op.proofs.holding.cloned.Given as goal

abbrev pub invariant-loop-snap : goal.invariant-loop-snap
invariant-loop-snap l = AreCloned (in_map (option_copied l.copies)) (get nat_cmp l.clones) (drop l.snap-index l.effects) l.effects
