use Rattle.std.proofs.Common.{rules}
use Rattle.std.specs.Option.{option_copied}
use Rattle.std.specs.Ordering.{nat_cmp}
use Rattle.std.specs.BTreeMap.{get}
use Rattle.pgs_store.specs.Kept.{in_map}
use Rattle.pgs_op.proofs.Touching.{cloning_goes_on, cloning_ends}
use Rattle.pgs_op.proofs.holding.cloned.Goals as goal

pub loop-snap-preserved : goal.loop-snap-preserved
loop-snap-preserved c =
    cloning_goes_on (in_map (option_copied c.args.copies)) (get nat_cmp c.loop-snap.clones) (get nat_cmp c.add_clone-in-loop-snap.new.clones) c.args.effects.now
    c.loop-snap.snap-index c.loop-snap-item.result c.loop-snap.invariant (search rules) c.loop-snap-item.is c.in_ok-add_clone-2.ensures

pub returns-clause-effects : goal.returns-clause-effects
returns-clause-effects c =
    cloning_ends (in_map (option_copied c.args.copies)) (get nat_cmp c.loop-snap.clones) c.args.effects.now c.loop-snap.snap-index c.loop-snap.invariant (search rules)
