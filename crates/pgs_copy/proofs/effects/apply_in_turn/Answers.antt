use Rattle.std.proofs.Common.{◌∙◌}
use Rattle.std.specs.Ordering.{nat_cmp}
use Rattle.std.specs.BTreeMap.{get}
use Rattle.pgs_copy.proofs.Laws.{after_effects-next}
use Rattle.pgs_copy.proofs.effects.apply_in_turn.Goals as goal

pub loop-snap-preserved : goal.loop-snap-preserved
loop-snap-preserved c =
    after_effects-next c.args.effects.now c.loop-snap.snap-index c.loop-snap-item.result (get nat_cmp c.loop-snap.copies) (get nat_cmp c.apply_effect.new.copies) c.loop-snap-test.true c.loop-snap-item.is c.in_ok-apply_effect.ensures ∙ c.loop-snap.invariant
