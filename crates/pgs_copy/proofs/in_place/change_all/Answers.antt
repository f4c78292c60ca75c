use Rattle.std.specs.Ordering.{nat_cmp}
use Rattle.std.specs.BTreeMap.{get}
use Rattle.pgs_copy.proofs.Places.{change_next}
use Rattle.pgs_copy.proofs.in_place.change_all.Goals as goal

pub loop-snap-preserved : goal.loop-snap-preserved
loop-snap-preserved c =
    let h = c.loop-snap.invariant in
    let k = change_next c.loop-snap.snap-iterator.rest.items c.next.new.self.rest.items c.in-Some.snap c.in-Some.change (get nat_cmp c.loop-snap.copies)
    (get nat_cmp c.change_at.new.copies) _ c.in-Some.ensures.steps.0 h.2 c.change_at.ensures h.3 in
    (tt, tt, k.0, k.1)
