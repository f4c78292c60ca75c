use Rattle.std.proofs.Common.{rules, ◌≡◌, reverse, Some, None, subst, ap, ◌∙◌}
use Rattle.pgs_range.specs.Listed.{IsNext}
use Rattle.pgs_range.specs.declared.bound.Bound.TheVariants.{Max}
use Rattle.pgs_store.specs.Stores.{is_stored, copy_size}
use Rattle.pgs_shard.proofs.Sums.{one_summed, all_summed, fewer}
use Rattle.pgs_shard.proofs.holding.held.Goals as goal

pub loop-cursor-preserved : goal.loop-cursor-preserved
loop-cursor-preserved g c =
    let stored = (g.M.Medium.device c.args.medium.now).stored in
    let some : c.in_ok-id.field-0 ≡ Some c.in-Some.id = search rules in
    let next : IsNext (is_stored stored) c.loop-cursor.cursor Max (Some c.in-Some.id) =
    subst (λ a. IsNext (is_stored stored) c.loop-cursor.cursor Max a) some c.in_ok-id.ensures in
    let size : c.in_ok-size.size ≡ copy_size (stored c.in-Some.id.family c.in-Some.id.snap) = c.in_ok-size.ensures ∙ ap copy_size c.copy.ensures in
    one_summed (reverse c.args.events.now) stored c.loop-cursor.held c.in_ok-size.size c.in_ok-held.held c.loop-cursor.cursor c.in-Some.id c.requires c.loop-cursor.invariant next
    size c.in_ok-held.ensures

pub loop-cursor-smaller : goal.loop-cursor-smaller
loop-cursor-smaller g c =
    let stored = (g.M.Medium.device c.args.medium.now).stored in
    let some : c.in_ok-id.field-0 ≡ Some c.in-Some.id = search rules in
    fewer (reverse c.args.events.now) stored c.loop-cursor.cursor c.in-Some.id c.requires
    (subst (λ a. IsNext (is_stored stored) c.loop-cursor.cursor Max a) some c.in_ok-id.ensures)

pub returns : goal.returns
returns g c =
    let stored = (g.M.Medium.device c.args.medium.now).stored in
    let none : c.in_ok-id.field-0 ≡ None = search rules in
    all_summed (reverse c.args.events.now) stored c.loop-cursor.held c.loop-cursor.cursor c.requires c.loop-cursor.invariant
    (subst (λ a. IsNext (is_stored stored) c.loop-cursor.cursor Max a) none c.in_ok-id.ensures)
