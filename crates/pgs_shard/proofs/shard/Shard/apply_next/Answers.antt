use Rattle.std.proofs.Common.{◌<◌, ◌≤◌, ◌≡◌, ◌+◌, length, rules, slice_get, get_or, Some, arith, subst, ap, sym, ◌∙◌}
use Rattle.std.proofs.lemmas.Option.{slice_get-get_or}
use Rattle.std.proofs.lemmas.List.{reverse-append}
use Rattle.pgs_shard_history.specs.Feeds.{fed, item_of}
use Rattle.pgs_shard_history.specs.Scanning.{scanning, drop_of}
use Rattle.pgs_shard_history.specs.Stores.{applied}
use Rattle.pgs_shard.specs.Answers.{IsDoneAt}
use Rattle.pgs_shard.proofs.Ties.{tied_applied, applied_answer, room_some}
use Rattle.pgs_shard.proofs.shard.Shard.apply_next.Goals as goal

pub invariant_of-self-in-Ok : goal.invariant_of-self-in-Ok
invariant_of-self-in-Ok g c =
    let below : c.self.inside.applied < length c.self.inside.items.items = search (rules, c.self.invariant.0.within) in
    let is : c.index.result.now ≡ get_or c.self.inside.items.items c.self.inside.applied c.index.result.now = search rules in
    let here : slice_get c.self.inside.items.items c.self.inside.applied ≡ Some c.index.result.now = slice_get-get_or _ _ _ below ∙ ap Some (sym is) in
    rw (c.push_reserved.ensures.items, c.reserve.ensures.items, reverse-append) (
      tied_applied _ _ _ _ _ _ _ _ _ _ c.index.result.now c.item_applied-drops.result c.in-Ok.field-0 c.self.invariant.0 below c.as_slice.ensures.value here c.in-Ok.ensures c.item_applied-drops.ensures.drops c.item_applied-drops.ensures.left,
      room_some _ _ _ (omega (arith, c.in_ok-reserve.ensures.ok, c.push_reserved.ensures.len, c.push_reserved.ensures.capacity, c.reserve.ensures.len)),
    )

pub returns-in-Ok-clause-answer : goal.returns-in-Ok-clause-answer
returns-in-Ok-clause-answer g c =
    let below : c.self.inside.applied < length c.self.inside.items.items = search (rules, c.self.invariant.0.within) in
    let is : c.index.result.now ≡ get_or c.self.inside.items.items c.self.inside.applied c.index.result.now = search rules in
    let here : slice_get c.self.inside.items.items c.self.inside.applied ≡ Some c.index.result.now = slice_get-get_or _ _ _ below ∙ ap Some (sym is) in
    subst (λ v.
    (c.self.inside.applied + 1 ≡ applied v.past + 1) × (c.self.inside.applied + 1 ≤ length (fed v.past)) × IsDoneAt (item_of (c.self.inside.applied + 1) (fed v.past)) (g.M.Medium.device v.medium) (g.M.Medium.device c.write_at.new.medium)
    × (c.item_applied-drops.result ≡ drop_of (scanning v.past) (item_of (c.self.inside.applied + 1) (fed v.past)))) c.self.view_is
    (applied_answer _ _ _ _ _ _ _ _ _ c.index.result.now c.item_applied-drops.result c.in-Ok.field-0 c.self.invariant.0 below c.as_slice.ensures.value here c.in-Ok.ensures c.item_applied-drops.ensures.drops)
