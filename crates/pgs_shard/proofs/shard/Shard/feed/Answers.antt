use Rattle.std.proofs.Common.{◌∙◌, ap, rules, arith}
use Rattle.std.proofs.lemmas.List.{reverse-append}
use Rattle.pgs_shard_history.specs.Feeds.{beyond}
use Rattle.pgs_shard.proofs.Ties.{tied_fed, room_some}
use Rattle.pgs_shard.proofs.shard.Shard.feed.Goals as goal

pub invariant_of-self-2 : goal.invariant_of-self-2
invariant_of-self-2 g c =
    rw (c.push_reserved.ensures.items, c.reserve.ensures.items, reverse-append, c.in_ok-append.ensures.items) (
      tied_fed _ _ _ _ _ _ _ _ _ _ _ _ _ c.self.invariant.0 c.requires.next (search rules) (search rules) (c.in_ok-fresh.ensures ∙ ap (beyond _) c.as_slice.ensures) (search rules),
      room_some _ _ _ (omega (arith, c.in_ok-reserve.ensures.ok, c.push_reserved.ensures.len, c.push_reserved.ensures.capacity, c.reserve.ensures.len)),
    )
