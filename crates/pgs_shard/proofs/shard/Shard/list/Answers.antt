use Rattle.std.proofs.Common.{rules, arith}
use Rattle.std.proofs.lemmas.List.{reverse-append}
use Rattle.pgs_shard.specs.Listed.{calls_for}
use Rattle.pgs_shard.proofs.Ties.{room_some, room_kept}
use Rattle.pgs_shard.proofs.Listings.{tied_answered, tied_failed, failed_is, memory_is, answered_failing, failed_failing, memory_failing}
use Rattle.pgs_shard.proofs.shard.Shard.list.Goals as goal

pub invariant_of-self-in-Ok : goal.invariant_of-self-in-Ok
invariant_of-self-in-Ok g c =
    rw c.reserve.ensures.items
    (tied_answered _ _ (calls_for c.args.limit c.in-Ok.listed) _ _ _ _ _ _ c.self.invariant.0 c.in-Ok.ensures.device.left, room_kept _ _ _ _ _ c.self.invariant.1 c.reserve.ensures.len c.reserve.ensures.capacity)

pub invariant_of-self-in-Err-Failed : goal.invariant_of-self-in-Err-Failed
invariant_of-self-in-Err-Failed g c =
    let failed = failed_is c.args.limit _ (g.M.Medium.device c.self.inside.medium) (g.M.Medium.device c.list_on.new.medium) c.in-Err-Failed.field-0 (search rules) c.in-Err-Failed.ensures.device in
    rw (c.push_reserved.ensures.items, c.reserve.ensures.items, reverse-append) (
      tied_failed _ _ _ _ _ _ _ _ _ _ c.self.invariant.0 failed c.faults-count.ensures,
      room_some _ _ _ (omega (arith, c.in_ok-reserve.ensures.ok, c.push_reserved.ensures.len, c.push_reserved.ensures.capacity, c.reserve.ensures.len)),
    )

pub invariant_of-self-in-Err-Memory : goal.invariant_of-self-in-Err-Memory
invariant_of-self-in-Err-Memory g c =
    let calls = memory_is c.args.limit _ (g.M.Medium.device c.self.inside.medium) (g.M.Medium.device c.list_on.new.medium) c.in-Err-Memory.field-0 (search rules) c.in-Err-Memory.ensures.device in
    rw c.reserve.ensures.items
    (tied_answered _ _ calls.0 _ _ _ _ _ _ c.self.invariant.0 calls.1, room_kept _ _ _ _ _ c.self.invariant.1 c.reserve.ensures.len c.reserve.ensures.capacity)

pub returns-in-Ok-clause-failing : goal.returns-in-Ok-clause-failing
returns-in-Ok-clause-failing g c =
    let e = answered_failing (calls_for c.args.limit c.in-Ok.listed) (g.M.Medium.device c.self.inside.medium) (g.M.Medium.device c.list_on.new.medium) c.in-Ok.ensures.device.left in
    search (rules, e)

pub returns-in-Err-Failed-clause-failing : goal.returns-in-Err-Failed-clause-failing
returns-in-Err-Failed-clause-failing g c =
    let failed = failed_is c.args.limit _ (g.M.Medium.device c.self.inside.medium) (g.M.Medium.device c.list_on.new.medium) c.in-Err-Failed.field-0 (search rules) c.in-Err-Failed.ensures.device in
    let e = failed_failing _ (g.M.Medium.device c.self.inside.medium) (g.M.Medium.device c.list_on.new.medium) failed in
    search (rules, e)

pub returns-in-Err-Memory-clause-failing : goal.returns-in-Err-Memory-clause-failing
returns-in-Err-Memory-clause-failing g c =
    let calls = memory_is c.args.limit _ (g.M.Medium.device c.self.inside.medium) (g.M.Medium.device c.list_on.new.medium) c.in-Err-Memory.field-0 (search rules) c.in-Err-Memory.ensures.device in
    let e = memory_failing (g.M.Medium.device c.self.inside.medium) (g.M.Medium.device c.list_on.new.medium) calls in
    search (rules, e)
