use Rattle.std.proofs.Common.{◌+◌, ◌<◌, ◌^◌, arith}
use Rattle.pgs_group.proofs.Scrubs.{opened_room}
use Rattle.pgs_group.proofs.group.Group.chunk_next.Goals as goal

pub overflow_add-result : goal.overflow_add-result
overflow_add-result c =
    let room : c.self.inside.scrubs.opened + 1 < 2 ^ 64 =
    opened_room c.self.inside.scrubs c.self.inside.events.items _ _ c.self.invariant.scrubs c.self.inside.events.ok.0 c.self.inside.events.ok.1 c.self.inside.events.small in
    omega (arith, room)
