use Rattle.std.proofs.Common.{rules}
use Rattle.pgs_group.proofs.Places.{claims_room}
use Rattle.pgs_group.proofs.group.Group.following.Goals as goal

pub behind-requires : goal.behind-requires
behind-requires c =
    claims_room c.self.inside.scrubs c.self.inside.events.items _ _ c.self.invariant.scrubs c.self.inside.events.ok.0 c.self.inside.events.ok.1 c.self.inside.events.small
    c.in-Some.place (search rules)
