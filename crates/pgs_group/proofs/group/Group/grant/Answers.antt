use Rattle.pgs_group.proofs.Places.{claims_room, if_some}
use Rattle.pgs_group.proofs.group.Group.grant.Goals as goal

pub further-requires : goal.further-requires
further-requires c =
    if_some _ _
    (claims_room c.self.inside.scrubs c.self.inside.events.items _ _ c.self.invariant.scrubs c.self.inside.events.ok.0 c.self.inside.events.ok.1 c.self.inside.events.small)
