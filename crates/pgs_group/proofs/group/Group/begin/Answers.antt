use Rattle.pgs_group.proofs.Scrubs.{begun_room}
use Rattle.pgs_group.proofs.group.Group.begin.Goals as goal

pub begin-serial-requires : goal.begin-serial-requires
begin-serial-requires c = begun_room c.self.inside.scrubs c.self.inside.events.items _ _ c.self.invariant.scrubs c.self.inside.events.ok.0 c.self.inside.events.ok.1 c.self.inside.events.small
