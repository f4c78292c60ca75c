use Rattle.pgs_incons.proofs.Moves.{exchanged}
use Rattle.pgs_incons.proofs.moving.exchange.Goals as goal

pub returns : goal.returns
returns g c =
    exchanged c.args.cut.from c.args.cut.to c.args.cut.all c.args.list.now.items c.swap_behind.new.list.items c.truncate.new.self.items c.requires.ordered.0
    c.requires.ordered.1 c.requires.ordered.2 c.requires.as_many c.swap_behind.ensures c.truncate.ensures.items
