use Rattle.std.proofs.Common.{ap, ◌-◌, ◌∙◌}
use Rattle.pgs_incons.proofs.Moves.{moved}
use Rattle.pgs_incons.proofs.moving.turn_in.Goals as goal

pub returns : goal.returns
returns g c =
    moved c.args.cut.from c.args.cut.to c.args.cut.all (c.len.result - (c.args.cut.to - c.args.cut.from)) c.args.list.now.items c.turn.new.list.items
    c.truncate.new.self.items c.turn-2.new.list.items c.requires.ordered.0 c.requires.ordered.1 c.requires.ordered.2 c.turn.ensures
    (ap (λ n. n - (c.args.cut.to - c.args.cut.from)) (c.len.ensures ∙ c.turn.new.list.ok.0)) c.truncate.ensures.items c.turn-2.ensures
