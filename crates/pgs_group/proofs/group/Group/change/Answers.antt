use Rattle.std.proofs.Common.{◌≡◌, ◌+◌, ◌<◌, ◌^◌, None, rules, reverse, sym, subst, arith}
use Rattle.pgs_history.specs.Answers.{unchanged}
use Rattle.pgs_group.proofs.Scrubs.{epoch_room}
use Rattle.pgs_group.proofs.group.Group.change.Goals as goal

pub overflow_add-new : goal.overflow_add-new
overflow_add-new c =
    let stays = subst (λ h. unchanged h.made h.past c.args.acting ≡ None) (sym c.self.view_is) c.requires in
    let room : c.self.inside.acting.epoch + 1 < 2 ^ 32 =
    epoch_room c.self.inside.made (reverse c.self.inside.events.items) c.args.acting c.self.inside.acting.epoch c.self.invariant.epochs (search rules) stays in
    omega (arith, room)
