use Rattle.std.proofs.Common.{rules, ◌≡◌, ◌+◌, ◌-◌, ◌∙◌}
use Rattle.std.specs.Option.{option_copied}
use Rattle.std.specs.Ordering.{nat_cmp}
use Rattle.std.specs.BTreeMap.{get}
use Rattle.pgs_store.specs.Kept.{in_map}
use Rattle.pgs_op.proofs.HeldLaws.{held_is}
use Rattle.pgs_op.proofs.holding.measured.Goals as goal

pub returns : goal.returns
returns c =
    let sum : c.saturating_sub.result ≡ c.args.held + c.in_ok-after.after - c.in_ok-before.before = search rules in
    sum ∙ held_is c.args.held c.in_ok-before.before c.in_ok-after.after c.args.effects.now (in_map (option_copied c.args.copies)) (get nat_cmp c.in_ok-next.next)
    (get nat_cmp c.apply_effects.new.copies) c.in_ok-next.ensures.head c.in_ok-next.ensures.effects (search rules) (search rules) (search rules)
