use Rattle.std.proofs.Common.{◌≡◌, false, rules, reverse, refl, sym, subst}
use Rattle.pgs_history.specs.Parked.{is_admitting}
use Rattle.pgs_group.specs.Tied.{AreTied}
use Rattle.pgs_group.specs.Weighed.{IsMaking}
use Rattle.pgs_group.specs.declared.group.Group.TheInside.{Inside}
use Rattle.pgs_group.proofs.Accepted.{pushed, tied_over}
use Rattle.pgs_group.proofs.Makes.{held_within}
use Rattle.pgs_group.proofs.Used.{used_room}
use Rattle.pgs_group.proofs.group.Group.append_over.Goals as goal

pub accept-requires-clause-within : goal.accept-requires-clause-within
accept-requires-clause-within c =
    let making = subst (λ h. IsMaking h.made h.past c.args.write c.args.effects) (sym c.self.view_is) c.requires.making in
    held_within c.self.inside c.self.inside.made (reverse c.self.inside.events.items) c.args.write c.args.effects c.self.invariant making.effect

pub give_way-requires : goal.give_way-requires
give_way-requires c =
    used_room c.self.inside.scrubs c.self.inside.events.items _ _ c.self.invariant.scrubs c.self.inside.events.ok.0 c.self.inside.events.ok.1 c.self.inside.events.small

pub invariant_of-self-3 : goal.invariant_of-self-3
invariant_of-self-3 c =
    let making = subst (λ h. IsMaking h.made h.past c.args.write c.args.effects) (sym c.self.view_is) c.requires.making in
    let idle = subst (λ h. is_admitting h.past ≡ false) (sym c.self.view_is) c.requires.idle in
    let new : Inside = record {
      alloc = c.self.inside.alloc;
      made = c.self.inside.made;
      events = c.push_reserved-2.new.self;
      log = c.accept.new.log;
      clean = c.accept.new.clean;
      waiting = c.self.inside.waiting;
      refused = c.forget.new.refused;
      given = c.self.inside.given;
      told = c.self.inside.told;
      collected = c.self.inside.collected;
      scrubs = c.give_way.new.self;
      acting = c.self.inside.acting;
      causes = c.self.inside.causes;
      fates = c.push_reserved.new.self;
    } in
    subst (AreTied new) (pushed _ _ _ _ c.reserve.ensures.items c.push_reserved-2.ensures.items)
    (tied_over c.self.inside c.self.inside.made (reverse c.self.inside.events.items) c.args.write c.next_version-version.result c.args.effects c.args.chunk new c.self.invariant idle
    making (search rules) (search rules) (search rules) (search rules) (search rules) (search rules) c.forget.ensures (search rules) c.give_way.ensures refl refl refl
    refl (record { made = refl; acting = refl; causes = refl }))
