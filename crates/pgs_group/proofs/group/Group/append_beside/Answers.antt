use Rattle.std.proofs.Common.{◌≡◌, false, rules, reverse, refl, sym, subst}
use Rattle.pgs_history.specs.Parked.{is_admitting}
use Rattle.pgs_group.specs.Tied.{AreTied}
use Rattle.pgs_group.specs.Weighed.{IsMaking}
use Rattle.pgs_group.specs.declared.group.Group.TheInside.{Inside}
use Rattle.pgs_group.proofs.Accepted.{pushed, tied_beside}
use Rattle.pgs_group.proofs.Makes.{held_within}
use Rattle.pgs_group.proofs.group.Group.append_beside.Goals as goal

pub accept-requires-clause-within : goal.accept-requires-clause-within
accept-requires-clause-within c =
    let making = subst (λ h. IsMaking h.made h.past c.args.write c.args.effects) (sym c.self.view_is) c.requires.making in
    held_within c.self.inside c.self.inside.made (reverse c.self.inside.events.items) c.args.write c.args.effects c.self.invariant making.effect

pub invariant_of-self-3 : goal.invariant_of-self-3
invariant_of-self-3 c =
    let making = subst (λ h. IsMaking h.made h.past c.args.write c.args.effects) (sym c.self.view_is) c.requires.making in
    let idle = subst (λ h. is_admitting h.past ≡ false) (sym c.self.view_is) c.requires.idle in
    let new : Inside = record {
      alloc = c.self.inside.alloc;
      made = c.self.inside.made;
      events = c.push_reserved.new.self;
      log = c.accept.new.log;
      clean = c.accept.new.clean;
      waiting = c.self.inside.waiting;
      refused = c.forget.new.refused;
      given = c.self.inside.given;
      told = c.self.inside.told;
      collected = c.self.inside.collected;
      scrubs = c.self.inside.scrubs;
      acting = c.self.inside.acting;
      causes = c.self.inside.causes;
      fates = c.self.inside.fates;
    } in
    subst (AreTied new) (pushed _ _ _ _ c.reserve.ensures.items c.push_reserved.ensures.items)
    (tied_beside c.self.inside c.self.inside.made (reverse c.self.inside.events.items) c.args.write c.next_version-version.result c.args.effects new c.self.invariant idle making
    (search rules) (search rules) (search rules) (search rules) (search rules) (search rules) c.forget.ensures refl refl refl refl refl refl (record { made = refl; acting = refl; causes = refl }))
