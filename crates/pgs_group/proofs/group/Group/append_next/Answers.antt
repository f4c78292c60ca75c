use Rattle.std.proofs.Common.{rules, reverse, refl, sym, subst}
use Rattle.pgs_group.specs.Tied.{AreTied}
use Rattle.pgs_group.specs.Weighed.{AreEffects, IsAdmitting}
use Rattle.pgs_group.specs.declared.group.Group.TheInside.{Inside}
use Rattle.pgs_group.proofs.Accepted.{pushed, tied_taken}
use Rattle.pgs_group.proofs.Admissions.{effects_taken}
use Rattle.pgs_group.proofs.group.Group.append_next.Goals as goal

pub invariant_of-self-3 : goal.invariant_of-self-3
invariant_of-self-3 c =
    let due = subst (λ h. IsAdmitting h.made h.past c.args.effects) (sym c.self.view_is) c.requires in
    let write = c.in-Some-take_first.write in
    let new : Inside = record {
      alloc = c.self.inside.alloc;
      made = c.self.inside.made;
      events = c.push_reserved.new.self;
      log = c.accept.new.log;
      clean = c.accept.new.clean;
      waiting = c.take_first.new.self;
      refused = c.self.inside.refused;
      given = c.self.inside.given;
      told = c.self.inside.told;
      collected = c.self.inside.collected;
      scrubs = c.self.inside.scrubs;
      acting = c.self.inside.acting;
      causes = c.self.inside.causes;
      fates = c.self.inside.fates;
    } in
    let effects : AreEffects c.self.inside.made (reverse c.self.inside.events.items) write c.args.effects =
    effects_taken c.self.inside.made (reverse c.self.inside.events.items) write c.self.inside.waiting c.take_first.new.self c.self.invariant.waits (search rules) c.args.effects due in
    subst (AreTied new) (pushed _ _ _ _ c.reserve.ensures.items c.push_reserved.ensures.items)
    (tied_taken c.self.inside c.self.inside.made (reverse c.self.inside.events.items) write c.next_version-version.result c.args.effects new c.self.invariant effects
    (search rules) (search rules) (search rules) (search rules) (search rules) (search rules) (search rules) refl refl refl refl refl refl (record { made = refl; acting = refl; causes = refl }))
