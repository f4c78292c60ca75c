use Rattle.std.proofs.Common.{rules, reverse, refl, sym, subst}
use Rattle.pgs_group.specs.Tied.{AreTied}
use Rattle.pgs_group.specs.Weighed.{IsWaiting}
use Rattle.pgs_group.specs.declared.group.Group.TheInside.{Inside}
use Rattle.pgs_group.proofs.Accepted.{pushed}
use Rattle.pgs_group.proofs.Parking.{tied_parked}
use Rattle.pgs_group.proofs.group.Group.park.Goals as goal

pub invariant_of-self-2 : goal.invariant_of-self-2
invariant_of-self-2 c =
    let waiting = subst (λ h. IsWaiting h.made h.past c.args.write c.args.range) (sym c.self.view_is) c.requires.waiting in
    let new : Inside = record {
      alloc = c.self.inside.alloc;
      made = c.self.inside.made;
      events = c.push_reserved.new.self;
      log = c.self.inside.log;
      clean = c.self.inside.clean;
      waiting = c.park.new.self;
      refused = c.forget.new.refused;
      given = c.self.inside.given;
      told = c.self.inside.told;
      collected = c.self.inside.collected;
      scrubs = c.self.inside.scrubs;
      acting = c.self.inside.acting;
      causes = c.self.inside.causes;
      fates = c.self.inside.fates;
    } in
    subst (AreTied new) (pushed _ _ _ _ c.reserve.ensures.items c.push_reserved.ensures.items)
    (tied_parked c.self.inside new c.self.inside.made (reverse c.self.inside.events.items) c.args.write c.in-Ok-copy_of.copy c.args.range c.self.invariant waiting (search rules)
    (search rules) c.forget.ensures refl refl refl refl refl refl refl (record { made = refl; acting = refl; causes = refl }))
