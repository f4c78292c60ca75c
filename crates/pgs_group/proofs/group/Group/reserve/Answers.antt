use Rattle.std.proofs.Common.{◌≡◌, rules, reverse, Some, refl, subst}
use Rattle.pgs_history.specs.Answers.{unclaimed}
use Rattle.pgs_group.specs.Tied.{AreTied}
use Rattle.pgs_group.proofs.Accepted.{pushed}
use Rattle.pgs_group.proofs.Scrubs.{tied_unclaimed, tied_same}
use Rattle.pgs_group.proofs.group.Group.reserve.Goals as goal

pub invariant_of-self-in-Some : goal.invariant_of-self-in-Some
invariant_of-self-in-Some c =
    let why : unclaimed c.self.inside.made (reverse c.self.inside.events.items) c.args.serial c.args.osd ≡ Some c.in-Some.answer = search rules in
    subst (AreTied _) (pushed _ _ _ _ c.in_ok-reserve.ensures.items c.push_reserved.ensures.items)
    (tied_same c.self.inside _ _ refl refl refl refl refl refl refl refl refl (record { made = refl; acting = refl; causes = refl })
    (tied_unclaimed c.self.inside c.self.inside.made (reverse c.self.inside.events.items) c.args.serial c.args.osd c.args.denied c.in-Some.answer why c.self.invariant))
