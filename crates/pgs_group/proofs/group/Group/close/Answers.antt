use Rattle.std.proofs.Common.{◌≡◌, reverse, Some, refl, sym, subst}
use Rattle.pgs_history.specs.Answers.{unclosed}
use Rattle.pgs_group.specs.Tied.{AreTied}
use Rattle.pgs_group.proofs.Accepted.{pushed}
use Rattle.pgs_group.proofs.Scrubs.{tied_unclosed, tied_same}
use Rattle.pgs_group.proofs.group.Group.close.Goals as goal

pub invariant_of-self-in-Some : goal.invariant_of-self-in-Some
invariant_of-self-in-Some c =
    let why = subst (λ es. unclosed c.self.inside.made (reverse es) c.args.chunk ≡ Some c.in-Some.answer) c.in_ok-reserve.ensures.items (sym c.in-Some.ensures) in
    subst (AreTied _) (pushed _ _ _ _ c.in_ok-reserve.ensures.items c.push_reserved.ensures.items)
    (tied_same c.self.inside _ _ refl refl refl refl refl refl refl refl refl (record { made = refl; acting = refl; causes = refl })
    (tied_unclosed c.self.inside c.self.inside.made (reverse c.self.inside.events.items) c.args.chunk c.in-Some.answer why c.self.invariant))
