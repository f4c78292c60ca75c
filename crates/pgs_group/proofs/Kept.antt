-- What a group keeps of its acting list and of what ended, where none of it changes.
use Rattle.std.proofs.Common.{◌≡◌, List, sym, ap, ◌∙◌}
use Rattle.pgs_history.specs.Acting.{acting, epoch}
use Rattle.pgs_history.specs.Causes.{causes}
use Rattle.pgs_history.specs.Scrubs.{fates}
use Rattle.pgs_history.specs.declared.fate.Fate.{Fate}
use Rattle.pgs_history.specs.declared.event.Event.{Event}
use Rattle.pgs_group.specs.Tied.{AreTied, acting_in}
use Rattle.pgs_group.specs.declared.group.Group.TheInside.{Inside}

pub record AreEnds (g new : Inside) : Type 0 where
  pub made : new.made ≡ g.made
  pub acting : new.acting ≡ g.acting
  pub causes : new.causes.items ≡ g.causes.items

pub kept_acts : (g new : Inside) (past : List Event) → AreEnds g new → AreTied g past → acting_in new.acting.osds new.made.members ≡ acting new.made past
kept_acts g new past e tied = (λ i. acting_in (e.acting i).osds (e.made i).members) ∙ tied.acts ∙ ap (λ m. acting m past) (sym e.made)

pub kept_epochs : (g new : Inside) (past : List Event) → AreEnds g new → AreTied g past → new.acting.epoch ≡ epoch new.made past
kept_epochs g new past e tied = ap (λ a. a.epoch) e.acting ∙ tied.epochs ∙ ap (λ m. epoch m past) (sym e.made)

pub kept_over : (g new : Inside) (past : List Event) → AreEnds g new → AreTied g past → new.causes.items ≡ causes new.made past
kept_over g new past e tied = e.causes ∙ tied.over ∙ ap (λ m. causes m past) (sym e.made)

pub kept_ended : (g new : Inside) (past : List Event) → AreEnds g new → AreTied g past → (list : List Fate) → list ≡ g.fates.items → list ≡ fates new.made past
kept_ended g new past e tied list f = f ∙ tied.ended ∙ ap (λ m. fates m past) (sym e.made)
