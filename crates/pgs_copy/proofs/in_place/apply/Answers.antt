use Rattle.std.proofs.Common.{sym, subst}
use Rattle.std.specs.Ordering.{nat_cmp}
use Rattle.std.specs.BTreeMap.{get}
use Rattle.pgs_copy.specs.InPlace.{AreThere}
use Rattle.pgs_copy.proofs.Places.{rest_there}
use Rattle.pgs_copy.proofs.in_place.apply.Goals as goal

pub change_all-requires : goal.change_all-requires
change_all-requires c =
    subst (λ l. AreThere l (get nat_cmp c.edit_at.new.copies)) (sym c.in_ok-changes.ensures)
    (rest_there c.args.first.now.0 c.args.first.now.1 c.args.rest.now (get nat_cmp c.args.copies.now) (get nat_cmp c.edit_at.new.copies) c.requires c.in_ok-edit_at.ensures.ok)
