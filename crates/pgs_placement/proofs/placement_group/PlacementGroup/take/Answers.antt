use Rattle.std.proofs.Common.{sym, ap, ◌∙◌, subst}
use Rattle.pgs_history.specs.Scrubs.{IsBegun}
use Rattle.pgs_placement.proofs.Takes.{fault_begun}
use Rattle.pgs_placement.proofs.placement_group.PlacementGroup.take.Goals as goal

pub fault-requires-clause-begun : goal.fault-requires-clause-begun
fault-requires-clause-begun c =
    subst (λ past. IsBegun past c.in-Some.scanned.serial) (sym (ap (λ w. w.past) (c.self-in-ListFault.view_is ∙ c.in_ok-handed.ensures.kept)))
    (fault_begun c.args.self.now c.args.osd c.in-Some.scanned c.in-ListFault.count c.requires.sound c.requires.member (sym c.in-Some.is ∙ c.in_ok-handed.ensures.handed) (sym c.in-ListFault.is))
