use Rattle.pgs_placement.proofs.Settles.{IsApplying}
use Rattle.pgs_placement.proofs.placement_group.PlacementGroup.apply_all.Given as goal

abbrev pub invariant-loop : goal.invariant-loop
invariant-loop l = IsApplying l.fn.self l.group l.osd l.most l.counter l.self
