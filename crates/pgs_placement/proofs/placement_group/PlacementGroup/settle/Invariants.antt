use Rattle.pgs_placement.proofs.Settles.{IsSettling}
use Rattle.pgs_placement.proofs.placement_group.PlacementGroup.settle.Given as goal

abbrev pub invariant-loop-osd : goal.invariant-loop-osd
invariant-loop-osd l = IsSettling l.fn.self l.group l.osd-items l.osd-index l.self
