use Rattle.pgs_placement.proofs.Sweeps.{IsReleasing}
use Rattle.pgs_placement.proofs.placement_group.PlacementGroup.release_all.Given as goal

abbrev pub invariant-loop-osd : goal.invariant-loop-osd
invariant-loop-osd l = IsReleasing l.fn.self l.group l.osds l.osd-index l.self
