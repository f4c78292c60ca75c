use Rattle.pgs_placement.proofs.Sweeps.{IsScrubbing}
use Rattle.pgs_placement.proofs.placement_group.PlacementGroup.scrub_members.Given as goal

abbrev pub invariant-loop-osd : goal.invariant-loop-osd
invariant-loop-osd l = IsScrubbing l.fn.self l.group l.osd-items l.osd-index l.self
