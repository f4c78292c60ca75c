use Rattle.pgs_placement.proofs.Sweeps.{IsScanning}
use Rattle.pgs_placement.proofs.placement_group.PlacementGroup.scan_out.Given as goal

abbrev pub invariant-loop : goal.invariant-loop
invariant-loop l = IsScanning l.fn.self l.group l.osd l.most l.counter l.self
