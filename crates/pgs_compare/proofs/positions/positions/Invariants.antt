use Rattle.std.proofs.Common.{◌≡◌, drop}
use Rattle.pgs_compare.specs.Parts.{maps_seen}
use Rattle.pgs_compare.specs.Report.{with_maps, positions_of}
use Rattle.pgs_compare.proofs.positions.positions.Given as goal

abbrev pub invariant-loop-map : goal.invariant-loop-map
invariant-loop-map l = with_maps l.ids.keys (maps_seen (drop l.map-index l.maps)) ≡ positions_of (maps_seen l.maps)
