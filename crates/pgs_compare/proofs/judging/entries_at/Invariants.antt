use Rattle.std.proofs.Common.{◌≡◌, ◌++◌, drop}
use Rattle.pgs_compare.specs.Parts.{entries_seen, maps_seen}
use Rattle.pgs_compare.specs.Report.{AreOrdered, entries_at}
use Rattle.pgs_compare.proofs.judging.entries_at.Given as goal

abbrev pub invariant-loop-map : goal.invariant-loop-map
invariant-loop-map l = record {
  ordered : AreOrdered (maps_seen (drop l.map-index l.maps));
  made : entries_seen l.entries.items ++ entries_at (maps_seen (drop l.map-index l.maps)) l.id ≡ entries_at (maps_seen l.maps) l.id;
}
