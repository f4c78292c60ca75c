use Rattle.std.proofs.Common.{◌≡◌, ◌++◌, map, length}
use Rattle.std.specs.List.{filter_map}
use Rattle.pgs_compare.specs.Finding.{finding}
use Rattle.pgs_compare.specs.Parts.{maps_seen}
use Rattle.pgs_compare.specs.Report.{positions_of, entries_at, view_of}
use Rattle.pgs_compare.proofs.report.compare_all.Given as goal

abbrev pub invariant-loop-id : goal.invariant-loop-id
invariant-loop-id l = record {
  found : l.found ++ filter_map (λ id. finding l.acting l.version id (entries_at (maps_seen l.maps) id)) l.ids.keys
      ≡ filter_map (λ id. finding l.acting l.version id (entries_at (maps_seen l.maps) id)) (positions_of (maps_seen l.maps));
  views : l.views.items ++ map (λ id. view_of id (entries_at (maps_seen l.maps) id)) l.ids.keys
      ≡ map (λ id. view_of id (entries_at (maps_seen l.maps) id)) (positions_of (maps_seen l.maps));
}

abbrev pub decreases-loop-id : goal.decreases-loop-id
decreases-loop-id l = length l.ids.keys
