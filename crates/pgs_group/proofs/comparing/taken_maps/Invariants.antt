use Rattle.std.proofs.Common.{◌≡◌, ◌++◌, drop, reverse}
use Rattle.pgs_compare.specs.Parts.{maps_seen}
use Rattle.pgs_compare.specs.Report.{AreOrdered as AreMapsOrdered}
use Rattle.pgs_history.specs.Answers.{maps_of}
use Rattle.pgs_group.proofs.comparing.taken_maps.Given as goal

-- the maps so far, and those of the OSDs that are left
abbrev pub invariant-loop-osd : goal.invariant-loop-osd
invariant-loop-osd l =
    (maps_seen l.maps.items ++ maps_of (reverse l.events) l.chunk (drop l.osd-index l.osds) ≡ maps_of (reverse l.events) l.chunk l.osds)
    × AreMapsOrdered (maps_seen l.maps.items)
