-- What is kept of all that scrubs found.
use Rattle.std.specs.Prelude.{List}
use Rattle.pgs_find.specs.declared.snap_finding.SnapFinding.{SnapFinding}
use Rattle.pgs_incons.specs.declared.finding.Finding.{Finding}
use Rattle.pgs_range.specs.declared.family_range.FamilyRange.{FamilyRange}
use Rattle.pgs_incons.specs.Found.{Ascends, finding_id, snap_id, of_range, replaced}

-- the findings of copies, and those of snapshots
pub record Kept : Type 0 where
  pub found : List Finding
  pub snaps : List SnapFinding

-- both stand by position
pub record AreOrdered (found : List Finding) (snaps : List SnapFinding) : Type 0 where
  pub found_ascend : Ascends finding_id found
  pub snaps_ascend : Ascends snap_id snaps

-- What is kept once a range was compared: what was found of its families takes the place of all that was kept of them.
abbrev pub kept_after : FamilyRange → List Finding → List SnapFinding → Kept → Kept
kept_after range found snaps kept = record {
  found = replaced finding_id range (of_range finding_id range found) kept.found;
  snaps = replaced snap_id range (of_range snap_id range snaps) kept.snaps;
}
