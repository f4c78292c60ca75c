use Rattle.pgs_incons.specs.Found.{finding_id, snap_id}
use Rattle.pgs_incons.proofs.Ranges.{none_ascend}
use Rattle.pgs_incons.proofs.findings.Findings.new.Goals as goal

pub invariant_of-result : goal.invariant_of-result
invariant_of-result c = record {
  found_ascend = none_ascend finding_id c.new.result.items c.new.ensures.items;
  snaps_ascend = none_ascend snap_id c.new-2.result.items c.new-2.ensures.items;
}
