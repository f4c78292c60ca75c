use Rattle.std.proofs.Common.{Bool, rules}
use Rattle.std.proofs.lemmas.List.Sorted.{IsPartitionPoint-from_clause}
use Rattle.pgs_find.specs.declared.snap_finding.SnapFinding.{SnapFinding}
use Rattle.pgs_incons.specs.Found.{snap_id, is_below}
use Rattle.pgs_incons.proofs.Points.{falls_parted, point_is}
use Rattle.pgs_incons.proofs.Ranges.{below_falls}
use Rattle.pgs_incons.proofs.cut.snaps_below.Goals as goal

pub returns : goal.returns
returns c =
    let test : SnapFinding → Bool = λ x. is_below c.args.range.now (snap_id x).family in
    let parted = falls_parted test c.args.snaps.now (below_falls snap_id c.args.range.now c.args.snaps.now c.requires) in
    let point = IsPartitionPoint-from_clause test _ _ c.partition_point.ensures.partitioned parted (λ a r q k. search rules) in
    point_is test c.args.snaps.now c.partition_point.result c.partition_point.ensures.bound point
