use Rattle.std.proofs.Common.{Bool, not, rules}
use Rattle.std.proofs.lemmas.List.Sorted.{IsPartitionPoint-from_clause}
use Rattle.pgs_incons.specs.declared.finding.Finding.{Finding}
use Rattle.pgs_incons.specs.Found.{finding_id, is_behind}
use Rattle.pgs_incons.proofs.Points.{falls_parted, point_is}
use Rattle.pgs_incons.proofs.Ranges.{ahead_falls}
use Rattle.pgs_incons.proofs.cut.findings_ahead.Goals as goal

pub returns : goal.returns
returns c =
    let test : Finding → Bool = λ x. not (is_behind c.args.range.now (finding_id x).family) in
    let parted = falls_parted test c.args.found.now (ahead_falls finding_id c.args.range.now c.args.found.now c.requires) in
    let point = IsPartitionPoint-from_clause test _ _ c.partition_point.ensures.partitioned parted (λ a r q k. search rules) in
    point_is test c.args.found.now c.partition_point.result c.partition_point.ensures.bound point
