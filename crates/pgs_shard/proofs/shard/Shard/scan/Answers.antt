use Rattle.std.proofs.Common.{rules, ◌≡◌, subst}
use Rattle.pgs_shard_history.specs.Scanning.{scanning}
use Rattle.pgs_shard.specs.Scan.{due_in}
use Rattle.pgs_shard.specs.Steps.{IsStatNext}
use Rattle.pgs_shard.specs.declared.scan_due.ScanDue.TheVariants as dues
use Rattle.pgs_shard.proofs.Steps.{due_stat}
use Rattle.pgs_shard.proofs.shard.Shard.scan.Goals as goal

pub scan_stat-requires : goal.scan_stat-requires
scan_stat-requires g c =
    let due : dues.Stat ≡ due_in c.self.inside.scan c.self.inside.applied = search rules in
    subst (λ v. IsStatNext (scanning v.past)) c.self.view_is (due_stat _ _ _ _ _ _ _ c.self.invariant.0 due)
