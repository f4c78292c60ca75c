use Rattle.std.proofs.Common.{subst}
use Rattle.std.specs.Prelude.{IfSome}
use Rattle.pgs_shard_history.specs.Scanning.{scanning}
use Rattle.pgs_shard.specs.Scans.{handed_in, IsHandedInRange}
use Rattle.pgs_shard.proofs.Steps.{handed_in_range}
use Rattle.pgs_shard.proofs.shard.Shard.hand.Goals as goal

pub returns-clause-in_range : goal.returns-clause-in_range
returns-clause-in_range g c = subst (λ v. IfSome (handed_in v.osd (scanning v.past)) IsHandedInRange) c.self.view_is (handed_in_range _ _ _ _ _ _ _ c.self.invariant.0)
