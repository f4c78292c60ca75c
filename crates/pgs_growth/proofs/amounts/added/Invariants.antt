use Rattle.std.proofs.Common.{◌≡◌, ◌+◌, ◌<◌, ◌^◌, drop}
use Rattle.pgs_growth.specs.Amounts as amounts
use Rattle.pgs_growth.proofs.amounts.added.Given as goal

abbrev pub invariant-loop-effect : goal.invariant-loop-effect
invariant-loop-effect l = (l.sum + amounts.added (drop l.effect-index l.effects) l.copy ≡ amounts.added l.effects l.copy) × (l.sum < 2 ^ 64)
