use Rattle.std.proofs.Common.{◌≡◌, ◌+◌, ◌<◌, ◌^◌, drop}
use Rattle.pgs_growth.specs.Amounts as amounts
use Rattle.pgs_growth.proofs.amounts.taken.Given as goal

abbrev pub invariant-loop-effect : goal.invariant-loop-effect
invariant-loop-effect l =
    (l.sum + amounts.taken (drop l.effect-index l.effects) l.copy ≡ amounts.taken l.effects l.copy) × (l.sum < 2 ^ 64)
    × (amounts.AreReady (drop l.effect-index l.effects) l.copy → amounts.AreReady l.effects l.copy)
