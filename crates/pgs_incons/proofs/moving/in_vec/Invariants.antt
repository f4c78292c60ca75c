use Rattle.std.proofs.Common.{◌≡◌, ◌++◌, length, reverse}
use Rattle.pgs_incons.proofs.moving.in_vec.Given as goal

-- what was taken stands the other way round
abbrev pub invariant-loop-last : goal.invariant-loop-last
invariant-loop-last g l = l.list ++ reverse l.vec.items ≡ l.initial.list

abbrev pub decreases-loop-last : goal.decreases-loop-last
decreases-loop-last g l = length l.list
