use Rattle.std.proofs.Common.{◌≡◌, ◌++◌, drop}
use Rattle.pgs_placement.specs.Said.{holders_said}
use Rattle.pgs_placement.proofs.saying.holders_said.Given as goal

abbrev pub invariant-loop-holder : goal.invariant-loop-holder
invariant-loop-holder l = l.said ++ holders_said (drop l.holder-index l.holders) ≡ holders_said l.holders
