use Rattle.std.proofs.Common.{◌≡◌, ◌++◌, drop}
use Rattle.pgs_done.specs.Plans.{holders_marked}
use Rattle.pgs_done.proofs.printing.plans.push_names.Given as goal

-- what was appended and what is left, behind the next mark, are all scrubs behind the first
abbrev pub invariant-loop-holder : goal.invariant-loop-holder
invariant-loop-holder l = l.out.items ++ holders_marked l.mark (drop l.holder-index l.holders) ≡ l.fn.out.items ++ holders_marked 32 l.fn.holders
