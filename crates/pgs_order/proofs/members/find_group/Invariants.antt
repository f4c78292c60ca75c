use Rattle.std.proofs.Common.{◌≡◌, drop}
use Rattle.pgs_order.specs.Order.{group_of}
use Rattle.pgs_order.proofs.members.find_group.Given as goal

-- the group is to be found in what is left
abbrev pub invariant-loop-group : goal.invariant-loop-group
invariant-loop-group l = group_of (drop l.group-index l.groups) l.number ≡ group_of l.fn.groups l.fn.number
