use Rattle.std.proofs.Common.{◌≡◌, ◌++◌, map, drop}
use Rattle.pgs_shards.specs.Members.{beginning}
use Rattle.pgs_shards.specs.Kept.{seen, AreOfStride}
use Rattle.pgs_shards.proofs.shards.Shards.new.Given as goal

abbrev pub invariant-loop-member : goal.invariant-loop-member
invariant-loop-member l = AreOfStride l.stride l.items.items × (map seen l.items.items ++ beginning (drop l.member-index l.members) ≡ beginning l.members)
