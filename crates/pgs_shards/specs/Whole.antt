-- What holds of each member, whatever was done to it.
use Rattle.std.specs.Prelude.{ℕ, ◌≤◌}
use Rattle.pgs_cause.specs.Count.{LAST_COUNT}
use Rattle.pgs_shard_history.specs.Legal.{IsLegal}
use Rattle.pgs_shard_history.specs.Stores.{last_count}
use Rattle.pgs_shards.specs.Members.{Member}

-- Its events are those that may follow one another, and its device counted each fault that was kept, up to the last value of a count.
pub record IsWholeMember (stride : ℕ) (member : Member) : Type 0 where
  pub legal : IsLegal stride member.past
  pub counted : last_count member.past ≤ member.device.faults
  pub bounded : member.device.faults ≤ LAST_COUNT
