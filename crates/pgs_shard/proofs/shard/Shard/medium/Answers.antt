use Rattle.pgs_shard_history.proofs.Positions.{are_positions}
use Rattle.pgs_shard.proofs.shard.Shard.medium.Goals as goal

pub returns-clause-positions : goal.returns-clause-positions
returns-clause-positions g c = are_positions c.args.self.now.past
