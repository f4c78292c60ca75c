use Rattle.pgs_shard.proofs.Ties.{lawful_now}
use Rattle.pgs_shard.proofs.shard.Shard.events.Goals as goal

pub returns-clause-lawful : goal.returns-clause-lawful
returns-clause-lawful g c = rw (← c.self.view_is) (lawful_now _ _ _ _ _ _ _ c.self.invariant.0)
