use Rattle.std.proofs.Common.{rules}
use Rattle.pgs_shards.proofs.Places.{damage_some}
use Rattle.pgs_shards.proofs.shards.Shards.damage.Goals as goal

pub returns-in_ok-answer-in-Some-clause-answer : goal.returns-in_ok-answer-in-Some-clause-answer
returns-in_ok-answer-in-Some-clause-answer c =
    damage_some c.args.osd c.self.inside.stride c.self.inside.items.items c.args.self.now c.self.view_is c.in-Some.at (search rules) c.index_mut-shard.result.now (search rules)
    c.args.family c.args.snap c.args.damage c.in_ok-answer-in-Some.answer c.in_ok-answer-in-Some.ensures.answer
