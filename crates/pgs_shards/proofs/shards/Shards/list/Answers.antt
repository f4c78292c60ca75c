use Rattle.std.proofs.Common.{rules}
use Rattle.pgs_shards.proofs.Places.{list_some}
use Rattle.pgs_shards.proofs.shards.Shards.list.Goals as goal

pub returns-in_ok-answer-in-Some-clause-answer : goal.returns-in_ok-answer-in-Some-clause-answer
returns-in_ok-answer-in-Some-clause-answer c =
    list_some c.args.osd c.self.inside.stride c.self.inside.items.items c.args.self.now c.self.view_is c.in-Some.at (search rules) c.index_mut-shard.result.now (search rules)
    c.args.limit c.args.start.now c.in_ok-answer-in-Some.answer c.in_ok-answer-in-Some.ensures.answer
