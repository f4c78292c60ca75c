use Rattle.pgs_find.specs.ShardNames.{shard_names, shard_word}
use Rattle.pgs_list_json.specs.Obj.{some_has}
use Rattle.pgs_list_json.proofs.Turns.{word_next, word_end}
use Rattle.pgs_list_json.proofs.words.union_words.Goals as goal

pub loop-row-preserved : goal.loop-row-preserved
loop-row-preserved c =
    word_next (λ row. row.name) (some_has c.args.shards.now) shard_word c.shard_rows-rows.result shard_names c.loop-row.row-index _ c.loop-row.list.items c.push_where.new.list.items _ c.some_shard_has-so.result c.word.result.now
    c.shard_rows-rows.ensures.names c.loop-row-test.true c.some_shard_has-so.ensures c.word.ensures c.in_ok-push_where.ensures c.loop-row.invariant

pub returns : goal.returns
returns c = word_end (λ row. row.name) (some_has c.args.shards.now) shard_word c.shard_rows-rows.result shard_names c.loop-row.row-index c.loop-row.list _ c.shard_rows-rows.ensures.names c.loop-row-test.false c.loop-row.invariant
