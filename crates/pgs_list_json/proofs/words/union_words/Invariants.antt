use Rattle.std.proofs.Common.{◌≡◌, ◌++◌, map, drop}
use Rattle.serde_json.specs.Data.{string}
use Rattle.serde_json.specs.View.{view}
use Rattle.pgs_find.specs.ShardNames.{shard_word}
use Rattle.pgs_list_json.specs.Obj.{some_has, union_of}
use Rattle.pgs_list_json.proofs.Turns.{words_left}
use Rattle.pgs_list_json.proofs.words.union_words.Given as goal

-- the words so far, and those of the rows that are left
abbrev pub invariant-loop-row : goal.invariant-loop-row
invariant-loop-row l =
    map view l.list.items ++ words_left (λ row. row.name) (some_has l.shards) shard_word (drop l.row-index l.row-items)
    ≡ map (λ name. string (shard_word name)) (union_of l.shards)
