use Rattle.std.proofs.Common.{◌≡◌, ◌++◌, drop}
use Rattle.pgs_shard_history.specs.Feeds.{beyond}
use Rattle.pgs_shard.proofs.items_beyond.copied_beyond.Given as goal

abbrev pub invariant-loop-item : goal.invariant-loop-item
invariant-loop-item l = l.copies.items ++ beyond l.last (drop l.item-index l.items) ≡ beyond l.last l.items
