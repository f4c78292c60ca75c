use Rattle.pgs_snapset.specs.Spelling.{clone}
use Rattle.pgs_codec.specs.Fields.{all_spelled}
use Rattle.std.proofs.Common.{◌++◌}
use Rattle.pgs_snapset.proofs.Joined.{one_more_at}
use Rattle.pgs_snapset.proofs.writing.put_all_clones.Goals as goal

pub loop-clone-preserved : goal.loop-clone-preserved
loop-clone-preserved c =
    one_more_at clone c.loop-clone.into.items c.put_clone.new.into.items (c.args.into.now.items ++ all_spelled clone c.args.clones.now) c.args.clones.now c.loop-clone.clone-index c.clone-item.result
    c.loop-clone-test.true c.clone-item.is c.in_ok-put_clone.ensures c.loop-clone.invariant
