use Rattle.std.proofs.lemmas.Result.{err_from_is_err_and}
use Rattle.pgs_codec.specs.Fields.{read_all}
use Rattle.pgs_snapset.specs.Spelling.{clone}
use Rattle.pgs_codec.proofs.Loop.{goes_on, stops, ends}
use Rattle.pgs_snapset.proofs.reading.take_all_clones.Goals as goal

pub returns-in_err-clone : goal.returns-in_err-clone
returns-in_err-clone c =
    let p = err_from_is_err_and c.from_residual.result c.from_residual.ensures.1 in
    rw (p.1, p.2) (stops clone c.in_err-clone.field-0.0 c.loop.clones c.args.count c.loop.counter c.loop.reader (read_all clone c.args.count c.args.reader.now) c.loop-test.true c.in_err-clone.ensures c.loop.invariant)

pub loop-preserved : goal.loop-preserved
loop-preserved c =
    rw c.in_ok-push.ensures.ok (goes_on clone c.loop.clones c.args.count c.loop.counter c.loop.reader c.in_ok-clone.clone c.take_clone.new.reader (read_all clone c.args.count c.args.reader.now) c.loop-test.true c.in_ok-clone.ensures c.loop.invariant)

pub returns : goal.returns
returns c = ends clone c.loop.clones c.args.count c.loop.counter c.loop.reader (read_all clone c.args.count c.args.reader.now) c.loop-test.false c.loop.invariant
