use Rattle.std.proofs.lemmas.Result.{err_from_is_err_and}
use Rattle.pgs_codec.specs.Fields.{u64, read_all}
use Rattle.pgs_codec.proofs.Loop.{goes_on, stops, ends}
use Rattle.pgs_snapset.proofs.reading.take_all_snaps.Goals as goal

pub returns-in_err-snap : goal.returns-in_err-snap
returns-in_err-snap c =
    let p = err_from_is_err_and c.from_residual.result c.from_residual.ensures.1 in
    rw (p.1, p.2) (stops u64 c.in_err-snap.field-0.0 c.loop.snaps c.args.count c.loop.counter c.loop.reader (read_all u64 c.args.count c.args.reader.now) c.loop-test.true c.in_err-snap.ensures c.loop.invariant)

pub loop-preserved : goal.loop-preserved
loop-preserved c =
    rw c.in_ok-push.ensures.ok (goes_on u64 c.loop.snaps c.args.count c.loop.counter c.loop.reader c.in_ok-snap.snap c.take_snap.new.reader (read_all u64 c.args.count c.args.reader.now) c.loop-test.true c.in_ok-snap.ensures c.loop.invariant)

pub returns : goal.returns
returns c = ends u64 c.loop.snaps c.args.count c.loop.counter c.loop.reader (read_all u64 c.args.count c.args.reader.now) c.loop-test.false c.loop.invariant
