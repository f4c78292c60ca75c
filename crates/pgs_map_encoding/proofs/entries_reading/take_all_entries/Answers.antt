use Rattle.std.proofs.Common.{[]}
use Rattle.std.proofs.lemmas.Result.{err_from_is_err_and}
use Rattle.pgs_map_encoding.specs.Chains.{read_chain, last_of}
use Rattle.pgs_map_encoding.specs.Entries.{entry}
use Rattle.pgs_map_encoding.proofs.Chains.{goes_on, stops, ends}
use Rattle.pgs_map_encoding.proofs.entries_reading.take_all_entries.Goals as goal

pub returns-in_err-entry : goal.returns-in_err-entry
returns-in_err-entry c =
    let p = err_from_is_err_and c.from_residual.result c.from_residual.ensures.1 in
    rw (p.1, p.2) (stops (entry c.args.range.now) c.in_err-entry.field-0.0 c.loop.entries c.args.count c.loop.counter c.loop.reader (read_chain (entry c.args.range.now) (last_of []) c.args.count c.args.reader.now) c.loop-test.true c.in_err-entry.ensures c.loop.invariant)

pub loop-preserved : goal.loop-preserved
loop-preserved c =
    rw c.in_ok-push.ensures.ok (goes_on (entry c.args.range.now) c.loop.entries c.args.count c.loop.counter c.loop.reader c.in_ok-entry.entry c.take_entry.new.reader (read_chain (entry c.args.range.now) (last_of []) c.args.count c.args.reader.now) c.loop-test.true c.in_ok-entry.ensures c.loop.invariant)

pub returns : goal.returns
returns c = ends (entry c.args.range.now) c.loop.entries c.args.count c.loop.counter c.loop.reader (read_chain (entry c.args.range.now) (last_of []) c.args.count c.args.reader.now) c.loop-test.false c.loop.invariant
