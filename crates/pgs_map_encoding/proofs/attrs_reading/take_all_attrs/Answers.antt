use Rattle.std.proofs.Common.{[], ◌∙◌}
use Rattle.std.proofs.lemmas.Result.{err_from_is_err_and}
use Rattle.pgs_map_encoding.specs.Chains.{read_chain, last_of}
use Rattle.pgs_map_encoding.specs.Entries.{attr}
use Rattle.pgs_map_encoding.proofs.Attrs.{put_behind}
use Rattle.pgs_map_encoding.proofs.Chains.{goes_on, stops, ends}
use Rattle.pgs_map_encoding.proofs.attrs_reading.take_all_attrs.Goals as goal

pub returns-in_err-name : goal.returns-in_err-name
returns-in_err-name c =
    let p = err_from_is_err_and c.from_residual.result c.from_residual.ensures.1 in
    rw (p.1, p.2) (stops attr c.in_err-name.field-0.0 c.loop.pairs c.args.count c.loop.counter c.loop.reader (read_chain attr (last_of []) c.args.count c.args.reader.now) c.loop-test.true c.in_err-name.ensures.read c.loop.invariant)

pub loop-preserved : goal.loop-preserved
loop-preserved c =
    rw (c.in_ok-set.ensures.ok ∙ put_behind c.in_ok-name.name c.in_ok-name.value c.loop.pairs c.in_ok-name.ensures.in_order c.in_ok-name.ensures.behind)
    (goes_on attr c.loop.pairs c.args.count c.loop.counter c.loop.reader (c.in_ok-name.name, c.in_ok-name.value) c.take_attr.new.reader (read_chain attr (last_of []) c.args.count c.args.reader.now) c.loop-test.true c.in_ok-name.ensures.read c.loop.invariant)

pub returns : goal.returns
returns c = ends attr c.loop.pairs c.args.count c.loop.counter c.loop.reader (read_chain attr (last_of []) c.args.count c.args.reader.now) c.loop-test.false c.loop.invariant
