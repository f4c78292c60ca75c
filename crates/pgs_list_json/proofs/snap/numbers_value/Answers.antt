use Rattle.serde_json.specs.Data.{number, unsigned}
use Rattle.pgs_list_json.proofs.Turns.{value_next, value_end}
use Rattle.pgs_list_json.proofs.snap.numbers_value.Goals as goal

pub loop-number-preserved : goal.loop-number-preserved
loop-number-preserved c =
    value_next (λ n. number (unsigned n)) c.args.numbers.now c.loop-number.number-index _ c.loop-number.list.items c.push.new.list.items c.from.result _
    c.loop-number-test.true c.in_ok-push.ensures.ok c.from.ensures c.loop-number.invariant

pub returns : goal.returns
returns c = value_end (λ n. number (unsigned n)) c.args.numbers.now c.loop-number.number-index c.loop-number.list _ c.loop-number-test.false c.loop-number.invariant
