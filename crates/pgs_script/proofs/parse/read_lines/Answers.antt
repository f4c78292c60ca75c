use Rattle.std.proofs.Common.{◌≤◌, ◌+◌, length, ap, arith}
use Rattle.pgs_words.specs.Forms.{parts_of}
use Rattle.pgs_words.proofs.Cuts.{parts_few}
use Rattle.pgs_texts.proofs.Turns.{judge_goes, judge_stops, judge_ends}
use Rattle.pgs_script.specs.Script.{script_grammar}
use Rattle.pgs_script.proofs.parse.read_lines.Goals as goal

pub returns-in-Err-clause-verdict : goal.returns-in-Err-clause-verdict
returns-in-Err-clause-verdict c =
    judge_stops script_grammar c.loop-line.number c.loop-line.script c.in-Some.line.now c.loop-line.rest.now c.in-Some.more.now _ c.in-Err.error
    c.loop-line.invariant.verdict c.in-Some.ensures c.in-Err.ensures.verdict

pub overflow_add-number : goal.overflow_add-number
overflow_add-number c =
    let few : length (parts_of 10 c.args.text.now) ≤ length c.args.text.now + 1 = parts_few 10 c.args.text.now in
    let count = c.loop-line.invariant.count in
    omega (arith, c.requires)

pub loop-line-preserved : goal.loop-line-preserved
loop-line-preserved c = record {
  verdict = judge_goes script_grammar c.loop-line.number c.loop-line.script c.in-Ok.next c.in-Some.line.now c.loop-line.rest.now c.in-Some.more.now _
      c.loop-line.invariant.verdict c.in-Some.ensures c.in-Ok.ensures.verdict;
  count = let parts = ap length c.in-Some.ensures in omega (arith, c.loop-line.invariant.count);
  spelled = c.in-Ok.ensures.spelled c.loop-line.invariant.spelled;
  ordered = c.in-Ok.ensures.ordered c.loop-line.invariant.ordered;
}

pub returns-clause-verdict : goal.returns-clause-verdict
returns-clause-verdict c =
    judge_ends script_grammar c.loop-line.number c.loop-line.script c.loop-line.rest.now _ c.finish.result c.loop-line.invariant.verdict c.in_default.ensures c.finish.ensures.verdict
