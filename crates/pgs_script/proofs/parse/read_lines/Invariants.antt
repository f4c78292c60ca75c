use Rattle.std.proofs.Common.{◌≡◌, ◌+◌, length}
use Rattle.pgs_words.specs.Forms.{parts_of}
use Rattle.pgs_texts.specs.Verdict.{verdict}
use Rattle.pgs_order.specs.Ordered.{IsOrdered}
use Rattle.pgs_script.specs.Script.{script_grammar, AreSpelled}
use Rattle.pgs_script.proofs.parse.read_lines.Given as goal

-- the verdict on what is left is that on all lines
abbrev pub invariant-loop-line : goal.invariant-loop-line
invariant-loop-line l = record {
  verdict : verdict script_grammar l.number l.script (parts_of 10 l.rest) ≡ verdict script_grammar 1 script_grammar.start (parts_of 10 l.fn.text);
  count : l.number + length (parts_of 10 l.rest) ≡ 1 + length (parts_of 10 l.fn.text);
  spelled : AreSpelled l.script.steps;
  ordered : IsOrdered l.script;
}

abbrev pub decreases-loop-line : goal.decreases-loop-line
decreases-loop-line l = length (parts_of 10 l.rest)
