use Rattle.std.proofs.Common.{◌≡◌, ◌++◌, drop}
use Rattle.pgs_words.specs.Forms.{all_spelled}
use Rattle.pgs_words.specs.Fields.{number}
use Rattle.pgs_done.specs.Words.{behind}
use Rattle.pgs_done.proofs.printing.steps.push_numbers.Given as goal

-- what was appended and the words of what is left are the words of all
abbrev pub invariant-loop-number : goal.invariant-loop-number
invariant-loop-number l = l.out.items ++ behind (all_spelled number (drop l.number-index l.numbers)) ≡ l.fn.out.items ++ behind (all_spelled number l.fn.numbers)
