use Rattle.std.proofs.Common.{◌≡◌, length}
use Rattle.std.specs.Option.{option_copied}
use Rattle.pgs_words.specs.Forms.{left, all_read}
use Rattle.pgs_words.specs.Fields as fields
use Rattle.pgs_lines.proofs.Fronts.{with_front}
use Rattle.pgs_lines.proofs.read.objects.numbers.Given as goal

-- what was found and what is left to read are what all words are read as
abbrev pub invariant-loop-rest : goal.invariant-loop-rest
invariant-loop-rest l = with_front l.found (all_read (fields.number).read (left 32 (option_copied l.rest))) ≡ all_read (fields.number).read (left 32 (option_copied l.fn.words))

abbrev pub decreases-loop-rest : goal.decreases-loop-rest
decreases-loop-rest l = length (left 32 (option_copied l.rest))
