use Rattle.std.proofs.Common.{◌≡◌, ◌^◌, drop}
use Rattle.pgs_words.specs.Fields.{digits_from}
use Rattle.pgs_words.proofs.numbers.digits_in.Given as goal

-- the digits that are left make of the number so far what all digits make of 0
abbrev pub invariant-loop-b : goal.invariant-loop-b
invariant-loop-b l = digits_from (2 ^ 32) l.n (drop l.b-index l.word) ≡ digits_from (2 ^ 32) 0 l.fn.word
