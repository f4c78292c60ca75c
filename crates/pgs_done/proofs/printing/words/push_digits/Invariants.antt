use Rattle.std.proofs.Common.{◌≡◌, ◌++◌, drop}
use Rattle.pgs_words.specs.Hex.{hex_spelled}
use Rattle.pgs_done.proofs.printing.words.push_digits.Given as goal

-- what was appended and the digits of what is left are the digits of all
abbrev pub invariant-loop-byte : goal.invariant-loop-byte
invariant-loop-byte l = l.out.items ++ hex_spelled (drop l.byte-index l.bytes) ≡ l.fn.out.items ++ hex_spelled l.fn.bytes
