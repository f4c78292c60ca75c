use Rattle.std.proofs.Common.{◌≡◌, length}
use Rattle.pgs_words.specs.Hex.{hex_read}
use Rattle.pgs_words.proofs.HexLaws.{behind}
use Rattle.pgs_words.proofs.hex.hex_in.Given as goal

-- what was found and what is left to read are what the whole text is read as
abbrev pub invariant-loop-rest : goal.invariant-loop-rest
invariant-loop-rest l = behind l.found.items (hex_read l.rest) ≡ hex_read l.fn.text

abbrev pub decreases-loop-rest : goal.decreases-loop-rest
decreases-loop-rest l = length l.rest
