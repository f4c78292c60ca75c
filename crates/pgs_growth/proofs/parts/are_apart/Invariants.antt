use Rattle.std.proofs.Common.{◌≡◌, length}
use Rattle.pgs_growth.specs.Parts as parts
use Rattle.pgs_growth.proofs.parts.are_apart.Given as goal

abbrev pub invariant-loop-first : goal.invariant-loop-first
invariant-loop-first l = parts.are_apart l.rest ≡ parts.are_apart l.effects

abbrev pub decreases-loop-first : goal.decreases-loop-first
decreases-loop-first l = length l.rest
