use Rattle.std.proofs.Common.{◌≡◌, [], take, drop}
use Rattle.pgs_map_encoding.specs.Chains.{chain_fits, last_of}
use Rattle.pgs_map_encoding.specs.Entries.{entry}
use Rattle.pgs_map_encoding.proofs.fits.follow.Given as goal

-- what is left tells of all
abbrev pub invariant-loop-at : goal.invariant-loop-at
invariant-loop-at l = chain_fits (entry l.range) (last_of (take l.at l.entries)) (drop l.at l.entries) ≡ chain_fits (entry l.range) (last_of []) l.entries
