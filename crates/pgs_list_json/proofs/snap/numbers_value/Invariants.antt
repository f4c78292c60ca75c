use Rattle.std.proofs.Common.{◌≡◌, ◌++◌, map, drop}
use Rattle.serde_json.specs.View.{view}
use Rattle.serde_json.specs.Data.{number, unsigned}
use Rattle.pgs_list_json.proofs.snap.numbers_value.Given as goal

-- the values so far, and those of what is left
abbrev pub invariant-loop-number : goal.invariant-loop-number
invariant-loop-number l = map view l.list.items ++ map (λ n. number (unsigned n)) (drop l.number-index l.numbers) ≡ map (λ n. number (unsigned n)) l.numbers
