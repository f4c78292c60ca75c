use Rattle.std.proofs.Common.{◌≡◌, map, not, drop, filter}
use Rattle.pgs_snapcheck.specs.Conditions.{is_in, ascending, with_numbers}
use Rattle.pgs_snapcheck.proofs.listing.gather_missing.Given as goal

abbrev pub invariant-loop-clone : goal.invariant-loop-clone
invariant-loop-clone l =
    with_numbers l.snaps.keys (map (λ c. c.snap) (filter (λ c. not (is_in c.snap l.there)) (drop l.clone-index l.clones)))
    ≡ ascending (map (λ c. c.snap) (filter (λ c. not (is_in c.snap l.there)) l.clones))
