use Rattle.std.proofs.Common.{◌≡◌, ◌++◌, drop}
use Rattle.std.specs.List.{filter_map}
use Rattle.pgs_snapcheck.specs.Check.{snap_finding}
use Rattle.pgs_snapcheck.proofs.checking.check_family.Given as goal

abbrev pub invariant-loop-view : goal.invariant-loop-view
invariant-loop-view l =
    l.found ++ filter_map (snap_finding l.family) (drop l.view-index l.family) ≡ l.initial.found ++ filter_map (snap_finding l.family) l.family
