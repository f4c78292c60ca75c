use Rattle.std.proofs.Common.{sym, subst}
use Rattle.pgs_snapcheck.specs.Check.{AreFoundAscending, snap_findings}
use Rattle.pgs_snapcheck.proofs.Turns.{up_behind, goes_on, ends}
use Rattle.pgs_snapcheck.proofs.Order.{found_ascends}
use Rattle.pgs_snapcheck.proofs.checking.check.Goals as goal

pub loop-family-preserved : goal.loop-family-preserved
loop-family-preserved c = (
  up_behind c.loop-family.rest.now c.in-Some.family.now c.in-Some.behind.now c.in-Some.ensures c.loop-family.invariant.0,
  goes_on c.loop-family.rest.now c.in-Some.family.now c.in-Some.behind.now c.loop-family.found c.check_family.new.found (snap_findings c.args.views.now) c.in-Some.ensures
      c.loop-family.invariant.1 c.in_ok-check_family.ensures,
)

pub returns-clause-ascends : goal.returns-clause-ascends
returns-clause-ascends c =
    subst AreFoundAscending
    (sym (ends c.loop-family.rest.now c.loop-family.found (snap_findings c.args.views.now) c.loop-family.invariant.1 c.in_default.ensures))
    (found_ascends c.args.views.now c.requires)
