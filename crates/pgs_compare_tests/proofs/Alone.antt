-- One finding alone, or none.
use Rattle.std.proofs.Common.{◌≡◌, true, List, [], ◌∷◌, sym, subst}
use Rattle.std.specs.List.Sorted.{IsStrictlySortedBy}
use Rattle.pgs_range.specs.Ranges.{in_range}
use Rattle.pgs_range.specs.declared.family_range.FamilyRange.{FamilyRange}
use Rattle.pgs_find.specs.declared.snap_finding.SnapFinding.{SnapFinding}
use Rattle.pgs_incons.specs.Found.{Ascends, AreWithin, finding_id, snap_id}
use Rattle.pgs_incons.specs.declared.finding.Finding.{Finding}

pub one_ascends : (x : Finding) (xs : List Finding) → xs ≡ x ∷ [] → Ascends finding_id xs
unfolding IsStrictlySortedBy
one_ascends x xs e = subst (Ascends finding_id) (sym e) (tt, tt)

pub one_within : (range : FamilyRange) (x : Finding) (xs : List Finding) → xs ≡ x ∷ [] → in_range range x.id.family ≡ true → AreWithin finding_id range xs
one_within range x xs e h = subst (AreWithin finding_id range) (sym e) (h, tt)

pub none_ascends : (xs : List SnapFinding) → xs ≡ [] → Ascends snap_id xs
unfolding IsStrictlySortedBy
none_ascends xs e = subst (Ascends snap_id) (sym e) tt

pub none_within : (range : FamilyRange) (xs : List SnapFinding) → xs ≡ [] → AreWithin snap_id range xs
none_within range xs e = subst (AreWithin snap_id range) (sym e) tt

pub ruleset alone = (one_ascends, one_within, none_ascends, none_within)
