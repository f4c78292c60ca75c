-- The order of bounds, and ranges that lie beside one another.
use Rattle.std.specs.Prelude.{Bool, true, false, ◌≡◌, ◌&&◌, ◌||◌}
use Rattle.std.specs.declared.cmp.Ordering.{Ordering}
use Rattle.std.specs.declared.cmp.Ordering.TheVariants.{Less, Equal, Greater}
use Rattle.std.specs.Ordering.{is_le}
use Rattle.pgs_name.specs.Order.{family_cmp}
use Rattle.pgs_range.specs.Ranges.{in_range}
use Rattle.pgs_range.specs.declared.bound.Bound.{Bound}
use Rattle.pgs_range.specs.declared.bound.Bound.TheVariants.{Min, At, Max}
use Rattle.pgs_range.specs.declared.family_range.FamilyRange.{FamilyRange}
use Rattle.pgs_name.specs.Families.{Family, same_family}

-- the least bound first, the greatest last, and between them by their families
abbrev pub bound_cmp : Bound → Bound → Ordering
bound_cmp Min Min = Equal
bound_cmp Min (At g) = Less
bound_cmp Min Max = Less
bound_cmp (At f) Min = Greater
bound_cmp (At f) (At g) = family_cmp f g
bound_cmp (At f) Max = Less
bound_cmp Max Min = Greater
bound_cmp Max (At g) = Greater
bound_cmp Max Max = Equal

-- two bounds are of one kind, and at one place
abbrev pub same_bound : Bound → Bound → Bool
same_bound Min Min = true
same_bound Min (At g) = false
same_bound Min Max = false
same_bound (At f) Min = false
same_bound (At f) (At g) = same_family f g
same_bound (At f) Max = false
same_bound Max Min = false
same_bound Max (At g) = false
same_bound Max Max = true

-- a bound isn't above another
abbrev pub is_upto : Bound → Bound → Bool
is_upto a b = is_le (bound_cmp a b)

-- a bound lies at the ends of a range or between them
abbrev pub is_within : Bound → FamilyRange → Bool
is_within at range = is_upto range.from at && is_upto at range.to

-- two ranges tile a third: each of its families lies in one of the two, no other does, and none lies in both
pub record AreTiles (whole first second : FamilyRange) : Type 0 where
  pub covered : (f : Family) → in_range whole f ≡ (in_range first f || in_range second f)
  pub apart : (f : Family) → (in_range first f && in_range second f) ≡ false
