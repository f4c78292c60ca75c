-- The order of bounds is total, from the least bound to the greatest.
use Rattle.std.proofs.Common.{ℕ, ◌≡◌, true, List, [], ◌∷◌, refl, sym, subst}
use Rattle.std.specs.Cmp.{IsTotalOrder, nat_cmp_total, on_total, then_total}
use Rattle.std.specs.Cmp.Lexicographic.{lists_total, slice_cmp}
use Rattle.std.specs.declared.cmp.Ordering.{Ordering}
use Rattle.std.specs.declared.cmp.Ordering.TheVariants.{Less, Equal, Greater}
use Rattle.std.specs.Ordering.{is_eq, is_le, is_lt, nat_cmp, ordering_then}
use Rattle.pgs_name.specs.Families.{Family}
use Rattle.pgs_name.specs.Order.{family_cmp}
use Rattle.pgs_range.specs.Ranges.{is_at_most, is_above}
use Rattle.pgs_range.specs.declared.bound.Bound.{Bound}
use Rattle.pgs_range.specs.declared.bound.Bound.TheVariants.{Min, At, Max}
use Rattle.pgs_range.specs.Ends.{bound_cmp, same_bound, is_upto}
use Rattle.pgs_name.specs.Total.{family_total, family_ties}

-- a bound as a number, and the families beside it
rank : Bound → ℕ
rank Min = 0
rank (At f) = 1
rank Max = 2

at : Bound → List Family
at Min = []
at (At f) = f ∷ []
at Max = []

then_equal : (o : Ordering) → ordering_then o Equal ≡ o
then_equal Less = refl
then_equal Equal = refl
then_equal Greater = refl

ranked : (a b : Bound) → ordering_then (nat_cmp (rank a) (rank b)) (slice_cmp family_cmp (at a) (at b)) ≡ bound_cmp a b
unfolding rank at
ranked Min Min = refl
ranked Min (At g) = refl
ranked Min Max = refl
ranked (At f) Min = refl
ranked (At f) (At g) = then_equal (family_cmp f g)
ranked (At f) Max = refl
ranked Max Min = refl
ranked Max (At g) = refl
ranked Max Max = refl

pub bound_total : IsTotalOrder bound_cmp
bound_total = subst IsTotalOrder (λ i a b. ranked a b i) (then_total (on_total rank nat_cmp_total) (on_total at (lists_total family_total)))

pub least : (b : Bound) → is_upto Min b ≡ true
least Min = refl
least (At f) = refl
least Max = refl

pub greatest : (b : Bound) → is_upto b Max ≡ true
greatest Min = refl
greatest (At f) = refl
greatest Max = refl

-- the order answers `Equal` exactly where both are of one kind, and at one place
pub bound_same : (a b : Bound) → is_eq (bound_cmp a b) ≡ same_bound a b
bound_same Min Min = refl
bound_same Min (At g) = refl
bound_same Min Max = refl
bound_same (At f) Min = refl
bound_same (At f) (At g) = sym (family_ties f g)
bound_same (At f) Max = refl
bound_same Max Min = refl
bound_same Max (At g) = refl
bound_same Max Max = refl

-- a bound is at a family or below it, and above it, as the family's own bound stands to it
pub at_most_is : (b : Bound) (f : Family) → is_at_most b f ≡ is_le (bound_cmp b (At f))
at_most_is Min f = refl
at_most_is (At g) f = refl
at_most_is Max f = refl

pub above_is : (b : Bound) (f : Family) → is_above b f ≡ is_lt (bound_cmp (At f) b)
above_is Min f = refl
above_is (At g) f = refl
above_is Max f = refl

pub ruleset ends = (bound_total, bound_same, least, greatest)
