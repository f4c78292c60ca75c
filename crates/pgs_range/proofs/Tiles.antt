-- Ranges that meet at a bound tile the range from the first end to the last.
use Rattle.std.proofs.Common.{◌≡◌, Bool, true, false, not, ◌&&◌, ◌||◌, refl, sym, ap, ◌∙◌}
use Rattle.std.specs.Cmp.{upto}
use Rattle.std.specs.declared.cmp.Ordering.{Ordering}
use Rattle.std.specs.declared.cmp.Ordering.TheVariants.{Less, Equal, Greater}
use Rattle.std.specs.Ordering.{is_le, is_lt, is_gt, ordering_reverse}
use Rattle.pgs_bytes.proofs.Facts.{both, joined, true_false}
use Rattle.pgs_name.specs.Families.{Family}
use Rattle.pgs_name.specs.Order.{family_cmp}
use Rattle.pgs_range.specs.Ranges.{is_at_most, is_above, in_range, HoldsBetween}
use Rattle.pgs_range.specs.declared.bound.Bound.{Bound}
use Rattle.pgs_range.specs.declared.bound.Bound.TheVariants.{At}
use Rattle.pgs_range.specs.declared.family_range.FamilyRange.{FamilyRange}
use Rattle.pgs_range.specs.Ends.{bound_cmp, is_upto, is_within, AreTiles}
use Rattle.pgs_range.proofs.Ends.{bound_total, at_most_is, above_is}

lt_turned : (o : Ordering) → is_lt (ordering_reverse o) ≡ not (is_le o)
lt_turned Less = refl
lt_turned Equal = refl
lt_turned Greater = refl

not_gt : (o : Ordering) → is_le o ≡ true → is_gt o ≡ false
not_gt Less e = refl
not_gt Equal e = refl
not_gt Greater e = sym e

le_from : (o : Ordering) → is_gt o ≡ false → is_le o ≡ true
le_from Less e = refl
le_from Equal e = refl
le_from Greater e = sym e

-- a bound is above a family exactly where it isn't at it or below it
pub above_or_at_most : (b : Bound) (f : Family) → is_above b f ≡ not (is_at_most b f)
above_or_at_most b f =
    above_is b f ∙ ap is_lt (bound_total.antisymm (At f) b) ∙ lt_turned (bound_cmp b (At f)) ∙ ap not (sym (at_most_is b f))

-- what is at a bound or above it is so of each bound that isn't above that one
pub at_most_below : (a b : Bound) (f : Family) → is_upto a b ≡ true → is_at_most b f ≡ true → is_at_most a f ≡ true
at_most_below a b f h e =
    at_most_is a f
    ∙ le_from (bound_cmp a (At f))
    (upto bound_total a b (At f) (not_gt (bound_cmp a b) h) (not_gt (bound_cmp b (At f)) (sym (at_most_is b f) ∙ e)))

-- bounds that aren't above one another go on so
pub upto_chain : (a b c : Bound) → is_upto a b ≡ true → is_upto b c ≡ true → is_upto a c ≡ true
upto_chain a b c h k = le_from (bound_cmp a c) (upto bound_total a b c (not_gt (bound_cmp a b) h) (not_gt (bound_cmp b c) k))

-- a bound isn't above the families above a family that it isn't above
pub at_most_up : (b : Bound) (f g : Family) → is_le (family_cmp f g) ≡ true → is_at_most b f ≡ true → is_at_most b g ≡ true
at_most_up b f g h e =
    at_most_is b g
    ∙ le_from (bound_cmp b (At g))
    (upto bound_total b (At f) (At g) (not_gt (bound_cmp b (At f)) (sym (at_most_is b f) ∙ e)) (not_gt (family_cmp f g) h))

denied : (p q : Bool) → (p ≡ true → q ≡ true) → not q ≡ true → not p ≡ true
denied true q f e = absurd (true_false (sym (sym (ap not (f refl)) ∙ e)))
denied false q f e = refl

-- a bound is above the families below a family that it is above
pub above_down : (b : Bound) (f g : Family) → is_le (family_cmp f g) ≡ true → is_above b g ≡ true → is_above b f ≡ true
above_down b f g h e =
    above_or_at_most b f ∙ denied (is_at_most b f) (is_at_most b g) (at_most_up b f g h) (sym (above_or_at_most b g) ∙ e)

-- a range holds what stands between two families that it holds
pub held_between : (range : FamilyRange) (g : Family) → HoldsBetween range g
held_between range g f h p q first last =
    joined (is_at_most range.from g) (is_above range.to g)
    (at_most_up range.from f g p (both (is_at_most range.from f) (is_above range.to f) first).0)
    (above_down range.to g h q (both (is_at_most range.from h) (is_above range.to h) last).1)

-- tests that follow from one another, the last from the second and the second from the first
in_one : (p q r : Bool) → (q ≡ true → p ≡ true) → (r ≡ true → q ≡ true) → (p && not r) ≡ ((p && not q) || (q && not r))
in_one true true true f g = refl
in_one true true false f g = refl
in_one true false true f g = absurd (true_false (sym (g refl)))
in_one true false false f g = refl
in_one false true r f g = absurd (true_false (sym (f refl)))
in_one false false r f g = refl

not_both : (p q r : Bool) → ((p && not q) && (q && not r)) ≡ false
not_both true true r = refl
not_both true false r = refl
not_both false q r = refl

-- for bounds in their order, a family between the outer ones lies behind the middle one or before it, and never both
pub in_one_range : (a b c : Bound) (f : Family) → is_upto a b ≡ true → is_upto b c ≡ true
    → (is_at_most a f && is_above c f) ≡ ((is_at_most a f && is_above b f) || (is_at_most b f && is_above c f))
in_one_range a b c f h k =
    rw (above_or_at_most b f, above_or_at_most c f)
    (in_one (is_at_most a f) (is_at_most b f) (is_at_most c f) (at_most_below a b f h) (at_most_below b c f k))

pub in_both_ranges : (a b c : Bound) (f : Family) → ((is_at_most a f && is_above b f) && (is_at_most b f && is_above c f)) ≡ false
in_both_ranges a b c f = rw (above_or_at_most b f, above_or_at_most c f) (not_both (is_at_most a f) (is_at_most b f) (is_at_most c f))

pub tiled : (whole first second : FamilyRange) (middle : Bound) → first.from ≡ whole.from → first.to ≡ middle → second.from ≡ middle → second.to ≡ whole.to
    → is_within middle whole ≡ true → AreTiles whole first second
tiled whole first second middle p q r s within =
    let ends = both (is_upto whole.from middle) (is_upto middle whole.to) within in
    record {
      covered = λ f. rw (p, q, r, s) (in_one_range whole.from middle whole.to f ends.0 ends.1);
      apart = λ f. rw (p, q, r, s) (in_both_ranges whole.from middle whole.to f);
    }
