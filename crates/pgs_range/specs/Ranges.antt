-- Ranges of families.
use Rattle.std.specs.Prelude.{Bool, true, false, ◌≡◌, ◌&&◌}
use Rattle.std.specs.Ordering.{is_lt, is_le}
use Rattle.pgs_name.specs.Families.{Family}
use Rattle.pgs_name.specs.Order.{family_cmp}
use Rattle.pgs_range.specs.declared.bound.Bound.{Bound}
use Rattle.pgs_range.specs.declared.bound.Bound.TheVariants.{Min, At, Max}
use Rattle.pgs_range.specs.declared.family_range.FamilyRange.{FamilyRange}

-- a bound is at a family or below it
abbrev pub is_at_most : Bound → Family → Bool
is_at_most Min f = true
is_at_most (At bound) f = is_le (family_cmp bound f)
is_at_most Max f = false

-- a bound is above a family
abbrev pub is_above : Bound → Family → Bool
is_above Min f = false
is_above (At bound) f = is_lt (family_cmp f bound)
is_above Max f = true

-- the families from the first bound up to the second
abbrev pub in_range : FamilyRange → Family → Bool
in_range range f = is_at_most range.from f && is_above range.to f

-- a range that holds families on both sides of one holds it too
abbrev pub HoldsBetween : FamilyRange → Family → Type 0
HoldsBetween range g =
    (f h : Family) → is_le (family_cmp f g) ≡ true → is_le (family_cmp g h) ≡ true → in_range range f ≡ true → in_range range h ≡ true → in_range range g ≡ true
