-- Where one position isn't below the start, none behind it is.
use Rattle.std.proofs.Common.{◌≡◌, true, false, cond, List, ◌∷◌, refl, sym, ap}
use Rattle.std.specs.Cmp.{upto}
use Rattle.std.specs.declared.cmp.Ordering.{Ordering}
use Rattle.std.specs.declared.cmp.Ordering.TheVariants.{Less, Equal, Greater}
use Rattle.std.specs.Ordering.{is_le, is_gt, nat_cmp, ordering_then}
use Rattle.std.proofs.lemmas.List.Kept.{IsStrictlySortedBy-filter}
use Rattle.std.proofs.lemmas.Map.Keys.{sorted_head, sorted_tail}
use Rattle.pgs_name.specs.Families.{Family}
use Rattle.pgs_name.specs.declared.object_id.ObjectId.{ObjectId}
use Rattle.pgs_name.specs.Order.{family_cmp}
use Rattle.pgs_range.specs.Ranges.{is_at_most}
use Rattle.pgs_range.specs.declared.bound.Bound.{Bound}
use Rattle.pgs_range.specs.declared.bound.Bound.TheVariants.{Min, At, Max}
use Rattle.pgs_name.specs.Positions.{position_cmp}
use Rattle.pgs_name.specs.Total.{family_total}
use Rattle.pgs_chunk.specs.Positions.{Ascends}
use Rattle.pgs_chunk.specs.Selection.{from_start}
use Rattle.pgs_chunk.proofs.Lists.{all_weaker, filter_all}

le_is : (r : Ordering) → is_le r ≡ true → is_gt r ≡ false
le_is Less h = refl
le_is Equal h = refl
le_is Greater h = sym h

is_le_from : (r : Ordering) → is_gt r ≡ false → is_le r ≡ true
is_le_from Less h = refl
is_le_from Equal h = refl
is_le_from Greater h = sym h

first_less : (r s : Ordering) → ordering_then r s ≡ Less → is_le r ≡ true
first_less Less s h = refl
first_less Equal s h = refl
first_less Greater s h = ap is_le h

-- families don't fall where positions ascend
pub family_upto : (a b : ObjectId) → position_cmp a b ≡ Less → is_le (family_cmp a.family b.family) ≡ true
family_upto a b h = first_less (family_cmp a.family b.family) (nat_cmp a.snap b.snap) h

-- what is at most a family is at most those above it
at_most_above : (start : Bound) (f g : Family) → is_at_most start f ≡ true → is_le (family_cmp f g) ≡ true → is_at_most start g ≡ true
at_most_above Min f g h k = refl
at_most_above (At s) f g h k = is_le_from (family_cmp s g) (upto family_total s f g (le_is (family_cmp s f) h) (le_is (family_cmp f g) k))
at_most_above Max f g h k = h

-- where the first isn't below the start, all are counted
pub starts_here : (start : Bound) (first : ObjectId) (more : List ObjectId) → Ascends (first ∷ more) → is_at_most start first.family ≡ true
    → first ∷ more ≡ from_start start (first ∷ more)
starts_here start first more h e =
    sym (filter_all (λ id. is_at_most start id.family) (first ∷ more) (
      e,
      all_weaker (λ id. position_cmp first id ≡ Less) (λ id. is_at_most start id.family ≡ true)
          (λ id l. at_most_above start first.family id.family e (family_upto first id l)) more (sorted_head position_cmp first more h),
    ))

-- where it is, the others are looked at
pub starts_later : (start : Bound) (first : ObjectId) (more : List ObjectId) → is_at_most start first.family ≡ false
    → from_start start more ≡ from_start start (first ∷ more)
starts_later start first more e = sym (ap (λ b. cond b (first ∷ from_start start more) (from_start start more)) e)

pub ascends_later : (first : ObjectId) (more : List ObjectId) → Ascends (first ∷ more) → Ascends more
ascends_later first more h = sorted_tail position_cmp first more h

-- what is left of a list ascends as the list does
pub left_ascends : (start : Bound) (listed rest : List ObjectId) → Ascends listed → rest ≡ from_start start listed → Ascends rest
left_ascends start listed rest h e = rw e (IsStrictlySortedBy-filter position_cmp (λ id. is_at_most start id.family) listed h)

pub ruleset starts = (starts_here, starts_later, ascends_later)
