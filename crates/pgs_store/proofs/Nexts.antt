-- What comes next behind a cursor.
use Rattle.std.proofs.Common.{ℕ, ◌≡◌, Bool, true, false, Option, Some, None, refl, sym, ap, ◌∙◌}
use Rattle.std.specs.Cmp.{tied_itself}
use Rattle.std.specs.declared.cmp.Ordering.{Ordering}
use Rattle.std.specs.declared.cmp.Ordering.TheVariants.{Less, Equal, Greater}
use Rattle.std.specs.Ordering.{is_eq, is_le, is_lt, nat_cmp, ordering_then}
use Rattle.std.specs.BTreeMap.Range.{is_from_start}
use Rattle.std.specs.declared.ops.Bound.TheVariants.{Excluded}
use Rattle.pgs_bytes.proofs.Facts.{both, joined, true_false}
use Rattle.pgs_name.specs.Families.{Family}
use Rattle.pgs_name.specs.Order.{family_cmp}
use Rattle.pgs_name.specs.Positions.{is_before}
use Rattle.pgs_name.specs.Total.{family_total}
use Rattle.pgs_name.specs.declared.object_id.ObjectId.{ObjectId}
use Rattle.pgs_name.proofs.Ordered.{by_family}
use Rattle.pgs_range.specs.Listed.{is_behind, IsNext}
use Rattle.pgs_range.specs.Ranges.{is_above}
use Rattle.pgs_range.specs.declared.bound.Bound.{Bound}
use Rattle.pgs_range.specs.declared.cursor.Cursor.{Cursor}
use Rattle.pgs_range.proofs.Tiles.{above_down}
use Rattle.pgs_store.specs.Firsts.{IsFirst, IsNextSnap, at_snap}
use Rattle.pgs_store.specs.Stores.{Stored, is_stored}
use Rattle.pgs_store.proofs.Filled.{tied_is}

then_less : (o p : Ordering) → is_lt o ≡ true → is_lt (ordering_then o p) ≡ true
then_less Less p e = refl
then_less Equal p e = absurd (true_false (sym e))
then_less Greater p e = e

then_turned : (o p r : Ordering) → is_lt (ordering_then o p) ≡ true → (is_eq o ≡ true → is_lt p ≡ true → is_le r ≡ true) → is_le (ordering_then o r) ≡ true
then_turned Less p r e f = refl
then_turned Equal p r e f = f refl e
then_turned Greater p r e f = e

less_first : (o p : Ordering) → is_lt (ordering_then o p) ≡ true → (is_eq o ≡ true → is_lt p ≡ true → ⊥) → is_lt o ≡ true
less_first Less p e f = refl
less_first Equal p e f = absurd (f refl e)
less_first Greater p e f = e

-- a copy of another family is one of this family, where the two are tied
of_family : (store : Stored) (family : Family) (other : ObjectId) → is_eq (family_cmp family other.family) ≡ true
    → is_stored store other ≡ true → is_stored store (at_snap family other.snap) ≡ true
of_family store family other tied held = ap (λ f. is_stored store (at_snap f other.snap)) (tied_is family other.family tied) ∙ held

-- the next copy is of the position's own family
pub in_family : (store : Stored) (family : Family) (snap next : ℕ) → IsNextSnap (store family) snap (Some next)
    → IsFirst (is_stored store) (is_before (at_snap family snap)) (Some (at_snap family next))
in_family store family snap next h = (
  h.0,
  ap (λ o. is_lt (ordering_then o (nat_cmp snap next))) (tied_itself family_total family) ∙ h.1,
  λ other held behind.
      then_turned (family_cmp family other.family) (nat_cmp snap other.snap) (nat_cmp next other.snap) behind
      (λ tied above. h.2 other.snap (of_family store family other tied held) above),
)

-- a copy behind the position is of a family above, where its own family has none
of_others : (store : Stored) (family : Family) (snap : ℕ) (other : ObjectId) → IsNextSnap (store family) snap None
    → is_stored store other ≡ true → is_before (at_snap family snap) other ≡ true → is_lt (family_cmp family other.family) ≡ true
of_others store family snap other h held behind =
    less_first (family_cmp family other.family) (nat_cmp snap other.snap) behind (λ tied above. h other.snap (of_family store family other tied held) above)

-- the next copy is of a family above
pub above_family : (store : Stored) (family : Family) (snap : ℕ) (next : Option ObjectId) → IsNextSnap (store family) snap None
    → IsFirst (is_stored store) (λ id. is_from_start family_cmp (Excluded family) id.family) next
    → IsFirst (is_stored store) (is_before (at_snap family snap)) next
above_family store family snap None h first = λ other held behind. first other held (of_others store family snap other h held behind)
above_family store family snap (Some id) h first = (
  first.0,
  then_less (family_cmp family id.family) (nat_cmp snap id.snap) first.1,
  λ other held behind. first.2 other held (of_others store family snap other h held behind),
)

pub none_behind : (held : ObjectId → Bool) (cursor : Cursor) (to : Bound) → IsFirst held (is_behind cursor) None → IsNext held cursor to None
none_behind held cursor to first = λ other here ahead. first other here (both (is_behind cursor other) (is_above to other.family) ahead).0

pub next_below : (held : ObjectId → Bool) (cursor : Cursor) (to : Bound) (id : ObjectId) → IsFirst held (is_behind cursor) (Some id)
    → is_above to id.family ≡ true → IsNext held cursor to (Some id)
next_below held cursor to id first below = (
  first.0,
  joined (is_behind cursor id) (is_above to id.family) first.1 below,
  λ other here ahead. first.2 other here (both (is_behind cursor other) (is_above to other.family) ahead).0,
)

pub next_beyond : (held : ObjectId → Bool) (cursor : Cursor) (to : Bound) (id : ObjectId) → IsFirst held (is_behind cursor) (Some id)
    → is_above to id.family ≡ false → IsNext held cursor to None
next_beyond held cursor to id first beyond = λ other here ahead.
    let h = both (is_behind cursor other) (is_above to other.family) ahead in
    true_false (sym (above_down to id.family other.family (by_family id other (first.2 other here h.0)) h.1) ∙ beyond)

pub ruleset nexts = (none_behind, next_below, next_beyond)
