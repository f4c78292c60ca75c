-- Entries go on ascending with one behind all of them.
use Rattle.std.proofs.Common.{◌≡◌, true, List, [], ◌∷◌, ◌++◌, sym, subst, refl}
use Rattle.std.specs.List.{AllByRecursion, list_all}
use Rattle.std.specs.List.Sorted.{IsStrictlySortedBy}
use Rattle.std.specs.declared.cmp.Ordering.{Ordering}
use Rattle.std.specs.declared.cmp.Ordering.TheVariants.{Less, Equal, Greater}
use Rattle.std.specs.Ordering.{is_lt}
use Rattle.pgs_bytes.proofs.Facts.{both, true_false}
use Rattle.pgs_name.specs.Positions.{position_cmp, is_before}
use Rattle.pgs_map.specs.Entries.{AreAscending}
use Rattle.pgs_map.specs.declared.entry.Entry.{Entry}

pub none_ascend : (entries : List Entry) → entries ≡ [] → AreAscending entries
unfolding IsStrictlySortedBy
none_ascend entries e = subst AreAscending (sym e) tt

less_is : (r : Ordering) → is_lt r ≡ true → r ≡ Less
less_is Less e = refl
less_is Equal e = absurd (true_false (sym e))
less_is Greater e = absurd (true_false (sym e))

with_last : (all : List Entry) (x last : Entry) → AllByRecursion (λ y. position_cmp x.id y.id ≡ Less) all → is_before x.id last.id ≡ true
    → AllByRecursion (λ y. position_cmp x.id y.id ≡ Less) (all ++ last ∷ [])
with_last [] x last h l = (less_is (position_cmp x.id last.id) l, tt)
with_last (y ∷ all) x last h l = (h.0, with_last all x last h.1 l)

one_more : (entries : List Entry) (last : Entry) → AreAscending entries → list_all (λ x. is_before x.id last.id) entries ≡ true → AreAscending (entries ++ last ∷ [])
unfolding IsStrictlySortedBy
one_more [] last h l = (tt, tt)
one_more (x ∷ entries) last h l =
    let parts = both (is_before x.id last.id) (list_all (λ y. is_before y.id last.id) entries) l in
    (with_last entries x last h.0 parts.0, one_more entries last h.1 parts.1)

pub pushed : (old new : List Entry) (last : Entry) → new ≡ old ++ last ∷ [] → AreAscending old → list_all (λ x. is_before x.id last.id) old ≡ true → AreAscending new
pushed old new last e h l = subst AreAscending (sym e) (one_more old last h l)
