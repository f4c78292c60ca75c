-- A chunk ends above its start.
use Rattle.std.proofs.Common.{Bool, not, ℕ, ◌≡◌, inl, inr, true, false, ◌||◌, List, [], ◌∷◌, refl, sym, ap, ◌∙◌}
use Rattle.std.specs.BTreeMap.Comparable.{le_lt_trans}
use Rattle.std.specs.List.{AllByRecursion, list_any}
use Rattle.std.specs.declared.cmp.Ordering.{Ordering}
use Rattle.std.specs.declared.cmp.Ordering.TheVariants.{Less, Equal, Greater}
use Rattle.std.specs.Ordering.{is_eq, is_le, ordering_reverse}
use Rattle.std.proofs.lemmas.List.Kept.{IsStrictlySortedBy-filter}
use Rattle.std.proofs.lemmas.Map.Keys.{sorted_head}
use Rattle.pgs_bytes.proofs.Facts.{both, true_false, true_or_false}
use Rattle.pgs_name.specs.Families.{same_family}
use Rattle.pgs_name.proofs.Families.{same_family_is}
use Rattle.pgs_name.specs.Families.{Family}
use Rattle.pgs_name.specs.declared.object_id.ObjectId.{ObjectId}
use Rattle.pgs_name.specs.Order.{family_cmp}
use Rattle.pgs_range.specs.Ranges.{is_at_most}
use Rattle.pgs_range.specs.declared.bound.Bound.{Bound}
use Rattle.pgs_range.specs.declared.bound.Bound.TheVariants.{Min, At, Max}
use Rattle.pgs_range.specs.declared.family_range.FamilyRange.{FamilyRange}
use Rattle.pgs_name.specs.Positions.{position_cmp}
use Rattle.pgs_range.specs.Ends.{is_upto}
use Rattle.pgs_name.specs.Total.{family_total}
use Rattle.pgs_chunk.specs.Positions.{in_one_family, Ascends}
use Rattle.pgs_chunk.specs.Selection.{from_start, is_later_family, is_candidate, IsSelected}
use Rattle.pgs_chunk.proofs.Families.{one_family_is}
use Rattle.pgs_chunk.proofs.Lists.{all_filtered}
use Rattle.pgs_chunk.proofs.Starts.{family_upto}

less_from : (r : Ordering) → is_le r ≡ true → is_eq r ≡ false → r ≡ Less
less_from Less h k = refl
less_from Equal h k = absurd (true_false k)
less_from Greater h k = absurd (true_false (sym h))

told_twice : (b : Bool) → b ≡ true → not b ≡ true → ⊥
told_twice true p q = true_false (sym q)
told_twice false p q = true_false (sym p)

-- a later position of another family is of a family above
family_above : (first id : ObjectId) (f : Family) → position_cmp first id ≡ Less → same_family id.family f ≡ true
    → not (same_family first.family f) ≡ true → family_cmp first.family f ≡ Less
family_above first id f l e n =
    let one : id.family ≡ f = same_family_is id.family f e in
    let apart : in_one_family first id ≡ false =
    elim (true_or_false (in_one_family first id)) [
      | inl same ↦ absurd (told_twice (same_family first.family f) (ap (same_family first.family) (sym one) ∙ same) n)
      | inr other ↦ other
    ] in
    let less : family_cmp first.family id.family ≡ Less =
    less_from (family_cmp first.family id.family) (family_upto first id l) (sym (one_family_is first id) ∙ apart) in
    ap (family_cmp first.family) (sym one) ∙ less

pub later_above : (first : ObjectId) (rest : List ObjectId) (f : Family) → AllByRecursion (λ id. position_cmp first id ≡ Less) rest
    → list_any (λ id. same_family id.family f) rest ≡ true → not (same_family first.family f) ≡ true → family_cmp first.family f ≡ Less
later_above first [] f h e n = absurd (true_false (sym e))
later_above first (id ∷ rest) f h e n =
    elim (true_or_false (same_family id.family f)) [
      | inl same ↦ family_above first id f h.0 same n
      | inr other ↦ later_above first rest f h.1 (ap (λ b. b || list_any (λ i. same_family i.family f) rest) (sym other) ∙ e) n
    ]

over_start : (start : Bound) (first f : Family) → is_at_most start first ≡ true → family_cmp first f ≡ Less → is_upto (At f) start ≡ false
over_start Min first f h l = refl
over_start (At s) first f h l =
    ap is_le (family_total.antisymm f s ∙ ap ordering_reverse (le_lt_trans family_total s first f h l))
over_start Max first f h l = absurd (true_false (sym h))

family_over : (start : Bound) (ys : List ObjectId) (f : Family) → Ascends ys → AllByRecursion (λ id. is_at_most start id.family ≡ true) ys
    → is_later_family ys f ≡ true → is_upto (At f) start ≡ false
family_over start [] f h a e = absurd (true_false (sym e))
family_over start (first ∷ rest) f h a e =
    let parts = both (not (same_family first.family f)) (list_any (λ id. same_family id.family f) rest) e in
    over_start start first.family f a.0 (later_above first rest f (sorted_head position_cmp first rest h) parts.1 parts.0)

candidate_over : (start : Bound) (ys : List ObjectId) (end : Bound) → Ascends ys → AllByRecursion (λ id. is_at_most start id.family ≡ true) ys
    → is_upto Max start ≡ false → is_candidate ys end ≡ true → is_upto end start ≡ false
candidate_over start ys Min h a m e = absurd (true_false (sym e))
candidate_over start ys (At f) h a m e = family_over start ys f h a e
candidate_over start ys Max h a m e = m

pub ends_above : (limit : ℕ) (listed : List ObjectId) (start : Bound) (range : FamilyRange) → Ascends listed → IsSelected limit listed start range
    → is_upto Max start ≡ false → is_upto range.to start ≡ false
ends_above limit listed start range h s m =
    candidate_over start (from_start start listed) range.to (IsStrictlySortedBy-filter position_cmp (λ id. is_at_most start id.family) listed h)
    (all_filtered (λ id. is_at_most start id.family) listed) m s.ends.candidate
