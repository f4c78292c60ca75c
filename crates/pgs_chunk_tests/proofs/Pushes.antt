-- A list goes on ascending with a position behind all of it.
use Rattle.std.proofs.Common.{ℕ, ◌≡◌, ◌≤◌, ◌<◌, ◌+◌, List, [], ◌∷◌, ◌++◌, refl, sym, ap, ◌∙◌, arith, subst}
use Rattle.std.specs.Cmp.{nat_cmp_is, nat_cmp_total, tied_itself}
use Rattle.std.specs.List.{AllByRecursion}
use Rattle.std.specs.List.Sorted.{IsStrictlySortedBy}
use Rattle.std.specs.declared.cmp.Ordering.TheVariants.{Less, Equal}
use Rattle.std.specs.Ordering.{nat_cmp, ordering_then}
use Rattle.pgs_name.specs.Families.{family_named}
use Rattle.pgs_name.specs.declared.object_id.ObjectId.{ObjectId}
use Rattle.pgs_name.specs.Order.{family_cmp, place_of, text_cmp}
use Rattle.pgs_name.specs.Positions.{position_cmp}
use Rattle.pgs_name.specs.Total.{family_total}
use Rattle.pgs_chunk.specs.Positions.{Ascends}
use Rattle.pgs_chunk.proofs.Lists.{all_weaker, all_both}
use Rattle.pgs_chunk_tests.specs.Clones.{IsNamed, IsClone, AreClones}

one_more : (ids : List ObjectId) (id : ObjectId) → Ascends ids → AllByRecursion (λ a. position_cmp a id ≡ Less) ids → Ascends (ids ++ id ∷ [])
unfolding IsStrictlySortedBy
one_more [] id h a = (tt, tt)
one_more (x ∷ ids) id h a = (all_both (λ b. position_cmp x b ≡ Less) ids (id ∷ []) h.0 (a.0, tt), one_more ids id h.1 a.1)

-- a clone with a higher snap comes later
clone_before : (snap most : ℕ) (a id : ObjectId) → most < snap → IsNamed (97 ∷ []) snap id → IsClone most a → position_cmp a id ≡ Less
clone_before snap most a id l n c =
    let one : a.family ≡ id.family = c.which.family ∙ sym n.family in
    let same : family_cmp a.family id.family ≡ Equal = ap (family_cmp a.family) (sym one) ∙ tied_itself family_total a.family in
    let upto : a.snap ≤ most = c.upto in
    let at : id.snap ≡ snap = n.at in
    let less : a.snap < id.snap = omega arith in
    ap (λ o. ordering_then o (nat_cmp a.snap id.snap)) same ∙ sym (nat_cmp_is a.snap id.snap Less less)

-- the object b comes behind the object a, since they have one key
next_before : (snap most : ℕ) (a id : ObjectId) → IsNamed (98 ∷ []) snap id → IsClone most a → position_cmp a id ≡ Less
next_before snap most a id n c =
    let place : ℕ = place_of (family_named [] (107 ∷ []) (97 ∷ [])) in
    let less : family_cmp (family_named [] (107 ∷ []) (97 ∷ [])) (family_named [] (107 ∷ []) (98 ∷ [])) ≡ Less =
    ap (λ o. ordering_then (ordering_then (ordering_then o (text_cmp [] [])) (text_cmp (107 ∷ []) (107 ∷ []))) (text_cmp (97 ∷ []) (98 ∷ []))) (tied_itself nat_cmp_total place) in
    ap (λ o. ordering_then o (nat_cmp a.snap id.snap)) ((λ i. family_cmp (c.which.family i) (n.family i)) ∙ less)

pub clone_pushed : (snap : ℕ) (ids : List ObjectId) (id : ObjectId) → Ascends ids → AreClones snap ids → IsNamed (97 ∷ []) (snap + 1) id → Ascends (ids ++ id ∷ [])
clone_pushed snap ids id h c n =
    let l : snap < snap + 1 = omega arith in
    one_more ids id h (all_weaker (IsClone snap) (λ a. position_cmp a id ≡ Less) (λ a k. clone_before (snap + 1) snap a id l n k) ids c)

pub clones_pushed : (snap : ℕ) (ids : List ObjectId) (id : ObjectId) → AreClones snap ids → IsNamed (97 ∷ []) (snap + 1) id → AreClones (snap + 1) (ids ++ id ∷ [])
clones_pushed snap ids id c n =
    all_both (IsClone (snap + 1)) ids (id ∷ [])
    (all_weaker (IsClone snap) (IsClone (snap + 1)) (λ a k. record { which = k.which; upto = let u : a.snap ≤ snap = k.upto in omega arith }) ids c) (
      record {
        which = record { family = n.family; at = refl };
        upto = let u : id.snap ≡ snap + 1 = n.at in omega arith;
      },
      tt,
    )

pub next_pushed : (count snap : ℕ) (ids : List ObjectId) (id : ObjectId) → Ascends ids → AreClones count ids → IsNamed (98 ∷ []) snap id → Ascends (ids ++ id ∷ [])
next_pushed count snap ids id h c n =
    one_more ids id h (all_weaker (IsClone count) (λ a. position_cmp a id ≡ Less) (λ a k. next_before snap count a id n k) ids c)

pub none_ascend : (ids : List ObjectId) → ids ≡ [] → Ascends ids
unfolding IsStrictlySortedBy
none_ascend ids e = subst Ascends (sym e) tt

pub none_are : (ids : List ObjectId) → ids ≡ [] → AreClones 0 ids
none_are ids e = subst (AreClones 0) (sym e) tt

pub ruleset pushes = (none_ascend, none_are, clone_pushed, clones_pushed)
