-- The bytes that the clean store holds, after one item more.
use Rattle.std.proofs.Common.{◌≡◌, ℕ, ◌+◌, ◌==◌, nat_eq, Bool, true, false, cond, ◌&&◌, ◌||◌, List, [], ◌∷◌, Option, None, refl, sym, ap, ◌∙◌, subst, arith}
use Rattle.std.specs.Prelude.{map}
use Rattle.std.specs.List.{list_any, sum_by}
use Rattle.std.proofs.lemmas.Bool.Decides.{nat_tests}
use Rattle.pgs_bytes.proofs.Facts.{both, joined}
use Rattle.pgs_name.specs.Families.{Family, same_family}
use Rattle.pgs_name.specs.Positions.{same_position}
use Rattle.pgs_name.specs.declared.object_id.ObjectId.{ObjectId}
use Rattle.pgs_name.specs.declared.object_id.TheConstants.{HEAD}
use Rattle.pgs_name.proofs.Families.{same_family_is, family_is_same}
use Rattle.pgs_copy.specs.Copies.{after_effect, after_effects, affected as affected_copy}
use Rattle.pgs_copy.specs.declared.effect.Effect.{Effect}
use Rattle.pgs_copy.specs.declared.obj_copy.ObjCopy.{ObjCopy}
use Rattle.pgs_store.specs.Firsts.{at_snap}
use Rattle.pgs_store.specs.Stores.{Stored, affected, copy_size}
use Rattle.pgs_op.specs.Held.{touched_bytes, held_after}
use Rattle.pgs_medium.specs.declared.item.Item.{Item}
use Rattle.pgs_history.specs.Log.{clean, with_position, with_positions, positions, stored_size, held}
use Rattle.pgs_history.proofs.Weighed.{has, AreApart, with_all, weighed, either_false, apart_all, has_all, weighed_anew}

-- ---- positions

same_position_is : (a b : ObjectId) → same_position a b ≡ true → a ≡ b
same_position_is a b e =
    let parts = both (same_family a.family b.family) (nat_eq a.snap b.snap) e in
    let family = same_family_is a.family b.family parts.0 in
    let snap : a.snap ≡ b.snap = grind (arith, nat_tests, parts.1) in
    λ i. record { family = family i; snap = snap i }

position_is_same : (a : ObjectId) → same_position a a ≡ true
position_is_same a = joined (same_family a.family a.family) (nat_eq a.snap a.snap) (family_is_same a.family) (grind (arith, nat_tests))

-- the positions that effects on a family are on
abbrev named : Family → List (ℕ × Effect) → List ObjectId
named family effects = map (λ e. at_snap family e.0) effects

with_positions_is : (family : Family) (effects : List (ℕ × Effect)) (ids : List ObjectId) → with_positions family effects ids ≡ with_all same_position (named family effects) ids
with_positions_is family [] ids = refl
with_positions_is family (e ∷ es) ids = ap (with_position (at_snap family e.0)) (with_positions_is family es ids)

apart : (items : List Item) → AreApart same_position (positions items)
apart [] = tt
apart (item ∷ items) =
    subst (AreApart same_position) (sym (with_positions_is item.family item.effects (positions items)))
    (apart_all same_position same_position_is position_is_same (named item.family item.effects) (positions items) (apart items))

-- ---- a snap is named where its position is

same_number : (a b : ℕ) → (a == b) ≡ nat_eq b a
same_number a b = grind (arith, nat_tests)

same_snap : (family : Family) (a b : ℕ) → (a == b) ≡ same_position (at_snap family b) (at_snap family a)
same_snap family a b = same_number a b ∙ ap (λ v. v && nat_eq b a) (sym (family_is_same family))

snap_named : (family : Family) (effects : List (ℕ × Effect)) (q : ℕ)
    → list_any (λ other. other.0 == q) effects ≡ has same_position (named family effects) (at_snap family q)
snap_named family [] q = refl
snap_named family (e ∷ es) q = λ i. same_snap family e.0 q i || snap_named family es q i

-- ---- what isn't named stays, and what was never named isn't there

elsewhere : (effects : List (ℕ × Effect)) (copies : ℕ → Option ObjCopy) (q : ℕ) → list_any (λ other. other.0 == q) effects ≡ false → after_effects effects copies q ≡ copies q
elsewhere [] copies q none = refl
elsewhere (e ∷ es) copies q none =
    let parts = either_false (e.0 == q) (list_any (λ other. other.0 == q) es) none in
    elsewhere es (after_effect e.0 e.1 copies) q parts.1 ∙ ap (λ v. cond v (affected_copy e.1 (copies HEAD) (copies q)) (copies q)) parts.0

stays : (family : Family) (effects : List (ℕ × Effect)) (stored : Stored) (id : ObjectId) → has same_position (named family effects) id ≡ false
    → affected family effects stored id.family id.snap ≡ stored id.family id.snap
stays family effects stored id none =
    let P : Bool → Type 0 = λ v. same_family family id.family ≡ v
    → cond v (after_effects effects (stored id.family) id.snap) (stored id.family id.snap) ≡ stored id.family id.snap in
    (elim (same_family family id.family) as P [
      | true ↦ λ same.
          let is : family ≡ id.family = same_family_is family id.family same in
          let at : at_snap family id.snap ≡ id = λ i. record { family = is i; snap = id.snap } in
          elsewhere effects (stored id.family) id.snap (snap_named family effects id.snap ∙ ap (has same_position (named family effects)) at ∙ none)
      | false ↦ λ other. refl
    ]) refl

never : (items : List Item) (id : ObjectId) → has same_position (positions items) id ≡ false → clean items id.family id.snap ≡ None
never [] id none = refl
never (item ∷ items) id none =
    let parts = has_all same_position same_position_is position_is_same (named item.family item.effects) (positions items) id
    (ap (λ list. has same_position list id) (sym (with_positions_is item.family item.effects (positions items))) ∙ none) in
    stays item.family item.effects (clean items) id parts.1 ∙ never items id parts.0

-- ---- the bytes of what is named

touched_is : (family : Family) (weight : ObjectId → ℕ) (copies : ℕ → Option ObjCopy) → ((q : ℕ) → copy_size (copies q) ≡ weight (at_snap family q))
    → (effects : List (ℕ × Effect)) → touched_bytes effects copies ≡ weighed same_position weight (named family effects)
touched_is family weight copies is [] = refl
touched_is family weight copies is (e ∷ es) = λ i. cond (snap_named family es e.0 i) 0 (is e.0 i) + touched_is family weight copies is es i

-- more by what the named copies hold then, and less by what they hold before
pub held_more : (items : List Item) (item : Item) → held (item ∷ items) ≡ held_after (held items) item.effects (clean items item.family)
unfolding held_after
held_more items item =
    let copies : ℕ → Option ObjCopy = clean items item.family in
    let old : ObjectId → ℕ = stored_size (clean items) in
    let new : ObjectId → ℕ = stored_size (clean (item ∷ items)) in
    let ks : List ObjectId = named item.family item.effects in
    let made : sum_by new (positions (item ∷ items)) ≡ sum_by new (with_all same_position ks (positions items)) =
    ap (sum_by new) (with_positions_is item.family item.effects (positions items)) in
    let all : sum_by new (with_all same_position ks (positions items)) + weighed same_position old ks ≡ sum_by old (positions items) + weighed same_position new ks =
    weighed_anew same_position same_position_is position_is_same old new ks (positions items) (apart items) (λ id none. ap copy_size (never items id none))
    (λ id none. ap copy_size (stays item.family item.effects (clean items) id none)) in
    let before : touched_bytes item.effects copies ≡ weighed same_position old ks = touched_is item.family old copies (λ q. refl) item.effects in
    let after : touched_bytes item.effects (after_effects item.effects copies) ≡ weighed same_position new ks =
    touched_is item.family new (after_effects item.effects copies)
    (λ q. ap (λ v. copy_size (cond v (after_effects item.effects copies q) (copies q))) (sym (family_is_same item.family))) item.effects in
    omega arith
