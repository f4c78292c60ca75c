-- The positions of a history are those at which a copy is stored.
use Rattle.std.proofs.Common.{ℕ, ◌≡◌, inl, inr, Bool, true, false, cond, nat_eq, ◌==◌, ◌&&◌, List, [], ◌∷◌, Option, Some, None, refl, sym, ap, ◌∙◌, arith}
use Rattle.std.specs.Prelude.{is_some}
use Rattle.std.specs.List.{list_any}
use Rattle.std.proofs.lemmas.Bool.Decides.{nat_tests}
use Rattle.pgs_bytes.proofs.Facts.{joined, true_false, true_or_false}
use Rattle.pgs_name.specs.Families.{Family, same_family}
use Rattle.pgs_name.specs.Positions.{same_position}
use Rattle.pgs_name.specs.declared.object_id.ObjectId.{ObjectId}
use Rattle.pgs_name.specs.declared.object_id.TheConstants.{HEAD}
use Rattle.pgs_name.proofs.Families.{same_family_is, family_is_same}
use Rattle.pgs_copy.specs.Copies.{after_effect, after_effects, damaged, affected as affected_copy}
use Rattle.pgs_copy.specs.declared.damage.Damage.{Damage}
use Rattle.pgs_copy.specs.declared.effect.Effect.{Effect}
use Rattle.pgs_copy.specs.declared.obj_copy.ObjCopy.{ObjCopy}
use Rattle.pgs_chunk.specs.Positions.{Ascends}
use Rattle.pgs_chunk.specs.Listings.{placed, IsListOf}
use Rattle.pgs_chunk.proofs.Members.{placed_ascends, placed_has, filter_has, filter_ascends, none_ascend}
use Rattle.pgs_chunk.proofs.Ordered.{or_left, or_second}
use Rattle.pgs_store.specs.Firsts.{at_snap}
use Rattle.pgs_store.specs.Stores.{Stored, is_stored, harmed}
use Rattle.pgs_medium.specs.declared.item.Item.{Item}
use Rattle.pgs_shard_history.specs.Feeds.{fed, item_of}
use Rattle.pgs_shard_history.specs.Stores.{after_item, stored_by}
use Rattle.pgs_shard_history.specs.Positions.{with_named, with_item, touched, positions}
use Rattle.pgs_shard_history.specs.declared.damage_answer.DamageAnswer.TheVariants as answers
use Rattle.pgs_shard_history.specs.declared.event.Event.{Event}
use Rattle.pgs_shard_history.specs.declared.event.Event.TheVariants.{Fed, Applied, DeviceFault, ListFailed, Scanned, Handed, Damaged}

abbrev has : ObjectId → List ObjectId → Bool
has id ids = list_any (same_position id) ids

same_snap : (a b : ℕ) → (a == b) ≡ true → nat_eq b a ≡ true
same_snap a b e = grind (arith, nat_tests)

-- a position of this family and snap
at_same : (family : Family) (snap : ℕ) (id : ObjectId) → same_family family id.family ≡ true → (snap == id.snap) ≡ true → same_position id (at_snap family snap) ≡ true
at_same family snap id f s =
    let one : family ≡ id.family = same_family_is family id.family f in
    joined (same_family id.family family) (nat_eq id.snap snap) (ap (same_family id.family) one ∙ family_is_same id.family) (same_snap snap id.snap s)

in_front : (id at : ObjectId) (ids : List ObjectId) → same_position id at ≡ true → has id (placed at ids) ≡ true
in_front id at ids e = placed_has at id ids ∙ or_left (same_position id at) (has id ids) e

still : (id at : ObjectId) (ids : List ObjectId) → has id ids ≡ true → has id (placed at ids) ≡ true
still id at ids e = placed_has at id ids ∙ or_second (same_position id at) (has id ids) e

-- a copy that is there after effects was there before, or one of them named it
named_has : (family : Family) (effects : List (ℕ × Effect)) (copies : ℕ → Option ObjCopy) (before : List ObjectId) (id : ObjectId) → same_family family id.family ≡ true
    → (is_some (copies id.snap) ≡ true → has id before ≡ true) → is_some (after_effects effects copies id.snap) ≡ true → has id (with_named family effects before) ≡ true
named_has family [] copies before id f old there = old there
named_has family (e ∷ es) copies before id f old there =
    elim (true_or_false (e.0 == id.snap)) [
      | inl s ↦ in_front id (at_snap family e.0) (with_named family es before) (at_same family e.0 id f s)
      | inr s ↦ still id (at_snap family e.0) (with_named family es before)
          (named_has family es (after_effect e.0 e.1 copies) before id f
          (λ now. old (sym (ap (λ b. is_some (cond b (affected_copy e.1 (copies HEAD) (copies id.snap)) (copies id.snap))) s) ∙ now)) there)
    ]

-- no position is lost where more are named
named_still : (family : Family) (effects : List (ℕ × Effect)) (before : List ObjectId) (id : ObjectId) → has id before ≡ true → has id (with_named family effects before) ≡ true
named_still family [] before id h = h
named_still family (e ∷ es) before id h = still id (at_snap family e.0) (with_named family es before) (named_still family es before id h)

item_has : (asked : Option Item) (stored : Stored) (before : List ObjectId) (id : ObjectId) → (is_stored stored id ≡ true → has id before ≡ true)
    → is_stored (after_item asked stored) id ≡ true → has id (with_item asked before) ≡ true
item_has None stored before id old there = old there
item_has (Some item) stored before id old there =
    elim (true_or_false (same_family item.family id.family)) [
      | inl f ↦ named_has item.family item.effects (stored id.family) before id f old
          (sym (ap (λ b. is_some (cond b (after_effects item.effects (stored id.family) id.snap) (stored id.family id.snap))) f) ∙ there)
      | inr f ↦ named_still item.family item.effects before id
          (old (sym (ap (λ b. is_some (cond b (after_effects item.effects (stored id.family) id.snap) (stored id.family id.snap))) f) ∙ there))
    ]

harmed_has : (family : Family) (snap : ℕ) (damage : Damage) (stored : Stored) (before : List ObjectId) (id : ObjectId) → (is_stored stored id ≡ true → has id before ≡ true)
    → is_stored (harmed family snap damage stored) id ≡ true → has id (placed (at_snap family snap) before) ≡ true
harmed_has family snap damage stored before id old there =
    let copy : Option ObjCopy = stored id.family id.snap in
    elim (true_or_false (same_family family id.family)) [
      | inr f ↦ still id (at_snap family snap) before
          (old (sym (ap (λ b. is_some (cond b (cond (snap == id.snap) (damaged damage copy) copy) copy)) f) ∙ there))
      | inl f ↦ elim (true_or_false (snap == id.snap)) [
        | inl s ↦ in_front id (at_snap family snap) before (at_same family snap id f s)
        | inr s ↦ still id (at_snap family snap) before
            (old (sym (ap (λ b. is_some (cond b (damaged damage copy) copy)) s) ∙ sym (ap (λ b. is_some (cond b (cond (snap == id.snap) (damaged damage copy) copy) copy)) f) ∙ there))
      ]
    ]

-- what is stored was named
touched_has : (past : List Event) (id : ObjectId) → is_stored (stored_by past) id ≡ true → has id (touched past) ≡ true
touched_has [] id there = absurd (true_false (sym there))
touched_has (Fed from items ask ∷ past) id there = touched_has past id there
touched_has (Applied number drops ∷ past) id there = item_has (item_of number (fed past)) (stored_by past) (touched past) id (touched_has past id) there
touched_has (DeviceFault count ∷ past) id there = touched_has past id there
touched_has (ListFailed count ∷ past) id there = touched_has past id there
touched_has (Scanned event ∷ past) id there = touched_has past id there
touched_has (Handed ∷ past) id there = touched_has past id there
touched_has (Damaged family snap damage answers.Damaged ∷ past) id there = harmed_has family snap damage (stored_by past) (touched past) id (touched_has past id) there
touched_has (Damaged family snap damage answers.BeingRead ∷ past) id there = touched_has past id there
touched_has (Damaged family snap damage (answers.ShardFull bytes) ∷ past) id there = touched_has past id there

named_ascends : (family : Family) (effects : List (ℕ × Effect)) (before : List ObjectId) → Ascends before → Ascends (with_named family effects before)
named_ascends family [] before h = h
named_ascends family (e ∷ es) before h = placed_ascends (at_snap family e.0) (with_named family es before) (named_ascends family es before h)

item_ascends : (asked : Option Item) (before : List ObjectId) → Ascends before → Ascends (with_item asked before)
item_ascends None before h = h
item_ascends (Some item) before h = named_ascends item.family item.effects before h

touched_ascends : (past : List Event) → Ascends (touched past)
touched_ascends [] = none_ascend
touched_ascends (Fed from items ask ∷ past) = touched_ascends past
touched_ascends (Applied number drops ∷ past) = item_ascends (item_of number (fed past)) (touched past) (touched_ascends past)
touched_ascends (DeviceFault count ∷ past) = touched_ascends past
touched_ascends (ListFailed count ∷ past) = touched_ascends past
touched_ascends (Scanned event ∷ past) = touched_ascends past
touched_ascends (Handed ∷ past) = touched_ascends past
touched_ascends (Damaged family snap damage answers.Damaged ∷ past) = placed_ascends (at_snap family snap) (touched past) (touched_ascends past)
touched_ascends (Damaged family snap damage answers.BeingRead ∷ past) = touched_ascends past
touched_ascends (Damaged family snap damage (answers.ShardFull bytes) ∷ past) = touched_ascends past

held_only : (held there : Bool) → (held ≡ true → there ≡ true) → (held && there) ≡ held
held_only true there f = f refl
held_only false there f = refl

pub are_positions : (past : List Event) → IsListOf (is_stored (stored_by past)) (positions past)
are_positions past = record {
  ascends = filter_ascends (is_stored (stored_by past)) (touched past) (touched_ascends past);
  members = λ id. filter_has (is_stored (stored_by past)) id (touched past) ∙ held_only (is_stored (stored_by past) id) (has id (touched past)) (touched_has past id);
}
