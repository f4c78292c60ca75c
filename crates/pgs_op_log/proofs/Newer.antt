-- The items with higher numbers are those behind a place.
use Rattle.std.proofs.Common.{ℕ, ◌≡◌, ◌+◌, ◌≤◌, List, [], ◌∷◌, ◌++◌, length, take, drop, ◌-◌, length-drop, refl, sym, ap, ◌∙◌, arith}
use Rattle.std.specs.Prelude.{nat_lt, Bool, true, false, cond, reverse, min}
use Rattle.std.proofs.lemmas.Bool.Decides.{nat_tests}
use Rattle.std.proofs.lemmas.Grind.{reverse_onto}
use Rattle.std.proofs.Math.Seq.{take-length}
use Rattle.std.proofs.lemmas.List.{drop-append-le, drop_all, length-reverse, reverse-reverse}
use Rattle.pgs_medium.specs.declared.item.Item.{Item}
use Rattle.pgs_op_log.specs.Logs.{AreNumbered, newer}

reverse_more : (item : Item) (items : List Item) → reverse (item ∷ items) ≡ reverse items ++ item ∷ []
reverse_more item items = reverse_onto items item []

below : (from n m : ℕ) → nat_lt from n ≡ true → n ≡ m + 1 → from ≤ m
below from n m e p = grind (arith, nat_tests)

above : (from n m : ℕ) → nat_lt from n ≡ false → n ≡ m + 1 → m + 1 ≤ from
above from n m e p = grind (arith, nat_tests)

length_more : (item : Item) (items : List Item) → length (reverse (item ∷ items)) ≡ length items + 1
length_more item items = length-reverse (item ∷ items) ∙ grind arith

behind : (from : ℕ) (items : List Item) → AreNumbered items → reverse (newer from items) ≡ drop from (reverse items)
behind from [] numbered = sym (drop_all {X = Item} from [] (grind arith))
behind from (item ∷ items) numbered =
    let P : Bool → Type 0 = λ v. nat_lt from item.number ≡ v → reverse (cond v (item ∷ newer from items) []) ≡ drop from (reverse (item ∷ items)) in
    (elim (nat_lt from item.number) as P [
      | true ↦ λ e.
          let within : from ≤ length (reverse items) = rw (length-reverse items) (below from item.number (length items) e numbered.0) in
          rw (reverse_more item (newer from items), reverse_more item items, drop-append-le from (reverse items) (item ∷ []) within) (ap (λ (xs : List Item). xs ++ item ∷ []) (behind from items numbered.1))
      | false ↦ λ e. sym (drop_all from (reverse (item ∷ items)) (rw (length_more item items) (above from item.number (length items) e numbered.0)))
    ]) refl

drop_min : (from : ℕ) (items : List Item) → drop (min from (length items)) items ≡ drop from items
drop_min from items = grind (arith, drop_all)

take_rest : (at : ℕ) (items : List Item) → take (length items - at) (drop at items) ≡ drop at items
take_rest at items = rw (← length-drop at items) (take-length (drop at items))

-- the items behind the place `from` or the end, oldest first
pub tail_is : (from at : ℕ) (items : List Item) → AreNumbered (reverse items) → at ≡ min from (length items) → take (length items - at) (drop at items) ≡ reverse (newer from (reverse items))
tail_is from at items numbered is = rw (take_rest at items, is, drop_min from items, behind from (reverse items) numbered, reverse-reverse items) refl
