-- What the numbers of a log tell of its items.
use Rattle.std.proofs.Common.{ℕ, ◌≡◌, ◌+◌, ◌≤◌, Bool, true, false, cond, List, [], ◌∷◌, length, refl, sym, ap, ◌∙◌, arith}
use Rattle.std.specs.Prelude.{nat_lt, max}
use Rattle.std.specs.List.{filter}
use Rattle.std.proofs.lemmas.Bool.Decides.{nat_tests}
use Rattle.pgs_medium.specs.declared.item.Item.{Item}
use Rattle.pgs_range.specs.Ranges.{in_range}
use Rattle.pgs_range.specs.declared.family_range.FamilyRange.{FamilyRange}
use Rattle.pgs_op_log.specs.Logs.{AreNumbered, is_above, newer, newest_in, greatest_in}

not_above : (from n m : ℕ) → n ≡ m + 1 → m + 1 ≤ from → nat_lt from n ≡ false
not_above from n m e p = grind (arith, nat_tests)

below : (from n m : ℕ) → nat_lt from n ≡ false → n ≡ m + 1 → m ≤ from
below from n m e p = grind (arith, nat_tests)

length_more : (item : Item) (items : List Item) → length (item ∷ items) ≡ length items + 1
length_more item items = grind arith

shorter : (m from : ℕ) → m + 1 ≤ from → m ≤ from
shorter m from e = omega arith

none_above : (from : ℕ) (items : List Item) → AreNumbered items → length items ≤ from → filter (is_above from) items ≡ []
none_above from [] numbered e = refl
none_above from (item ∷ items) numbered e =
    let within : length items + 1 ≤ from = rw (← length_more item items) e in
    ap (λ b. cond b (item ∷ filter (is_above from) items) (filter (is_above from) items)) (not_above from item.number (length items) numbered.0 within)
    ∙ none_above from items numbered.1 (shorter (length items) from within)

-- the newer items are all that have higher numbers
pub newer_is : (from : ℕ) (items : List Item) → AreNumbered items → newer from items ≡ filter (is_above from) items
newer_is from [] numbered = refl
newer_is from (item ∷ items) numbered =
    let P : Bool → Type 0 = λ v. nat_lt from item.number ≡ v → cond v (item ∷ newer from items) [] ≡ cond v (item ∷ filter (is_above from) items) (filter (is_above from) items) in
    (elim (nat_lt from item.number) as P [
      | true ↦ λ e. ap (λ (xs : List Item). item ∷ xs) (newer_is from items numbered.1)
      | false ↦ λ e. sym (none_above from items numbered.1 (below from item.number (length items) e numbered.0))
    ]) refl

at_most : (m n k l : ℕ) → m ≤ l + 1 → k ≤ l → n ≡ l + 1 → max m k ≤ n
at_most m n k l p q e = omega arith

greater : (n k l : ℕ) → n ≡ l + 1 → k ≤ l → n ≡ max n k
greater n k l e p = omega arith

only : (k : ℕ) → k ≡ max 0 k
only k = omega arith

within_number : (b : Bool) (n l : ℕ) → n ≡ l + 1 → cond b n 0 ≤ l + 1
within_number true n l e = omega arith
within_number false n l e = omega arith

-- no number is above the length
pub greatest_within : (range : FamilyRange) (items : List Item) → AreNumbered items → greatest_in range items ≤ length items
greatest_within range [] numbered = omega arith
greatest_within range (item ∷ items) numbered =
    at_most (cond (in_range range item.family) item.number 0) (length (item ∷ items)) (greatest_in range items) (length items)
    (within_number (in_range range item.family) item.number (length items) numbered.0)
    (greatest_within range items numbered.1) (length_more item items)

-- the newest item has the greatest number
pub newest_is : (range : FamilyRange) (items : List Item) → AreNumbered items → newest_in range items ≡ greatest_in range items
newest_is range [] numbered = refl
newest_is range (item ∷ items) numbered =
    elim (in_range range item.family) as (λ v. cond v item.number (newest_in range items) ≡ max (cond v item.number 0) (greatest_in range items)) [
      | true ↦ greater item.number (greatest_in range items) (length items) numbered.0 (greatest_within range items numbered.1)
      | false ↦ newest_is range items numbered.1 ∙ only (greatest_in range items)
    ]
