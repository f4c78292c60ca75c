-- Items that are numbered.
use Rattle.std.proofs.Common.{◌≡◌, ℕ, ◌+◌, ◌<◌, ◌≤◌, ◌==◌, Bool, true, false, cond, List, [], ◌∷◌, ◌++◌, length, drop, reverse, Some, slice_get, nat_lt, get_or, max, refl, sym, ap, subst, ◌∙◌, arith, zero, suc}
use Rattle.std.proofs.lemmas.Bool.Decides.{nat_tests}
use Rattle.std.proofs.lemmas.List.{append_assoc, drop_more, length-reverse}
use Rattle.std.proofs.lemmas.Grind.{reverse_onto}
use Rattle.pgs_medium.specs.declared.item.Item.{Item}
use Rattle.pgs_shard_history.specs.Feeds.{AreNext, AreNumbered, beyond, item_of}

-- one item more in front of a list that is reversed
onto : (x : Item) (xs ys : List Item) → reverse (x ∷ xs) ++ ys ≡ reverse xs ++ x ∷ ys
onto x xs ys = ap (λ l. l ++ ys) (reverse_onto xs x []) ∙ append_assoc (reverse xs) (x ∷ []) ys

numbered_on : (last from : ℕ) (items before : List Item) → AreNext from items → AreNumbered before → length before ≡ max last from → AreNumbered (reverse (beyond last items) ++ before)
numbered_on last from [] before next numbered len = numbered
numbered_on last from (x ∷ items) before next numbered len =
    let P : Bool → Type 0 = λ v. nat_lt last x.number ≡ v → AreNumbered (reverse (cond v (x ∷ beyond last items) (beyond last items)) ++ before) in
    (elim (nat_lt last x.number) as P [
      | true ↦ λ h. subst AreNumbered (sym (onto x (beyond last items) before))
          (numbered_on last (from + 1) items (x ∷ before) next.1 (grind (arith, nat_tests, h, next.0, len), numbered) (grind (arith, nat_tests, h, next.0, len)))
      | false ↦ λ h. numbered_on last (from + 1) items before next.1 numbered (grind (arith, nat_tests, h, next.0, len))
    ]) refl

-- what was fed stays numbered
pub numbered_more : (last from : ℕ) (items before : List Item) → AreNext from items → AreNumbered before → last ≡ length before → from ≤ length before → AreNumbered (reverse (beyond last items) ++ before)
numbered_more last from items before next numbered l f = numbered_on last from items before next numbered (omega (arith, l, f))

get_last : {A : Type 0} (xs : List A) (x : A) → slice_get (xs ++ x ∷ []) (length xs) ≡ Some x
get_last [] x = refl
get_last (y ∷ xs) x = get_last xs x

get_before : {A : Type 0} (xs ys : List A) (i : ℕ) → i < length xs → slice_get (xs ++ ys) i ≡ slice_get xs i
get_before [] ys i below = absurd (omega (arith, below))
get_before (x ∷ xs) ys zero below = refl
get_before (x ∷ xs) ys (suc i) below = get_before xs ys i (omega (arith, below))

found_in : (at : ℕ) (before : List Item) → AreNumbered before → at < length before → slice_get (reverse before) at ≡ item_of (at + 1) before
found_in at [] numbered below = absurd (omega (arith, below))
found_in at (x ∷ xs) numbered below =
    let P : Bool → Type 0 = λ v. (x.number == at + 1) ≡ v → slice_get (reverse xs ++ x ∷ []) at ≡ cond v (Some x) (item_of (at + 1) xs) in
    let len : length (reverse xs) ≡ length xs = length-reverse xs in
    ap (λ l. slice_get l at) (reverse_onto xs x [])
    ∙ (elim (x.number == at + 1) as P [
      | true ↦ λ h.
          let is : at ≡ length (reverse xs) = grind (arith, nat_tests, h, numbered.0, len) in
          ap (slice_get (reverse xs ++ x ∷ [])) is ∙ get_last (reverse xs) x
      | false ↦ λ h.
          let within : at < length xs = grind (arith, nat_tests, h, numbered.0, below) in
          get_before (reverse xs) (x ∷ []) at (omega (arith, len, within)) ∙ found_in at xs numbered.1 within
    ]) refl

-- the item at a place is that of the number one above
pub found : (at : ℕ) (items before : List Item) → items ≡ reverse before → AreNumbered before → at < length items → slice_get items at ≡ item_of (at + 1) before
found at items before is numbered below =
    let len : length items ≡ length before = ap length is ∙ length-reverse before in
    ap (λ l. slice_get l at) is ∙ found_in at before numbered (omega (arith, len, below))

-- one item further
pub beyond_more : (last i : ℕ) (items copies : List Item) (item : Item) → i < length items → item ≡ get_or items i item
    → copies ++ beyond last (drop i items) ≡ copies ++ cond (nat_lt last item.number) (item ∷ beyond last (drop (i + 1) items)) (beyond last (drop (i + 1) items))
beyond_more last i items copies item below is = ap (λ l. copies ++ beyond last l) (drop_more items i item below ∙ ap (λ x. x ∷ drop (i + 1) items) (sym is))
