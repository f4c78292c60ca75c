-- The items of a log up to a number, and those above it.
use Rattle.std.proofs.Common.{◌≡◌, ℕ, suc, ◌+◌, ◌<◌, ◌≤◌, nat_lt, nat_le, Bool, true, false, cond, List, [], ◌∷◌, ◌++◌, length, reverse, refl, sym, ap, ◌∙◌, subst, arith}
use Rattle.std.specs.List.{filter}
use Rattle.std.proofs.lemmas.Bool.Decides.{nat_tests}
use Rattle.std.proofs.lemmas.List.{length-reverse, reverse-reverse}
use Rattle.std.proofs.lemmas.Grind.{reverse_onto}
use Rattle.pgs_medium.specs.declared.item.Item.{Item}
use Rattle.pgs_op_log.specs.Logs.{AreNumbered, newer}
use Rattle.pgs_history.specs.Facts.{upto}
use Rattle.pgs_shard_history.specs.Feeds.{AreNext, beyond}

-- an item above the number is passed over
pub upto_over : (n : ℕ) (item : Item) (items : List Item) → n < item.number → upto n (item ∷ items) ≡ upto n items
upto_over n item items over = ap (λ v. cond v (item ∷ items) (upto n items)) (let no : nat_le item.number n ≡ false = grind (arith, nat_tests, over) in no)

pub upto_all : (n : ℕ) (items : List Item) → AreNumbered items → length items ≤ n → upto n items ≡ items
upto_all n [] numbered all = refl
upto_all n (item ∷ items) numbered all =
    let size : suc (length items) ≤ n = all in
    let yes : nat_le item.number n ≡ true = grind (arith, nat_tests, numbered.0, size) in
    ap (λ v. cond v (item ∷ items) (upto n items)) yes

pub length_upto : (n : ℕ) (items : List Item) → AreNumbered items → n ≤ length items → length (upto n items) ≡ n
length_upto n [] numbered within = omega arith
length_upto n (item ∷ items) numbered within =
    let size : n ≤ suc (length items) = within in
    let P : Bool → Type 0 = λ v. nat_le item.number n ≡ v → length (cond v (item ∷ items) (upto n items)) ≡ n in
    (elim (nat_le item.number n) as P [
      | true ↦ λ e. let is : suc (length items) ≡ n = grind (arith, nat_tests, e, numbered.0, size) in is
      | false ↦ λ e. length_upto n items numbered.1 (grind (arith, nat_tests, e, numbered.0, size))
    ]) refl

-- the items above a number, and then those up to it, are all
pub newer-upto : (n : ℕ) (items : List Item) → newer n items ++ upto n items ≡ items
newer-upto n [] = refl
newer-upto n (item ∷ items) =
    let P : Bool → Type 0 = λ v. nat_lt n item.number ≡ v → cond v (item ∷ newer n items) [] ++ upto n (item ∷ items) ≡ item ∷ items in
    (elim (nat_lt n item.number) as P [
      | true ↦ λ e. ap (λ rest. item ∷ newer n items ++ rest) (upto_over n item items (grind (arith, nat_tests, e))) ∙ ap (λ rest. item ∷ rest) (newer-upto n items)
      | false ↦ λ e. ap (λ v. cond v (item ∷ items) (upto n items)) (let yes : nat_le item.number n ≡ true = grind (arith, nat_tests, e) in yes)
    ]) refl

-- ---- items that a member pulls

filter_last : (test : Item → Bool) (items : List Item) (item : Item) → filter test items ≡ items → test item ≡ true → filter test (items ++ item ∷ []) ≡ items ++ item ∷ []
filter_last test [] item all passes = ap (λ v. cond v (item ∷ []) []) passes
filter_last test (x ∷ items) item all passes =
    let P : Bool → Type 0 = λ v. cond v (x ∷ filter test items) (filter test items) ≡ x ∷ items → cond v (x ∷ filter test (items ++ item ∷ [])) (filter test (items ++ item ∷ [])) ≡ x ∷ items ++ item ∷ [] in
    (elim (test x) as P [
      | true ↦ λ e. ap (λ rest. x ∷ rest) (filter_last test items item (tail_same x (filter test items) items e) passes)
      | false ↦ λ e. absurd (too_long test x items e)
    ]) all
  where
    tail_same : (y : Item) (xs ys : List Item) → y ∷ xs ≡ y ∷ ys → xs ≡ ys
    tail_same y xs ys e = cc

    shorter : (t : Item → Bool) (xs : List Item) → length (filter t xs) ≤ length xs
    shorter t [] = omega arith
    shorter t (y ∷ xs) =
        let rest : length (filter t xs) ≤ length xs = shorter t xs in
        (elim (t y) as (λ v. length (cond v (y ∷ filter t xs) (filter t xs)) ≤ suc (length xs)) [
          | true ↦ let more : suc (length (filter t xs)) ≤ suc (length xs) = omega arith in more
          | false ↦ omega arith
        ])

    too_long : (t : Item → Bool) (y : Item) (xs : List Item) → filter t xs ≡ y ∷ xs → ⊥
    too_long t y xs e = let size : length (filter t xs) ≡ suc (length xs) = ap length e in let most : length (filter t xs) ≤ length xs = shorter t xs in omega arith

-- all of them are above what was pulled
pub beyond_newer : (n : ℕ) (items : List Item) → beyond n (reverse (newer n items)) ≡ reverse (newer n items)
beyond_newer n [] = refl
beyond_newer n (item ∷ items) =
    let P : Bool → Type 0 = λ v. nat_lt n item.number ≡ v → beyond n (reverse (cond v (item ∷ newer n items) [])) ≡ reverse (cond v (item ∷ newer n items) []) in
    (elim (nat_lt n item.number) as P [
      | true ↦ λ e.
          let turned : reverse (item ∷ newer n items) ≡ reverse (newer n items) ++ item ∷ [] = reverse_onto (newer n items) item [] in
          ap (beyond n) turned ∙ filter_last (λ i. nat_lt n i.number) (reverse (newer n items)) item (beyond_newer n items) e ∙ sym turned
      | false ↦ λ e. refl
    ]) refl

next_last : (from : ℕ) (items : List Item) (item : Item) → AreNext from items → item.number ≡ from + length items + 1 → AreNext from (items ++ item ∷ [])
next_last from [] item next is = (omega (arith, is), tt)
next_last from (x ∷ items) item next is = (next.0, next_last (from + 1) items item next.1 (let size : item.number ≡ from + suc (length items) + 1 = is in omega arith))

length_newer : (n : ℕ) (items : List Item) → AreNumbered items → n ≤ length items → n + length (newer n items) ≡ length items
length_newer n [] numbered within = omega arith
length_newer n (item ∷ items) numbered within =
    let size : n ≤ suc (length items) = within in
    let P : Bool → Type 0 = λ v. nat_lt n item.number ≡ v → n + length (cond v (item ∷ newer n items) []) ≡ suc (length items) in
    (elim (nat_lt n item.number) as P [
      | true ↦ λ e. let rest : n + length (newer n items) ≡ length items = length_newer n items numbered.1 (grind (arith, nat_tests, e, numbered.0)) in
          let more : n + suc (length (newer n items)) ≡ suc (length items) = omega arith in more
      | false ↦ λ e. let is : n + 0 ≡ suc (length items) = grind (arith, nat_tests, e, numbered.0, size) in is
    ]) refl

-- they have the next numbers
pub next_newer : (n : ℕ) (items : List Item) → AreNumbered items → n ≤ length items → AreNext n (reverse (newer n items))
next_newer n [] numbered within = tt
next_newer n (item ∷ items) numbered within =
    let P : Bool → Type 0 = λ v. nat_lt n item.number ≡ v → AreNext n (reverse (cond v (item ∷ newer n items) [])) in
    (elim (nat_lt n item.number) as P [
      | true ↦ λ e.
          let inner : n ≤ length items = grind (arith, nat_tests, e, numbered.0) in
          let size : n + length (newer n items) ≡ length items = length_newer n items numbered.1 inner in
          let turned : reverse (item ∷ newer n items) ≡ reverse (newer n items) ++ item ∷ [] = reverse_onto (newer n items) item [] in
          let len : length (reverse (newer n items)) ≡ length (newer n items) = length-reverse (newer n items) in
          subst (AreNext n) (sym turned) (next_last n (reverse (newer n items)) item (next_newer n items numbered.1 inner) (omega (arith, numbered.0, size, len)))
      | false ↦ λ e. tt
    ]) refl

-- what was fed up to a number, and is then fed the items above it, is the whole log
pub fed_all : (n : ℕ) (items fed : List Item) → AreNumbered items → n ≤ length items → fed ≡ upto n items
    → reverse (beyond (length fed) (reverse (newer n items))) ++ fed ≡ upto (length items) items
fed_all n items fed numbered within is =
    let size : length fed ≡ n = ap length is ∙ length_upto n items numbered within in
    (λ i. reverse (beyond (size i) (reverse (newer n items))) ++ is i)
    ∙ ap (λ xs. reverse xs ++ upto n items) (beyond_newer n items)
    ∙ ap (λ xs. xs ++ upto n items) (reverse-reverse (newer n items))
    ∙ newer-upto n items
    ∙ sym (upto_all (length items) items numbered (omega arith))
