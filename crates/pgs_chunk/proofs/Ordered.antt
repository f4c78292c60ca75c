-- Ascending lists in any order: what they have, an element put at its place, and what a test leaves of them.
use Rattle.std.proofs.Common.{◌≡◌, inl, inr, Bool, true, false, cond, ◌&&◌, ◌||◌, List, [], ◌∷◌, filter, refl, sym, ap, ◌∙◌, subst}
use Rattle.std.specs.Cmp.{IsTotalOrder, tied_itself}
use Rattle.std.specs.declared.cmp.Ordering.{Ordering}
use Rattle.std.specs.declared.cmp.Ordering.TheVariants.{Less, Equal, Greater}
use Rattle.std.specs.Ordering.{is_eq, ordering_reverse, match_ordering}
use Rattle.std.specs.BTreeSet.{insert_key}
use Rattle.std.specs.List.{AllByRecursion, list_any}
use Rattle.std.specs.List.Sorted.{IsStrictlySortedBy}
use Rattle.pgs_bytes.proofs.Facts.{joined, true_false, true_or_false}
use Rattle.pgs_chunk.proofs.Lists.{all_weaker}

least_less : Less ≡ Greater → ⊥
least_less e = cc

pub or_right : (a b : Bool) → a ≡ false → (a || b) ≡ true → b ≡ true
or_right true b p q = absurd (true_false p)
or_right false b p q = q

pub or_left : (a b : Bool) → a ≡ true → (a || b) ≡ true
or_left true b p = refl
or_left false b p = absurd (true_false (sym p))

pub or_second : (a b : Bool) → b ≡ true → (a || b) ≡ true
or_second true b p = refl
or_second false b p = p

or_again : (a b c : Bool) → a ≡ b → (a || c) ≡ (b || (a || c))
or_again true true c p = refl
or_again true false c p = absurd (true_false p)
or_again false true c p = absurd (true_false (sym p))
or_again false false c p = refl

or_turned : (a b c : Bool) → (a || (b || c)) ≡ (b || (a || c))
or_turned true true c = refl
or_turned true false c = refl
or_turned false b c = refl

nothing_of : (a : Bool) → false ≡ (a && false)
nothing_of true = refl
nothing_of false = refl

module _ {X : Type 0} (R : X → X → Ordering) (o : IsTotalOrder R) (S : X → X → Bool) (ties : (a b : X) → is_eq (R a b) ≡ S a b) (exact : (a b : X) → S a b ≡ true → a ≡ b) where
  abbrev pub has : X → List X → Bool
  has x xs = list_any (S x) xs

  abbrev pub Up : List X → Type 0
  Up xs = IsStrictlySortedBy R xs

  itself : (x : X) → S x x ≡ true
  itself x = sym (ties x x) ∙ ap is_eq (tied_itself o x)

  less_apart : (a b : X) → R a b ≡ Less → S a b ≡ false
  less_apart a b l = sym (ties a b) ∙ ap is_eq l

  greater_from : (a b : X) → R a b ≡ Less → R b a ≡ Greater
  greater_from a b l = o.antisymm b a ∙ ap ordering_reverse l

  less_from_greater : (a b : X) → R a b ≡ Greater → R b a ≡ Less
  less_from_greater a b g = o.antisymm b a ∙ ap ordering_reverse g

  equal_from : (a b : X) → R a b ≡ Equal → a ≡ b
  equal_from a b e = exact a b (sym (ties a b) ∙ ap is_eq e)

  -- what all have an element has
  pub has_all : (P : X → Type 0) (xs : List X) → AllByRecursion P xs → (x : X) → has x xs ≡ true → P x
  has_all P [] h x e = absurd (true_false (sym e))
  has_all P (y ∷ xs) h x e =
      elim (true_or_false (S x y)) [
        | inl same ↦ subst P (sym (exact x y same)) h.0
        | inr other ↦ has_all P xs h.1 x (or_right (S x y) (has x xs) other e)
      ]

  pub has_head : (x : X) (xs : List X) → has x (x ∷ xs) ≡ true
  has_head x xs = or_left (S x x) (has x xs) (itself x)

  not_behind : (x : X) (xs : List X) → AllByRecursion (λ y. R x y ≡ Less) xs → has x xs ≡ false
  not_behind x [] h = refl
  not_behind x (y ∷ xs) h = ap (λ b. b || has x xs) (less_apart x y h.0) ∙ not_behind x xs h.1

  heads_are : (x : X) (xs : List X) (y : X) (ys : List X) → Up (x ∷ xs) → Up (y ∷ ys) → has x (y ∷ ys) ≡ true → has y (x ∷ xs) ≡ true → x ≡ y
  unfolding IsStrictlySortedBy
  heads_are x xs y ys h k p q =
      elim (true_or_false (S x y)) [
        | inl same ↦ exact x y same
        | inr other ↦ elim (true_or_false (S y x)) [
          | inl same ↦ sym (exact y x same)
          | inr apart ↦
              let below : R y x ≡ Less = has_all (λ z. R y z ≡ Less) ys k.0 x (or_right (S x y) (has x ys) other p) in
              let above : R x y ≡ Less = has_all (λ z. R x z ≡ Less) xs h.0 y (or_right (S y x) (has y xs) apart q) in
              absurd (least_less (sym below ∙ greater_from x y above))
        ]
      ]

  rest_has : (x : X) (xs ys : List X) → has x xs ≡ false → has x ys ≡ false → ((q : X) → has q (x ∷ xs) ≡ has q (x ∷ ys)) → (q : X) → has q xs ≡ has q ys
  rest_has x xs ys n m f q =
      elim (true_or_false (S q x)) [
        | inl same ↦ ap (λ z. has z xs) (exact q x same) ∙ n ∙ sym m ∙ ap (λ z. has z ys) (sym (exact q x same))
        | inr other ↦ sym (ap (λ b. b || has q xs) other) ∙ f q ∙ ap (λ b. b || has q ys) other
      ]

  -- two ascending lists with the same elements are the same
  pub same_elements : (xs ys : List X) → Up xs → Up ys → ((q : X) → has q xs ≡ has q ys) → xs ≡ ys
  unfolding IsStrictlySortedBy
  same_elements [] [] h k f = refl
  same_elements [] (y ∷ ys) h k f = absurd (true_false (sym (f y ∙ has_head y ys)))
  same_elements (x ∷ xs) [] h k f = absurd (true_false (sym (has_head x xs) ∙ f x))
  same_elements (x ∷ xs) (y ∷ ys) h k f =
      let e : x ≡ y = heads_are x xs y ys h k (sym (f x) ∙ has_head x xs) (f y ∙ has_head y ys) in
      let n : has x ys ≡ false = ap (λ z. has z ys) e ∙ not_behind y ys k.0 in
      let g : (q : X) → has q (x ∷ xs) ≡ has q (x ∷ ys) = λ q. f q ∙ ap (λ z. has q (z ∷ ys)) (sym e) in
      (λ i. e i ∷ same_elements xs ys h.1 k.1 (rest_has x xs ys (not_behind x xs h.0) n g) i)

  -- ---- an element at its place

  placed_all : (P : X → Type 0) (k : X) (xs : List X) → P k → AllByRecursion P xs → AllByRecursion P (insert_key R xs k)
  placed_all P k [] p h = (p, tt)
  placed_all P k (x ∷ xs) p h =
      let Q : Ordering → Type 0 = λ r. AllByRecursion P (match_ordering r (k ∷ x ∷ xs) (x ∷ xs) (x ∷ insert_key R xs k)) in
      elim (R k x) as Q [ Less ↦ (p, h) | Equal ↦ h | Greater ↦ (h.0, placed_all P k xs p h.1) ]

  placed_by : (k x : X) (xs : List X) → Up (x ∷ xs) → Up (insert_key R xs k) → (r : Ordering) → R k x ≡ r
      → Up (match_ordering r (k ∷ x ∷ xs) (x ∷ xs) (x ∷ insert_key R xs k))
  unfolding IsStrictlySortedBy
  placed_by k x xs h more Less e = ((e, all_weaker (λ y. R x y ≡ Less) (λ y. R k y ≡ Less) (λ y l. o.trans k x y e l) xs h.0), h)
  placed_by k x xs h more Equal e = h
  placed_by k x xs h more Greater e = (placed_all (λ y. R x y ≡ Less) k xs (less_from_greater k x e) h.0, more)

  pub placed_up : (k : X) (xs : List X) → Up xs → Up (insert_key R xs k)
  unfolding IsStrictlySortedBy
  placed_up k [] h = (tt, tt)
  placed_up k (x ∷ xs) h = placed_by k x xs h (placed_up k xs h.1) (R k x) refl

  placed_has_by : (k q x : X) (xs : List X) → has q (insert_key R xs k) ≡ (S q k || has q xs) → (r : Ordering) → R k x ≡ r
      → has q (match_ordering r (k ∷ x ∷ xs) (x ∷ xs) (x ∷ insert_key R xs k)) ≡ (S q k || (S q x || has q xs))
  placed_has_by k q x xs more Less e = refl
  placed_has_by k q x xs more Equal e = or_again (S q x) (S q k) (has q xs) (ap (S q) (sym (equal_from k x e)))
  placed_has_by k q x xs more Greater e = ap (λ b. S q x || b) more ∙ or_turned (S q x) (S q k) (has q xs)

  pub placed_has : (k q : X) (xs : List X) → has q (insert_key R xs k) ≡ (S q k || has q xs)
  placed_has k q [] = refl
  placed_has k q (x ∷ xs) = placed_has_by k q x xs (placed_has k q xs) (R k x) refl

  -- ---- what a test leaves

  kept_has : (p : X → Bool) (q x : X) (xs : List X) → has q (filter p xs) ≡ (p q && has q xs) → (b : Bool) → p x ≡ b
      → (c : Bool) → S q x ≡ c → has q (cond b (x ∷ filter p xs) (filter p xs)) ≡ (p q && (c || has q xs))
  kept_has p q x xs more true e true s = or_left (S q x) (has q (filter p xs)) s ∙ sym (joined (p q) true (ap p (exact q x s) ∙ e) refl)
  kept_has p q x xs more true e false s = ap (λ c. c || has q (filter p xs)) s ∙ more
  kept_has p q x xs more false e true s =
      let out : p q ≡ false = ap p (exact q x s) ∙ e in
      more ∙ ap (λ b. b && has q xs) out ∙ sym (ap (λ b. b && true) out)
  kept_has p q x xs more false e false s = more

  pub filter_has : (p : X → Bool) (q : X) (xs : List X) → has q (filter p xs) ≡ (p q && has q xs)
  filter_has p q [] = nothing_of (p q)
  filter_has p q (x ∷ xs) = kept_has p q x xs (filter_has p q xs) (p x) refl (S q x) refl
