-- Lists in which families never fall, and which of their elements are below a family.
use Rattle.std.proofs.Common.{ℕ, suc, ◌≡◌, ◌≤◌, ◌<◌, ◌+◌, ◌⊎◌, inl, inr, Bool, true, false, cond, not, ◌&&◌, ◌||◌, nat_le, List, [], ◌∷◌, ◌++◌, length, take, drop, filter, find, Option, Some, None, refl, sym, ap, ◌∙◌, arith, subst}
use Rattle.std.specs.Cmp.{IsTotalOrder, Equal-is, alike_right, tied_itself}
use Rattle.std.specs.BTreeMap.Comparable.{le_lt_trans}
use Rattle.std.specs.declared.cmp.Ordering.{Ordering}
use Rattle.std.specs.declared.cmp.Ordering.TheVariants.{Less, Equal, Greater}
use Rattle.std.specs.Bool.{⊤}
use Rattle.std.specs.List.{AllByRecursion, list_all, list_any}
use Rattle.std.specs.Option.{MatchOption}
use Rattle.std.specs.Ordering.{is_eq, is_le, is_lt, ordering_reverse}
use Rattle.std.proofs.lemmas.Bool.Decides.{nat_tests}
use Rattle.std.proofs.lemmas.List.{append-nil, append_assoc, length-append, take-append-drop}
use Rattle.std.proofs.lemmas.List.Elements.{filter-append}
use Rattle.pgs_bytes.proofs.Facts.{both, joined, true_false, true_or_false, heads, tails}
use Rattle.pgs_chunk.proofs.Lists.{all_weaker, all_front, all_back, all_both, filter_all, filter_none, filter_shorter, all_filter, list_all_is, not_true, take_short, take_full, not_end, Found, found}

-- an order, the other way round
lt_reverse : (r : Ordering) → is_le r ≡ true → is_lt (ordering_reverse r) ≡ false
lt_reverse Less h = refl
lt_reverse Equal h = refl
lt_reverse Greater h = absurd (true_false (sym h))

pub squeezed : (r : Ordering) → is_le r ≡ true → is_le (ordering_reverse r) ≡ true → is_eq r ≡ true
squeezed Less h k = absurd (true_false (sym k))
squeezed Equal h k = refl
squeezed Greater h k = absurd (true_false (sym h))

less_or_not : (r : Ordering) → (r ≡ Less) ⊎ (is_le (ordering_reverse r) ≡ true)
less_or_not Less = inl refl
less_or_not Equal = inr refl
less_or_not Greater = inr refl

-- an element passes each test that all pass
abbrev pub In : {X : Type 0} → X → List X → Type 0
In {X} x xs = (p : X → Bool) → list_all p xs ≡ true → p x ≡ true

pub in_middle : {X : Type 0} (x : X) (front back : List X) → In x (front ++ x ∷ back)
in_middle x [] back p e = (both (p x) (list_all p back) e).0
in_middle x (z ∷ front) back p e = in_middle x front back p (both (p z) (list_all p (front ++ x ∷ back)) e).1

front_all : {X : Type 0} (p : X → Bool) (front back : List X) → list_all p (front ++ back) ≡ true → list_all p front ≡ true
front_all p [] back e = refl
front_all p (z ∷ front) back e =
    let h = both (p z) (list_all p (front ++ back)) e in
    joined (p z) (list_all p front) h.0 (front_all p front back h.1)

pub in_front : {X : Type 0} (x : X) (front back : List X) → In x front → (p : X → Bool) → list_all p (front ++ back) ≡ true → p x ≡ true
in_front x front back h p e = h p (front_all p front back e)

over_both : (n limit : ℕ) (one : Bool) → limit < n → one ≡ false → (nat_le n limit || one) ≡ false
over_both n limit one h e = grind (arith, nat_tests)

few_fit : (n limit : ℕ) (one : Bool) → n ≤ limit → (nat_le n limit || one) ≡ true
few_fit n limit one h = grind (arith, nat_tests)

one_fits : (b one : Bool) → one ≡ true → (b || one) ≡ true
one_fits true one e = refl
one_fits false one e = e

longer : {X : Type 0} (x : X) (front back : List X) (limit : ℕ) → limit ≤ length front → limit < length (front ++ x ∷ back)
longer x front back limit h =
    let e : length (front ++ x ∷ back) ≡ length front + suc (length back) = length-append front (x ∷ back) in
    omega arith

list_any_middle : {X : Type 0} (p : X → Bool) (x : X) (front back : List X) → p x ≡ true → list_any p (front ++ x ∷ back) ≡ true
list_any_middle p x [] back e = ap (λ b. b || list_any p back) e
list_any_middle p x (z ∷ front) back e = one_fits (p z) (list_any p (front ++ x ∷ back)) (list_any_middle p x front back e)

not_false : (b : Bool) → not b ≡ false → b ≡ true
not_false true e = refl
not_false false e = sym e

pub not_truth : (b : Bool) → not b ≡ true → b ≡ false
not_truth true e = sym e
not_truth false e = refl

option_weaker : {X : Type 0} (P P' : Type 0) (Q Q' : X → Type 0) → (P → P') → ((x : X) → Q x → Q' x) → (r : Option X) → MatchOption r P Q → MatchOption r P' Q'
option_weaker P P' Q Q' f g None h = f h
option_weaker P P' Q Q' f g (Some x) h = g x h

module _ {X K : Type 0} (fam : X → K) (R : K → K → Ordering) (o : IsTotalOrder R) (S : X → X → Bool) (ties : (a b : X) → S a b ≡ is_eq (R (fam a) (fam b))) where
  abbrev pub Le : K → K → Type 0
  Le a b = is_le (R a b) ≡ true

  abbrev pub under : K → List X → List X
  under y xs = filter (λ x. is_lt (R (fam x) y)) xs

  abbrev pub one : List X → Bool
  one xs = list_all (λ a. list_all (λ b. S a b) xs) xs

  abbrev pub few : ℕ → List X → Bool
  few limit xs = nat_le (length xs) limit || one xs

  -- each family is at most those behind it
  abbrev pub Rises : List X → Type 0
  Rises [] = ⊤
  Rises (x ∷ xs) = AllByRecursion (λ y. Le (fam x) (fam y)) xs × Rises xs

  rises_back : (xs ys : List X) → Rises (xs ++ ys) → Rises ys
  rises_back [] ys h = h
  rises_back (x ∷ xs) ys h = rises_back xs ys h.1

  rises_to : (xs : List X) (y : X) (ys : List X) → Rises (xs ++ y ∷ ys) → AllByRecursion (λ x. Le (fam x) (fam y)) xs
  rises_to [] y ys h = tt
  rises_to (x ∷ xs) y ys h = ((all_back (λ z. Le (fam x) (fam z)) xs (y ∷ ys) h.0).0, rises_to xs y ys h.1)

  not_under : (a b : K) → Le a b → is_lt (R b a) ≡ false
  not_under a b h = ap is_lt (o.antisymm b a) ∙ lt_reverse (R a b) h

  none_from : (y : X) (ys : List X) → Rises (y ∷ ys) → under (fam y) (y ∷ ys) ≡ []
  none_from y ys h =
      filter_none (λ z. is_lt (R (fam z) (fam y))) (y ∷ ys)
      (ap is_lt (tied_itself o (fam y)), all_weaker (λ z. Le (fam y) (fam z)) (λ z. is_lt (R (fam z) (fam y)) ≡ false) (λ z l. not_under (fam y) (fam z) l) ys h.0)

  -- what is below a family stands before it
  under_here : (front : List X) (x : X) (back : List X) → Rises (front ++ x ∷ back) → under (fam x) (front ++ x ∷ back) ≡ under (fam x) front
  under_here front x back h =
      filter-append (λ z. is_lt (R (fam z) (fam x))) front (x ∷ back)
      ∙ ap (λ l. under (fam x) front ++ l) (none_from x back (rises_back front (x ∷ back) h))
      ∙ append-nil (under (fam x) front)

  -- all up to a family are below one above it
  all_under : (e y : K) (xs : List X) → AllByRecursion (λ x. Le (fam x) e) xs → R e y ≡ Less → under y xs ≡ xs
  all_under e y xs h l =
      filter_all (λ z. is_lt (R (fam z) y)) xs
      (all_weaker (λ x. Le (fam x) e) (λ x. is_lt (R (fam x) y) ≡ true) (λ x le. ap is_lt (le_lt_trans o (fam x) e y le l)) xs h)

  under_there : (front : List X) (x : X) (back : List X) (y : K) → Rises (front ++ x ∷ back) → R (fam x) y ≡ Less
      → under y (front ++ x ∷ back) ≡ front ++ x ∷ under y back
  under_there front x back y h l =
      filter-append (λ z. is_lt (R (fam z) y)) front (x ∷ back)
      ∙ ap (λ k. k ++ under y (x ∷ back)) (all_under (fam x) y front (rises_to front x back h) l)
      ∙ ap (λ b. front ++ cond b (x ∷ under y back) (under y back)) (ap is_lt l)

  -- two of different families
  apart : (a b : X) (xs : List X) → In a xs → In b xs → S a b ≡ false → one xs ≡ false
  apart a b xs h k d = not_true (one xs) (λ e. true_false (sym (k (λ z. S a z) (h (λ w. list_all (λ z. S w z) xs) e)) ∙ d))

  equal_from : (a b : X) → S a b ≡ true → R (fam a) (fam b) ≡ Equal
  equal_from a b e = (Equal-is (R (fam a) (fam b))).0 (sym (ties a b) ∙ e)

  same_from : (x a b : X) → S x a ≡ true → S x b ≡ true → S a b ≡ true
  same_from x a b e f = ties a b ∙ ap is_eq (sym (o.congr (fam x) (fam a) (fam b) (equal_from x a e))) ∙ sym (ties x b) ∙ f

  one_from : (x : X) (xs : List X) → AllByRecursion (λ z. S x z ≡ true) xs → one xs ≡ true
  one_from x xs h =
      list_all_is (λ a. list_all (λ b. S a b) xs) xs
      (all_weaker (λ a. S x a ≡ true) (λ a. list_all (λ b. S a b) xs ≡ true)
      (λ a e. list_all_is (λ b. S a b) xs (all_weaker (λ b. S x b ≡ true) (λ b. S a b ≡ true) (λ b f. same_from x a b e f) xs h)) xs h)

  itself : (x : X) → S x x ≡ true
  itself x = ties x x ∙ ap is_eq (tied_itself o (fam x))

  -- between two of one family all are of that family
  between : (x z a : X) → Le (fam x) (fam a) → Le (fam a) (fam z) → S x z ≡ true → S x a ≡ true
  between x z a h k e =
      ties x a
      ∙ squeezed (R (fam x) (fam a)) h (ap is_le (sym (o.antisymm (fam a) (fam x)) ∙ alike_right o (fam x) (fam z) (fam a) (equal_from x z e)) ∙ k)

  all_between : (x z : X) (xs : List X) → AllByRecursion (λ a. Le (fam x) (fam a)) xs → AllByRecursion (λ a. Le (fam a) (fam z)) xs → S x z ≡ true
      → AllByRecursion (λ a. S x a ≡ true) xs
  all_between x z [] h k e = tt
  all_between x z (a ∷ xs) h k e = (between x z a h.0 k.0 e, all_between x z xs h.1 k.1 e)

  -- a place behind which a list is cut: before it stand enough, and they are few or of one family
  pub record IsCut (limit : ℕ) (xs : List X) (x : X) : Type 0 where
    pub front : List X
    pub back : List X
    pub first : X
    pub rest : List X
    pub begins : xs ≡ first ∷ rest
    pub whole : xs ≡ front ++ x ∷ back
    pub among : In first front
    pub other : S first x ≡ false
    pub enough : limit ≤ length front
    pub fit : (length front ≤ limit) ⊎ AllByRecursion (λ z. S first z ≡ true) front

  pub cut_fits : (limit : ℕ) (xs : List X) (x : X) → Rises xs → IsCut limit xs x → few limit (under (fam x) xs) ≡ true
  cut_fits limit xs x h c =
      let e : under (fam x) xs ≡ under (fam x) c.front = ap (under (fam x)) c.whole ∙ under_here c.front x c.back (subst Rises c.whole h) in
      ap (few limit) e ∙ (elim c.fit as (λ _. few limit (under (fam x) c.front) ≡ true) [
        | inl n ↦ few_fit (length (under (fam x) c.front)) limit (one (under (fam x) c.front))
            (let s : length (under (fam x) c.front) ≤ length c.front = filter_shorter (λ z. is_lt (R (fam z) (fam x))) c.front in omega arith)
        | inr a ↦ one_fits (nat_le (length (under (fam x) c.front)) limit) (one (under (fam x) c.front))
            (one_from c.first (under (fam x) c.front) (all_filter (λ z. S c.first z ≡ true) (λ z. is_lt (R (fam z) (fam x))) c.front a))
      ])

  over : (limit : ℕ) (xs : List X) (x : X) (c : IsCut limit xs x) (more : List X) → few limit (c.front ++ x ∷ more) ≡ false
  over limit xs x c more =
      over_both (length (c.front ++ x ∷ more)) limit (one (c.front ++ x ∷ more)) (longer x c.front more limit c.enough)
      (apart c.first x (c.front ++ x ∷ more) (in_front c.first c.front (x ∷ more) c.among) (in_middle x c.front more) c.other)

  pub above_is_over : (limit : ℕ) (xs : List X) (x : X) (y : K) → Rises xs → IsCut limit xs x → R (fam x) y ≡ Less → few limit (under y xs) ≡ false
  above_is_over limit xs x y h c l =
      ap (λ l. few limit (under y l)) c.whole ∙ ap (few limit) (under_there c.front x c.back y (subst Rises c.whole h) l) ∙ over limit xs x c (under y c.back)

  pub whole_is_over : (limit : ℕ) (xs : List X) (x : X) → IsCut limit xs x → few limit xs ≡ false
  whole_is_over limit xs x c = ap (few limit) c.whole ∙ over limit xs x c c.back

  pub upto_cut : (limit : ℕ) (xs : List X) (x : X) (y : K) → Rises xs → IsCut limit xs x → few limit (under y xs) ≡ true → is_le (R y (fam x)) ≡ true
  upto_cut limit xs x y h c f =
      elim (less_or_not (R (fam x) y)) as (λ _. is_le (R y (fam x)) ≡ true) [
        | inl l ↦ absurd (true_false (sym f ∙ above_is_over limit xs x y h c l))
        | inr k ↦ ap is_le (o.antisymm y (fam x)) ∙ k
      ]

  headed : (front : List X) (y : X) (back : List X) (x : X) (rest : List X) → x ∷ rest ≡ front ++ y ∷ back → S x y ≡ false → In x front
  headed [] y back x rest e d = absurd (true_false (sym (itself x) ∙ ap (S x) (heads x y rest back e) ∙ d))
  headed (z ∷ front) y back x rest e d = λ p h. ap p (heads x z rest (front ++ y ∷ back) e) ∙ (both (p z) (list_all p front) h).0

  later : (front : List X) (y : X) (back : List X) (x : X) (rest : List X) → x ∷ rest ≡ front ++ y ∷ back → S x y ≡ false → list_any (λ z. S z y) rest ≡ true
  later [] y back x rest e d = absurd (true_false (sym (itself x) ∙ ap (S x) (heads x y rest back e) ∙ d))
  later (z ∷ front) y back x rest e d =
      ap (list_any (λ w. S w y)) (tails x z rest (front ++ y ∷ back) e) ∙ list_any_middle (λ w. S w y) y front back (itself y)

  -- a place where a list is cut is of a later family than the first
  pub cut_is_later : (limit : ℕ) (xs : List X) (y : X) (c : IsCut limit xs y) → (not (S c.first y) && list_any (λ z. S z y) c.rest) ≡ true
  cut_is_later limit xs y c =
      joined (not (S c.first y)) (list_any (λ z. S z y) c.rest) (ap not c.other) (later c.front y c.back c.first c.rest (sym c.begins ∙ c.whole) c.other)

  all_upto : (x : X) (xs : List X) → Rises (x ∷ xs) → AllByRecursion (λ z. Le (fam x) (fam z)) (x ∷ xs)
  all_upto x xs h = (ap is_le (tied_itself o (fam x)), h.0)

  none_by : (limit : ℕ) (x : X) (left zs : List X) → AllByRecursion (λ z. Le (fam x) (fam z)) (left ++ zs) → Rises (left ++ zs) → length left ≤ limit
      → AllByRecursion (λ z. not (S x z) ≡ false) zs → few limit (left ++ zs) ≡ true
  none_by limit x left [] h k n a = ap (few limit) (append-nil left) ∙ few_fit (length left) limit (one left) n
  none_by limit x left (z ∷ zs) h k n a =
      one_fits (nat_le (length (left ++ z ∷ zs)) limit) (one (left ++ z ∷ zs))
      (one_from x (left ++ z ∷ zs)
      (all_both (λ w. S x w ≡ true) left (z ∷ zs)
      (all_between x z left (all_front (λ w. Le (fam x) (fam w)) left (z ∷ zs) h) (rises_to left z zs k) (not_false (S x z) a.0))
      (all_weaker (λ w. not (S x w) ≡ false) (λ w. S x w ≡ true) (λ w e. not_false (S x w) e) (z ∷ zs) a)))

  fit_by : (limit : ℕ) (x : X) (left mid : List X) (y : X) (back : List X) → AllByRecursion (λ z. Le (fam x) (fam z)) left → Rises (left ++ (mid ++ y ∷ back))
      → length left ≤ limit → AllByRecursion (λ z. not (S x z) ≡ false) mid → (length (left ++ mid) ≤ limit) ⊎ AllByRecursion (λ z. S x z ≡ true) (left ++ mid)
  fit_by limit x left [] y back h k n a = inl (subst (λ l. length l ≤ limit) (sym (append-nil left)) n)
  fit_by limit x left (z ∷ mid) y back h k n a =
      inr (all_both (λ w. S x w ≡ true) left (z ∷ mid)
      (all_between x z left h (rises_to left z (mid ++ y ∷ back) k) (not_false (S x z) a.0))
      (all_weaker (λ w. not (S x w) ≡ false) (λ w. S x w ≡ true) (λ w e. not_false (S x w) e) (z ∷ mid) a))

  none_left : (limit : ℕ) (x : X) (xs : List X) → Rises (x ∷ xs) → AllByRecursion (λ z. not (S x z) ≡ false) (drop limit (x ∷ xs)) → few limit (x ∷ xs) ≡ true
  none_left limit x xs h a =
      let e : take limit (x ∷ xs) ++ drop limit (x ∷ xs) ≡ x ∷ xs = take-append-drop limit (x ∷ xs) in
      subst (λ l. few limit l ≡ true) e
      (none_by limit x (take limit (x ∷ xs)) (drop limit (x ∷ xs)) (subst (AllByRecursion (λ z. Le (fam x) (fam z))) (sym e) (all_upto x xs h)) (subst Rises (sym e) h)
      (take_short limit (x ∷ xs)) a)

  enough_left : (limit : ℕ) (whole mid : List X) (y : X) (back : List X) → drop limit whole ≡ mid ++ y ∷ back → limit ≤ length (take limit whole ++ mid)
  enough_left limit whole mid y back e =
      let full : length (take limit whole) ≡ limit = take_full limit whole (λ z. not_end y mid back (sym e ∙ z)) in
      let both_long : length (take limit whole ++ mid) ≡ length (take limit whole) + length mid = length-append (take limit whole) mid in
      omega arith

  cut_at : (limit : ℕ) (x : X) (xs : List X) → Rises (x ∷ xs) → (y : X) → Found (λ z. not (S x z)) (drop limit (x ∷ xs)) y → IsCut limit (x ∷ xs) y
  cut_at limit x xs h y f =
      let left : List X = take limit (x ∷ xs) in
      let e : x ∷ xs ≡ left ++ (f.front ++ y ∷ f.back) = sym (take-append-drop limit (x ∷ xs)) ∙ ap (λ l. left ++ l) f.whole in
      let w : x ∷ xs ≡ (left ++ f.front) ++ y ∷ f.back = e ∙ sym (append_assoc left f.front (y ∷ f.back)) in
      let d : S x y ≡ false = not_truth (S x y) f.passes in
      record {
        front = left ++ f.front;
        back = f.back;
        first = x;
        rest = xs;
        begins = refl;
        whole = w;
        among = headed (left ++ f.front) y f.back x xs w d;
        other = d;
        enough = enough_left limit (x ∷ xs) f.front y f.back f.whole;
        fit = fit_by limit x left f.front y f.back
            (all_front (λ z. Le (fam x) (fam z)) left (f.front ++ y ∷ f.back) (subst (AllByRecursion (λ z. Le (fam x) (fam z))) e (all_upto x xs h)))
            (subst Rises e h) (take_short limit (x ∷ xs)) f.passed_over;
      }

  abbrev pub next : ℕ → List X → Option X
  next limit [] = None
  next limit (x ∷ xs) = find (λ z. not (S x z)) (drop limit (x ∷ xs))

  -- the first of another family behind so many is where the list is cut; where there is none, all of it is few or of one family
  pub next_cut : (limit : ℕ) (xs : List X) → Rises xs → MatchOption (next limit xs) (few limit xs ≡ true) (IsCut limit xs)
  next_cut limit [] h = one_fits (nat_le 0 limit) true refl
  next_cut limit (x ∷ xs) h =
      option_weaker (AllByRecursion (λ z. not (S x z) ≡ false) (drop limit (x ∷ xs))) (few limit (x ∷ xs) ≡ true) (Found (λ z. not (S x z)) (drop limit (x ∷ xs)))
      (IsCut limit (x ∷ xs)) (none_left limit x xs h) (cut_at limit x xs h) (find (λ z. not (S x z)) (drop limit (x ∷ xs)))
      (found (λ z. not (S x z)) (drop limit (x ∷ xs)))

  -- where families never fall, all are of one family where the first and the last are
  pub one_by_ends : (x : X) (mid : List X) (z : X) → Rises (x ∷ mid ++ z ∷ []) → one (x ∷ mid ++ z ∷ []) ≡ S x z
  one_by_ends x mid z h =
      elim (true_or_false (S x z)) [
        | inl e ↦
            one_from x (x ∷ mid ++ z ∷ [])
            (itself x, all_both (λ w. S x w ≡ true) mid (z ∷ []) (all_between x z mid (all_front (λ w. Le (fam x) (fam w)) mid (z ∷ []) h.0) (rises_to mid z [] h.1) e) (e, tt))
            ∙ sym e
        | inr d ↦ apart x z (x ∷ mid ++ z ∷ []) (in_middle x [] (mid ++ z ∷ [])) (in_middle z (x ∷ mid) []) d ∙ sym d
      ]
