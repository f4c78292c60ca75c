-- Lists by position that are parted by a range.
use Rattle.std.proofs.Common.{ℕ, ◌≡◌, ◌≤◌, ◌+◌, Bool, true, false, not, ◌&&◌, List, [], ◌∷◌, ◌++◌, length, take, drop, filter, refl, sym, ap, ◌∙◌, subst, arith}
use Rattle.std.specs.declared.cmp.Ordering.{Ordering}
use Rattle.std.specs.declared.cmp.Ordering.TheVariants.{Less, Equal, Greater}
use Rattle.std.specs.List.{AllByRecursion, prefix_len, take_while}
use Rattle.std.specs.List.Sorted.{IsStrictlySortedBy}
use Rattle.std.specs.Ordering.{is_le, nat_cmp, ordering_then, ordering_reverse}
use Rattle.std.proofs.lemmas.List.{append-nil, length-append, take-append-drop, take-append-le}
use Rattle.std.proofs.lemmas.List.Elements.{filter-append}
use Rattle.std.proofs.lemmas.List.Folds.{length-prefix_len}
use Rattle.std.proofs.lemmas.List.Kept.{IsStrictlySortedBy-filter}
use Rattle.std.proofs.lemmas.List.Sums.{prefix_len-le-length}
use Rattle.std.proofs.Math.Seq.{take-append_seam, drop-append_seam}
use Rattle.pgs_bytes.proofs.Facts.{both, joined, true_false}
use Rattle.pgs_name.specs.Families.{Family}
use Rattle.pgs_name.specs.Order.{family_cmp}
use Rattle.pgs_name.specs.Positions.{position_cmp}
use Rattle.pgs_name.specs.Total.{family_total}
use Rattle.pgs_name.specs.declared.object_id.ObjectId.{ObjectId}
use Rattle.pgs_name.proofs.Ordered.{by_family}
use Rattle.pgs_range.specs.Ranges.{in_range, is_at_most, is_above}
use Rattle.pgs_range.specs.declared.family_range.FamilyRange.{FamilyRange}
use Rattle.pgs_range.proofs.Tiles.{at_most_up, above_or_at_most}
use Rattle.pgs_incons.specs.Found.{Ascends, AreWithin, is_below, is_behind, replaced, IsReplaced}
use Rattle.pgs_incons.proofs.Lists.{all_weaker, all_both, all_kept, filter_all, filter_none, filter_same, filter_twice, Falls, parted, shorter, joined_up}

-- ---- tests that hold from a family on

abbrev Up : (Family → Bool) → Type 0
Up U = (f g : Family) → is_le (family_cmp f g) ≡ true → U f ≡ true → U g ≡ true

up_start : (range : FamilyRange) → Up (is_at_most range.from)
up_start range f g h e = at_most_up range.from f g h e

up_behind : (range : FamilyRange) → Up (is_behind range)
up_behind range f g h e =
    let parts = both (is_at_most range.from f) (is_at_most range.to f) e in
    joined (is_at_most range.from g) (is_at_most range.to g) (at_most_up range.from f g h parts.0) (at_most_up range.to f g h parts.1)

less_by : (U : Family → Bool) → Up U → (f g : Family) → U f ≡ false → U g ≡ true → (r : Ordering) → family_cmp f g ≡ r → r ≡ Less
less_by U up f g d e Less h = refl
less_by U up f g d e Equal h = absurd (true_false (sym (up g f (ap is_le (family_total.antisymm g f ∙ ap ordering_reverse h)) e) ∙ d))
less_by U up f g d e Greater h = absurd (true_false (sym (up g f (ap is_le (family_total.antisymm g f ∙ ap ordering_reverse h)) e) ∙ d))

-- a position where such a test fails is before those where it passes
before : (U : Family → Bool) → Up U → (a b : ObjectId) → U a.family ≡ false → U b.family ≡ true → position_cmp a b ≡ Less
before U up a b d e = ap (λ r. ordering_then r (nat_cmp a.snap b.snap)) (less_by U up a.family b.family d e (family_cmp a.family b.family) refl)

flipped : (b : Bool) → not b ≡ true → b ≡ false
flipped true e = sym e
flipped false e = refl

kept_true : (b : Bool) → not b ≡ false → b ≡ true
kept_true true e = refl
kept_true false e = sym e

-- what is below a range isn't behind it
below_ahead : (a b : Bool) → not a ≡ true → not (a && b) ≡ true
below_ahead true b e = absurd (true_false (sym e))
below_ahead false b e = refl

inside_ahead : (a b : Bool) → (a && not b) ≡ true → (a && b) ≡ false
inside_ahead true true e = sym e
inside_ahead true false e = refl
inside_ahead false b e = refl

below_outside : (a b : Bool) → not a ≡ true → (a && not b) ≡ false
below_outside true b e = absurd (true_false (sym e))
below_outside false b e = refl

behind_outside : (a b : Bool) → (a && b) ≡ true → (a && not b) ≡ false
behind_outside true true e = refl
behind_outside true false e = sym e
behind_outside false b e = refl

behind_or_below : (a b : Bool) → (not (not a) && not (a && not b)) ≡ (a && b)
behind_or_below true true = refl
behind_or_below true false = refl
behind_or_below false b = refl

twice_denied : (b : Bool) → not (not b) ≡ b
twice_denied true = refl
twice_denied false = refl

-- a range's families, by its two bounds alone
in_range_is : (range : FamilyRange) (f : Family) → in_range range f ≡ (is_at_most range.from f && not (is_at_most range.to f))
in_range_is range f = ap (λ b. is_at_most range.from f && b) (above_or_at_most range.to f)

module _ {A : Type 0} (id_of : A → ObjectId) (range : FamilyRange) where
  abbrev fam : A → Family
  fam x = (id_of x).family

  abbrev below : A → Bool
  below x = is_below range (fam x)

  abbrev behind : A → Bool
  behind x = is_behind range (fam x)

  abbrev inside : A → Bool
  inside x = in_range range (fam x)

  falls : (U : Family → Bool) → Up U → (xs : List A) → Ascends id_of xs → Falls (λ x. not (U (fam x))) xs
  unfolding IsStrictlySortedBy
  falls U up [] h = tt
  falls U up (x ∷ xs) h = (
    λ e. all_weaker (λ y. position_cmp (id_of x) (id_of y) ≡ Less) (λ y. not (U (fam y)) ≡ false)
        (λ y l. ap not (up (fam x) (fam y) (by_family (id_of x) (id_of y) (ap is_le l)) (kept_true (U (fam x)) e))) xs h.0,
    falls U up xs h.1,
  )

  -- findings below a range stand in front, and so do those that aren't behind it
  pub below_falls : (xs : List A) → Ascends id_of xs → Falls below xs
  below_falls xs h = falls (is_at_most range.from) (up_start range) xs h

  pub ahead_falls : (xs : List A) → Ascends id_of xs → Falls (λ x. not (behind x)) xs
  ahead_falls xs h = falls (is_behind range) (up_behind range) xs h

  cross : (U : Family → Bool) → Up U → (xs ys : List A) → AllByRecursion (λ x. U (fam x) ≡ false) xs → AllByRecursion (λ y. U (fam y) ≡ true) ys
      → AllByRecursion (λ x. AllByRecursion (λ y. position_cmp (id_of x) (id_of y) ≡ Less) ys) xs
  cross U up [] ys h k = tt
  cross U up (x ∷ xs) ys h k = (
    all_weaker (λ y. U (fam y) ≡ true) (λ y. position_cmp (id_of x) (id_of y) ≡ Less) (λ y e. before U up (id_of x) (id_of y) h.0 e) ys k,
    cross U up xs ys h.1 k,
  )

  abbrev starts : A → Bool
  starts x = is_at_most range.from (fam x)

  abbrev ends : A → Bool
  ends x = is_at_most range.to (fam x)

  inside_is : (x : A) → inside x ≡ (starts x && not (ends x))
  inside_is x = in_range_is range (fam x)

  -- ---- the three parts

  abbrev low : List A → List A
  low old = filter below old

  abbrev high : List A → List A
  high old = filter behind old

  below_low : (old : List A) → AllByRecursion (λ x. starts x ≡ false) (low old)
  below_low old = all_weaker (λ x. below x ≡ true) (λ x. starts x ≡ false) (λ x e. flipped (starts x) e) (low old) (all_kept below old)

  starts_new : (new : List A) → AreWithin id_of range new → AllByRecursion (λ x. starts x ≡ true) new
  starts_new new h = all_weaker (λ x. inside x ≡ true) (λ x. starts x ≡ true) (λ x e. (both (starts x) (is_above range.to (fam x)) e).0) new h

  starts_high : (old : List A) → AllByRecursion (λ x. starts x ≡ true) (high old)
  starts_high old = all_weaker (λ x. behind x ≡ true) (λ x. starts x ≡ true) (λ x e. (both (starts x) (ends x) e).0) (high old) (all_kept behind old)

  ahead_new : (new : List A) → AreWithin id_of range new → AllByRecursion (λ x. behind x ≡ false) new
  ahead_new new h = all_weaker (λ x. inside x ≡ true) (λ x. behind x ≡ false) (λ x e. inside_ahead (starts x) (ends x) (sym (inside_is x) ∙ e)) new h

  pub replaced_ascends : (new old : List A) → Ascends id_of new → AreWithin id_of range new → Ascends id_of old → Ascends id_of (replaced id_of range new old)
  replaced_ascends new old h w k =
      let R : A → A → Ordering = λ a b. position_cmp (id_of a) (id_of b) in
      let low_up : Ascends id_of (low old) = IsStrictlySortedBy-filter R below old k in
      let high_up : Ascends id_of (high old) = IsStrictlySortedBy-filter R behind old k in
      let back_up : Ascends id_of (new ++ high old) =
      joined_up R new (high old) h high_up (cross (is_behind range) (up_behind range) new (high old) (ahead_new new w) (all_kept behind old)) in
      joined_up R (low old) (new ++ high old) low_up back_up
      (cross (is_at_most range.from) (up_start range) (low old) (new ++ high old) (below_low old)
      (all_both (λ x. starts x ≡ true) new (high old) (starts_new new w) (starts_high old)))

  -- ---- in the range and outside of it

  none_low : (old : List A) → AllByRecursion (λ x. inside x ≡ false) (low old)
  none_low old =
      all_weaker (λ x. below x ≡ true) (λ x. inside x ≡ false) (λ x e. inside_is x ∙ below_outside (starts x) (ends x) e) (low old) (all_kept below old)

  none_high : (old : List A) → AllByRecursion (λ x. inside x ≡ false) (high old)
  none_high old =
      all_weaker (λ x. behind x ≡ true) (λ x. inside x ≡ false) (λ x e. inside_is x ∙ behind_outside (starts x) (ends x) e) (high old) (all_kept behind old)

  abbrev outside : A → Bool
  outside x = not (inside x)

  out_of : (xs : List A) → AllByRecursion (λ x. inside x ≡ false) xs → AllByRecursion (λ x. outside x ≡ true) xs
  out_of xs h = all_weaker (λ x. inside x ≡ false) (λ x. outside x ≡ true) (λ x e. ap not e) xs h

  parts : (p : A → Bool) (new old : List A) → filter p (replaced id_of range new old) ≡ filter p (low old) ++ (filter p new ++ filter p (high old))
  parts p new old = filter-append p (low old) (new ++ high old) ∙ ap (λ l. filter p (low old) ++ l) (filter-append p new (high old))

  within_is : (new old : List A) → AreWithin id_of range new → filter inside (replaced id_of range new old) ≡ new
  within_is new old w =
      parts inside new old
      ∙ (λ i. filter_none inside (low old) (none_low old) i ++ (filter_all inside new w i ++ filter_none inside (high old) (none_high old) i))
      ∙ append-nil new

  new_inside : (new : List A) → AreWithin id_of range new → AllByRecursion (λ x. outside x ≡ false) new
  new_inside new w = all_weaker (λ x. inside x ≡ true) (λ x. outside x ≡ false) (λ x e. ap not e) new w

  outside_new : (new old : List A) → AreWithin id_of range new → filter outside (replaced id_of range new old) ≡ low old ++ high old
  outside_new new old w =
      parts outside new old
      ∙ (λ i. filter_all outside (low old) (out_of (low old) (none_low old)) i
      ++ (filter_none outside new (new_inside new w) i ++ filter_all outside (high old) (out_of (high old) (none_high old)) i))

  abbrev from_on : List A → List A
  from_on old = filter (λ x. not (below x)) old

  two_parts : (old : List A) → Ascends id_of old → low old ++ from_on old ≡ old
  two_parts old k =
      let cut = parted below old (falls (is_at_most range.from) (up_start range) old k) in
      (λ i. sym cut.0 i ++ sym cut.1 i) ∙ take-append-drop (prefix_len below old) old

  out_from_on : (old : List A) → filter outside (from_on old) ≡ high old
  out_from_on old =
      filter_twice (λ x. not (below x)) outside old
      ∙ filter_same (λ x. not (below x) && outside x) behind
      (λ x. ap (λ b. not (below x) && not b) (inside_is x) ∙ behind_or_below (starts x) (ends x)) old

  outside_old : (old : List A) → Ascends id_of old → filter outside old ≡ low old ++ high old
  outside_old old k =
      ap (filter outside) (sym (two_parts old k))
      ∙ filter-append outside (low old) (from_on old)
      ∙ (λ i. filter_all outside (low old) (out_of (low old) (none_low old)) i ++ out_from_on old i)

  pub is_replaced : (new old : List A) → Ascends id_of new → AreWithin id_of range new → Ascends id_of old → IsReplaced id_of range new old (replaced id_of range new old)
  is_replaced new old h w k = record {
    within = within_is new old w;
    outside = outside_new new old w ∙ sym (outside_old old k);
    ascends = replaced_ascends new old h w k;
  }

  -- ---- by places

  abbrev ahead : A → Bool
  ahead x = not (behind x)

  pub from_is : (old : List A) (from : ℕ) → Ascends id_of old → from ≡ length (take_while below old) → take from old ≡ low old
  from_is old from k e =
      ap (λ n. take n old) (e ∙ length-prefix_len below old) ∙ (parted below old (falls (is_at_most range.from) (up_start range) old k)).0

  pub to_is : (old : List A) (to : ℕ) → Ascends id_of old → to ≡ length (take_while ahead old) → drop to old ≡ high old
  to_is old to k e =
      ap (λ n. drop n old) (e ∙ length-prefix_len ahead old)
      ∙ (parted ahead old (falls (is_behind range) (up_behind range) old k)).1
      ∙ filter_same (λ x. not (ahead x)) behind (λ x. twice_denied (behind x)) old

  pub places_ordered : (old : List A) (from to : ℕ) → from ≡ length (take_while below old) → to ≡ length (take_while ahead old)
      → (from ≤ to) × (to ≤ length old)
  places_ordered old from to e f =
      let first : from ≡ prefix_len below old = e ∙ length-prefix_len below old in
      let second : to ≡ prefix_len ahead old = f ∙ length-prefix_len ahead old in
      let less : prefix_len below old ≤ prefix_len ahead old = shorter below ahead (λ x h. below_ahead (starts x) (ends x) h) old in
      let most : prefix_len ahead old ≤ length old = prefix_len-le-length ahead old in
      (omega arith, omega arith)

  -- new ones behind the old ones, moved into the place of those that are cut out
  pub moved_is_replaced : (old new all moved : List A) (from to count : ℕ) → Ascends id_of old → from ≡ length (take_while below old)
      → to ≡ length (take_while ahead old) → count ≡ length old → all ≡ old ++ new
      → moved ≡ take from all ++ (drop count all ++ drop to (take count all)) → moved ≡ replaced id_of range new old
  moved_is_replaced old new all moved from to count k e f c a m =
      let places = places_ordered old from to e f in
      let few : from ≤ length old = let p = places.0 in let q = places.1 in omega arith in
      let front : take from all ≡ low old = ap (take from) a ∙ take-append-le from old new few ∙ from_is old from k e in
      let back : drop count all ≡ new = (λ i. drop (c i) (a i)) ∙ drop-append_seam old new in
      let was : take count all ≡ old = (λ i. take (c i) (a i)) ∙ take-append_seam old new in
      m ∙ (λ i. front i ++ (back i ++ (ap (drop to) was ∙ to_is old to k f) i))

pub none_ascend : {A : Type 0} (id_of : A → ObjectId) (xs : List A) → xs ≡ [] → Ascends id_of xs
unfolding IsStrictlySortedBy
none_ascend id_of xs e = subst (Ascends id_of) (sym e) tt

-- ---- a list that is cut, and new ones behind it

module _ {A : Type 0} (id_of : A → ObjectId) (range : FamilyRange) where
  abbrev IsFrom : ℕ → List A → Type 0
  IsFrom from xs = from ≡ length (take_while (λ x. is_below range (id_of x).family) xs)

  abbrev IsTo : ℕ → List A → Type 0
  IsTo to xs = to ≡ length (take_while (λ x. not (is_behind range (id_of x).family)) xs)

  pub can_move : (seen old more all : List A) (from to count : ℕ) → seen ≡ old → IsFrom from seen → IsTo to seen → count ≡ length seen → all ≡ old ++ more
      → (from ≤ to) × (to ≤ count) × (count ≤ length all)
  can_move seen old more all from to count s e f c a =
      let places = places_ordered id_of range seen from to e f in
      let first : from ≤ to = places.0 in
      let second : to ≤ length seen = places.1 in
      let long : length all ≡ length old + length more = ap length a ∙ length-append old more in
      let same : length seen ≡ length old = ap length s in
      (first, omega arith, omega arith)

  pub moved_is : (seen old more new all moved : List A) (from to count : ℕ) → Ascends id_of old → seen ≡ old → more ≡ new → IsFrom from seen → IsTo to seen
      → count ≡ length seen → all ≡ old ++ more → moved ≡ take from all ++ (drop count all ++ drop to (take count all)) → moved ≡ replaced id_of range new old
  moved_is seen old more new all moved from to count k s n e f c a m =
      moved_is_replaced id_of range old new all moved from to count k (subst (IsFrom from) s e) (subst (IsTo to) s f) (c ∙ ap length s)
      (a ∙ ap (λ l. old ++ l) n) m

  pub so_replaced : (new old was moved : List A) → Ascends id_of new → AreWithin id_of range new → Ascends id_of old → old ≡ was
      → moved ≡ replaced id_of range new old → IsReplaced id_of range new was moved
  so_replaced new old was moved h w k s e =
      subst (λ l. IsReplaced id_of range new l moved) s (subst (IsReplaced id_of range new old) (sym e) (is_replaced id_of range new old h w k))
