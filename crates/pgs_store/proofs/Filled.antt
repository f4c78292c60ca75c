-- The first family that has a copy, in the order of the maps.
use Rattle.std.proofs.Common.{ℕ, ◌≡◌, Bool, true, false, cond, ◌&&◌, List, [], ◌∷◌, length, Option, Some, None, refl, sym, ap, subst, ◌∙◌, arith}
use Rattle.std.specs.Prelude.{is_some, nat_lt}
use Rattle.std.specs.Cmp.{IsTotalOrder, tied_itself, eq_by_cmp_equiv}
use Rattle.std.specs.declared.cmp.Ordering.{Ordering}
use Rattle.std.specs.declared.cmp.Ordering.TheVariants.{Less, Equal, Greater}
use Rattle.std.specs.Ordering.{is_eq, is_le, nat_cmp, ordering_reverse}
use Rattle.std.specs.List.{filter, find}
use Rattle.std.specs.List.Sorted.{IsStrictlySortedBy}
use Rattle.std.specs.Map.{keys_of, lookup}
use Rattle.std.specs.BTreeMap.{BTreeMap, get, is_at}
use Rattle.std.proofs.lemmas.Bool.Decides.{nat_tests}
use Rattle.std.proofs.lemmas.Map.{lookup-none}
use Rattle.std.proofs.lemmas.Map.Entries.{lookup_head, lookup_tail, none_past_head, none_below_head}
use Rattle.std.proofs.lemmas.Map.Keys.{IsDistinct-from_sorted, sorted_tail}
use Rattle.pgs_bytes.proofs.Facts.{both, joined, none_some, some_none, some_same, true_false}
use Rattle.pgs_copy.specs.declared.obj_copy.ObjCopy.{ObjCopy}
use Rattle.pgs_store.specs.Kept.{in_map}
use Rattle.std.specs.BTreeMap.Range.{range_contains, is_from_start}
use Rattle.std.specs.declared.ops.Bound.{Bound as End}
use Rattle.std.specs.declared.ops.Bound.TheVariants.{Unbounded}
use Rattle.std.specs.BTreeMap.{IsOrdered, IsLowerBound}
use Rattle.std.specs.Ordering.{is_gt, ordering_then}
use Rattle.pgs_name.specs.Families.{Family}
use Rattle.pgs_name.specs.Order.{family_cmp}
use Rattle.pgs_name.specs.Total.{family_total, family_ties}
use Rattle.pgs_name.proofs.Families.{same_family_is}
use Rattle.pgs_store.specs.Firsts.{IsFirst, first_filled, at_snap}
use Rattle.pgs_store.specs.Kept.{copies_in}
use Rattle.pgs_store.specs.Stores.{is_stored}

-- a map with no entries has no copies
none_of : (es : List (ℕ × ObjCopy)) (q : ℕ) → nat_lt 0 (length es) ≡ false → lookup (is_at (nat_cmp q)) es ≡ None
none_of [] q e = refl
none_of (x ∷ xs) q e = absurd (grind (arith, nat_tests))

-- with an entry before them, entries have that one first where it passes both tests
with_one : {A : Type 0} (i h : Bool) (x : A) (has : A → Bool) (xs : List A) → has x ≡ h → find has (cond i (x ∷ xs) xs) ≡ cond (i && h) (Some x) (find has xs)
with_one true h x has xs e = ap (λ b. cond b (Some x) (find has xs)) e
with_one false h x has xs e = refl

second_false : (a b : Bool) → (a && b) ≡ false → a ≡ true → b ≡ false
second_false true b e f = e
second_false false b e f = absurd (true_false (sym f))

not_less : (o p : Ordering) → p ≡ ordering_reverse o → (o ≡ Less → ⊥) → is_le p ≡ true
not_less Less p e f = absurd (f refl)
not_less Equal p e f = ap is_le e
not_less Greater p e f = ap is_le e

is_some_none : {A : Type 0} (a : Option A) → a ≡ None → is_some a ≡ true → ⊥
is_some_none a e f = true_false (sym f ∙ ap is_some e)

-- what is seen at a look-up of entries, by what the first of them is
looked : (v : Bool) (copies : BTreeMap ℕ ObjCopy) (rest : Option (BTreeMap ℕ ObjCopy)) (q : ℕ)
    → (v ≡ true → get nat_cmp copies q ≡ None) → is_some (in_map (cond v (Some copies) rest) q) ≡ true → (v ≡ false) × (is_some (in_map rest q) ≡ true)
looked true copies rest q f e = absurd (is_some_none (get nat_cmp copies q) (f refl) e)
looked false copies rest q f e = (refl, e)

not_found : {A : Type 0} (t : Bool) (x : A) (rest : Option A) → cond t (Some x) rest ≡ None → (t ≡ false) × (rest ≡ None)
not_found true x rest e = absurd (some_none x e)
not_found false x rest e = (refl, e)

-- families in an order that tells all of them apart, of which some are inside
module _ {K : Type 0} (R : K → K → Ordering) (o : IsTotalOrder R) (exact : (a b : K) → is_eq (R a b) ≡ true → a ≡ b) (inside : K → Bool) where
  abbrev pub has : K × BTreeMap ℕ ObjCopy → Bool
  has e = nat_lt 0 (length e.1.entries)

  -- of the entries from a first one on: where that one isn't the one that is found, it has no copy that is looked for
  passed_by : (x : K × BTreeMap ℕ ObjCopy) (xs : List (K × BTreeMap ℕ ObjCopy)) (f : K) (q : ℕ) → (inside x.0 && has x) ≡ false → inside f ≡ true
      → is_some (in_map (lookup (is_at (R f)) (x ∷ xs)) q) ≡ true → is_some (in_map (lookup (is_at (R f)) xs) q) ≡ true
  passed_by x xs f q e within held =
      (looked (is_eq (R f x.0)) x.1 (lookup (is_at (R f)) xs) q
      (λ tied. none_of x.1.entries q (second_false (inside x.0) (has x) e (ap inside (sym (exact f x.0 tied)) ∙ within))) held).1

  -- no entry inside has a copy
  pub nothing : (es : List (K × BTreeMap ℕ ObjCopy)) → find has (filter (λ e. inside e.0) es) ≡ None
      → (f : K) (q : ℕ) → inside f ≡ true → is_some (in_map (lookup (is_at (R f)) es) q) ≡ true → ⊥
  nothing [] e f q within held = true_false (sym held)
  nothing (x ∷ xs) e f q within held =
      let rest = filter (λ e. inside e.0) xs in
      let h = not_found (inside x.0 && has x) x (find has rest) (sym (with_one (inside x.0) (has x) x has rest refl) ∙ e) in
      nothing xs h.1 f q within (passed_by x xs f q h.0 within held)

  -- the first entry inside that has a copy, and no family before it has
  abbrev pub Found : List (K × BTreeMap ℕ ObjCopy) → K × BTreeMap ℕ ObjCopy → Type 0
  Found es e =
      (inside e.0 ≡ true) × (lookup (is_at (R e.0)) es ≡ Some e.1)
      × ((f : K) (q : ℕ) → inside f ≡ true → is_some (in_map (lookup (is_at (R f)) es) q) ≡ true → is_le (R e.0 f) ≡ true)

  -- the first of all entries
  at_head : (x : K × BTreeMap ℕ ObjCopy) (xs : List (K × BTreeMap ℕ ObjCopy)) → IsStrictlySortedBy R (keys_of (x ∷ xs)) → inside x.0 ≡ true → Found (x ∷ xs) x
  at_head x xs sorted within = (
    within,
    lookup_head (is_at (R x.0)) x xs (ap is_eq (tied_itself o x.0)),
    λ f q within2 held. not_less (R f x.0) (R x.0 f) (o.antisymm x.0 f)
        (λ below. is_some_none (in_map (lookup (is_at (R f)) (x ∷ xs)) q) (ap (λ m. in_map m q) (lookup-none (is_at (R f)) (x ∷ xs) (none_below_head o f x xs sorted below))) held),
  )

  -- one of the entries behind the first
  behind_head : (x : K × BTreeMap ℕ ObjCopy) (xs : List (K × BTreeMap ℕ ObjCopy)) (e : K × BTreeMap ℕ ObjCopy)
      → IsStrictlySortedBy R (keys_of (x ∷ xs)) → (inside x.0 && has x) ≡ false → Found xs e → Found (x ∷ xs) e
  behind_head x xs e sorted passed h = (
    h.0,
    (let P : Bool → Type 0 = λ v. is_eq (R e.0 x.0) ≡ v → lookup (is_at (R e.0)) (x ∷ xs) ≡ Some e.1 in
        elim (is_eq (R e.0 x.0)) as P [
          | true ↦ λ tied. absurd (none_some e.1
              (sym (lookup-none (is_at (R e.0)) xs (none_past_head (eq_by_cmp_equiv o) e.0 x xs (IsDistinct-from_sorted R (keys_of (x ∷ xs)) sorted) tied)) ∙ h.1))
          | false ↦ λ apart. lookup_tail (is_at (R e.0)) x xs apart ∙ h.1
        ]) refl,
    λ f q within held. h.2 f q within (passed_by x xs f q passed within held),
  )

  pub found : (es : List (K × BTreeMap ℕ ObjCopy)) (e : K × BTreeMap ℕ ObjCopy) → IsStrictlySortedBy R (keys_of es)
      → find has (filter (λ e. inside e.0) es) ≡ Some e → Found es e
  found [] e sorted is = absurd (none_some e is)
  found (x ∷ xs) e sorted is =
      let rest = filter (λ e. inside e.0) xs in
      let t : Bool = inside x.0 && has x in
      let P : Bool → Type 0 = λ v. t ≡ v → cond v (Some x) (find has rest) ≡ Some e → Found (x ∷ xs) e in
      (elim t as P [
        | true ↦ λ here same. subst (λ y. Found (x ∷ xs) y) (some_same x e same) (at_head x xs sorted (both (inside x.0) (has x) here).0)
        | false ↦ λ passed later. behind_head x xs e sorted passed (found xs e (sorted_tail R x.0 (keys_of xs) sorted) later)
      ]) refl (sym (with_one (inside x.0) (has x) x has rest refl) ∙ is)

pub tied_is : (a b : Family) → is_eq (family_cmp a b) ≡ true → a ≡ b
tied_is a b e = same_family_is a b (family_ties a b ∙ e)

-- no family from a start on has a copy
pub no_first : (families : BTreeMap Family (BTreeMap ℕ ObjCopy)) (start : End Family) → first_filled families start ≡ None
    → IsFirst (is_stored (copies_in families)) (λ id. is_from_start family_cmp start id.family) None
no_first families start e other held within =
    nothing family_cmp family_total tied_is (range_contains family_cmp start Unbounded) families.entries e other.family other.snap
    (joined (is_from_start family_cmp start other.family) true within refl) held

then_upto : (o p : Ordering) → is_le o ≡ true → (is_eq o ≡ true → is_gt p ≡ false) → is_le (ordering_then o p) ≡ true
then_upto Less p e f = refl
then_upto Equal Less e f = refl
then_upto Equal Equal e f = refl
then_upto Equal Greater e f = absurd (true_false (f refl))
then_upto Greater p e f = e

-- the first family that has a copy, and its least snap
pub one_first : (families : BTreeMap Family (BTreeMap ℕ ObjCopy)) (start : End Family) (family : Family) (copies : BTreeMap ℕ ObjCopy) (snap : ℕ) (copy : ObjCopy)
    → IsOrdered family_cmp families → first_filled families start ≡ Some (family, copies) → get nat_cmp copies snap ≡ Some copy → IsLowerBound nat_cmp copies snap
    → IsFirst (is_stored (copies_in families)) (λ id. is_from_start family_cmp start id.family) (Some (at_snap family snap))
one_first families start family copies snap copy ordered e here least =
    let inside = range_contains family_cmp start Unbounded in
    let h = found family_cmp family_total tied_is inside families.entries (family, copies) ordered e in (
      ap is_some (ap (λ m. in_map m snap) h.1 ∙ here),
      (both (is_from_start family_cmp start family) true h.0).0,
      λ other held within.
          then_upto (family_cmp family other.family) (nat_cmp snap other.snap)
          (h.2 other.family other.snap (joined (is_from_start family_cmp start other.family) true within refl) held)
          (λ tied. least other.snap
          (sym (ap (λ m. is_some (in_map m other.snap)) h.1) ∙ ap (λ f. is_stored (copies_in families) (at_snap f other.snap)) (tied_is family other.family tied) ∙ held)),
    )

-- what is found passes the test
pub finds_passing : {A : Type 0} (test : A → Bool) (xs : List A) (x : A) → find test xs ≡ Some x → test x ≡ true
finds_passing test [] x e = absurd (none_some x e)
finds_passing test (y ∷ ys) x e =
    let P : Bool → Type 0 = λ v. test y ≡ v → cond v (Some y) (find test ys) ≡ Some x → test x ≡ true in
    (elim (test y) as P [
      | true ↦ λ passes same. ap test (sym (some_same y x same)) ∙ passes
      | false ↦ λ fails later. finds_passing test ys x later
    ]) refl e
