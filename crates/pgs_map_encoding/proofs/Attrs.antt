-- A name behind all others is put behind them.
use Rattle.std.proofs.Common.{◌≡◌, ℕ, suc, ◌-◌, length, arith, true, List, [], ◌∷◌, ◌++◌, Option, Some, None, refl, sym, ap, ◌∙◌}
use Rattle.std.specs.Prelude.{slice_get}
use Rattle.std.specs.declared.cmp.Ordering.{Ordering}
use Rattle.std.specs.declared.cmp.Ordering.TheVariants.{Less, Equal, Greater}
use Rattle.std.specs.Ordering.{is_lt, ordering_reverse, nat_cmp}
use Rattle.std.specs.Cmp.{IsTotalOrder}
use Rattle.std.specs.Cmp.Lexicographic.{slice_cmp, nat_list_cmp_total}
use Rattle.std.specs.List.Sorted.{IsStrictlySortedBy}
use Rattle.std.specs.Map.{keys_of}
use Rattle.std.specs.BTreeMap.{insert_entry}
use Rattle.std.proofs.lemmas.Map.Keys.{sorted_head, sorted_tail}
use Rattle.pgs_bytes.proofs.Facts.{true_false}
use Rattle.pgs_copy.specs.Pairs.{Pairs, with_pair}
use Rattle.pgs_map_encoding.specs.Chains.{last_of}
use Rattle.pgs_map_encoding.specs.Entries.{is_name_behind}

lt_is : (r : Ordering) → is_lt r ≡ true → r ≡ Less
lt_is Less e = refl
lt_is Equal e = absurd (true_false (sym e))
lt_is Greater e = absurd (true_false (sym e))

some_same : {A : Type 0} (x y : A) → ◌≡◌ {A = Option A} (Some x) (Some y) → x ≡ y
some_same x y e = cc

last_behind : {A : Type 0} (x y : A) (xs : List A) → last_of (x ∷ y ∷ xs) ≡ last_of (y ∷ xs)
last_behind x y xs = ap (λ (i : ℕ). slice_get (x ∷ y ∷ xs) i) (more (length xs))
  where
    more : (n : ℕ) → suc (suc n) - 1 ≡ suc (suc n - 1)
    more n = omega arith

some_last : {A : Type 0} (x : A) (xs : List A) → last_of (x ∷ xs) ≡ None → ⊥
some_last x [] e = cc
some_last x (y ∷ xs) e = some_last y xs (sym (last_behind x y xs) ∙ e)

-- where none is last there is none
none_put : (name value : List ℕ) (pairs : Pairs) → last_of pairs ≡ None → with_pair name value pairs ≡ pairs ++ (name, value) ∷ []
none_put name value [] is = refl
none_put name value (p ∷ pairs) is = absurd (some_last p pairs is)

module _ {K X : Type 0} {R : K → K → Ordering} (o : IsTotalOrder R) where
  -- each key is below one that is above the last
  head_below : (e : K × X) (es : List (K × X)) (last : K × X) (k : K) → IsStrictlySortedBy R (keys_of (e ∷ es)) → last_of (e ∷ es) ≡ Some last → R last.0 k ≡ Less → R e.0 k ≡ Less
  head_below e [] last k sorted is lt = ap (λ (p : K × X). R p.0 k) (some_same e last is) ∙ lt
  head_below e (f ∷ es) last k sorted is lt =
      o.trans e.0 f.0 k (sorted_head R e.0 (keys_of (f ∷ es)) sorted).0 (head_below f es last k (sorted_tail R e.0 (keys_of (f ∷ es)) sorted) (sym (last_behind e f es) ∙ is) lt)

  -- a key above the head is put behind it
  behind_head : (e : K × X) (es more : List (K × X)) (k : K) (v : X) → R e.0 k ≡ Less → insert_entry R es k v ≡ more → insert_entry R (e ∷ es) k v ≡ e ∷ more
  behind_head e es more k v lt rest = rw (o.antisymm k e.0 ∙ ap ordering_reverse lt) (ap (λ (l : List (K × X)). e ∷ l) rest)

  put_last : (es : List (K × X)) (last : K × X) (k : K) (v : X) → IsStrictlySortedBy R (keys_of es) → last_of es ≡ Some last → R last.0 k ≡ Less → insert_entry R es k v ≡ es ++ (k, v) ∷ []
  put_last [] last k v sorted is lt = refl
  put_last (e ∷ []) last k v sorted is lt = behind_head e [] ((k, v) ∷ []) k v (head_below e [] last k sorted is lt) refl
  put_last (e ∷ f ∷ es) last k v sorted is lt =
      behind_head e (f ∷ es) ((f ∷ es) ++ (k, v) ∷ []) k v (head_below e (f ∷ es) last k sorted is lt) (put_last (f ∷ es) last k v (sorted_tail R e.0 (keys_of (f ∷ es)) sorted) (sym (last_behind e f es) ∙ is) lt)

-- an attribute whose name stands behind those before it is put behind them
pub put_behind : (name value : List ℕ) (pairs : Pairs) → IsStrictlySortedBy (slice_cmp nat_cmp) (keys_of pairs) → is_name_behind (last_of pairs) name ≡ true → with_pair name value pairs ≡ pairs ++ (name, value) ∷ []
put_behind name value pairs sorted behind = by (last_of pairs) refl behind
  where
    by : (last : Option (List ℕ × List ℕ)) → last_of pairs ≡ last → is_name_behind last name ≡ true → with_pair name value pairs ≡ pairs ++ (name, value) ∷ []
    by (Some last) is lt = put_last nat_list_cmp_total pairs last name value sorted is (lt_is (slice_cmp nat_cmp last.0 name) lt)
    by None is lt = none_put name value pairs is
