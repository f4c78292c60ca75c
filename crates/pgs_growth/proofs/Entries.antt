-- Entries in the order of their keys: what putting one there, and taking one away, leaves of the others and of the order.
use Rattle.std.proofs.Common.{◌≡◌, Bool, true, false, cond, List, [], ◌∷◌, Some, None, refl, sym, ap, ◌∙◌}
use Rattle.std.specs.declared.cmp.Ordering.{Ordering}
use Rattle.std.specs.declared.cmp.Ordering.TheVariants.{Less, Equal, Greater}
use Rattle.std.specs.Ordering.{is_eq, match_ordering, ordering_reverse}
use Rattle.std.specs.Cmp.{IsTotalOrder}
use Rattle.std.specs.List.{AllByRecursion}
use Rattle.std.specs.List.Sorted.{IsStrictlySortedBy}
use Rattle.std.specs.Map.{lookup, remove_entry, keys_of}
use Rattle.std.specs.BTreeMap.{insert_entry, is_at}

-- what is below the first of keys in order is below all
below_all : {K : Type 0} (R : K → K → Ordering) → IsTotalOrder R → (k x : K) → R k x ≡ Less → (ys : List K) → AllByRecursion (λ y. R x y ≡ Less) ys
    → AllByRecursion (λ y. R k y ≡ Less) ys
below_all R o k x below [] all = tt
below_all R o k x below (y ∷ ys) all = (o.trans k x y below all.0, below_all R o k x below ys all.1)

module _ {K X : Type 0} (R : K → K → Ordering) where
  -- a test of keys that doesn't pass at the key of an entry that is put there finds what it found
  pub lookup_put : (test : K → Bool) (es : List (K × X)) (k : K) (v : X) → test k ≡ false → ((q : K) → is_at (R k) q ≡ true → test q ≡ false)
      → lookup test (insert_entry R es k v) ≡ lookup test es
  lookup_put test [] k v not_k apart = ap (λ b. cond b (Some v) None) not_k
  lookup_put test (e ∷ es) k v not_k apart = by (R k e.0) refl (lookup_put test es k v not_k apart)
    where
      by : (r : Ordering) → R k e.0 ≡ r → lookup test (insert_entry R es k v) ≡ lookup test es
          → lookup test (match_ordering r ((k, v) ∷ e ∷ es) ((e.0, v) ∷ es) (e ∷ insert_entry R es k v)) ≡ lookup test (e ∷ es)
      by Less p later = ap (λ b. cond b (Some v) (lookup test (e ∷ es))) not_k
      by Equal p later =
          let none = apart e.0 (ap is_eq p) in
          ap (λ b. cond b (Some v) (lookup test es)) none ∙ sym (ap (λ b. cond b (Some e.1) (lookup test es)) none)
      by Greater p later = ap (λ o. cond (test e.0) (Some e.1) o) later

  -- what holds of all keys, and of one that is put there, holds of all
  all_put : (P : K → Type 0) (es : List (K × X)) (k : K) (v : X) → AllByRecursion P (keys_of es) → P k → AllByRecursion P (keys_of (insert_entry R es k v))
  all_put P [] k v all here = (here, tt)
  all_put P (e ∷ es) k v all here = by (R k e.0) (all_put P es k v all.1 here)
    where
      by : (r : Ordering) → AllByRecursion P (keys_of (insert_entry R es k v))
          → AllByRecursion P (keys_of (match_ordering r ((k, v) ∷ e ∷ es) ((e.0, v) ∷ es) (e ∷ insert_entry R es k v)))
      by Less later = (here, all)
      by Equal later = all
      by Greater later = (all.0, later)

  pub order_put : IsTotalOrder R → (es : List (K × X)) (k : K) (v : X) → IsStrictlySortedBy R (keys_of es) → IsStrictlySortedBy R (keys_of (insert_entry R es k v))
  unfolding IsStrictlySortedBy
  order_put o [] k v sorted = (tt, tt)
  order_put o (e ∷ es) k v sorted = by (R k e.0) refl (order_put o es k v sorted.1)
    where
      by : (r : Ordering) → R k e.0 ≡ r → IsStrictlySortedBy R (keys_of (insert_entry R es k v))
          → IsStrictlySortedBy R (keys_of (match_ordering r ((k, v) ∷ e ∷ es) ((e.0, v) ∷ es) (e ∷ insert_entry R es k v)))
      by Less p later = ((p, below_all R o k e.0 p (keys_of es) sorted.0), sorted)
      by Equal p later = sorted
      by Greater p later = (all_put (λ y. R e.0 y ≡ Less) es k v sorted.0 (o.antisymm e.0 k ∙ ap ordering_reverse p), later)

module _ {K X : Type 0} where
  -- a test of keys finds what it found, where it doesn't pass at a key that is taken away
  pub lookup_removed : (gone test : K → Bool) (es : List (K × X)) → ((q : K) → gone q ≡ true → test q ≡ false)
      → lookup test (remove_entry gone es) ≡ lookup test es
  lookup_removed gone test [] apart = refl
  lookup_removed gone test (e ∷ es) apart = by (gone e.0) (apart e.0) (lookup_removed gone test es apart)
    where
      by : (g : Bool) → (g ≡ true → test e.0 ≡ false) → lookup test (remove_entry gone es) ≡ lookup test es
          → lookup test (cond g es (e ∷ remove_entry gone es)) ≡ lookup test (e ∷ es)
      by true none later = sym (ap (λ b. cond b (Some e.1) (lookup test es)) (none refl))
      by false none later = ap (λ o. cond (test e.0) (Some e.1) o) later

  all_left : (P : K → Type 0) (gone : K → Bool) (es : List (K × X)) → AllByRecursion P (keys_of es) → AllByRecursion P (keys_of (remove_entry gone es))
  all_left P gone [] all = tt
  all_left P gone (e ∷ es) all = by (gone e.0) (all_left P gone es all.1)
    where
      by : (g : Bool) → AllByRecursion P (keys_of (remove_entry gone es)) → AllByRecursion P (keys_of (cond g es (e ∷ remove_entry gone es)))
      by true later = all.1
      by false later = (all.0, later)

  pub order_left : (R : K → K → Ordering) (gone : K → Bool) (es : List (K × X)) → IsStrictlySortedBy R (keys_of es)
      → IsStrictlySortedBy R (keys_of (remove_entry gone es))
  unfolding IsStrictlySortedBy
  order_left R gone [] sorted = tt
  order_left R gone (e ∷ es) sorted = by (gone e.0) (order_left R gone es sorted.1)
    where
      by : (g : Bool) → IsStrictlySortedBy R (keys_of (remove_entry gone es)) → IsStrictlySortedBy R (keys_of (cond g es (e ∷ remove_entry gone es)))
      by true later = sorted.1
      by false later = (all_left (λ y. R e.0 y ≡ Less) gone es sorted.0, later)
