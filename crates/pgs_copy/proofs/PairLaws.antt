-- Laws of pairs of names and values.
use Rattle.std.proofs.Common.{ℕ, ◌≡◌, Bool, true, false, cond, List, [], ◌∷◌, Option, Some, refl, sym, ap, ◌∙◌}
use Rattle.std.specs.Prelude.{is_some}
use Rattle.std.specs.declared.cmp.Ordering.{Ordering}
use Rattle.std.specs.declared.cmp.Ordering.TheVariants.{Less, Equal, Greater}
use Rattle.std.specs.Ordering.{is_eq, match_ordering, nat_cmp}
use Rattle.std.specs.Cmp.{IsTotalOrder}
use Rattle.std.specs.Cmp.Lexicographic.{slice_cmp, nat_list_cmp_total}
use Rattle.std.specs.List.{AllZip}
use Rattle.std.specs.List.Sorted.{IsStrictlySortedBy}
use Rattle.std.specs.Map.{lookup, set_value, remove_entry, keys_of}
use Rattle.std.specs.BTreeMap.{insert_entry, is_at}
use Rattle.std.proofs.lemmas.Map.{lookup-none}
use Rattle.std.proofs.lemmas.Map.Entries.{none_below_head, entries_from_clone}
use Rattle.std.proofs.lemmas.Map.Keys.{sorted_tail}
use Rattle.pgs_bytes.proofs.Facts.{true_false}
use Rattle.pgs_copy.specs.Pairs.{Pairs, value_at, with_pair}

module _ {K X : Type 0} {R : K → K → Ordering} (o : IsTotalOrder R) where
  -- a value in the place of one that is there is the same as one put in the order
  put_there : (es : List (K × X)) (k : K) (v : X) → IsStrictlySortedBy R (keys_of es) → is_some (lookup (is_at (R k)) es) ≡ true
      → set_value (is_at (R k)) es v ≡ insert_entry R es k v
  put_there [] k v sorted there = absurd (true_false (sym there))
  put_there (e ∷ es) k v sorted there = by (R k e.0) refl there (put_there es k v (sorted_tail R e.0 (keys_of es) sorted))
    where
      by : (r : Ordering) → R k e.0 ≡ r → is_some (cond (is_eq r) (Some e.1) (lookup (is_at (R k)) es)) ≡ true
          → (is_some (lookup (is_at (R k)) es) ≡ true → set_value (is_at (R k)) es v ≡ insert_entry R es k v)
          → cond (is_eq r) ((e.0, v) ∷ es) (e ∷ set_value (is_at (R k)) es v) ≡ match_ordering r ((k, v) ∷ e ∷ es) ((e.0, v) ∷ es) (e ∷ insert_entry R es k v)
      by Less p here later = absurd (true_false (sym here ∙ ap is_some (lookup-none (is_at (R k)) es (none_below_head o k e es sorted p).1)))
      by Equal p here later = refl
      by Greater p here later = ap (λ l. e ∷ l) (later here)

-- what a name that is there has after a value was written in its place
pub set_there : (name value : List ℕ) (pairs new : Pairs) → IsStrictlySortedBy (slice_cmp nat_cmp) (keys_of pairs) → is_some (value_at name pairs) ≡ true
    → new ≡ set_value (is_at (slice_cmp nat_cmp name)) pairs value → new ≡ with_pair name value pairs
set_there name value pairs new sorted there is = is ∙ put_there nat_list_cmp_total pairs name value sorted there

-- pairs of which each is a clone of another are the same
pub cloned_pairs : (es fs : Pairs) → AllZip (λ p q. (q.0 ≡ p.0) × (q.1 ≡ p.1)) es fs → fs ≡ es
cloned_pairs es fs h = entries_from_clone (λ x y. y ≡ x) (λ x y. y ≡ x) (λ x y e. e) (λ x y e. e) es fs h

-- ---- which names stay

some_or : {A : Type 0} (t : Bool) (x : A) (o : Option A) → is_some o ≡ true → is_some (cond t (Some x) o) ≡ true
some_or true x o there = refl
some_or false x o there = there

some_else : {A : Type 0} (t : Bool) (x y : A) (o p : Option A) → is_some (cond t (Some x) o) ≡ true → (is_some o ≡ true → is_some p ≡ true) → is_some (cond t (Some y) p) ≡ true
some_else true x y o p there later = refl
some_else false x y o p there later = later there

module _ {K X : Type 0} where
  -- a key that passes a test still does after a value was put in the order
  pub put_keeps : (R : K → K → Ordering) (test : K → Bool) (es : List (K × X)) (k : K) (v : X) → is_some (lookup test es) ≡ true
      → is_some (lookup test (insert_entry R es k v)) ≡ true
  put_keeps R test [] k v there = absurd (true_false (sym there))
  put_keeps R test (e ∷ es) k v there = by (R k e.0) (put_keeps R test es k v)
    where
      by : (r : Ordering) → (is_some (lookup test es) ≡ true → is_some (lookup test (insert_entry R es k v)) ≡ true) → is_some (lookup test (match_ordering r ((k, v) ∷ e ∷ es) ((e.0, v) ∷ es) (e ∷ insert_entry R es k v))) ≡ true
      by Less later = some_or (test k) v (lookup test (e ∷ es)) there
      by Equal later = some_else (test e.0) e.1 v (lookup test es) (lookup test es) there (λ h. h)
      by Greater later = some_else (test e.0) e.1 e.1 (lookup test es) (lookup test (insert_entry R es k v)) there later

  -- so does one after another was taken away
  pub removal_keeps : (gone test : K → Bool) (es : List (K × X)) → ((k : K) → gone k ≡ true → test k ≡ true → ⊥) → is_some (lookup test es) ≡ true
      → is_some (lookup test (remove_entry gone es)) ≡ true
  removal_keeps gone test [] apart there = there
  removal_keeps gone test (e ∷ es) apart there = by (gone e.0) (apart e.0) (removal_keeps gone test es apart)
    where
      other : (b : Bool) → (b ≡ true → ⊥) → is_some (cond b (Some e.1) (lookup test es)) ≡ true → is_some (lookup test es) ≡ true
      other true none h = absurd (none refl)
      other false none h = h

      by : (g : Bool) → (g ≡ true → test e.0 ≡ true → ⊥) → (is_some (lookup test es) ≡ true → is_some (lookup test (remove_entry gone es)) ≡ true) → is_some (lookup test (cond g es (e ∷ remove_entry gone es))) ≡ true
      by true none later = other (test e.0) (none refl) there
      by false none later = some_else (test e.0) e.1 e.1 (lookup test es) (lookup test (remove_entry gone es)) there later
