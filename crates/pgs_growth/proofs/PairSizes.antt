-- Pairs of names and values: the bytes behind a change of one name, and the values of all other names.
use Rattle.std.proofs.Common.{ℕ, ◌≡◌, ◌+◌, inl, inr, Bool, true, false, cond, List, [], ◌∷◌, Some, length, refl, sym, ap, ◌∙◌, arith}
use Rattle.std.specs.declared.cmp.Ordering.{Ordering}
use Rattle.std.specs.declared.cmp.Ordering.TheVariants.{Less, Equal, Greater}
use Rattle.std.specs.Ordering.{is_eq, match_ordering, nat_cmp}
use Rattle.std.specs.Cmp.{tied_itself}
use Rattle.std.specs.Cmp.Lexicographic.{slice_cmp, nat_list_cmp_total, texts_ties, bytes_decides}
use Rattle.std.specs.BTreeMap.{insert_entry, is_at}
use Rattle.std.proofs.lemmas.Map.{lookup-none}
use Rattle.std.proofs.lemmas.Map.Entries.{none_below_head}
use Rattle.std.proofs.lemmas.Map.Keys.{sorted_tail}
use Rattle.pgs_bytes.specs.Texts.{same_text}
use Rattle.pgs_bytes.proofs.Facts.{true_false, true_or_false}
use Rattle.pgs_copy.specs.Pairs.{Pairs, value_at, with_pair, without, pairs_size, IsInOrder}
use Rattle.pgs_copy.proofs.SizeLaws.{pairs_size-cons}
use Rattle.pgs_growth.specs.Amounts.{entry_size}
use Rattle.pgs_growth.proofs.Entries.{lookup_put, lookup_removed, order_put, order_left}

-- the key at which a name is found is the name
name_is : (name key : List ℕ) → is_at (slice_cmp nat_cmp name) key ≡ true → name ≡ key
name_is name key here = (bytes_decides name key).0 (texts_ties name key ∙ here)

found_itself : (name : List ℕ) → is_at (slice_cmp nat_cmp name) name ≡ true
found_itself name = ap is_eq (tied_itself nat_list_cmp_total name)

-- names that differ aren't found at one key
found_apart : (name other : List ℕ) → same_text name other ≡ false → (key : List ℕ) → is_at (slice_cmp nat_cmp name) key ≡ true
    → is_at (slice_cmp nat_cmp other) key ≡ false
found_apart name other differ key here = elim (true_or_false (is_at (slice_cmp nat_cmp other) key)) [
  | inl there ↦ absurd (true_false (sym ((bytes_decides name other).1 (name_is name key here ∙ sym (name_is other key there))) ∙ differ))
  | inr not_there ↦ not_there
]

pub other_put : (name value : List ℕ) (pairs : Pairs) (other : List ℕ) → same_text name other ≡ false → value_at other (with_pair name value pairs) ≡ value_at other pairs
other_put name value pairs other differ =
    lookup_put (slice_cmp nat_cmp) (is_at (slice_cmp nat_cmp other)) pairs name value
    (found_apart name other differ name (found_itself name)) (found_apart name other differ)

pub other_left : (name : List ℕ) (pairs : Pairs) (other : List ℕ) → same_text name other ≡ false → value_at other (without name pairs) ≡ value_at other pairs
other_left name pairs other differ = lookup_removed (is_at (slice_cmp nat_cmp name)) (is_at (slice_cmp nat_cmp other)) pairs (found_apart name other differ)

pub in_order_put : (name value : List ℕ) (pairs : Pairs) → IsInOrder pairs → IsInOrder (with_pair name value pairs)
in_order_put name value pairs sorted = order_put (slice_cmp nat_cmp) nat_list_cmp_total pairs name value sorted

pub in_order_left : (name : List ℕ) (pairs : Pairs) → IsInOrder pairs → IsInOrder (without name pairs)
in_order_left name pairs sorted = order_left (slice_cmp nat_cmp) (is_at (slice_cmp nat_cmp name)) pairs sorted

-- a name that is put among others gives its bytes, and takes those that it had
pub size_put : (name value : List ℕ) (pairs : Pairs) → IsInOrder pairs
    → pairs_size (with_pair name value pairs) + entry_size name (value_at name pairs) ≡ pairs_size pairs + (length name + length value)
size_put name value [] sorted = omega (arith, pairs_size-cons name value [])
size_put name value (e ∷ es) sorted =
    by (slice_cmp nat_cmp name e.0) refl (size_put name value es (sorted_tail (slice_cmp nat_cmp) e.0 _ sorted))
  where
    by : (r : Ordering) → slice_cmp nat_cmp name e.0 ≡ r
        → pairs_size (with_pair name value es) + entry_size name (value_at name es) ≡ pairs_size es + (length name + length value)
        → pairs_size (match_ordering r ((name, value) ∷ e ∷ es) ((e.0, value) ∷ es) (e ∷ insert_entry (slice_cmp nat_cmp) es name value))
        + entry_size name (cond (is_eq r) (Some e.1) (value_at name es)) ≡ pairs_size (e ∷ es) + (length name + length value)
    by Less p later =
        let none = lookup-none (is_at (slice_cmp nat_cmp name)) es (none_below_head nat_list_cmp_total name e es sorted p).1 in
        omega (arith, pairs_size-cons name value (e ∷ es), ap (entry_size name) none)
    by Equal p later =
        let same = ap (length {A = ℕ}) (name_is name e.0 (ap is_eq p)) in
        omega (arith, same, pairs_size-cons e.0 value es, pairs_size-cons e.0 e.1 es)
    by Greater p later =
        omega (arith, later, pairs_size-cons e.0 e.1 (with_pair name value es), pairs_size-cons e.0 e.1 es)

-- a name that is taken away takes its bytes
pub size_left : (name : List ℕ) (pairs : Pairs) → pairs_size (without name pairs) + entry_size name (value_at name pairs) ≡ pairs_size pairs
size_left name [] = refl
size_left name (e ∷ es) = by (is_at (slice_cmp nat_cmp name) e.0) (name_is name e.0) (size_left name es)
  where
    by : (b : Bool) → (b ≡ true → name ≡ e.0) → pairs_size (without name es) + entry_size name (value_at name es) ≡ pairs_size es
        → pairs_size (cond b es (e ∷ without name es)) + entry_size name (cond b (Some e.1) (value_at name es)) ≡ pairs_size (e ∷ es)
    by true is later = omega (arith, ap (length {A = ℕ}) (is refl), pairs_size-cons e.0 e.1 es)
    by false is later = omega (arith, later, pairs_size-cons e.0 e.1 (without name es), pairs_size-cons e.0 e.1 es)
