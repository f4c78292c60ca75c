-- Names with their values: the attributes of a copy, and its omap.
use Rattle.std.specs.Prelude.{ℕ, ◌+◌, List, length, Option}
use Rattle.std.specs.List.{sum_by}
use Rattle.std.specs.List.Sorted.{IsStrictlySortedBy}
use Rattle.std.specs.Map.{lookup, remove_entry, keys_of}
use Rattle.std.specs.BTreeMap.{insert_entry, is_at}
use Rattle.std.specs.Ordering.{nat_cmp}
use Rattle.std.specs.Cmp.Lexicographic.{slice_cmp}

-- pairs of a name and its value
abbrev pub Pairs : Type 0
Pairs = List (List ℕ × List ℕ)

-- the value of a name, if it is there
abbrev pub value_at : List ℕ → Pairs → Option (List ℕ)
value_at name pairs = lookup (is_at (slice_cmp nat_cmp name)) pairs

-- the pairs with a value for a name: in the place of the one that it has, or else at its place in the order of the names' bytes
abbrev pub with_pair : List ℕ → List ℕ → Pairs → Pairs
with_pair name value pairs = insert_entry (slice_cmp nat_cmp) pairs name value

-- the pairs without a name
abbrev pub without : List ℕ → Pairs → Pairs
without name pairs = remove_entry (is_at (slice_cmp nat_cmp name)) pairs

-- the bytes of all names and values
abbrev pub pairs_size : Pairs → ℕ
pairs_size pairs = sum_by (λ p. length p.0 + length p.1) pairs

-- each name stands once, in the order of the names' bytes
abbrev pub IsInOrder : Pairs → Type 0
IsInOrder pairs = IsStrictlySortedBy (slice_cmp nat_cmp) (keys_of pairs)
