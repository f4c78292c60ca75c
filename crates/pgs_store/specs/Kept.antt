-- How the store in memory is seen.
use Rattle.std.specs.Prelude.{ℕ, Option, Some, None}
use Rattle.std.specs.Ordering.{nat_cmp}
use Rattle.std.specs.BTreeMap.{BTreeMap, get}
use Rattle.pgs_name.specs.Families.{Family}
use Rattle.pgs_name.specs.Order.{family_cmp}
use Rattle.pgs_copy.specs.Copies.{no_copies}
use Rattle.pgs_copy.specs.declared.obj_copy.ObjCopy.{ObjCopy}
use Rattle.pgs_store.specs.Stores.{Stored}
use Rattle.pgs_store.specs.declared.store.Store.{Store}

-- the copies in a map, or none where there is no map
abbrev pub in_map : Option (BTreeMap ℕ ObjCopy) → ℕ → Option ObjCopy
in_map None = no_copies
in_map (Some copies) = get nat_cmp copies

-- what the maps of families hold
abbrev pub copies_in : BTreeMap Family (BTreeMap ℕ ObjCopy) → Stored
copies_in families f = in_map (get family_cmp families f)

-- what a store holds
abbrev pub stored : Store → Stored
stored store = copies_in store.families
