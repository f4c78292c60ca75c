-- Lists of positions.
use Rattle.std.specs.Prelude.{Bool, List}
use Rattle.std.specs.List.Sorted.{IsStrictlySortedBy}
use Rattle.pgs_name.specs.Families.{same_family}
use Rattle.pgs_name.specs.declared.object_id.ObjectId.{ObjectId}
use Rattle.pgs_name.specs.Positions.{position_cmp}

-- each position stands before all behind it
abbrev pub Ascends : List ObjectId → Type 0
Ascends listed = IsStrictlySortedBy position_cmp listed

-- whether two positions are of one family
abbrev pub in_one_family : ObjectId → ObjectId → Bool
in_one_family a b = same_family a.family b.family
