-- The order of families tells those of positions apart.
use Rattle.std.proofs.Common.{◌≡◌}
use Rattle.std.specs.Ordering.{is_eq}
use Rattle.pgs_name.specs.Families.{Family}
use Rattle.pgs_name.specs.Order.{family_cmp}
use Rattle.pgs_name.specs.Total.{family_ties}
use Rattle.pgs_name.specs.declared.object_id.ObjectId.{ObjectId}
use Rattle.pgs_chunk.specs.Positions.{in_one_family}

abbrev pub family_of : ObjectId → Family
family_of id = id.family

-- two positions are of one family where the order doesn't tell their families apart
pub one_family_is : (a b : ObjectId) → in_one_family a b ≡ is_eq (family_cmp a.family b.family)
one_family_is a b = family_ties a.family b.family
