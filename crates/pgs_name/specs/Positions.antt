-- The order of positions.
use Rattle.std.specs.Prelude.{Bool, true, nat_eq, ◌≡◌, ◌&&◌}
use Rattle.std.specs.declared.cmp.Ordering.{Ordering}
use Rattle.std.specs.Ordering.{nat_cmp, ordering_then, is_lt, is_le}
use Rattle.pgs_name.specs.Families.{same_family}
use Rattle.pgs_name.specs.Order.{family_cmp}
use Rattle.pgs_name.specs.declared.object_id.ObjectId.{ObjectId}

-- by family, then by snap: a head comes after its clones
abbrev pub position_cmp : ObjectId → ObjectId → Ordering
position_cmp a b = ordering_then (family_cmp a.family b.family) (nat_cmp a.snap b.snap)

-- a position stands before another
abbrev pub is_before : ObjectId → ObjectId → Bool
is_before a b = is_lt (position_cmp a b)

-- two positions have one family and one snap
abbrev pub same_position : ObjectId → ObjectId → Bool
same_position a b = same_family a.family b.family && nat_eq a.snap b.snap

-- a position that stands between this one and another of its family is of that family too
abbrev pub StandsTogether : ObjectId → ObjectId → Type 0
StandsTogether a b =
    (c : ObjectId) → is_le (position_cmp a b) ≡ true → is_le (position_cmp b c) ≡ true → same_family a.family c.family ≡ true → same_family a.family b.family ≡ true
