-- The order of positions is total and tells positions apart, and those of one family stand together, by their snaps.
use Rattle.std.proofs.Common.{◌≡◌, true, nat_eq, refl, sym, ap, ◌∙◌}
use Rattle.std.specs.Cmp.{IsTotalOrder, nat_cmp_total, on_total, then_total, unsigned_ties, both_tied}
use Rattle.std.specs.declared.cmp.Ordering.{Ordering}
use Rattle.std.specs.declared.cmp.Ordering.TheVariants.{Less, Equal, Greater}
use Rattle.std.specs.Ordering.{is_eq, is_le, nat_cmp, ordering_then, ordering_reverse}
use Rattle.pgs_name.specs.Families.{Family, same_family}
use Rattle.pgs_name.specs.Order.{family_cmp}
use Rattle.pgs_name.specs.Positions.{position_cmp, same_position, StandsTogether}
use Rattle.pgs_name.specs.declared.object_id.ObjectId.{ObjectId}
use Rattle.pgs_name.specs.Total.{family_total, family_ties}
use Rattle.pgs_name.proofs.Families.{same_family_is, same_equal}

pub position_total : IsTotalOrder position_cmp
position_total = then_total (on_total (λ id. id.family) family_total) (on_total (λ id. id.snap) nat_cmp_total)

-- the order answers `Equal` exactly where family and snap are the same
pub position_same : (a b : ObjectId) → is_eq (position_cmp a b) ≡ same_position a b
position_same a b =
    sym (both_tied (same_family a.family b.family) (nat_eq a.snap b.snap) (family_cmp a.family b.family) (nat_cmp a.snap b.snap)
    (family_ties a.family b.family) (unsigned_ties a.snap b.snap))

-- positions of one family stand by their snaps
pub by_snap : (a b : ObjectId) → same_family a.family b.family ≡ true → position_cmp a b ≡ nat_cmp a.snap b.snap
by_snap a b e = ap (λ o. ordering_then o (nat_cmp a.snap b.snap)) (same_equal a.family b.family e)

first_upto : (o p : Ordering) → is_le (ordering_then o p) ≡ true → is_le o ≡ true
first_upto Less p e = refl
first_upto Equal p e = refl
first_upto Greater p e = e

-- families go up with positions
pub by_family : (a b : ObjectId) → is_le (position_cmp a b) ≡ true → is_le (family_cmp a.family b.family) ≡ true
by_family a b = first_upto (family_cmp a.family b.family) (nat_cmp a.snap b.snap)

turned_equal : (o : Ordering) → is_le o ≡ true → is_le (ordering_reverse o) ≡ true → is_eq o ≡ true
turned_equal Less p q = q
turned_equal Equal p q = refl
turned_equal Greater p q = p

-- families that aren't above each other are the same
squeezed : (a b : Family) → is_le (family_cmp a b) ≡ true → is_le (family_cmp b a) ≡ true → is_eq (family_cmp a b) ≡ true
squeezed a b p q = turned_equal (family_cmp a b) p (sym (ap is_le (family_total.antisymm b a)) ∙ q)

-- positions of one family stand together
pub together : (a b : ObjectId) → StandsTogether a b
together a b c below above same =
    let one = same_family_is a.family c.family same in
    let back : is_le (family_cmp b.family a.family) ≡ true = ap (λ h. is_le (family_cmp b.family h)) one ∙ by_family b c above in
    family_ties a.family b.family ∙ squeezed a.family b.family (by_family a b below) back

pub ruleset positions = (position_total, position_same, by_snap, by_family, together)
