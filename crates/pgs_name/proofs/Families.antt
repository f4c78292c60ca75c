-- Families with the same parts are the same, and their order tells all of them apart.
use Rattle.std.proofs.Common.{◌≡◌, true, ◌&&◌, refl, sym, ap, ◌∙◌}
use Rattle.std.specs.Cmp.{Equal-is}
use Rattle.std.specs.Cmp.Lexicographic.{bytes_decides}
use Rattle.std.specs.declared.cmp.Ordering.TheVariants.{Equal}
use Rattle.std.specs.Ordering.{is_eq}
use Rattle.pgs_bytes.specs.Texts.{same_text}
use Rattle.pgs_bytes.proofs.Facts.{both, joined}
use Rattle.pgs_name.specs.Families.{Family, same_family}
use Rattle.pgs_name.specs.Order.{family_cmp}
use Rattle.pgs_name.specs.Total.{family_ties}

pub same_family_is : (a b : Family) → same_family a b ≡ true → a ≡ b
same_family_is a b e =
    let outer = both (same_text a.space b.space && same_text a.key b.key) (same_text a.name b.name) e in
    let inner = both (same_text a.space b.space) (same_text a.key b.key) outer.0 in
    let space = (bytes_decides a.space b.space).0 inner.0 in
    let key = (bytes_decides a.key b.key).0 inner.1 in
    let name = (bytes_decides a.name b.name).0 outer.1 in
    λ i. record { space = space i; key = key i; name = name i }

pub family_is_same : (a : Family) → same_family a a ≡ true
family_is_same a =
    joined (same_text a.space a.space && same_text a.key a.key) (same_text a.name a.name)
    (joined (same_text a.space a.space) (same_text a.key a.key) ((bytes_decides a.space a.space).1 refl) ((bytes_decides a.key a.key).1 refl))
    ((bytes_decides a.name a.name).1 refl)

-- the same families are told apart by nothing
pub same_equal : (a b : Family) → same_family a b ≡ true → family_cmp a b ≡ Equal
same_equal a b e = (Equal-is (family_cmp a b)).0 (sym (family_ties a b) ∙ e)

pub equal_same : (a b : Family) → family_cmp a b ≡ Equal → same_family a b ≡ true
equal_same a b e = family_ties a b ∙ ap is_eq e
