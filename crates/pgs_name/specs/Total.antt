-- The order of families is total, and tells all of them apart.
use Rattle.std.proofs.Common.{◌≡◌, Bool, true, false, ◌==◌, ◌&&◌, nat_eq, ◌∷◌, ◌++◌, refl, sym, ap, ◌∙◌}
use Rattle.std.specs.Cmp.{IsTotalOrder, nat_cmp_total, on_total, then_total, unsigned_ties, both_tied}
use Rattle.std.specs.Cmp.Lexicographic.{nat_list_cmp_total, texts_ties, bytes_decides}
use Rattle.std.specs.Ordering.{nat_cmp, ordering_then, eq_by_cmp}
use Rattle.std.proofs.lemmas.Bool.{eq-eqb}
use Rattle.pgs_bytes.specs.Texts.{same_text}
use Rattle.pgs_bytes.proofs.Facts.{true_false}
use Rattle.pgs_crc.specs.Digest.{crc}
use Rattle.pgs_name.specs.Families.{Family, same_family}
use Rattle.pgs_name.specs.Order.{reversed, place_of, text_cmp, family_cmp}

pub family_total : IsTotalOrder family_cmp
family_total =
    then_total (then_total (then_total (on_total place_of nat_cmp_total) (on_total (λ f. f.space) nat_list_cmp_total)) (on_total (λ f. f.key) nat_list_cmp_total))
    (on_total (λ f. f.name) nat_list_cmp_total)

-- a test that follows from two others adds nothing to them
implied : (p s k n : Bool) → (s ≡ true → k ≡ true → p ≡ true) → (p && s && k && n) ≡ (s && k && n)
implied true s k n h = refl
implied false true true n h = absurd (true_false (sym (h refl refl)))
implied false true false n h = refl
implied false false k n h = refl

-- one space and one key have one place
one_place : (a b : Family) → same_text a.space b.space ≡ true → same_text a.key b.key ≡ true → nat_eq (place_of a) (place_of b) ≡ true
one_place a b s k =
    let space : a.space ≡ b.space = (bytes_decides a.space b.space).0 s in
    let key : a.key ≡ b.key = (bytes_decides a.key b.key).0 k in
    eq-eqb (place_of a) (place_of b) (λ i. reversed 32 (crc (space i ++ 0x1F ∷ key i)))

-- the order answers `Equal` exactly where the families are the same
pub family_ties : (a b : Family) → same_family a b ≡ eq_by_cmp family_cmp a b
family_ties a b =
    let place = nat_cmp (place_of a) (place_of b) in
    let space = text_cmp a.space b.space in
    let key = text_cmp a.key b.key in
    let name = text_cmp a.name b.name in
    let p : Bool = nat_eq (place_of a) (place_of b) in
    let s : Bool = same_text a.space b.space in
    let k : Bool = same_text a.key b.key in
    let n : Bool = same_text a.name b.name in
    sym (implied p s k n (one_place a b))
    ∙ both_tied (p && s && k) n (ordering_then (ordering_then place space) key) name
    (both_tied (p && s) k (ordering_then place space) key
    (both_tied p s place space (unsigned_ties (place_of a) (place_of b)) (texts_ties a.space b.space)) (texts_ties a.key b.key))
    (texts_ties a.name b.name)
