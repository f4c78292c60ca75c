-- The laws of bounds and ranges as bytes.
use Rattle.std.proofs.Common.{◌≡◌, ℕ, zero, suc, ◌==◌, ◌&&◌, Bool, true, false, not, cond, List, [], ◌∷◌, length, Option, Some, None, refl, sym, ap, ◌∙◌, inl, inr, arith}
use Rattle.std.specs.Prelude.{nat_lt}
use Rattle.std.specs.Cmp.Lexicographic.{bytes_decides}
use Rattle.std.proofs.lemmas.Bool.Decides.{nat_tests}
use Rattle.pgs_bytes.proofs.Facts.{both, true_false, true_or_false}
use Rattle.pgs_name.specs.Bounds.{is_name, same_text, kept_key}
use Rattle.pgs_name.specs.Families.{Family, effective_key}
use Rattle.pgs_range.specs.declared.bound.Bound.{Bound}
use Rattle.pgs_range.specs.declared.bound.Bound.TheVariants.{Min, At, Max}
use Rattle.pgs_codec.specs.Fields.{IsSpelling, u8, text, such, followed, where_so, fits_where}
use Rattle.pgs_codec.specs.Ids.{word, name_beside}
use Rattle.pgs_codec.proofs.Laws.{u8_laws, such_laws, followed_laws, seen_laws, where_laws}
use Rattle.pgs_codec.proofs.IdLaws.{word_laws, name_laws}
use Rattle.pgs_map_encoding.specs.Bounds.{FamilyParts, family_parts, family_of, parts_of_family, is_placed, family, kind, bound_of, parts_of_bound, bound, is_below, range}

-- ---- families

parts_laws : IsSpelling family_parts
parts_laws =
    followed_laws (word 64) (λ space. followed (word 255) (λ key. name_beside key)) (word_laws 64)
    (λ space. followed_laws (word 255) (λ key. name_beside key) (word_laws 255) (λ key. name_laws key))

not_true : (a : Bool) → not a ≡ true → a ≡ false
not_true true e = sym e
not_true false e = refl

some_byte : (n : ℕ) → (suc n == 0) ≡ false
some_byte n = grind (arith, nat_tests)

-- a text has a byte
abbrev HasByte : List ℕ → Type 0
HasByte w = not (length w == 0) ≡ true

has_byte : (b : ℕ) (w : List ℕ) → HasByte (b ∷ w)
has_byte b w = ap not (some_byte (length w))

named_byte : (w : List ℕ) → is_name w ≡ true → HasByte w
named_byte [] e = e
named_byte (b ∷ w) e = has_byte b w

-- what a family is placed by, and the key as it is kept, by whether that is the name
kept_where : (key name : List ℕ) (same : Bool) → same_text key name ≡ same → kept_key key name ≡ cond same [] key
kept_where key name same e = ap (λ (t : Bool). cond t [] key) e

placed : (key name : List ℕ) → HasByte key → effective_key key name ≡ key
placed [] name e = absurd (true_false (sym e))
placed (b ∷ key) name e = ap (λ (t : Bool). cond t name (b ∷ key)) (some_byte (length key))

kept_back : (key name : List ℕ) → is_name name ≡ true → same_text key name ≡ false → (kept_key (effective_key key name) name ≡ key) × HasByte (effective_key key name)
kept_back [] name named other = (kept_where name name true ((bytes_decides name name).1 refl), named_byte name named)
kept_back (b ∷ key) name named other =
    let is = placed (b ∷ key) name (has_byte b key) in
    (ap (λ (k : List ℕ). kept_key k name) is ∙ kept_where (b ∷ key) name false other, ap (λ (k : List ℕ). not (length k == 0)) is ∙ has_byte b key)

kept_forth : (key name : List ℕ) → HasByte key → effective_key (kept_key key name) name ≡ key
kept_forth key name e = elim (true_or_false (same_text key name)) [
  | inl same ↦ ap (λ (k : List ℕ). effective_key k name) (kept_where key name true same) ∙ sym ((bytes_decides key name).0 same)
  | inr other ↦ ap (λ (k : List ℕ). effective_key k name) (kept_where key name false other) ∙ placed key name e
]

family_back : (p : FamilyParts) → family_parts.fits p ≡ true → (parts_of_family (family_of p) ≡ p) × (is_placed (family_of p) ≡ true)
family_back p e =
    let behind_space = (both ((word 64).fits p.0) _ e).1 in
    let name = (both ((word 255).fits p.1.0) ((name_beside p.1.0).fits p.1.1) behind_space).1 in
    let test = (both ((text 255).fits p.1.1) (is_name p.1.1 && not (same_text p.1.0 p.1.1)) name).1 in
    let tests = both (is_name p.1.1) (not (same_text p.1.0 p.1.1)) test in
    let kept = kept_back p.1.0 p.1.1 tests.0 (not_true _ tests.1) in
    (ap (λ (key : List ℕ). (p.0, (key, p.1.1))) kept.0, kept.1)

family_forth : (f : Family) → family_parts.fits (parts_of_family f) ≡ true → is_placed f ≡ true → family_of (parts_of_family f) ≡ f
family_forth f fits has = ap (λ (key : List ℕ). record { space = f.space; key = key; name = f.name }) (kept_forth f.key f.name has)

pub family_laws : IsSpelling family
family_laws = seen_laws family_of parts_of_family is_placed family_parts parts_laws family_back family_forth

-- ---- bounds

large : (n : ℕ) → nat_lt (suc (suc (suc n))) 3 ≡ false
large n = grind (arith, nat_tests)

bound_back : (byte : ℕ) (f : Option Family) → nat_lt byte 3 ≡ true → fits_where (byte == 1) family f ≡ true → parts_of_bound (bound_of (byte, f)) ≡ (byte, f)
bound_back zero None few e = refl
bound_back zero (Some f) few e = absurd (true_false (sym e))
bound_back (suc zero) (Some f) few e = refl
bound_back (suc zero) None few e = absurd (true_false (sym e))
bound_back (suc (suc zero)) None few e = refl
bound_back (suc (suc zero)) (Some f) few e = absurd (true_false (sym e))
bound_back (suc (suc (suc n))) f few e = absurd (true_false (sym few ∙ large n))

bound_forth : (b : Bound) → bound_of (parts_of_bound b) ≡ b
bound_forth Min = refl
bound_forth (At f) = refl
bound_forth Max = refl

kind_laws : IsSpelling kind
kind_laws = such_laws (λ byte. nat_lt byte 3) u8 u8_laws

pub bound_laws : IsSpelling bound
bound_laws =
    seen_laws bound_of parts_of_bound (λ b. true) (followed kind (λ byte. where_so (byte == 1) family))
    (followed_laws kind (λ byte. where_so (byte == 1) family) kind_laws (λ byte. where_laws (byte == 1) family family_laws))
    (λ p fits.
    let parts = both (kind.fits p.0) (fits_where (p.0 == 1) family p.1) fits in
    (bound_back p.0 p.1 (both (nat_lt p.0 256) (nat_lt p.0 3) parts.0).1 parts.1, refl))
    (λ b fits test. bound_forth b)

pub range_laws : IsSpelling range
range_laws =
    seen_laws (λ p. record { from = p.0; to = p.1 }) (λ r. (r.from, r.to)) (λ r. true) (followed bound (λ from. such (is_below from) bound))
    (followed_laws bound (λ from. such (is_below from) bound) bound_laws (λ from. such_laws (is_below from) bound bound_laws))
    (λ p fits. (refl, refl)) (λ r fits test. refl)
