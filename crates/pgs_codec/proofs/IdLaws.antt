-- The laws of positions.
use Rattle.std.proofs.Common.{◌≡◌, ℕ, suc, ◌==◌, ◌&&◌, Bool, true, false, not, cond, List, [], ◌∷◌, length, refl, sym, ap, ◌∙◌, inl, inr, arith}
use Rattle.std.specs.Cmp.Lexicographic.{bytes_decides}
use Rattle.std.proofs.lemmas.Bool.Decides.{nat_tests}
use Rattle.pgs_bytes.proofs.Facts.{both, true_false, true_or_false}
use Rattle.pgs_name.specs.Bounds.{is_word, is_name, is_snap, same_text, kept_key}
use Rattle.pgs_name.specs.Families.{effective_key}
use Rattle.pgs_name.specs.declared.object_id.ObjectId.{ObjectId}
use Rattle.pgs_codec.specs.Fields.{IsSpelling, text, u64, followed}
use Rattle.pgs_codec.specs.Ids.{word, name_beside, snap, parts, id_of, parts_of, is_placed, id}
use Rattle.pgs_codec.proofs.Laws.{u64_laws, such_laws, followed_laws, seen_laws, text_laws}

pub word_laws : (most : ℕ) → IsSpelling (word most)
word_laws most = such_laws (is_word most) (text most) (text_laws most)

pub name_laws : (key : List ℕ) → IsSpelling (name_beside key)
name_laws key = such_laws (λ w. is_name w && not (same_text key w)) (text 255) (text_laws 255)

pub snap_laws : IsSpelling snap
snap_laws = such_laws is_snap u64 u64_laws

pub parts_laws : IsSpelling parts
parts_laws =
    followed_laws (word 64) (λ space. followed (word 255) (λ key. followed (name_beside key) (λ name. snap))) (word_laws 64)
    (λ space. followed_laws (word 255) (λ key. followed (name_beside key) (λ name. snap)) (word_laws 255)
    (λ key. followed_laws (name_beside key) (λ name. snap) (name_laws key) (λ name. snap_laws)))

-- ---- keys as they are kept

not_true : (a : Bool) → not a ≡ true → a ≡ false
not_true true e = sym e
not_true false e = refl

-- a name has a byte
abbrev HasByte : List ℕ → Type 0
HasByte w = not (length w == 0) ≡ true

some_byte : (n : ℕ) → (suc n == 0) ≡ false
some_byte n = grind (arith, nat_tests)

has_byte : (b : ℕ) (w : List ℕ) → HasByte (b ∷ w)
has_byte b w = ap not (some_byte (length w))

named_byte : (w : List ℕ) → is_name w ≡ true → HasByte w
named_byte [] e = e
named_byte (b ∷ w) e = has_byte b w

kept_same : (key name : List ℕ) → same_text key name ≡ true → kept_key key name ≡ []
kept_same key name e = rw e refl

kept_other : (key name : List ℕ) → same_text key name ≡ false → kept_key key name ≡ key
kept_other key name e = rw e refl

given : (b : ℕ) (key name : List ℕ) → effective_key (b ∷ key) name ≡ b ∷ key
given b key name = ap (λ (t : Bool). cond t name (b ∷ key)) (some_byte (length key))

-- a key that isn't the name is kept as it is, and an empty one stands for the name
kept_back : (key name : List ℕ) → is_name name ≡ true → same_text key name ≡ false → (kept_key (effective_key key name) name ≡ key) × HasByte (effective_key key name)
kept_back [] name named other = (kept_same name name ((bytes_decides name name).1 refl), named_byte name named)
kept_back (b ∷ key) name named other = (ap (λ (k : List ℕ). kept_key k name) (given b key name) ∙ kept_other (b ∷ key) name other, ap (λ (k : List ℕ). not (length k == 0)) (given b key name) ∙ has_byte b key)

placed : (key name : List ℕ) → HasByte key → effective_key key name ≡ key
placed [] name e = absurd (true_false (sym e))
placed (b ∷ key) name e = given b key name

kept_forth : (key name : List ℕ) → HasByte key → effective_key (kept_key key name) name ≡ key
kept_forth key name e = elim (true_or_false (same_text key name)) [
  | inl same ↦ ap (λ (k : List ℕ). effective_key k name) (kept_same key name same) ∙ sym ((bytes_decides key name).0 same)
  | inr other ↦ ap (λ (k : List ℕ). effective_key k name) (kept_other key name other) ∙ placed key name e
]

back : (p : List ℕ × (List ℕ × (List ℕ × ℕ))) → parts.fits p ≡ true → (parts_of (id_of p) ≡ p) × (is_placed (id_of p) ≡ true)
back p e =
    let behind_space = (both ((word 64).fits p.0) _ e).1 in
    let behind_key = (both ((word 255).fits p.1.0) _ behind_space).1 in
    let name = (both ((name_beside p.1.0).fits p.1.1.0) (snap.fits p.1.1.1) behind_key).0 in
    let test = (both ((text 255).fits p.1.1.0) (is_name p.1.1.0 && not (same_text p.1.0 p.1.1.0)) name).1 in
    let tests = both (is_name p.1.1.0) (not (same_text p.1.0 p.1.1.0)) test in
    let kept = kept_back p.1.0 p.1.1.0 tests.0 (not_true _ tests.1) in
    (ap (λ (key : List ℕ). (p.0, (key, p.1.1))) kept.0, kept.1)

forth : (y : ObjectId) → parts.fits (parts_of y) ≡ true → is_placed y ≡ true → id_of (parts_of y) ≡ y
forth y fits has =
    ap (λ (key : List ℕ). record { family = record { space = y.family.space; key = key; name = y.family.name }; snap = y.snap }) (kept_forth y.family.key y.family.name has)

pub id_laws : IsSpelling id
id_laws = seen_laws id_of parts_of is_placed parts parts_laws back forth
