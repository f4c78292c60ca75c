-- The laws of snapsets.
use Rattle.std.proofs.Common.{◌≡◌, ℕ, true, List, Result, Ok, Err, refl, ap, subst, ◌∙◌}
use Rattle.std.specs.Prelude.{IfOk}
use Rattle.pgs_codec.specs.Fields.{IsSpelling, AreBytes, u64, fixed, followed, counted}
use Rattle.pgs_codec.specs.Answers.{Decodes}
use Rattle.pgs_codec.specs.declared.decode_error.DecodeError.{DecodeError}
use Rattle.pgs_codec.proofs.Laws.{u64_laws, fixed_laws, followed_laws, seen_laws, counted_laws}
use Rattle.pgs_codec.proofs.Whole.{whole_again, whole_found, one_value}
use Rattle.pgs_snapset.specs.declared.snapset.SnapSet.{SnapSet}
use Rattle.pgs_snapset.specs.Spelling.{clone, marks, snapset, snapset_fits, snapset_spelling, read_snapset}

clone_laws : IsSpelling clone
clone_laws =
    seen_laws (λ p. record { snap = p.0; size = p.1.0; snaps = p.1.1 }) (λ c. (c.snap, (c.size, c.snaps))) (λ c. true) (followed u64 (λ snap. followed u64 (λ size. counted u64)))
    (followed_laws u64 (λ snap. followed u64 (λ size. counted u64)) u64_laws
    (λ snap. followed_laws u64 (λ size. counted u64) u64_laws (λ size. counted_laws u64 u64_laws)))
    (λ p fits. (refl, refl)) (λ c fits test. refl)

marks_laws : IsSpelling marks
marks_laws = followed_laws (fixed 0x53) (λ first. fixed 1) (fixed_laws 0x53) (λ first. fixed_laws 1)

pub snapset_laws : IsSpelling snapset
snapset_laws =
    seen_laws (λ p. record { seq = p.1.0; clones = p.1.1 }) (λ s. ((tt, tt), (s.seq, s.clones))) (λ s. true) (followed marks (λ begun. followed u64 (λ seq. counted clone)))
    (followed_laws marks (λ begun. followed u64 (λ seq. counted clone)) marks_laws
    (λ begun. followed_laws u64 (λ seq. counted clone) u64_laws (λ seq. counted_laws clone clone_laws)))
    (λ p fits. (refl, refl)) (λ s fits test. refl)

pub read_again : (s : SnapSet) → snapset_fits s ≡ true → read_snapset (snapset_spelling s) ≡ Ok s
unfolding snapset_fits snapset_spelling read_snapset
read_again s fits = whole_again snapset snapset_laws s fits

read_found : (text : List ℕ) (s : SnapSet) → AreBytes text → read_snapset text ≡ Ok s → (snapset_fits s ≡ true) × (text ≡ snapset_spelling s)
unfolding snapset_fits snapset_spelling read_snapset
read_found text s bytes e =
    let f = whole_found snapset snapset_laws text s bytes e in
    (f.1, f.0)

pub one_snapset : (s t : SnapSet) → snapset_fits s ≡ true → snapset_fits t ≡ true → snapset_spelling t ≡ snapset_spelling s → t ≡ s
unfolding snapset_fits snapset_spelling
one_snapset s t p q e = one_value snapset snapset_laws t s q p e

-- ---- what was decoded

pub decoded_found : (text : List ℕ) (r : Result SnapSet DecodeError) → AreBytes text → Decodes r (read_snapset text) → IfOk r (λ s. (snapset_fits s ≡ true) × (text ≡ snapset_spelling s))
decoded_found text (Ok s) bytes e = read_found text s bytes e
decoded_found text (Err d) bytes e = tt

pub decoded_only : (text : List ℕ) (r : Result SnapSet DecodeError) (s : SnapSet) → Decodes r (read_snapset text) → snapset_fits s ≡ true → text ≡ snapset_spelling s → Decodes r (Ok s)
decoded_only text r s e fits spelled = subst (λ (read : Result SnapSet ℕ). Decodes r read) (ap read_snapset spelled ∙ read_again s fits) e
