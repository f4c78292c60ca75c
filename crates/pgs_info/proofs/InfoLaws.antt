-- The laws of object infos.
use Rattle.std.proofs.Common.{◌≡◌, ℕ, Bool, true, false, List, Option, Some, None, Result, Ok, Err, refl, sym, ap, subst, ◌∙◌}
use Rattle.std.specs.Prelude.{is_some, IfOk}
use Rattle.pgs_bytes.proofs.Facts.{both, true_false}
use Rattle.pgs_codec.specs.Fields.{IsSpelling, AreBytes, u32, u64, fixed, followed, where_so, fits_where}
use Rattle.pgs_codec.specs.Answers.{Decodes}
use Rattle.pgs_codec.specs.Ids.{id}
use Rattle.pgs_codec.specs.declared.decode_error.DecodeError.{DecodeError}
use Rattle.pgs_codec.proofs.Laws.{u32_laws, u64_laws, fixed_laws, followed_laws, seen_laws, where_laws}
use Rattle.pgs_codec.proofs.IdLaws.{id_laws}
use Rattle.pgs_codec.proofs.Whole.{whole_again, whole_found, one_value}
use Rattle.pgs_info.specs.declared.info.ObjectInfo.{ObjectInfo}
use Rattle.pgs_info.specs.Flags.{flags}
use Rattle.pgs_info.specs.Info.{version, sizes, digests, marks, Parts, parts, info_of, parts_of, info, info_fits, info_spelling, read_info}
use Rattle.pgs_info.proofs.FlagLaws.{flags_laws}

version_laws : IsSpelling version
version_laws =
    seen_laws (λ p. record { epoch = p.0; number = p.1 }) (λ v. (v.epoch, v.number)) (λ v. true) (followed u32 (λ epoch. u64))
    (followed_laws u32 (λ epoch. u64) u32_laws (λ epoch. u64_laws)) (λ p fits. (refl, refl)) (λ v fits test. refl)

sizes_laws : IsSpelling sizes
sizes_laws =
    followed_laws version (λ latest. followed version (λ prior. u64)) version_laws
    (λ latest. followed_laws version (λ prior. u64) version_laws (λ prior. u64_laws))

digests_laws : IsSpelling digests
digests_laws =
    followed_laws flags (λ f. followed (where_so f.data_digest u32) (λ digest. where_so f.omap_digest u32)) flags_laws
    (λ f. followed_laws (where_so f.data_digest u32) (λ digest. where_so f.omap_digest u32) (where_laws f.data_digest u32 u32_laws)
    (λ digest. where_laws f.omap_digest u32 u32_laws))

marks_laws : IsSpelling marks
marks_laws = followed_laws (fixed 0x49) (λ first. fixed 1) (fixed_laws 0x49) (λ first. fixed_laws 1)

parts_laws : IsSpelling parts
parts_laws =
    followed_laws marks (λ begun. followed id (λ position. followed sizes (λ s. digests))) marks_laws
    (λ begun. followed_laws id (λ position. followed sizes (λ s. digests)) id_laws
    (λ position. followed_laws sizes (λ s. digests) sizes_laws (λ s. digests_laws)))

-- a digest is there exactly where its flag says so
there_is : (there : Bool) (o : Option ℕ) → fits_where there u32 o ≡ true → is_some o ≡ there
there_is true (Some x) e = refl
there_is true None e = absurd (true_false (sym e))
there_is false (Some x) e = absurd (true_false (sym e))
there_is false None e = refl

back : (p : Parts) → parts.fits p ≡ true → (parts_of (info_of p) ≡ p) × (◌≡◌ {A = Bool} true true)
back p e =
    let behind_marks = (both (marks.fits p.0) _ e).1 in
    let behind_id = (both (id.fits p.1.0) _ behind_marks).1 in
    let told = (both (sizes.fits p.1.1.0) (digests.fits p.1.1.1) behind_id).1 in
    let both_digests = (both (flags.fits p.1.1.1.0) _ told).1 in
    let each = both (fits_where p.1.1.1.0.data_digest u32 p.1.1.1.1.0) (fits_where p.1.1.1.0.omap_digest u32 p.1.1.1.1.1) both_digests in
    let first = there_is p.1.1.1.0.data_digest p.1.1.1.1.0 each.0 in
    let second = there_is p.1.1.1.0.omap_digest p.1.1.1.1.1 each.1 in
    (λ i. (p.0, (p.1.0, (p.1.1.0, (record { whiteout = p.1.1.1.0.whiteout; data_digest = first i; omap_digest = second i }, p.1.1.1.1)))), refl)

pub info_laws : IsSpelling info
info_laws = seen_laws info_of parts_of (λ i. true) parts parts_laws back (λ i fits test. refl)

pub read_again : (i : ObjectInfo) → info_fits i ≡ true → read_info (info_spelling i) ≡ Ok i
unfolding info_fits info_spelling read_info
read_again i fits = whole_again info info_laws i fits

pub read_found : (text : List ℕ) (i : ObjectInfo) → AreBytes text → read_info text ≡ Ok i → (info_fits i ≡ true) × (text ≡ info_spelling i)
unfolding info_fits info_spelling read_info
read_found text i bytes e =
    let f = whole_found info info_laws text i bytes e in
    (f.1, f.0)

pub one_info : (i j : ObjectInfo) → info_fits i ≡ true → info_fits j ≡ true → info_spelling j ≡ info_spelling i → j ≡ i
unfolding info_fits info_spelling
one_info i j p q e = one_value info info_laws j i q p e

-- ---- what was decoded

pub decoded_found : (text : List ℕ) (r : Result ObjectInfo DecodeError) → AreBytes text → Decodes r (read_info text) → IfOk r (λ i. (info_fits i ≡ true) × (text ≡ info_spelling i))
decoded_found text (Ok i) bytes e = read_found text i bytes e
decoded_found text (Err d) bytes e = tt

pub decoded_only : (text : List ℕ) (r : Result ObjectInfo DecodeError) (i : ObjectInfo) → Decodes r (read_info text) → info_fits i ≡ true → text ≡ info_spelling i → Decodes r (Ok i)
decoded_only text r i e fits spelled = subst (λ (read : Result ObjectInfo ℕ). Decodes r read) (ap read_info spelled ∙ read_again i fits) e
