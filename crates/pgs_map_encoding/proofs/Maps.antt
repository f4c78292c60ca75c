-- The laws of scrub maps as bytes.
use Rattle.std.proofs.Common.{◌≡◌, ℕ, true, List, Result, Ok, Err, refl, sym, ap, subst, ◌∙◌}
use Rattle.std.specs.Prelude.{IfOk}
use Rattle.pgs_range.specs.declared.family_range.FamilyRange.{FamilyRange}
use Rattle.pgs_map.specs.declared.scrub_map.ScrubMap.{ScrubMap}
use Rattle.pgs_codec.specs.Fields.{IsSpelling, AreBytes, u32, u64, fixed, followed}
use Rattle.pgs_codec.specs.Answers.{Decodes}
use Rattle.pgs_codec.specs.declared.decode_error.DecodeError.{DecodeError}
use Rattle.pgs_codec.proofs.Laws.{u32_laws, u64_laws, fixed_laws, followed_laws, seen_laws}
use Rattle.pgs_codec.proofs.Whole.{whole_again, whole_found}
use Rattle.pgs_codec.proofs.Steps.{ok_same}
use Rattle.pgs_map_encoding.specs.Bounds.{range}
use Rattle.pgs_map_encoding.specs.Entries.{entry, entry_spelling}
use Rattle.pgs_map_encoding.specs.Maps.{marks, whose, numbers, entries, map_parts, map_of, parts_of, scrub_map, map_fits, map_spelling, read_map}
use Rattle.pgs_map_encoding.proofs.Chains.{chained_laws}
use Rattle.pgs_map_encoding.proofs.Bounds.{range_laws}
use Rattle.pgs_map_encoding.proofs.Entries.{entry_laws}

marks_laws : IsSpelling marks
marks_laws = followed_laws (fixed 0x4D) (λ first. fixed 1) (fixed_laws 0x4D) (λ first. fixed_laws 1)

whose_laws : IsSpelling whose
whose_laws =
    followed_laws u32 (λ osd. followed u64 (λ serial. u64)) u32_laws (λ osd. followed_laws u64 (λ serial. u64) u64_laws (λ serial. u64_laws))

numbers_laws : IsSpelling numbers
numbers_laws =
    followed_laws whose (λ w. followed u64 (λ needed. u64)) whose_laws (λ w. followed_laws u64 (λ needed. u64) u64_laws (λ needed. u64_laws))

entries_laws : (r : FamilyRange) → IsSpelling (entries r)
unfolding entry_spelling
entries_laws r = chained_laws (λ n. true) entry_spelling (entry r) (entry_laws r) (λ last x. refl)

parts_laws : IsSpelling map_parts
parts_laws =
    followed_laws marks (λ begun. followed numbers (λ n. followed range (λ r. entries r))) marks_laws
    (λ begun. followed_laws numbers (λ n. followed range (λ r. entries r)) numbers_laws
    (λ n. followed_laws range (λ r. entries r) range_laws (λ r. entries_laws r)))

map_laws : IsSpelling scrub_map
map_laws = seen_laws map_of parts_of (λ m. true) map_parts parts_laws (λ p fits. (refl, refl)) (λ m fits test. refl)

pub read_again : (m : ScrubMap) → map_fits m ≡ true → read_map (map_spelling m) ≡ Ok m
unfolding map_fits map_spelling read_map
read_again m fits = whole_again scrub_map map_laws m fits

read_found : (text : List ℕ) (m : ScrubMap) → AreBytes text → read_map text ≡ Ok m → (map_fits m ≡ true) × (text ≡ map_spelling m)
unfolding map_fits map_spelling read_map
read_found text m bytes e =
    let f = whole_found scrub_map map_laws text m bytes e in
    (f.1, f.0)

-- no other map is spelled as one that is read again
pub only_map : (text : List ℕ) (m n : ScrubMap) → read_map text ≡ Ok m → map_fits n ≡ true → map_spelling n ≡ text → n ≡ m
only_map text m n read fits spelled = ok_same n m (sym (read_again n fits) ∙ ap read_map spelled ∙ read)

-- ---- what was decoded

pub decoded_found : (text : List ℕ) (r : Result ScrubMap DecodeError) → AreBytes text → Decodes r (read_map text) → IfOk r (λ m. (map_fits m ≡ true) × (text ≡ map_spelling m))
decoded_found text (Ok m) bytes e = read_found text m bytes e
decoded_found text (Err d) bytes e = tt

pub decoded_only : (text : List ℕ) (r : Result ScrubMap DecodeError) (m : ScrubMap) → Decodes r (read_map text) → map_fits m ≡ true → text ≡ map_spelling m → Decodes r (Ok m)
decoded_only text r m e fits spelled = subst (λ (read : Result ScrubMap ℕ). Decodes r read) (ap read_map spelled ∙ read_again m fits) e
