-- The laws of entries as bytes.
use Rattle.std.proofs.Common.{◌≡◌, ℕ, zero, suc, ◌==◌, Bool, true, false, ◌<◌, cond, List, Option, Some, None, refl, sym, ◌∙◌, arith}
use Rattle.std.specs.Prelude.{nat_lt, is_some}
use Rattle.std.specs.Option.{option_map}
use Rattle.std.proofs.lemmas.Bool.{eqb-true}
use Rattle.std.proofs.lemmas.Bool.Decides.{nat_tests}
use Rattle.pgs_bytes.proofs.Facts.{both, true_false}
use Rattle.pgs_range.specs.declared.family_range.FamilyRange.{FamilyRange}
use Rattle.pgs_map.specs.declared.entry.Entry.{Entry}
use Rattle.pgs_codec.specs.Fields.{IsSpelling, u8, u32, u64, such, followed, where_so, fits_where}
use Rattle.pgs_codec.specs.Ids.{id}
use Rattle.pgs_codec.proofs.Laws.{u8_laws, u32_laws, u64_laws, text_laws, such_laws, followed_laws, seen_laws, where_laws}
use Rattle.pgs_codec.proofs.IdLaws.{id_laws}
use Rattle.pgs_map_encoding.specs.Entries.{byte_of, outcome_in, is_outcome, outcome, is_stat_failure, is_read_failure, has_digests, may_be, is_name_behind, bytes, attr, attr_spelling, attrs, may_follow, facts, EntryParts, entry_parts, entry_of, both_digests, parts_of, tells_one, is_told, entry}
use Rattle.pgs_map_encoding.specs.declared.outcome.Outcome.{Outcome}
use Rattle.pgs_map_encoding.specs.declared.outcome.Outcome.TheVariants.{Undigested, Digested, StatFailed, ReadFailed}
use Rattle.pgs_map_encoding.proofs.Chains.{chained_laws}

-- ---- outcomes

-- a number of 3 or more is none of those before it
above : (n k : ℕ) → k < 3 → (suc (suc (suc n)) == k) ≡ false
above n k lt = grind (arith, nat_tests)

byte_back : (byte : ℕ) → is_outcome byte ≡ true → byte_of (outcome_in byte) ≡ byte
byte_back zero e = refl
byte_back (suc zero) e = refl
byte_back (suc (suc zero)) e = refl
byte_back (suc (suc (suc n))) e =
    let zeroth = above n 0 (omega arith) in
    let first = above n 1 (omega arith) in
    let second = above n 2 (omega arith) in
    let twelve : is_outcome (suc (suc (suc n))) ≡ (suc (suc (suc n)) == 12) = rw (zeroth, first, second) refl in
    rw (zeroth, first, second) (sym (eqb-true _ 12 (sym twelve ∙ e)))

outcome_back : (o : Outcome) → outcome_in (byte_of o) ≡ o
outcome_back Undigested = refl
outcome_back Digested = refl
outcome_back StatFailed = refl
outcome_back ReadFailed = refl

pub outcome_laws : IsSpelling outcome
outcome_laws =
    seen_laws outcome_in byte_of (λ o. true) (such is_outcome u8) (such_laws is_outcome u8 u8_laws)
    (λ byte fits. (byte_back byte (both (nat_lt byte 256) (is_outcome byte) fits).1, refl)) (λ o fits test. outcome_back o)

-- ---- attributes

bytes_laws : IsSpelling bytes
bytes_laws = text_laws 4294967295

attr_laws : (last : Option (List ℕ × List ℕ)) → IsSpelling (attr last)
attr_laws last = followed_laws (such (is_name_behind last) bytes) (λ name. bytes) (such_laws (is_name_behind last) bytes bytes_laws) (λ name. bytes_laws)

attrs_laws : (o : Outcome) → IsSpelling (attrs o)
attrs_laws o = chained_laws (may_be o) attr_spelling attr attr_laws (λ last x. refl)

-- ---- entries

facts_laws : (o : Outcome) → IsSpelling (facts o)
facts_laws o =
    followed_laws (such (may_be o) u64) (λ size. followed (attrs o) (λ pairs. where_so (has_digests o) (followed u32 (λ first. u32)))) (such_laws (may_be o) u64 u64_laws)
    (λ size. followed_laws (attrs o) (λ pairs. where_so (has_digests o) (followed u32 (λ first. u32))) (attrs_laws o)
    (λ pairs. where_laws (has_digests o) (followed u32 (λ first. u32)) (followed_laws u32 (λ first. u32) u32_laws (λ first. u32_laws))))

parts_laws : (range : FamilyRange) (last : Option Entry) → IsSpelling (entry_parts range last)
parts_laws range last =
    followed_laws (such (may_follow range last) id) (λ position. followed outcome (λ o. facts o)) (such_laws (may_follow range last) id id_laws)
    (λ position. followed_laws outcome (λ o. facts o) outcome_laws (λ o. facts_laws o))

-- an entry's outcome and digests, seen by its marks and digests, are those that it was made of
made_back : (o : Outcome) (d : Option (ℕ × ℕ)) → fits_where (has_digests o) (followed u32 (λ first. u32)) d ≡ true
    → (cond (is_stat_failure o) StatFailed (cond (is_read_failure o) ReadFailed (cond (is_some (option_map (λ x. x.0) d)) Digested Undigested)) ≡ o)
    × (both_digests (option_map (λ x. x.0) d) (option_map (λ x. x.1) d) ≡ d)
    × (tells_one (is_stat_failure o) (is_read_failure o) (is_some (option_map (λ x. x.0) d)) (is_some (option_map (λ x. x.1) d)) ≡ true)
made_back Undigested None e = (refl, refl, refl)
made_back Undigested (Some d) e = absurd (true_false (sym e))
made_back StatFailed None e = (refl, refl, refl)
made_back StatFailed (Some d) e = absurd (true_false (sym e))
made_back ReadFailed None e = (refl, refl, refl)
made_back ReadFailed (Some d) e = absurd (true_false (sym e))
made_back Digested None e = absurd (true_false (sym e))
made_back Digested (Some d) e = (refl, refl, refl)

back : (range : FamilyRange) (last : Option Entry) (p : EntryParts) → (entry_parts range last).fits p ≡ true → (parts_of (entry_of p) ≡ p) × (is_told (entry_of p) ≡ true)
back range last p e =
    let behind_id = (both ((such (may_follow range last) id).fits p.0) _ e).1 in
    let told = (both (outcome.fits p.1.0) ((facts p.1.0).fits p.1.1) behind_id).1 in
    let behind_size = (both ((such (may_be p.1.0) u64).fits p.1.1.0) _ told).1 in
    let digests = (both ((attrs p.1.0).fits p.1.1.1.0) (fits_where (has_digests p.1.0) (followed u32 (λ first. u32)) p.1.1.1.1) behind_size).1 in
    let made = made_back p.1.0 p.1.1.1.1 digests in
    (λ i. (p.0, (made.0 i, (p.1.1.0, (p.1.1.1.0, made.1 i)))), made.2)

-- the marks and digests of an entry that tells of one outcome are those of its outcome
told_back : (stat read : Bool) (first omap : Option ℕ) → tells_one stat read (is_some first) (is_some omap) ≡ true
    → (is_stat_failure (cond stat StatFailed (cond read ReadFailed (cond (is_some first) Digested Undigested))) ≡ stat)
    × (is_read_failure (cond stat StatFailed (cond read ReadFailed (cond (is_some first) Digested Undigested))) ≡ read)
    × (option_map (λ x. x.0) (both_digests first omap) ≡ first) × (option_map (λ x. x.1) (both_digests first omap) ≡ omap)
told_back true true first omap e = absurd (true_false (sym e))
told_back true false None None e = (refl, refl, refl, refl)
told_back true false None (Some b) e = absurd (true_false (sym e))
told_back true false (Some a) omap e = absurd (true_false (sym e))
told_back false true None None e = (refl, refl, refl, refl)
told_back false true None (Some b) e = absurd (true_false (sym e))
told_back false true (Some a) omap e = absurd (true_false (sym e))
told_back false false None None e = (refl, refl, refl, refl)
told_back false false None (Some b) e = absurd (true_false (sym e))
told_back false false (Some a) None e = absurd (true_false (sym e))
told_back false false (Some a) (Some b) e = (refl, refl, refl, refl)

forth : (x : Entry) → is_told x ≡ true → entry_of (parts_of x) ≡ x
forth x told =
    let t = told_back x.stat_failed x.read_failed x.data_digest x.omap_digest told in
    (λ i. record { id = x.id; stat_failed = t.0 i; read_failed = t.1 i; size = x.size; attrs = x.attrs; data_digest = t.2 i; omap_digest = t.3 i })

pub entry_laws : (range : FamilyRange) (last : Option Entry) → IsSpelling (entry range last)
entry_laws range last = seen_laws entry_of parts_of is_told (entry_parts range last) (parts_laws range last) (back range last) (λ x fits told. forth x told)
