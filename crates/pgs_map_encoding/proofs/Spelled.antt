-- Which maps have a spelling, part by part.
use Rattle.std.proofs.Common.{◌≡◌, ◌==◌, ◌≤◌, ◌^◌, ℕ, ◌<◌, ◌&&◌, Bool, true, false, not, cond, List, [], ◌∷◌, length, Option, Some, None, Ok, refl, sym, ap, ◌∙◌, arith}
use Rattle.std.specs.Prelude.{nat_lt, nat_le, is_some}
use Rattle.std.specs.List.{list_all, AllByRecursion}
use Rattle.std.specs.Map.{keys_of}
use Rattle.std.specs.declared.cmp.Ordering.TheVariants.{Less}
use Rattle.std.specs.Ordering.{is_lt, nat_cmp}
use Rattle.std.specs.Cmp.Lexicographic.{slice_cmp}
use Rattle.std.proofs.lemmas.Map.Keys.{sorted_head, sorted_tail}
use Rattle.pgs_bytes.proofs.Facts.{both, joined, true_false}
use Rattle.std.proofs.lemmas.Bool.Decides.{nat_tests}
use Rattle.pgs_name.specs.Bounds.{is_word, is_name, is_snap}
use Rattle.pgs_name.specs.Families.{Family}
use Rattle.pgs_name.specs.declared.object_id.ObjectId.{ObjectId}
use Rattle.pgs_range.specs.declared.family_range.FamilyRange.{FamilyRange}
use Rattle.pgs_range.specs.declared.bound.Bound.TheVariants.{At}
use Rattle.pgs_copy.specs.Pairs.{Pairs, IsInOrder}
use Rattle.pgs_map.specs.declared.entry.Entry.{Entry}
use Rattle.pgs_map.specs.declared.scrub_map.ScrubMap.{ScrubMap}
use Rattle.pgs_codec.specs.Fields.{u32, followed, fits_where}
use Rattle.pgs_codec.specs.Ids.{word, name_beside, snap, id}
use Rattle.pgs_map_encoding.specs.Bounds.{family_parts, parts_of_family, is_placed, is_name_beside, family, bound, is_below, range}
use Rattle.pgs_map_encoding.specs.Chains.{chain_fits}
use Rattle.pgs_map_encoding.specs.Entries.{outcome, bytes, is_name_behind, has_digests, both_digests, IsWord, tells_one, attr, attrs, is_short, may_be, may_follow, outcome_of, is_told, entry}
use Rattle.pgs_map_encoding.specs.Maps.{numbers, parts_of, entries, map_fits, map_spelling, read_map}
use Rattle.pgs_map_encoding.proofs.Maps.{read_again}
use Rattle.pgs_map_encoding.specs.declared.outcome.Outcome.{Outcome}
use Rattle.pgs_map_encoding.specs.declared.outcome.Outcome.TheVariants.{Undigested, Digested, StatFailed, ReadFailed}

and_true : (a : Bool) → (a && true) ≡ a
and_true true = refl
and_true false = refl

and_assoc : (a b c : Bool) → ((a && b) && c) ≡ (a && (b && c))
and_assoc true b c = refl
and_assoc false b c = refl

pub below : (n bound : ℕ) → n < bound → nat_lt n bound ≡ true
below n bound h = grind (arith, nat_tests)

-- a test that another implies may stand before it
implied : (a b : Bool) → (b ≡ true → a ≡ true) → b ≡ (a && b)
implied a true h = sym (ap (λ (x : Bool). x && true) (h refl))
implied true false h = refl
implied false false h = refl

map_is : (m : ScrubMap) → numbers.fits (parts_of m).1.0 ≡ true → (range.fits m.range && (entries m.range).fits m.entries) ≡ true → map_fits m ≡ true
unfolding map_fits
map_is m numbered fits = rw (numbered, fits) refl

-- a map whose numbers, range and entries have a spelling is read again
pub map_again : (m : ScrubMap) → numbers.fits (parts_of m).1.0 ≡ true → (range.fits m.range && (entries m.range).fits m.entries) ≡ true → read_map (map_spelling m) ≡ Ok m
map_again m numbered fits = read_again m (map_is m numbered fits)

pub range_is : (r : FamilyRange) → (bound.fits r.from && (bound.fits r.to && is_below r.from r.to)) ≡ range.fits r
range_is r = sym (and_true _)

pub family_at : (f : Family) → family.fits f ≡ bound.fits (At f)
family_at f = sym (and_true _)

pub family_is : (f : Family) → (family_parts.fits (parts_of_family f) && not (length f.key == 0)) ≡ family.fits f
family_is f = refl

short_lt : (n most : ℕ) → most ≤ 255 → nat_le n most ≡ true → nat_lt n (2 ^ 32) ≡ true
short_lt n most few le = grind (arith, nat_tests)

-- a text that a bound holds is short
word_is : (most : ℕ) (w : List ℕ) → most ≤ 255 → is_word most w ≡ (word most).fits w
word_is most w few = implied _ (is_word most w) (λ e.
    let le = (both (nat_le (length w) most) _ (both _ _ e).0).0 in
    joined _ _ (short_lt (length w) most few le) le)

name_is : (key w : List ℕ) → is_name_beside key w ≡ (name_beside key).fits w
name_is key w = implied _ (is_name_beside key w) (λ e.
    let named = (both (is_name w) _ e).0 in
    let le = (both (nat_le 1 (length w)) (nat_le (length w) 255) (both _ _ named).0).1 in
    joined _ _ (short_lt (length w) 255 (omega arith) le) le)

pub parts_are : (f : Family) → ((is_word 64 (parts_of_family f).0 && is_word 255 (parts_of_family f).1.0) && is_name_beside (parts_of_family f).1.0 (parts_of_family f).1.1) ≡ family_parts.fits (parts_of_family f)
parts_are f =
    let p = parts_of_family f in
    and_assoc (is_word 64 p.0) (is_word 255 p.1.0) (is_name_beside p.1.0 p.1.1)
    ∙ (λ i. word_is 64 p.0 (omega arith) i && (word_is 255 p.1.0 (omega arith) i && name_is p.1.0 p.1.1 i))

reordered : (w k n p s : Bool) → (((w && (k && n)) && p) && s) ≡ ((w && (k && (n && s))) && p)
reordered false k n p s = refl
reordered true false n p s = refl
reordered true true false p s = refl
reordered true true true true true = refl
reordered true true true true false = refl
reordered true true true false true = refl
reordered true true true false false = refl

pub id_is : (i : ObjectId) → i.snap < 2 ^ 64 → (family.fits i.family && is_snap i.snap) ≡ id.fits i
id_is i lt =
    let p = parts_of_family i.family in
    let s : is_snap i.snap ≡ snap.fits i.snap = sym (rw (below i.snap (2 ^ 64) lt) refl) in
    ap (λ (b : Bool). family.fits i.family && b) s ∙ reordered ((word 64).fits p.0) ((word 255).fits p.1.0) ((name_beside p.1.0).fits p.1.1) (is_placed i.family) (snap.fits i.snap)

-- the digests of an entry that tells of one outcome fit
digests_fit : (stat read : Bool) (first omap : Option ℕ) → IsWord first → IsWord omap → tells_one stat read (is_some first) (is_some omap) ≡ true
    → fits_where (has_digests (cond stat StatFailed (cond read ReadFailed (cond (is_some first) Digested Undigested)))) (followed u32 (λ d. u32)) (both_digests first omap) ≡ true
digests_fit true true first omap f o e = absurd (true_false (sym e))
digests_fit true false None omap f o e = refl
digests_fit true false (Some a) omap f o e = absurd (true_false (sym e))
digests_fit false true None omap f o e = refl
digests_fit false true (Some a) omap f o e = absurd (true_false (sym e))
digests_fit false false None omap f o e = refl
digests_fit false false (Some a) None f o e = absurd (true_false (sym e))
digests_fit false false (Some a) (Some b) f o e = joined _ _ (below a (2 ^ 32) f) (below b (2 ^ 32) o)

outcome_fits : (o : Outcome) → outcome.fits o ≡ true
outcome_fits Undigested = refl
outcome_fits Digested = refl
outcome_fits StatFailed = refl
outcome_fits ReadFailed = refl

parted : (i b a t d : Bool) → (t ≡ true → d ≡ true) → (i && ((b && a) && t)) ≡ ((i && (b && (a && d))) && t)
parted false b a t d h = refl
parted true false a t d h = refl
parted true true false t d h = refl
parted true true true true d h = sym (ap (λ (x : Bool). x && true) (h refl))
parted true true true false true h = refl
parted true true true false false h = refl

pub entry_is : (r : FamilyRange) (last : Option Entry) (e : Entry) → e.size < 2 ^ 64 → IsWord e.data_digest → IsWord e.omap_digest
    → ((id.fits e.id && may_follow r last e.id) && ((may_be (outcome_of e) e.size && (attrs (outcome_of e)).fits e.attrs) && is_told e)) ≡ (entry r last).fits e
entry_is r last e lt first omap =
    rw (outcome_fits (outcome_of e), below e.size (2 ^ 64) lt)
    (parted (id.fits e.id && may_follow r last e.id) (may_be (outcome_of e) e.size) ((attrs (outcome_of e)).fits e.attrs) (is_told e)
    (fits_where (has_digests (outcome_of e)) (followed u32 (λ d. u32)) (both_digests e.data_digest e.omap_digest)) (digests_fit e.stat_failed e.read_failed e.data_digest e.omap_digest first omap))

word_le : (n : ℕ) → nat_le n 4294967295 ≡ nat_lt n (2 ^ 32)
word_le n = grind (arith, nat_tests)

both_same : (a : Bool) → (a && a) ≡ a
both_same true = refl
both_same false = refl

bytes_are : (w : List ℕ) → nat_le (length w) 4294967295 ≡ bytes.fits w
bytes_are w = sym (ap (λ (b : Bool). b && nat_le (length w) 4294967295) (sym (word_le (length w))) ∙ both_same _)

between : (a b : Bool) → (a && b) ≡ ((a && true) && b)
between true b = refl
between false b = refl

-- each name of pairs in their order stands behind the one before
behind_each : (last : Option (List ℕ × List ℕ)) (pairs : Pairs) → IsInOrder pairs → AllByRecursion (λ name. is_name_behind last name ≡ true) (keys_of pairs) → list_all is_short pairs ≡ chain_fits attr last pairs
behind_each last [] sorted after = refl
behind_each last (p ∷ pairs) sorted after =
    let below_all = sorted_head (slice_cmp nat_cmp) p.0 (keys_of pairs) sorted in
    let rest = behind_each (Some p) pairs (sorted_tail (slice_cmp nat_cmp) p.0 (keys_of pairs) sorted) (each (keys_of pairs) p below_all) in
    let one : is_short p ≡ ((bytes.fits p.0 && is_name_behind last p.0) && bytes.fits p.1) =
    (λ i. bytes_are p.0 i && bytes_are p.1 i) ∙ between (bytes.fits p.0) (bytes.fits p.1) ∙ ap (λ (b : Bool). (bytes.fits p.0 && b) && bytes.fits p.1) (sym after.0) in
    (λ i. one i && rest i)
  where
    each : (names : List (List ℕ)) (before : List ℕ × List ℕ) → AllByRecursion (λ name. slice_cmp nat_cmp before.0 name ≡ Less) names → AllByRecursion (λ name. is_name_behind (Some before) name ≡ true) names
    each [] before h = tt
    each (name ∷ names) before h = (ap is_lt h.0, each names before h.1)

pub attrs_are : (o : Outcome) (pairs : Pairs) → IsInOrder pairs → ((nat_le (length pairs) 4294967295 && may_be o (length pairs)) && list_all is_short pairs) ≡ (attrs o).fits pairs
attrs_are o pairs sorted =
    (λ i. (word_le (length pairs) i && may_be o (length pairs)) && behind_each None pairs sorted (any (keys_of pairs)) i)
  where
    any : (names : List (List ℕ)) → AllByRecursion (λ name. is_name_behind None name ≡ true) names
    any [] = tt
    any (name ∷ names) = (refl, any names)
