-- No list holds a float, so its text is the compact one.
use Rattle.std.proofs.Common.{◌≡◌, ℕ, Bool, true, false, ◌||◌, ◌==◌, cond, List, [], ◌∷◌, Option, Some, None, option_map, map, codes, refl, ap, ◌∙◌}
use Rattle.serde_json.specs.Data.{Data, Members, string, number, unsigned}
use Rattle.serde_json.specs.View.{view, items_of}
use Rattle.serde_json.specs.Written.{has_float, items_have_float, members_have_float, compact_text}
use Rattle.serde_json.specs.declared.value.Value.{Value}
use Rattle.pgs_name.specs.declared.object_id.TheConstants.{HEAD}
use Rattle.pgs_info.specs.declared.info.ObjectInfo.{ObjectInfo}
use Rattle.pgs_find.specs.declared.snap_finding.SnapFinding.{SnapFinding}
use Rattle.pgs_find.specs.declared.snap_error.SnapError.TheVariants.{CloneMissing, ExtraClones}
use Rattle.pgs_find.specs.SnapNames.{snap_word, snap_names_of, has_snap}
use Rattle.pgs_find.specs.ObjectNames.{object_word, object_names_of}
use Rattle.pgs_find.specs.ShardNames.{shard_word, shard_names_of}
use Rattle.pgs_incons.specs.declared.finding.Finding.{Finding}
use Rattle.pgs_incons.specs.declared.shard_finding.ShardFinding.{ShardFinding}
use Rattle.pgs_list_json.specs.Members.{with_first, members_in, array_of, words_data, numbers_data, only_where}
use Rattle.pgs_list_json.specs.Object.{snap_data, digest_data}
use Rattle.pgs_list_json.specs.Obj.{object_table, info_table, shard_table, finding_table, list_obj_table, union_of, object_data, info_data, chosen_data, shard_data, finding_data, list_obj_data, list_obj_text, by_osd}
use Rattle.pgs_list_json.specs.Snap.{snap_finding_table, list_snap_table, snap_finding_data, list_snap_data, list_snap_text}

neither : (a b : Bool) → a ≡ false → b ≡ false → (a || b) ≡ false
neither true b e f = e
neither false b e f = f

-- a value, where there is one, holds none
abbrev HasNone : Option Data → Type 0
HasNone None = ◌≡◌ {A = Bool} false false
HasNone (Some value) = has_float value ≡ false

-- each member of a table holds none
abbrev HaveNone : List (List ℕ × Option Data) → Type 0
HaveNone [] = ◌≡◌ {A = Bool} false false
HaveNone (row ∷ rows) = HasNone row.1 × HaveNone rows

first_has_none : (key : List ℕ) (value : Option Data) (others : Members) → HasNone value → members_have_float others ≡ false → members_have_float (with_first key value others) ≡ false
first_has_none key None others e f = f
first_has_none key (Some value) others e f = neither (has_float value) (members_have_float others) e f

table_has_none : (rows : List (List ℕ × Option Data)) → HaveNone rows → members_have_float (members_in rows) ≡ false
table_has_none [] h = refl
table_has_none (row ∷ rows) h = first_has_none row.0 row.1 (members_in rows) h.0 (table_has_none rows h.1)

array_has_none : {A : Type 0} (item_of : A → Data) (xs : List A) → ((x : A) → has_float (item_of x) ≡ false) → has_float (array_of item_of xs) ≡ false
array_has_none item_of [] h = refl
array_has_none item_of (x ∷ xs) h = neither (has_float (item_of x)) (items_have_float (items_of (map item_of xs))) (h x) (array_has_none item_of xs h)

words_have_none : {A : Type 0} (word : A → List ℕ) (names : List A) → has_float (words_data word names) ≡ false
words_have_none word names = array_has_none (λ n. string (word n)) names (λ n. refl)

numbers_have_none : (numbers : List ℕ) → has_float (numbers_data numbers) ≡ false
numbers_have_none numbers = array_has_none (λ n. number (unsigned n)) numbers (λ n. refl)

where_has_none : {A : Type 0} (data_of : A → Data) (o : Option A) → ((x : A) → has_float (data_of x) ≡ false) → HasNone (option_map data_of o)
where_has_none data_of None h = refl
where_has_none data_of (Some x) h = h x

only_has_none : (so : Bool) (value : Data) → has_float value ≡ false → HasNone (only_where so value)
only_has_none true value e = e
only_has_none false value e = refl

snap_has_none : (snap : ℕ) → has_float (snap_data snap) ≡ false
snap_has_none snap =
    let P : Bool → Type 0 = λ b. has_float (cond b (string (codes "head")) (number (unsigned snap))) ≡ false in
    elim (snap == HEAD) as P [ true ↦ refl | false ↦ refl ]

-- ---- inconsistent objects

object_has_none : (finding : Finding) → has_float (object_data finding) ≡ false
unfolding object_data
object_has_none finding = table_has_none (object_table finding) (refl, (refl, (refl, (snap_has_none finding.id.snap, (refl, refl)))))

info_has_none : (info : ObjectInfo) → has_float (info_data info) ≡ false
unfolding info_data
info_has_none info = table_has_none (info_table info) (where_has_none digest_data info.data_digest (λ d. refl), (where_has_none digest_data info.omap_digest (λ d. refl), (refl, (refl, (refl, (refl, refl))))))

shard_has_none : (shard : ShardFinding) → has_float (shard_data shard) ≡ false
unfolding shard_data
shard_has_none shard = table_has_none (shard_table shard) (where_has_none digest_data shard.data_digest (λ d. refl), (words_have_none shard_word (shard_names_of shard.errors), (where_has_none digest_data shard.omap_digest (λ d. refl), (refl, (refl, (where_has_none (λ n. number (unsigned n)) shard.size (λ n. refl), refl))))))

finding_has_none : (finding : Finding) → has_float (finding_data finding) ≡ false
unfolding finding_data
finding_has_none finding = table_has_none (finding_table finding) (words_have_none object_word (object_names_of finding.errors), (object_has_none finding, (where_has_none chosen_data finding.chosen (λ chosen. info_has_none chosen.info), (array_has_none shard_data (by_osd finding.shards) shard_has_none, (words_have_none shard_word (union_of finding.shards), refl)))))

obj_has_none : (epoch : ℕ) (findings : List Finding) → has_float (list_obj_data epoch findings) ≡ false
unfolding list_obj_data
obj_has_none epoch findings = table_has_none (list_obj_table epoch findings) (refl, (array_has_none finding_data findings finding_has_none, refl))

-- ---- inconsistent snapshots

snap_finding_has_none : (finding : SnapFinding) → has_float (snap_finding_data finding) ≡ false
unfolding snap_finding_data
snap_finding_has_none finding = table_has_none (snap_finding_table finding) (words_have_none snap_word (snap_names_of finding.errors), (only_has_none (has_snap finding.errors ExtraClones) (numbers_data finding.extra) (numbers_have_none finding.extra), (refl, (only_has_none (has_snap finding.errors CloneMissing) (numbers_data finding.missing) (numbers_have_none finding.missing), (refl, (refl, (snap_has_none finding.id.snap, refl)))))))

snaps_have_none : (epoch : ℕ) (findings : List SnapFinding) → has_float (list_snap_data epoch findings) ≡ false
unfolding list_snap_data
snaps_have_none epoch findings = table_has_none (list_snap_table epoch findings) (refl, (array_has_none snap_finding_data findings snap_finding_has_none, refl))

-- ---- the texts

text_of : (value : Value) (made : Data) (text : List ℕ) → has_float made ≡ false → view value ≡ made → (has_float (view value) ≡ false → text ≡ compact_text (view value)) → text ≡ compact_text made
text_of value made text none e h = h (ap has_float e ∙ none) ∙ ap compact_text e

pub obj_text : (epoch : ℕ) (findings : List Finding) (value : Value) (text : List ℕ) → view value ≡ list_obj_data epoch findings → (has_float (view value) ≡ false → text ≡ compact_text (view value)) → text ≡ list_obj_text epoch findings
obj_text epoch findings value text e h = text_of value (list_obj_data epoch findings) text (obj_has_none epoch findings) e h

pub snap_text : (epoch : ℕ) (findings : List SnapFinding) (value : Value) (text : List ℕ) → view value ≡ list_snap_data epoch findings → (has_float (view value) ≡ false → text ≡ compact_text (view value)) → text ≡ list_snap_text epoch findings
snap_text epoch findings value text e h = text_of value (list_snap_data epoch findings) text (snaps_have_none epoch findings) e h
