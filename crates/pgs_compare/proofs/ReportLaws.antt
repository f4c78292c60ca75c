-- Positions are compared one after another, from the least on.
use Rattle.std.proofs.Common.{◌≡◌, ℕ, suc, ◌<◌, Bool, true, false, subst, List, [], ◌∷◌, ◌++◌, map, length, append_assoc, Option, Some, None, refl, sym, ap, ◌∙◌, arith}
use Rattle.std.specs.List.{filter_map, cons_option, AllByRecursion}
use Rattle.std.specs.List.Sorted.{IsStrictlySortedBy}
use Rattle.std.specs.Bool.{then_some}
use Rattle.std.specs.Option.{option_to_list}
use Rattle.std.specs.declared.cmp.Ordering.TheVariants.{Less}
use Rattle.pgs_name.specs.Positions.{position_cmp}
use Rattle.pgs_name.specs.declared.object_id.ObjectId.{ObjectId}
use Rattle.pgs_chunk.specs.Positions.{Ascends}
use Rattle.pgs_chunk.specs.Listings.{placed}
use Rattle.pgs_chunk.proofs.Members.{placed_ascends}
use Rattle.pgs_map.specs.declared.entry.Entry.{Entry}
use Rattle.pgs_map.specs.declared.scrub_map.ScrubMap.{ScrubMap}
use Rattle.pgs_snapcheck.specs.Check.{AreAscending, AreFoundAscending}
use Rattle.pgs_snapcheck.specs.declared.view.View.{View}
use Rattle.pgs_snapcheck.proofs.Order.{found_ascends}
use Rattle.pgs_incons.specs.Found.{finding_id, Ascends as Ascending}
use Rattle.pgs_incons.specs.Kept.{AreOrdered}
use Rattle.pgs_incons.specs.declared.finding.Finding.{Finding as Found}
use Rattle.pgs_compare.specs.Finding.{finding, compared, has_error}
use Rattle.pgs_compare.specs.Report.{with_entries, with_maps, positions_of, entries_at, view_of, report}
use Rattle.pgs_compare.specs.declared.report.Report.{Report}
use Rattle.pgs_compare.proofs.Turns.{moved, ended}

-- ---- the positions ascend

entries_up : (entries : List Entry) (ids : List ObjectId) → Ascends ids → Ascends (with_entries ids entries)
entries_up [] ids h = h
entries_up (entry ∷ entries) ids h = entries_up entries (placed entry.id ids) (placed_ascends entry.id ids h)

maps_up : (maps : List ScrubMap) (ids : List ObjectId) → Ascends ids → Ascends (with_maps ids maps)
maps_up [] ids h = h
maps_up (map ∷ maps) ids h = maps_up maps (with_entries ids map.entries) (entries_up map.entries ids h)

pub positions_up : (maps : List ScrubMap) → Ascends (positions_of maps)
unfolding IsStrictlySortedBy
positions_up maps = maps_up maps [] tt

-- ---- so do the views of them

views_above : (view : ObjectId → View) → ((id : ObjectId) → (view id).id ≡ id) → (a : ObjectId) (ids : List ObjectId) → AllByRecursion (λ b. position_cmp a b ≡ Less) ids
    → AllByRecursion (λ v. position_cmp (view a).id v.id ≡ Less) (map view ids)
views_above view same a [] h = tt
views_above view same a (b ∷ ids) h = ((λ i. position_cmp (same a i) (same b i)) ∙ h.0, views_above view same a ids h.1)

pub views_up : (view : ObjectId → View) → ((id : ObjectId) → (view id).id ≡ id) → (ids : List ObjectId) → Ascends ids → AreAscending (map view ids)
unfolding IsStrictlySortedBy
views_up view same [] h = tt
views_up view same (a ∷ ids) h = (views_above view same a ids h.0, views_up view same ids h.1)

-- ---- the turns

put_front : {A : Type 0} (o : Option A) (xs : List A) → option_to_list o ++ xs ≡ cons_option o xs
put_front None xs = refl
put_front (Some x) xs = refl

pub found_next : {A : Type 0} (f : ObjectId → Option A) (id : ObjectId) (ids rest : List ObjectId) (made new all : List A) → ids ≡ id ∷ rest → new ≡ made ++ option_to_list (f id)
    → made ++ filter_map f ids ≡ all → new ++ filter_map f rest ≡ all
found_next f id ids rest made new all e is h =
    ap (λ xs. xs ++ filter_map f rest) is ∙ append_assoc made (option_to_list (f id)) (filter_map f rest)
    ∙ ap (λ xs. made ++ xs) (put_front (f id) (filter_map f rest) ∙ sym (ap (filter_map f) e)) ∙ h

pub view_next : (view : ObjectId → View) (id : ObjectId) (ids rest : List ObjectId) (made new all : List View) (v : View) → ids ≡ id ∷ rest → new ≡ made ++ v ∷ [] → v ≡ view id
    → made ++ map view ids ≡ all → new ++ map view rest ≡ all
view_next view id ids rest made new all v e is same h = moved made new (map view ids) (map view rest) all (view id) (is ∙ ap (λ x. made ++ x ∷ []) same) (ap (map view) e) h

pub none_left : (ids : List ObjectId) → (0 < length ids → ⊥) → ids ≡ []
none_left [] h = refl
none_left (id ∷ ids) h = absurd (h (some_left (length ids)))
  where
    some_left : (n : ℕ) → 0 < suc n
    some_left n = omega arith

pub found_all : {A : Type 0} (f : ObjectId → Option A) (ids : List ObjectId) (made all : List A) → ids ≡ [] → made ++ filter_map f ids ≡ all → made ≡ all
found_all f ids made all none h = ended made (filter_map f ids) all (ap (filter_map f) none) h

pub views_all : (view : ObjectId → View) (ids : List ObjectId) (made all : List View) → ids ≡ [] → made ++ map view ids ≡ all → made ≡ all
views_all view ids made all none h = ended made (map view ids) all (ap (map view) none) h

-- ---- a report stands by position

kept_all : (P : Found → Type 0) (b : Bool) (x : Found) (xs : List Found) → P x → AllByRecursion P xs → AllByRecursion P (cons_option (then_some b x) xs)
kept_all P true x xs h k = (h, k)
kept_all P false x xs h k = k

kept_up : (b : Bool) (x : Found) (xs : List Found) → AllByRecursion (λ f. position_cmp x.id f.id ≡ Less) xs → Ascending finding_id xs
    → Ascending finding_id (cons_option (then_some b x) xs)
unfolding IsStrictlySortedBy
kept_up true x xs h k = (h, k)
kept_up false x xs h k = k

module _ (acting : List ℕ) (version : ℕ) (maps : List ScrubMap) where
  abbrev at : ObjectId → Found
  at id = compared acting version id (entries_at maps id)

  abbrev found_at : List ObjectId → List Found
  found_at ids = filter_map (λ id. finding acting version id (entries_at maps id)) ids

  found_above : (a : ObjectId) (ids : List ObjectId) → AllByRecursion (λ b. position_cmp a b ≡ Less) ids
      → AllByRecursion (λ f. position_cmp a f.id ≡ Less) (found_at ids)
  found_above a [] h = tt
  found_above a (b ∷ ids) h = kept_all (λ f. position_cmp a f.id ≡ Less) (has_error (at b)) (at b) (found_at ids) h.0 (found_above a ids h.1)

  found_up : (ids : List ObjectId) → Ascends ids → Ascending finding_id (found_at ids)
  unfolding IsStrictlySortedBy
  found_up [] h = tt
  found_up (a ∷ ids) h = kept_up (has_error (at a)) (at a) (found_at ids) (found_above a ids h.0) (found_up ids h.1)

  ordered : AreOrdered (report acting version maps).found (report acting version maps).snaps
  ordered = record {
    found_ascend = found_up (positions_of maps) (positions_up maps);
    snaps_ascend =
        found_ascends (map (λ id. view_of id (entries_at maps id)) (positions_of maps))
        (views_up (λ id. view_of id (entries_at maps id)) (λ id. refl) (positions_of maps) (positions_up maps));
  }

pub report_ordered : (acting : List ℕ) (version : ℕ) (maps : List ScrubMap) (r : Report) → r ≡ report acting version maps → AreOrdered r.found r.snaps
report_ordered acting version maps r e = subst (λ x. AreOrdered x.found x.snaps) (sym e) (ordered acting version maps)
