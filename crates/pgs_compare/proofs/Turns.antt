-- The turns of loops over maps and entries.
use Rattle.std.proofs.Common.{Bor, ◌≡◌, ℕ, ◌+◌, ◌<◌, ◌≤◌, List, [], ◌∷◌, ◌++◌, length, drop, get_or, append_assoc, Option, refl, sym, ap, ◌∙◌, subst}
use Rattle.std.specs.Option.{option_copied}
use Rattle.std.proofs.lemmas.List.{drop_more, drop_all, map-append}
use Rattle.pgs_name.specs.declared.object_id.ObjectId.{ObjectId}
use Rattle.pgs_map.specs.Entries.{AreAscending, entry_at}
use Rattle.pgs_map.specs.declared.entry.Entry.{Entry}
use Rattle.pgs_map.specs.declared.scrub_map.ScrubMap.{ScrubMap}
use Rattle.pgs_select.specs.Judging.{judged}
use Rattle.pgs_select.specs.declared.judged.Judged.{Judged}
use Rattle.pgs_compare.specs.Report.{AreOrdered, with_entries, with_maps, entries_at}
use Rattle.pgs_compare.specs.Parts.{entries_seen, maps_seen, all_judged}

nothing_more : {A : Type 0} (xs : List A) → xs ++ [] ≡ xs
nothing_more [] = refl
nothing_more (x ∷ xs) = ap (λ ys. x ∷ ys) (nothing_more xs)

-- one more at the end of what is made, and one less of what is left
pub moved : {A : Type 0} (made new left rest all : List A) (x : A) → new ≡ made ++ x ∷ [] → left ≡ x ∷ rest → made ++ left ≡ all → new ++ rest ≡ all
moved made new left rest all x e f h = ap (λ ys. ys ++ rest) e ∙ append_assoc made (x ∷ []) rest ∙ sym (ap (λ ys. made ++ ys) f) ∙ h

pub ended : {A : Type 0} (made left all : List A) → left ≡ [] → made ++ left ≡ all → made ≡ all
ended made left all e h = sym (nothing_more made) ∙ sym (ap (λ ys. made ++ ys) e) ∙ h

-- ---- the entries of a position

pub still_ordered : (maps : List (Bor ScrubMap)) (at : ℕ) (d : Bor ScrubMap) → at < length maps → AreOrdered (maps_seen (drop at maps))
    → AreAscending (get_or maps at d).now.entries × AreOrdered (maps_seen (drop (at + 1) maps))
still_ordered maps at d within h = let P : List (Bor ScrubMap) → Type 0 = λ ms. AreOrdered (maps_seen ms) in subst P (drop_more maps at d within) h

pub entry_next : (id : ObjectId) (maps : List (Bor ScrubMap)) (at : ℕ) (d : Bor ScrubMap) (made new : List (Option (Bor Entry))) (entry : Option (Bor Entry)) (all : List (Option Entry))
    → at < length maps → new ≡ made ++ entry ∷ []
    → (AreAscending (get_or maps at d).now.entries → option_copied entry ≡ entry_at id (get_or maps at d).now.entries)
    → AreOrdered (maps_seen (drop at maps))
    → entries_seen made ++ entries_at (maps_seen (drop at maps)) id ≡ all
    → entries_seen new ++ entries_at (maps_seen (drop (at + 1) maps)) id ≡ all
entry_next id maps at d made new entry all within e found ordered h =
    let left : entries_at (maps_seen (drop at maps)) id ≡ entry_at id (get_or maps at d).now.entries ∷ entries_at (maps_seen (drop (at + 1) maps)) id =
    ap (λ ms. entries_at (maps_seen ms) id) (drop_more maps at d within) in
    moved (entries_seen made) (entries_seen new) (entries_at (maps_seen (drop at maps)) id) (entries_at (maps_seen (drop (at + 1) maps)) id) all (entry_at id (get_or maps at d).now.entries)
    (ap entries_seen e ∙ map-append option_copied made (entry ∷ []) ∙ ap (λ x. entries_seen made ++ x ∷ []) (found (still_ordered maps at d within ordered).0))
    left h

pub entry_end : (id : ObjectId) (maps : List (Bor ScrubMap)) (at : ℕ) (made : List (Option (Bor Entry))) (all : List (Option Entry)) → length maps ≤ at
    → entries_seen made ++ entries_at (maps_seen (drop at maps)) id ≡ all → entries_seen made ≡ all
entry_end id maps at made all done h =
    ended (entries_seen made) (entries_at (maps_seen (drop at maps)) id) all (ap (λ ms. entries_at (maps_seen ms) id) (drop_all at maps done)) h

-- ---- what is known of each copy

pub judged_next : (id : ObjectId) (entries : List (Option (Bor Entry))) (at : ℕ) (d : Option (Bor Entry)) (made new all : List Judged) (copy : Judged) → at < length entries → new ≡ made ++ copy ∷ []
    → copy ≡ judged id (option_copied (get_or entries at d)) → made ++ all_judged id (entries_seen (drop at entries)) ≡ all
    → new ++ all_judged id (entries_seen (drop (at + 1) entries)) ≡ all
judged_next id entries at d made new all copy within e is h =
    moved made new (all_judged id (entries_seen (drop at entries))) (all_judged id (entries_seen (drop (at + 1) entries))) all (judged id (option_copied (get_or entries at d)))
    (e ∙ ap (λ x. made ++ x ∷ []) is)
    (ap (λ es. all_judged id (entries_seen es)) (drop_more entries at d within)) h

pub judged_end : (id : ObjectId) (entries : List (Option (Bor Entry))) (at : ℕ) (made all : List Judged) → length entries ≤ at
    → made ++ all_judged id (entries_seen (drop at entries)) ≡ all → made ≡ all
judged_end id entries at made all done h =
    ended made (all_judged id (entries_seen (drop at entries))) all (ap (λ es. all_judged id (entries_seen es)) (drop_all at entries done)) h

-- ---- positions are put one map after another

pub map_next : (maps : List (Bor ScrubMap)) (at : ℕ) (d : Bor ScrubMap) (ids new all : List ObjectId) → at < length maps → new ≡ with_entries ids (get_or maps at d).now.entries
    → with_maps ids (maps_seen (drop at maps)) ≡ all → with_maps new (maps_seen (drop (at + 1) maps)) ≡ all
map_next maps at d ids new all within e h =
    ap (λ x. with_maps x (maps_seen (drop (at + 1) maps))) e ∙ sym (ap (λ ms. with_maps ids (maps_seen ms)) (drop_more maps at d within)) ∙ h

pub map_end : (maps : List (Bor ScrubMap)) (at : ℕ) (ids all : List ObjectId) → length maps ≤ at → with_maps ids (maps_seen (drop at maps)) ≡ all → ids ≡ all
map_end maps at ids all done h = sym (ap (λ ms. with_maps ids (maps_seen ms)) (drop_all at maps done)) ∙ h
