-- What is found of each acting OSD's copy, one after another.
use Rattle.std.proofs.Common.{Bor, ◌≡◌, ℕ, zero, suc, ◌+◌, ◌<◌, ◌≤◌, List, [], ◌∷◌, ◌++◌, length, drop, get_or, Option, Some, None, option_map, refl, sym, ap, ◌∙◌}
use Rattle.std.specs.Prelude.{slice_get}
use Rattle.std.specs.Option.{option_copied}
use Rattle.std.proofs.lemmas.List.{drop_more, drop_all}
use Rattle.std.proofs.lemmas.Option.{slice_get_within, get_or_from_slice_get, slice_get-map}
use Rattle.pgs_bytes.proofs.Facts.{some_none, some_same}
use Rattle.pgs_name.specs.declared.object_id.ObjectId.{ObjectId}
use Rattle.pgs_info.specs.declared.info.ObjectInfo.{ObjectInfo}
use Rattle.pgs_map.specs.declared.entry.Entry.{Entry}
use Rattle.pgs_incons.specs.declared.shard_finding.ShardFinding.{ShardFinding}
use Rattle.pgs_select.specs.Judging.{judged}
use Rattle.pgs_select.specs.declared.judged.Judged.{Judged}
use Rattle.pgs_compare.specs.Finding.{shard_finding, shards_from}
use Rattle.pgs_compare.specs.Parts.{entries_seen, all_judged}
use Rattle.pgs_compare.proofs.Turns.{moved, ended}

-- ---- what stands from a place on

here_and_behind : {A : Type 0} (xs : List A) (at : ℕ) (x : A) → slice_get xs at ≡ Some x → drop at xs ≡ x ∷ drop (at + 1) xs
here_and_behind xs at x e =
    drop_more xs at x (slice_get_within xs at x e) ∙ ap (λ y. y ∷ drop (at + 1) xs) (get_or_from_slice_get xs at x x e)

nothing_behind : {A : Type 0} (xs : List A) (at : ℕ) → slice_get xs at ≡ None → drop at xs ≡ []
nothing_behind [] zero e = refl
nothing_behind [] (suc at) e = refl
nothing_behind (x ∷ xs) zero e = absurd (some_none x e)
nothing_behind (x ∷ xs) (suc at) e = nothing_behind xs at e

no_image : {A B : Type 0} (f : A → B) (o : Option A) → option_map f o ≡ None → o ≡ None
no_image f None e = refl
no_image f (Some x) e = absurd (some_none (f x) e)

-- ---- the copies at a place

entry_here : (entries : List (Option (Bor Entry))) (at : ℕ) (entry : Option (Bor Entry)) → slice_get entries at ≡ Some entry → slice_get (entries_seen entries) at ≡ Some (option_copied entry)
entry_here entries at entry e = slice_get-map option_copied entries at ∙ ap (option_map option_copied) e

judged_here : (id : ObjectId) (entries : List (Option (Bor Entry))) (copies : List Judged) (at : ℕ) (entry : Option (Bor Entry)) (copy : Judged) → copies ≡ all_judged id (entries_seen entries)
    → slice_get entries at ≡ Some entry → slice_get copies at ≡ Some copy → copy ≡ judged id (option_copied entry)
judged_here id entries copies at entry copy same e f =
    some_same copy (judged id (option_copied entry))
    (sym f ∙ ap (λ cs. slice_get cs at) same ∙ slice_get-map (judged id) (entries_seen entries) at ∙ ap (option_map (judged id)) (entry_here entries at entry e))

no_entry_here : (id : ObjectId) (entries : List (Option (Bor Entry))) (copies : List Judged) (at : ℕ) → copies ≡ all_judged id (entries_seen entries) → slice_get copies at ≡ None
    → slice_get (entries_seen entries) at ≡ None
no_entry_here id entries copies at same f =
    no_image (judged id) (slice_get (entries_seen entries) at) (sym (slice_get-map (judged id) (entries_seen entries) at) ∙ sym (ap (λ cs. slice_get cs at) same) ∙ f)

-- ---- the turns

no_more : (primary : ℕ) (id : ObjectId) (chosen : Option ObjectInfo) (osds : List ℕ) → shards_from primary id chosen osds [] ≡ []
no_more primary id chosen [] = refl
no_more primary id chosen (osd ∷ osds) = refl

pub shard_next : (primary : ℕ) (id : ObjectId) (chosen : Option ObjectInfo) (acting : List ℕ) (entries : List (Option (Bor Entry))) (copies : List Judged) (at d : ℕ)
    (made new : List ShardFinding) (entry : Option (Bor Entry)) (copy : Judged) (shard : ShardFinding) (all : List ShardFinding) → at < length acting → slice_get entries at ≡ Some entry
    → slice_get copies at ≡ Some copy → copies ≡ all_judged id (entries_seen entries)
    → ((i : ObjectId) → copy ≡ judged i (option_copied entry) → shard ≡ shard_finding primary (get_or acting at d) i (option_copied entry) chosen) → new ≡ made ++ shard ∷ []
    → made ++ shards_from primary id chosen (drop at acting) (drop at (entries_seen entries)) ≡ all
    → new ++ shards_from primary id chosen (drop (at + 1) acting) (drop (at + 1) (entries_seen entries)) ≡ all
shard_next primary id chosen acting entries copies at d made new entry copy shard all within e f same is made_so h =
    let here = is id (judged_here id entries copies at entry copy same e f) in
    let osds = drop_more acting at d within in
    let others = here_and_behind (entries_seen entries) at (option_copied entry) (entry_here entries at entry e) in
    moved made new (shards_from primary id chosen (drop at acting) (drop at (entries_seen entries)))
    (shards_from primary id chosen (drop (at + 1) acting) (drop (at + 1) (entries_seen entries))) all (shard_finding primary (get_or acting at d) id (option_copied entry) chosen)
    (made_so ∙ ap (λ x. made ++ x ∷ []) here)
    (λ i. shards_from primary id chosen (osds i) (others i))
    h

pub shards_done : (primary : ℕ) (id : ObjectId) (chosen : Option ObjectInfo) (acting : List ℕ) (entries : List (Option Entry)) (at : ℕ) (made all : List ShardFinding) → length acting ≤ at
    → made ++ shards_from primary id chosen (drop at acting) (drop at entries) ≡ all → made ≡ all
shards_done primary id chosen acting entries at made all done h =
    ended made (shards_from primary id chosen (drop at acting) (drop at entries)) all (ap (λ osds. shards_from primary id chosen osds (drop at entries)) (drop_all at acting done)) h

ends_where : (primary : ℕ) (id : ObjectId) (chosen : Option ObjectInfo) (acting : List ℕ) (entries : List (Option Entry)) (at : ℕ) (made all : List ShardFinding) → slice_get entries at ≡ None
    → made ++ shards_from primary id chosen (drop at acting) (drop at entries) ≡ all → made ≡ all
ends_where primary id chosen acting entries at made all none h =
    ended made (shards_from primary id chosen (drop at acting) (drop at entries)) all
    (ap (shards_from primary id chosen (drop at acting)) (nothing_behind entries at none) ∙ no_more primary id chosen (drop at acting)) h

pub no_entry_left : (primary : ℕ) (id : ObjectId) (chosen : Option ObjectInfo) (acting : List ℕ) (entries : List (Option (Bor Entry))) (at : ℕ) (made all : List ShardFinding)
    → slice_get entries at ≡ None → made ++ shards_from primary id chosen (drop at acting) (drop at (entries_seen entries)) ≡ all → made ≡ all
no_entry_left primary id chosen acting entries at made all none h =
    ends_where primary id chosen acting (entries_seen entries) at made all (slice_get-map option_copied entries at ∙ ap (option_map option_copied) none) h

pub no_copy_left : (primary : ℕ) (id : ObjectId) (chosen : Option ObjectInfo) (acting : List ℕ) (entries : List (Option (Bor Entry))) (copies : List Judged) (at : ℕ) (made all : List ShardFinding)
    → slice_get copies at ≡ None → copies ≡ all_judged id (entries_seen entries)
    → made ++ shards_from primary id chosen (drop at acting) (drop at (entries_seen entries)) ≡ all → made ≡ all
no_copy_left primary id chosen acting entries copies at made all none same h =
    ends_where primary id chosen acting (entries_seen entries) at made all (no_entry_here id entries copies at same none) h
