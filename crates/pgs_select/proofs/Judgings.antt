-- The choice among judged copies is the choice among their entries.
use Rattle.std.proofs.Common.{◌≡◌, Bool, true, false, not, ◌&&◌, List, map, Option, Some, None, option_map, if◌then◌else◌, refl, sym, ap, ◌∙◌}
use Rattle.std.specs.Bool.{then_some}
use Rattle.std.specs.List.{list_any}
use Rattle.pgs_bytes.proofs.Facts.{true_false}
use Rattle.pgs_name.specs.declared.object_id.ObjectId.{ObjectId}
use Rattle.pgs_map.specs.declared.entry.Entry.{Entry}
use Rattle.pgs_facts.specs.Facts.{facts_of}
use Rattle.pgs_find.specs.ShardNames.{is_no_shard, only_shard, shard_where}
use Rattle.pgs_find.specs.declared.shard_error.ShardError.TheVariants as names
use Rattle.pgs_select.specs.Errors.{holds}
use Rattle.pgs_select.specs.Choice.{info_of, agrees, is_eligible, is_below, is_greatest, chosen_place}
use Rattle.pgs_select.specs.Judging.{told, judged, info_in, info_told}
use Rattle.pgs_select.specs.Best.{is_above, is_best, best_place}
use Rattle.pgs_select.proofs.Places.{of_images, any_of_images}

and_same : (a b c : Bool) → (a ≡ true → b ≡ c) → (a && b) ≡ (a && c)
and_same true b c h = h refl
and_same false b c h = refl

-- an eligible copy was told
pub eligible_told : (id : ObjectId) (entry : Option Entry) → is_eligible id entry ≡ true → told entry ≡ entry
eligible_told id None e = refl
eligible_told id (Some entry) e = of entry.stat_failed e
  where
    of : (failed : Bool) → (is_no_shard (if failed then only_shard names.StatError else shard_where (holds id entry None)) && agrees (Some entry)) ≡ true → then_some (not failed) entry ≡ Some entry
    of true h = absurd (true_false (sym h))
    of false h = refl

-- so what it tells has the info of its entry
pub info_same : (id : ObjectId) (entry : Option Entry) → is_eligible id entry ≡ true → info_told (judged id entry) ≡ info_of entry
info_same id entry e = ap (λ t. info_in (option_map facts_of t)) (eligible_told id entry e) ∙ of entry
  where
    of : (entry : Option Entry) → info_in (option_map facts_of entry) ≡ info_of entry
    of None = refl
    of (Some entry) = refl

best_same : (id : ObjectId) (entries : List (Option Entry)) (entry : Option Entry) → is_best (map (judged id) entries) (judged id entry) ≡ is_greatest id entries entry
best_same id entries entry =
    and_same (is_eligible id entry) (not (list_any (is_above (judged id entry)) (map (judged id) entries))) (not (list_any (λ other. is_eligible id other && is_below (info_of entry) (info_of other)) entries))
    (λ e.
    ap not
    (any_of_images (is_above (judged id entry)) (λ other. is_eligible id other && is_below (info_of entry) (info_of other)) (judged id)
    (λ other.
    and_same (is_eligible id other) (is_below (info_told (judged id entry)) (info_told (judged id other))) (is_below (info_of entry) (info_of other))
    (λ o. λ i. is_below (info_same id entry e i) (info_same id other o i)))
    entries))

-- the place of the best of the judged copies is that of the chosen entry
pub best_chosen : (id : ObjectId) (entries : List (Option Entry)) → best_place (map (judged id) entries) ≡ chosen_place id entries
best_chosen id entries = of_images (is_best (map (judged id) entries)) (is_greatest id entries) (judged id) (best_same id entries) entries
