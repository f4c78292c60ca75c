-- What is found of a position is put together of its parts.
use Rattle.std.proofs.Common.{◌≡◌, ℕ, Bool, true, false, not, ◌&&◌, ◌||◌, List, Option, Some, None, refl, sym, ap, ◌∙◌}
use Rattle.std.specs.Bool.{then_some}
use Rattle.std.specs.List.{list_all}
use Rattle.pgs_name.specs.declared.object_id.ObjectId.{ObjectId}
use Rattle.pgs_info.specs.declared.info.ObjectInfo.{ObjectInfo}
use Rattle.pgs_map.specs.declared.entry.Entry.{Entry}
use Rattle.pgs_find.specs.ShardNames.{is_no_shard}
use Rattle.pgs_find.specs.ObjectNames.{is_no_object}
use Rattle.pgs_find.specs.declared.object_errors.ObjectErrors.{ObjectErrors}
use Rattle.pgs_incons.specs.declared.chosen.Chosen.{Chosen}
use Rattle.pgs_incons.specs.declared.finding.Finding.{Finding as Found}
use Rattle.pgs_incons.specs.declared.shard_finding.ShardFinding.{ShardFinding}
use Rattle.pgs_select.specs.Choice.{chosen_place, chosen_info, entry_in}
use Rattle.pgs_compare.specs.Objects.{errors_among}
use Rattle.pgs_compare.specs.Finding.{shard_findings, chosen_with, osd_at, compared, has_error, finding}

-- the parts of what would be found, each by its definition
pub record ArePartsOf (acting : List ℕ) (id : ObjectId) (entries : List (Option Entry)) (place : Option ℕ) (info : Option ObjectInfo) (errors : ObjectErrors) (shards : List ShardFinding) : Type 0 where
  pub place_is : place ≡ chosen_place id entries
  pub info_is : info ≡ chosen_info id entries
  pub errors_are : errors ≡ errors_among id entries place (entry_in entries place)
  pub shards_are : shards ≡ shard_findings id info acting entries

abbrev clean : ObjectErrors → List ShardFinding → Bool
clean errors shards = is_no_object errors && list_all (λ shard. is_no_shard shard.errors) shards

not_both : (a b : Bool) → (not a || not b) ≡ not (a && b)
not_both true b = refl
not_both false b = refl

whole : (acting : List ℕ) (version : ℕ) (id : ObjectId) (entries : List (Option Entry)) (place : Option ℕ) (info : Option ObjectInfo) (errors : ObjectErrors) (shards : List ShardFinding) (chosen : Option Chosen)
    → ArePartsOf acting id entries place info errors shards → chosen ≡ chosen_with (osd_at acting place) info (entry_in entries place)
    → ◌≡◌ {A = Found} (record { id = id; version = version; errors = errors; shards = shards; chosen = chosen }) (compared acting version id entries)
whole acting version id entries place info errors shards chosen h c =
    let p = h.place_is in
    let n = h.info_is in
    let e : errors ≡ errors_among id entries (chosen_place id entries) (entry_in entries (chosen_place id entries)) =
    h.errors_are ∙ ap (λ q. errors_among id entries q (entry_in entries q)) p in
    let s : shards ≡ shard_findings id (chosen_info id entries) acting entries = h.shards_are ∙ ap (λ i. shard_findings id i acting entries) n in
    let k : chosen ≡ chosen_with (osd_at acting (chosen_place id entries)) (chosen_info id entries) (entry_in entries (chosen_place id entries)) =
    c ∙ (λ j. chosen_with (osd_at acting (p j)) (n j) (entry_in entries (p j))) in
    λ j. record { id = id; version = version; errors = e j; shards = s j; chosen = k j }

tested : (found : Found) (t : Bool) → clean found.errors found.shards ≡ t → has_error found ≡ not t
tested found t e = not_both (is_no_object found.errors) (list_all (λ shard. is_no_shard shard.errors) found.shards) ∙ ap not e

-- where no name holds nothing is found
pub none_found : (acting : List ℕ) (version : ℕ) (id : ObjectId) (entries : List (Option Entry)) (place : Option ℕ) (info : Option ObjectInfo) (errors : ObjectErrors) (shards : List ShardFinding)
    → ArePartsOf acting id entries place info errors shards → clean errors shards ≡ true → None ≡ finding acting version id entries
none_found acting version id entries place info errors shards h t =
    let found : Found = record { id = id; version = version; errors = errors; shards = shards; chosen = chosen_with (osd_at acting place) info (entry_in entries place) } in
    sym (ap (λ b. then_some b found) (tested found true t))
    ∙ ap (λ f. then_some (has_error f) f) (whole acting version id entries place info errors shards (chosen_with (osd_at acting place) info (entry_in entries place)) h refl)

pub some_found : (acting : List ℕ) (version : ℕ) (id : ObjectId) (entries : List (Option Entry)) (place : Option ℕ) (info : Option ObjectInfo) (errors : ObjectErrors) (shards : List ShardFinding) (chosen : Option Chosen)
    → ArePartsOf acting id entries place info errors shards → chosen ≡ chosen_with (osd_at acting place) info (entry_in entries place) → clean errors shards ≡ false
    → ◌≡◌ {A = Option Found} (Some (record { id = id; version = version; errors = errors; shards = shards; chosen = chosen })) (finding acting version id entries)
some_found acting version id entries place info errors shards chosen h c t =
    let found : Found = record { id = id; version = version; errors = errors; shards = shards; chosen = chosen } in
    sym (ap (λ b. then_some b found) (tested found false t)) ∙ ap (λ f. then_some (has_error f) f) (whole acting version id entries place info errors shards chosen h c)
