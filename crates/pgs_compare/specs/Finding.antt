-- What is found of one position.
use Rattle.std.specs.Prelude.{ℕ, Bool, not, ◌==◌, ◌||◌, List, [], ◌∷◌, Option, Some, None, slice_get}
use Rattle.std.specs.Bool.{then_some}
use Rattle.std.specs.List.{list_all}
use Rattle.pgs_name.specs.declared.object_id.ObjectId.{ObjectId}
use Rattle.pgs_info.specs.declared.info.ObjectInfo.{ObjectInfo}
use Rattle.pgs_map.specs.declared.entry.Entry.{Entry}
use Rattle.pgs_select.specs.Errors.{shard_errors}
use Rattle.pgs_select.specs.Choice.{chosen_place, chosen_info, entry_in}
use Rattle.pgs_find.specs.ShardNames.{is_no_shard}
use Rattle.pgs_find.specs.ObjectNames.{is_no_object}
use Rattle.pgs_select.specs.Judging.{told}
use Rattle.pgs_compare.specs.Objects.{errors_among}
use Rattle.pgs_incons.specs.declared.chosen.Chosen.{Chosen}
use Rattle.pgs_incons.specs.declared.finding.Finding.{Finding as Found}
use Rattle.pgs_incons.specs.declared.shard_finding.ShardFinding.{ShardFinding}

-- ---- what is told of one copy

-- the size that an entry tells
abbrev pub size_of : Option Entry → Option ℕ
size_of None = None
size_of (Some entry) = Some entry.size

-- the digest of the data
abbrev pub data_of : Option Entry → Option ℕ
data_of None = None
data_of (Some entry) = entry.data_digest

-- that of the omap
abbrev pub omap_of : Option Entry → Option ℕ
omap_of None = None
omap_of (Some entry) = entry.omap_digest

-- Of one acting OSD: whether it is the primary, the errors of its copy, and what was told of the copy.
abbrev pub shard_finding : ℕ → ℕ → ObjectId → Option Entry → Option ObjectInfo → ShardFinding
shard_finding primary osd id entry chosen = record {
  osd = osd;
  primary = osd == primary;
  errors = shard_errors id entry chosen;
  size = size_of (told entry);
  data_digest = data_of (told entry);
  omap_digest = omap_of (told entry);
}

-- one for each acting OSD, with the entry at its place
abbrev pub shards_from : ℕ → ObjectId → Option ObjectInfo → List ℕ → List (Option Entry) → List ShardFinding
shards_from primary id chosen (osd ∷ osds) (entry ∷ entries) = shard_finding primary osd id entry chosen ∷ shards_from primary id chosen osds entries
shards_from primary id chosen _ _ = []

-- of all acting OSDs, of which the primary is the first
abbrev pub shard_findings : ObjectId → Option ObjectInfo → List ℕ → List (Option Entry) → List ShardFinding
shard_findings id chosen [] entries = []
shard_findings id chosen (primary ∷ osds) entries = shards_from primary id chosen (primary ∷ osds) entries

-- ---- the chosen copy

-- whose it is, what it records and its entry, where there are all three
abbrev pub chosen_with : Option ℕ → Option ObjectInfo → Option Entry → Option Chosen
chosen_with (Some osd) (Some info) (Some entry) = Some (record { osd = osd; info = info; entry = entry })
chosen_with _ _ _ = None

-- the acting OSD at a place
abbrev pub osd_at : List ℕ → Option ℕ → Option ℕ
osd_at acting None = None
osd_at acting (Some place) = slice_get acting place

-- the chosen copy, if one could be chosen
abbrev pub chosen_of : List ℕ → ObjectId → List (Option Entry) → Option Chosen
chosen_of acting id entries = chosen_with (osd_at acting (chosen_place id entries)) (chosen_info id entries) (entry_in entries (chosen_place id entries))

-- ---- the finding

-- what would be found of a position
abbrev pub compared : List ℕ → ℕ → ObjectId → List (Option Entry) → Found
compared acting version id entries = record {
  id = id;
  version = version;
  errors = errors_among id entries (chosen_place id entries) (entry_in entries (chosen_place id entries));
  shards = shard_findings id (chosen_info id entries) acting entries;
  chosen = chosen_of acting id entries;
}

-- a name holds of some copy, or of the copies among each other
abbrev pub has_error : Found → Bool
has_error found = not (is_no_object found.errors) || not (list_all (λ shard. is_no_shard shard.errors) found.shards)

-- A position has a finding exactly where some name holds.
abbrev pub finding : List ℕ → ℕ → ObjectId → List (Option Entry) → Option Found
finding acting version id entries = then_some (has_error (compared acting version id entries)) (compared acting version id entries)
