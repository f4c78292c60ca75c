-- The list of objects of which copies are inconsistent.
use Rattle.std.specs.Prelude.{ℕ, Bool, nat_le, List, [], ◌∷◌, Option, Some, None, option_map, codes}
use Rattle.std.specs.List.{filter, list_any, insert, position_or_len}
use Rattle.std.specs.List.Sorted.{IsPermutation, IsNonDecreasingBy}
use Rattle.serde_json.specs.Data.{Data, boolean, number, unsigned}
use Rattle.serde_json.specs.Written.{compact_text}
use Rattle.pgs_find.specs.ObjectNames.{object_word, object_names_of}
use Rattle.pgs_find.specs.ShardNames.{shard_word, shard_names, shard_names_of, has_shard}
use Rattle.pgs_find.specs.declared.shard_error.ShardError.{ShardError}
use Rattle.pgs_info.specs.declared.info.ObjectInfo.{ObjectInfo}
use Rattle.pgs_incons.specs.declared.chosen.Chosen.{Chosen}
use Rattle.pgs_incons.specs.declared.finding.Finding.{Finding}
use Rattle.pgs_incons.specs.declared.shard_finding.ShardFinding.{ShardFinding}
use Rattle.pgs_list_json.specs.Members.{object_of, array_of, words_data}
use Rattle.pgs_list_json.specs.Object.{text_data, locator_data, snap_data, digest_data, version_data}

-- ---- shards by ascending OSD

-- a shard among others, before the first whose OSD isn't below its own
abbrev pub put_among : ShardFinding → List ShardFinding → List ShardFinding
put_among shard others = insert others (position_or_len (λ other. nat_le shard.osd other.osd) others) shard

-- the shards by ascending OSD
unfoldable pub by_osd : List ShardFinding → List ShardFinding
by_osd [] = []
by_osd (shard ∷ shards) = put_among shard (by_osd shards)

-- In other words: the same shards, and no OSD is above one behind it.
pub record AreByOsd (shards sorted : List ShardFinding) : Type 0 where
  pub same : IsPermutation shards sorted
  pub ascend : IsNonDecreasingBy (λ shard. shard.osd) sorted

-- ---- one finding

-- the number of the chosen copy's version, 0 where none was chosen
abbrev pub chosen_number : Option Chosen → ℕ
chosen_number None = 0
chosen_number (Some chosen) = chosen.info.version.number

-- which object it is
abbrev pub object_table : Finding → List (List ℕ × Option Data)
object_table finding =
    (codes "locator", Some (locator_data finding.id))
    ∷ (codes "name", Some (text_data finding.id.family.name))
    ∷ (codes "nspace", Some (text_data finding.id.family.space))
    ∷ (codes "snap", Some (snap_data finding.id.snap))
    ∷ (codes "version", Some (number (unsigned (chosen_number finding.chosen))))
    ∷ []

unfoldable pub object_data : Finding → Data
object_data finding = object_of (object_table finding)

-- what the chosen copy records of the object
abbrev pub info_table : ObjectInfo → List (List ℕ × Option Data)
info_table info =
    (codes "data_digest", option_map digest_data info.data_digest)
    ∷ (codes "omap_digest", option_map digest_data info.omap_digest)
    ∷ (codes "prior_version", Some (version_data info.prior))
    ∷ (codes "size", Some (number (unsigned info.size)))
    ∷ (codes "version", Some (version_data info.version))
    ∷ (codes "whiteout", Some (boolean info.whiteout))
    ∷ []

unfoldable pub info_data : ObjectInfo → Data
info_data info = object_of (info_table info)

abbrev pub chosen_data : Chosen → Data
chosen_data chosen = info_data chosen.info

-- what was found of one copy
abbrev pub shard_table : ShardFinding → List (List ℕ × Option Data)
shard_table shard =
    (codes "data_digest", option_map digest_data shard.data_digest)
    ∷ (codes "errors", Some (words_data shard_word (shard_names_of shard.errors)))
    ∷ (codes "omap_digest", option_map digest_data shard.omap_digest)
    ∷ (codes "osd", Some (number (unsigned shard.osd)))
    ∷ (codes "primary", Some (boolean shard.primary))
    ∷ (codes "size", option_map (λ n. number (unsigned n)) shard.size)
    ∷ []

unfoldable pub shard_data : ShardFinding → Data
shard_data shard = object_of (shard_table shard)

-- at least one shard has an error
abbrev pub some_has : List ShardFinding → ShardError → Bool
some_has shards name = list_any (λ shard. has_shard shard.errors name) shards

-- the errors that any shard has, in the order of all names
abbrev pub union_of : List ShardFinding → List ShardError
union_of shards = filter (some_has shards) shard_names

abbrev pub finding_table : Finding → List (List ℕ × Option Data)
finding_table finding =
    (codes "errors", Some (words_data object_word (object_names_of finding.errors)))
    ∷ (codes "object", Some (object_data finding))
    ∷ (codes "selected_object_info", option_map chosen_data finding.chosen)
    ∷ (codes "shards", Some (array_of shard_data (by_osd finding.shards)))
    ∷ (codes "union_shard_errors", Some (words_data shard_word (union_of finding.shards)))
    ∷ []

unfoldable pub finding_data : Finding → Data
finding_data finding = object_of (finding_table finding)

-- ---- the list

-- the epoch, and the findings in the order given
abbrev pub list_obj_table : ℕ → List Finding → List (List ℕ × Option Data)
list_obj_table epoch findings =
    (codes "epoch", Some (number (unsigned epoch)))
    ∷ (codes "inconsistents", Some (array_of finding_data findings))
    ∷ []

unfoldable pub list_obj_data : ℕ → List Finding → Data
list_obj_data epoch findings = object_of (list_obj_table epoch findings)

-- its text, with no space
abbrev pub list_obj_text : ℕ → List Finding → List ℕ
list_obj_text epoch findings = compact_text (list_obj_data epoch findings)
