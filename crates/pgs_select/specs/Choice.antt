-- Which copy of a position is chosen as the one that the others are held against.
use Rattle.std.specs.Prelude.{ℕ, ◌+◌, Bool, false, not, ◌&&◌, List, Option, Some, None, is_some, position, slice_get, if◌then◌else◌}
use Rattle.std.specs.List.{list_any}
use Rattle.std.specs.declared.cmp.Ordering.{Ordering}
use Rattle.std.specs.Ordering.{nat_cmp, ordering_then, is_lt}
use Rattle.std.specs.Option.{option_flatten}
use Rattle.pgs_name.specs.declared.object_id.ObjectId.{ObjectId}
use Rattle.pgs_info.specs.declared.info.ObjectInfo.{ObjectInfo}
use Rattle.pgs_map.specs.declared.entry.Entry.{Entry}
use Rattle.pgs_facts.specs.Facts.{facts_of}
use Rattle.pgs_find.specs.ShardNames.{is_no_shard}
use Rattle.pgs_select.specs.Errors.{are_apart, data_digest_of, omap_digest_of, shard_errors}

-- ---- which copies are eligible

-- the info of a copy with an entry, where its attribute `_` reads
abbrev pub info_of : Option Entry → Option ObjectInfo
info_of None = None
info_of (Some entry) = (facts_of entry).info

-- each digest that both the copy and its own info have is the same
abbrev pub agrees : Option Entry → Bool
agrees None = false
agrees (Some entry) = not (are_apart (data_digest_of (info_of (Some entry))) entry.data_digest) && not (are_apart (omap_digest_of (info_of (Some entry))) entry.omap_digest)

-- a copy is eligible where it has no error by itself, and its digests are those that it records
abbrev pub is_eligible : ObjectId → Option Entry → Bool
is_eligible id entry = is_no_shard (shard_errors id entry None) && agrees entry

-- ---- which of them is chosen

-- 1 where a test passes
abbrev pub one_if : Bool → ℕ
one_if so = if so then 1 else 0

-- how many digests an info records
abbrev pub recorded : ObjectInfo → ℕ
recorded info = one_if (is_some info.data_digest) + one_if (is_some info.omap_digest)

-- infos by version, its epoch first, and then by how many digests they record
abbrev pub rank_cmp : ObjectInfo → ObjectInfo → Ordering
rank_cmp a b = ordering_then (ordering_then (nat_cmp a.version.epoch b.version.epoch) (nat_cmp a.version.number b.version.number)) (nat_cmp (recorded a) (recorded b))

-- both infos are there, and the second ranks above the first
abbrev pub is_below : Option ObjectInfo → Option ObjectInfo → Bool
is_below None other = false
is_below (Some a) None = false
is_below (Some a) (Some b) = is_lt (rank_cmp a b)

-- an eligible copy that no eligible one ranks above
abbrev pub is_greatest : ObjectId → List (Option Entry) → Option Entry → Bool
is_greatest id entries entry = is_eligible id entry && not (list_any (λ other. is_eligible id other && is_below (info_of entry) (info_of other)) entries)

-- The place of the chosen copy among those of the acting OSDs: the first eligible one that no eligible one ranks above. There may be none.
abbrev pub chosen_place : ObjectId → List (Option Entry) → Option ℕ
chosen_place id entries = position (is_greatest id entries) entries

-- the entry at a place, if there is a place and an entry there
abbrev pub entry_in : List (Option Entry) → Option ℕ → Option Entry
entry_in entries None = None
entry_in entries (Some place) = option_flatten (slice_get entries place)

-- the info of the chosen copy
abbrev pub chosen_info : ObjectId → List (Option Entry) → Option ObjectInfo
chosen_info id entries = info_of (entry_in entries (chosen_place id entries))
