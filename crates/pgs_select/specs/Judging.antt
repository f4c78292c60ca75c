-- What is known of a copy before one is chosen.
use Rattle.std.specs.Prelude.{Bool, false, not, ◌&&◌, Option, Some, None, option_map}
use Rattle.std.specs.Bool.{then_some}
use Rattle.pgs_name.specs.declared.object_id.ObjectId.{ObjectId}
use Rattle.pgs_info.specs.declared.info.ObjectInfo.{ObjectInfo}
use Rattle.pgs_map.specs.declared.entry.Entry.{Entry}
use Rattle.pgs_facts.specs.Facts.{facts_of, has_other_size, misses_info, has_bad_info, misses_snapset, has_bad_snapset}
use Rattle.pgs_facts.specs.declared.copy_facts.CopyFacts.{CopyFacts}
use Rattle.pgs_find.specs.ShardNames.{shard_where, only_shard, noted_shard, is_no_shard}
use Rattle.pgs_find.specs.declared.shard_errors.ShardErrors.{ShardErrors}
use Rattle.pgs_find.specs.declared.shard_error.ShardError.{ShardError}
use Rattle.pgs_find.specs.declared.shard_error.ShardError.TheVariants as names
use Rattle.pgs_select.specs.Errors.{are_apart, data_digest_of, omap_digest_of, holds, shard_errors}
use Rattle.pgs_select.specs.Choice.{is_eligible}
use Rattle.pgs_select.specs.declared.judged.Judged.{Judged}

-- an entry whose size and attributes were told
abbrev pub told : Option Entry → Option Entry
told None = None
told (Some entry) = then_some (not entry.stat_failed) entry

-- What is known of a copy before one is chosen: its errors beside no chosen copy, what it tells of itself where that was told, and whether it is eligible.
abbrev pub judged : ObjectId → Option Entry → Judged
judged id entry = record {
  errors = shard_errors id entry None;
  facts = option_map facts_of (told entry);
  eligible = is_eligible id entry;
}

-- a copy of which nothing was told
abbrev pub untold : ShardError → Judged
untold error = record { errors = only_shard error; facts = None; eligible = false }

-- each digest that both a copy and an info have is the same
abbrev pub agree : Entry → Option ObjectInfo → Bool
agree entry info = not (are_apart (data_digest_of info) entry.data_digest) && not (are_apart (omap_digest_of info) entry.omap_digest)

-- a copy whose size and attributes were told
abbrev pub judged_told : ObjectId → Entry → Judged
judged_told id entry = record {
  errors = shard_where (holds id entry None);
  facts = Some (facts_of entry);
  eligible = is_no_shard (shard_where (holds id entry None)) && agree entry (facts_of entry).info;
}

-- the info that facts tell, if there are any
abbrev pub info_in : Option CopyFacts → Option ObjectInfo
info_in None = None
info_in (Some facts) = facts.info

-- the info that a judged copy tells
abbrev pub info_told : Judged → Option ObjectInfo
info_told copy = info_in copy.facts

-- ---- errors, a few at a time

-- whether the info is there and good
abbrev pub with_info_errors : ObjectId → CopyFacts → ShardErrors → ShardErrors
with_info_errors id facts errors = noted_shard names.InfoCorrupted (has_bad_info id facts) (noted_shard names.InfoMissing (misses_info facts) errors)

-- whether the snapset of a head is there and good
abbrev pub with_snapset_errors : CopyFacts → ShardErrors → ShardErrors
with_snapset_errors facts errors = noted_shard names.SnapsetCorrupted (has_bad_snapset facts) (noted_shard names.SnapsetMissing (misses_snapset facts) errors)

-- what differs from the info of a chosen copy
abbrev pub with_mismatches : Entry → Option ObjectInfo → ShardErrors → ShardErrors
with_mismatches entry chosen errors =
    noted_shard names.OmapDigestMismatchInfo (are_apart (omap_digest_of chosen) entry.omap_digest)
    (noted_shard names.DataDigestMismatchInfo (are_apart (data_digest_of chosen) entry.data_digest)
    (noted_shard names.SizeMismatchInfo (has_other_size entry.size chosen) errors))
