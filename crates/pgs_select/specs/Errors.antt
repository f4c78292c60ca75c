-- The errors of one copy: one condition for each name.
use Rattle.std.specs.Prelude.{ℕ, Bool, false, not, ◌==◌, ◌&&◌, if◌then◌else◌, Option, Some, None}
use Rattle.pgs_name.specs.declared.object_id.ObjectId.{ObjectId}
use Rattle.pgs_name.specs.declared.object_id.TheConstants.{HEAD}
use Rattle.pgs_info.specs.declared.info.ObjectInfo.{ObjectInfo}
use Rattle.pgs_map.specs.declared.entry.Entry.{Entry}
use Rattle.pgs_facts.specs.Facts.{facts_of, has_other_size, misses_info, has_bad_info, misses_snapset, has_bad_snapset, has_wrong_size}
use Rattle.pgs_find.specs.ShardNames.{shard_where, only_shard}
use Rattle.pgs_find.specs.declared.shard_errors.ShardErrors.{ShardErrors}
use Rattle.pgs_find.specs.declared.shard_error.ShardError.{ShardError}
use Rattle.pgs_find.specs.declared.shard_error.ShardError.TheVariants as names

-- a position is that of a head
abbrev pub is_head : ObjectId → Bool
is_head id = id.snap == HEAD

-- two digests are both there, and differ
abbrev pub are_apart : Option ℕ → Option ℕ → Bool
are_apart None other = false
are_apart (Some a) None = false
are_apart (Some a) (Some b) = not (a == b)

-- the digest of the data that an info records, if there is an info
abbrev pub data_digest_of : Option ObjectInfo → Option ℕ
data_digest_of None = None
data_digest_of (Some info) = info.data_digest

-- that of the omap
abbrev pub omap_digest_of : Option ObjectInfo → Option ℕ
omap_digest_of None = None
omap_digest_of (Some info) = info.omap_digest

-- Whether a name holds of a copy at a position whose size and attributes were told, beside the info of a chosen copy, if there is one.
abbrev pub holds : ObjectId → Entry → Option ObjectInfo → ShardError → Bool
holds id entry chosen names.Missing = false
holds id entry chosen names.StatError = false
holds id entry chosen names.ReadError = entry.read_failed
holds id entry chosen names.InfoMissing = misses_info (facts_of entry)
holds id entry chosen names.InfoCorrupted = has_bad_info id (facts_of entry)
holds id entry chosen names.SnapsetMissing = is_head id && misses_snapset (facts_of entry)
holds id entry chosen names.SnapsetCorrupted = is_head id && has_bad_snapset (facts_of entry)
holds id entry chosen names.ObjSizeInfoMismatch = has_wrong_size (facts_of entry)
holds id entry chosen names.SizeMismatchInfo = has_other_size entry.size chosen
holds id entry chosen names.DataDigestMismatchInfo = are_apart (data_digest_of chosen) entry.data_digest
holds id entry chosen names.OmapDigestMismatchInfo = are_apart (omap_digest_of chosen) entry.omap_digest

-- the errors of a copy with an entry: where its size and attributes weren't told, that alone
abbrev pub told_errors : ObjectId → Entry → Option ObjectInfo → ShardErrors
told_errors id entry chosen = if entry.stat_failed then only_shard names.StatError else shard_where (holds id entry chosen)

-- the errors of a copy at a position, beside the info of a chosen copy: where it has no entry it is missing, and that is all
abbrev pub shard_errors : ObjectId → Option Entry → Option ObjectInfo → ShardErrors
shard_errors id None chosen = only_shard names.Missing
shard_errors id (Some entry) chosen = told_errors id entry chosen
