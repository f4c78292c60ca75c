-- The names of the errors of one copy of an object, in their order, and sets of them.
use Rattle.std.specs.Prelude.{ℕ, ◌≡◌, ◌==◌, ◌^◌, Bool, true, not, if◌then◌else◌, List, [], ◌∷◌, Some, bit_and, bit_or, slice_get, codes}
use Rattle.std.specs.List.{filter}
use Rattle.pgs_find.specs.declared.shard_error.ShardError.{ShardError}
use Rattle.pgs_find.specs.declared.shard_error.ShardError.TheVariants as names
use Rattle.pgs_find.specs.declared.shard_errors.ShardErrors.{ShardErrors}

-- all names, in their order
abbrev pub shard_names : List ShardError
shard_names =
    names.Missing
    ∷ names.StatError
    ∷ names.ReadError
    ∷ names.InfoMissing
    ∷ names.InfoCorrupted
    ∷ names.SnapsetMissing
    ∷ names.SnapsetCorrupted
    ∷ names.ObjSizeInfoMismatch
    ∷ names.SizeMismatchInfo
    ∷ names.DataDigestMismatchInfo
    ∷ names.OmapDigestMismatchInfo
    ∷ []

-- the place of a name in that order
abbrev pub shard_place : ShardError → ℕ
shard_place names.Missing = 0
shard_place names.StatError = 1
shard_place names.ReadError = 2
shard_place names.InfoMissing = 3
shard_place names.InfoCorrupted = 4
shard_place names.SnapsetMissing = 5
shard_place names.SnapsetCorrupted = 6
shard_place names.ObjSizeInfoMismatch = 7
shard_place names.SizeMismatchInfo = 8
shard_place names.DataDigestMismatchInfo = 9
shard_place names.OmapDigestMismatchInfo = 10

-- how a name is written in lists
abbrev pub shard_word : ShardError → List ℕ
shard_word names.Missing = codes "missing"
shard_word names.StatError = codes "stat_error"
shard_word names.ReadError = codes "read_error"
shard_word names.InfoMissing = codes "info_missing"
shard_word names.InfoCorrupted = codes "info_corrupted"
shard_word names.SnapsetMissing = codes "snapset_missing"
shard_word names.SnapsetCorrupted = codes "snapset_corrupted"
shard_word names.ObjSizeInfoMismatch = codes "obj_size_info_mismatch"
shard_word names.SizeMismatchInfo = codes "size_mismatch_info"
shard_word names.DataDigestMismatchInfo = codes "data_digest_mismatch_info"
shard_word names.OmapDigestMismatchInfo = codes "omap_digest_mismatch_info"

-- the bit of a name: 2 to its place
abbrev pub shard_bit : ShardError → ℕ
shard_bit name = 2 ^ shard_place name

-- a name stands once among names, at its place: it is there, and no other there has its place
pub record StandsOnce (name : ShardError) (listed : List ShardError) : Type 0 where
  pub there : slice_get listed (shard_place name) ≡ Some name
  pub once : filter (λ n. shard_place n == shard_place name) listed ≡ name ∷ []

-- no error
abbrev pub no_shard : ShardErrors
no_shard = record { bits = 0 }

-- a set with one name more, where it holds
abbrev pub noted_shard : ShardError → Bool → ShardErrors → ShardErrors
noted_shard name so errors = record { bits = if so then bit_or errors.bits (shard_bit name) else errors.bits }

-- a set has a name
abbrev pub has_shard : ShardErrors → ShardError → Bool
has_shard errors name = not (bit_and errors.bits (shard_bit name) == 0)

-- a set has no name
abbrev pub is_no_shard : ShardErrors → Bool
is_no_shard errors = errors.bits == 0

-- a set with those of some names that pass a test
abbrev pub all_shard : (ShardError → Bool) → List ShardError → ShardErrors → ShardErrors
all_shard test [] errors = errors
all_shard test (name ∷ more) errors = all_shard test more (noted_shard name (test name) errors)

-- the set of the names that pass a test
abbrev pub shard_where : (ShardError → Bool) → ShardErrors
shard_where test = all_shard test shard_names no_shard

-- one error alone
abbrev pub only_shard : ShardError → ShardErrors
only_shard name = noted_shard name true no_shard

-- the names of a set, in their order
abbrev pub shard_names_of : ShardErrors → List ShardError
shard_names_of errors = filter (has_shard errors) shard_names
