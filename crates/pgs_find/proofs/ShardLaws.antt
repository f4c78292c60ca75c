-- What the set of the names that pass a test has: the errors of one copy of an object.
use Rattle.std.proofs.Common.{◌≡◌, Bool, not, List, [], ◌∷◌, refl, ap, ◌∙◌}
use Rattle.std.specs.Prelude.{◌==◌}
use Rattle.std.specs.List.{list_all}
use Rattle.pgs_find.specs.declared.shard_error.ShardError.{ShardError}
use Rattle.pgs_find.specs.declared.shard_error.ShardError.TheVariants as names
use Rattle.pgs_find.specs.declared.shard_errors.ShardErrors.{ShardErrors}
use Rattle.pgs_find.specs.ShardNames.{shard_names, shard_bit, has_shard, no_shard, is_no_shard, all_shard, shard_where, noted_shard, StandsOnce}
use Rattle.pgs_find.proofs.Bits.{all_bits, has_bit, has_at, none_at}

bits_of : (test : ShardError → Bool) (listed : List ShardError) (errors : ShardErrors) → (all_shard test listed errors).bits ≡ all_bits shard_bit test listed errors.bits
bits_of test [] errors = refl
bits_of test (name ∷ more) errors = bits_of test more (noted_shard name (test name) errors)

has_all : (test : ShardError → Bool) (name : ShardError) → has_bit shard_bit test (all_bits shard_bit test shard_names 0) name ≡ test name
has_all test names.Missing = has_at shard_bit test names.Missing 0 shard_names refl refl refl refl
has_all test names.StatError = has_at shard_bit test names.StatError 1 shard_names refl refl refl refl
has_all test names.ReadError = has_at shard_bit test names.ReadError 2 shard_names refl refl refl refl
has_all test names.InfoMissing = has_at shard_bit test names.InfoMissing 3 shard_names refl refl refl refl
has_all test names.InfoCorrupted = has_at shard_bit test names.InfoCorrupted 4 shard_names refl refl refl refl
has_all test names.SnapsetMissing = has_at shard_bit test names.SnapsetMissing 5 shard_names refl refl refl refl
has_all test names.SnapsetCorrupted = has_at shard_bit test names.SnapsetCorrupted 6 shard_names refl refl refl refl
has_all test names.ObjSizeInfoMismatch = has_at shard_bit test names.ObjSizeInfoMismatch 7 shard_names refl refl refl refl
has_all test names.SizeMismatchInfo = has_at shard_bit test names.SizeMismatchInfo 8 shard_names refl refl refl refl
has_all test names.DataDigestMismatchInfo = has_at shard_bit test names.DataDigestMismatchInfo 9 shard_names refl refl refl refl
has_all test names.OmapDigestMismatchInfo = has_at shard_bit test names.OmapDigestMismatchInfo 10 shard_names refl refl refl refl

pub has_law : (test : ShardError → Bool) (name : ShardError) → has_shard (shard_where test) name ≡ test name
has_law test name = ap (λ b. has_bit shard_bit test b name) (bits_of test shard_names no_shard) ∙ has_all test name

pub none_law : (test : ShardError → Bool) → is_no_shard (shard_where test) ≡ list_all (λ n. not (test n)) shard_names
none_law test = ap (λ b. b == 0) (bits_of test shard_names no_shard) ∙ none_at shard_bit test shard_names refl

pub stands_once : (name : ShardError) → StandsOnce name shard_names
stands_once names.Missing = record { there = refl; once = refl }
stands_once names.StatError = record { there = refl; once = refl }
stands_once names.ReadError = record { there = refl; once = refl }
stands_once names.InfoMissing = record { there = refl; once = refl }
stands_once names.InfoCorrupted = record { there = refl; once = refl }
stands_once names.SnapsetMissing = record { there = refl; once = refl }
stands_once names.SnapsetCorrupted = record { there = refl; once = refl }
stands_once names.ObjSizeInfoMismatch = record { there = refl; once = refl }
stands_once names.SizeMismatchInfo = record { there = refl; once = refl }
stands_once names.DataDigestMismatchInfo = record { there = refl; once = refl }
stands_once names.OmapDigestMismatchInfo = record { there = refl; once = refl }
