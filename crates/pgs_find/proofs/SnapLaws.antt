-- What the set of the names that pass a test has: the errors of a head or a clone among the snapshots of its object.
use Rattle.std.proofs.Common.{◌≡◌, Bool, not, List, [], ◌∷◌, refl, ap, ◌∙◌}
use Rattle.std.specs.Prelude.{◌==◌}
use Rattle.std.specs.List.{list_all}
use Rattle.pgs_find.specs.declared.snap_error.SnapError.{SnapError}
use Rattle.pgs_find.specs.declared.snap_error.SnapError.TheVariants as names
use Rattle.pgs_find.specs.declared.snap_errors.SnapErrors.{SnapErrors}
use Rattle.pgs_find.specs.SnapNames.{snap_names, snap_bit, has_snap, no_snap, is_no_snap, all_snap, snap_where, noted_snap, StandsOnce}
use Rattle.pgs_find.proofs.Bits.{all_bits, has_bit, has_at, none_at}

bits_of : (test : SnapError → Bool) (listed : List SnapError) (errors : SnapErrors) → (all_snap test listed errors).bits ≡ all_bits snap_bit test listed errors.bits
bits_of test [] errors = refl
bits_of test (name ∷ more) errors = bits_of test more (noted_snap name (test name) errors)

has_all : (test : SnapError → Bool) (name : SnapError) → has_bit snap_bit test (all_bits snap_bit test snap_names 0) name ≡ test name
has_all test names.Headless = has_at snap_bit test names.Headless 0 snap_names refl refl refl refl
has_all test names.SnapsetMissing = has_at snap_bit test names.SnapsetMissing 1 snap_names refl refl refl refl
has_all test names.SnapsetCorrupted = has_at snap_bit test names.SnapsetCorrupted 2 snap_names refl refl refl refl
has_all test names.SnapsetError = has_at snap_bit test names.SnapsetError 3 snap_names refl refl refl refl
has_all test names.InfoMissing = has_at snap_bit test names.InfoMissing 4 snap_names refl refl refl refl
has_all test names.InfoCorrupted = has_at snap_bit test names.InfoCorrupted 5 snap_names refl refl refl refl
has_all test names.SizeMismatch = has_at snap_bit test names.SizeMismatch 6 snap_names refl refl refl refl
has_all test names.CloneMissing = has_at snap_bit test names.CloneMissing 7 snap_names refl refl refl refl
has_all test names.ExtraClones = has_at snap_bit test names.ExtraClones 8 snap_names refl refl refl refl

pub has_law : (test : SnapError → Bool) (name : SnapError) → has_snap (snap_where test) name ≡ test name
has_law test name = ap (λ b. has_bit snap_bit test b name) (bits_of test snap_names no_snap) ∙ has_all test name

pub none_law : (test : SnapError → Bool) → is_no_snap (snap_where test) ≡ list_all (λ n. not (test n)) snap_names
none_law test = ap (λ b. b == 0) (bits_of test snap_names no_snap) ∙ none_at snap_bit test snap_names refl

pub stands_once : (name : SnapError) → StandsOnce name snap_names
stands_once names.Headless = record { there = refl; once = refl }
stands_once names.SnapsetMissing = record { there = refl; once = refl }
stands_once names.SnapsetCorrupted = record { there = refl; once = refl }
stands_once names.SnapsetError = record { there = refl; once = refl }
stands_once names.InfoMissing = record { there = refl; once = refl }
stands_once names.InfoCorrupted = record { there = refl; once = refl }
stands_once names.SizeMismatch = record { there = refl; once = refl }
stands_once names.CloneMissing = record { there = refl; once = refl }
stands_once names.ExtraClones = record { there = refl; once = refl }
