-- What the set of the names that pass a test has: the errors of the copies of an object among each other.
use Rattle.std.proofs.Common.{◌≡◌, Bool, not, List, [], ◌∷◌, refl, ap, ◌∙◌}
use Rattle.std.specs.Prelude.{◌==◌}
use Rattle.std.specs.List.{list_all}
use Rattle.pgs_find.specs.declared.object_error.ObjectError.{ObjectError}
use Rattle.pgs_find.specs.declared.object_error.ObjectError.TheVariants as names
use Rattle.pgs_find.specs.declared.object_errors.ObjectErrors.{ObjectErrors}
use Rattle.pgs_find.specs.ObjectNames.{object_names, object_bit, has_object, no_object, is_no_object, all_object, object_where, noted_object, StandsOnce}
use Rattle.pgs_find.proofs.Bits.{all_bits, has_bit, has_at, none_at}

bits_of : (test : ObjectError → Bool) (listed : List ObjectError) (errors : ObjectErrors) → (all_object test listed errors).bits ≡ all_bits object_bit test listed errors.bits
bits_of test [] errors = refl
bits_of test (name ∷ more) errors = bits_of test more (noted_object name (test name) errors)

has_all : (test : ObjectError → Bool) (name : ObjectError) → has_bit object_bit test (all_bits object_bit test object_names 0) name ≡ test name
has_all test names.ObjectInfoInconsistency = has_at object_bit test names.ObjectInfoInconsistency 0 object_names refl refl refl refl
has_all test names.SnapsetInconsistency = has_at object_bit test names.SnapsetInconsistency 1 object_names refl refl refl refl
has_all test names.DataDigestMismatch = has_at object_bit test names.DataDigestMismatch 2 object_names refl refl refl refl
has_all test names.OmapDigestMismatch = has_at object_bit test names.OmapDigestMismatch 3 object_names refl refl refl refl
has_all test names.SizeMismatch = has_at object_bit test names.SizeMismatch 4 object_names refl refl refl refl
has_all test names.AttrValueMismatch = has_at object_bit test names.AttrValueMismatch 5 object_names refl refl refl refl
has_all test names.AttrNameMismatch = has_at object_bit test names.AttrNameMismatch 6 object_names refl refl refl refl

pub has_law : (test : ObjectError → Bool) (name : ObjectError) → has_object (object_where test) name ≡ test name
has_law test name = ap (λ b. has_bit object_bit test b name) (bits_of test object_names no_object) ∙ has_all test name

pub none_law : (test : ObjectError → Bool) → is_no_object (object_where test) ≡ list_all (λ n. not (test n)) object_names
none_law test = ap (λ b. b == 0) (bits_of test object_names no_object) ∙ none_at object_bit test object_names refl

pub stands_once : (name : ObjectError) → StandsOnce name object_names
stands_once names.ObjectInfoInconsistency = record { there = refl; once = refl }
stands_once names.SnapsetInconsistency = record { there = refl; once = refl }
stands_once names.DataDigestMismatch = record { there = refl; once = refl }
stands_once names.OmapDigestMismatch = record { there = refl; once = refl }
stands_once names.SizeMismatch = record { there = refl; once = refl }
stands_once names.AttrValueMismatch = record { there = refl; once = refl }
stands_once names.AttrNameMismatch = record { there = refl; once = refl }
