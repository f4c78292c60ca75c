-- The names of the errors of the copies of an object among each other, in their order, and sets of them.
use Rattle.std.specs.Prelude.{ℕ, ◌≡◌, ◌==◌, ◌^◌, Bool, true, not, if◌then◌else◌, List, [], ◌∷◌, Some, bit_and, bit_or, slice_get, codes}
use Rattle.std.specs.List.{filter}
use Rattle.pgs_find.specs.declared.object_error.ObjectError.{ObjectError}
use Rattle.pgs_find.specs.declared.object_error.ObjectError.TheVariants as names
use Rattle.pgs_find.specs.declared.object_errors.ObjectErrors.{ObjectErrors}

-- all names, in their order
abbrev pub object_names : List ObjectError
object_names =
    names.ObjectInfoInconsistency
    ∷ names.SnapsetInconsistency
    ∷ names.DataDigestMismatch
    ∷ names.OmapDigestMismatch
    ∷ names.SizeMismatch
    ∷ names.AttrValueMismatch
    ∷ names.AttrNameMismatch
    ∷ []

-- the place of a name in that order
abbrev pub object_place : ObjectError → ℕ
object_place names.ObjectInfoInconsistency = 0
object_place names.SnapsetInconsistency = 1
object_place names.DataDigestMismatch = 2
object_place names.OmapDigestMismatch = 3
object_place names.SizeMismatch = 4
object_place names.AttrValueMismatch = 5
object_place names.AttrNameMismatch = 6

-- how a name is written in lists
abbrev pub object_word : ObjectError → List ℕ
object_word names.ObjectInfoInconsistency = codes "object_info_inconsistency"
object_word names.SnapsetInconsistency = codes "snapset_inconsistency"
object_word names.DataDigestMismatch = codes "data_digest_mismatch"
object_word names.OmapDigestMismatch = codes "omap_digest_mismatch"
object_word names.SizeMismatch = codes "size_mismatch"
object_word names.AttrValueMismatch = codes "attr_value_mismatch"
object_word names.AttrNameMismatch = codes "attr_name_mismatch"

-- the bit of a name: 2 to its place
abbrev pub object_bit : ObjectError → ℕ
object_bit name = 2 ^ object_place name

-- a name stands once among names, at its place: it is there, and no other there has its place
pub record StandsOnce (name : ObjectError) (listed : List ObjectError) : Type 0 where
  pub there : slice_get listed (object_place name) ≡ Some name
  pub once : filter (λ n. object_place n == object_place name) listed ≡ name ∷ []

-- no error
abbrev pub no_object : ObjectErrors
no_object = record { bits = 0 }

-- a set with one name more, where it holds
abbrev pub noted_object : ObjectError → Bool → ObjectErrors → ObjectErrors
noted_object name so errors = record { bits = if so then bit_or errors.bits (object_bit name) else errors.bits }

-- a set has a name
abbrev pub has_object : ObjectErrors → ObjectError → Bool
has_object errors name = not (bit_and errors.bits (object_bit name) == 0)

-- a set has no name
abbrev pub is_no_object : ObjectErrors → Bool
is_no_object errors = errors.bits == 0

-- a set with those of some names that pass a test
abbrev pub all_object : (ObjectError → Bool) → List ObjectError → ObjectErrors → ObjectErrors
all_object test [] errors = errors
all_object test (name ∷ more) errors = all_object test more (noted_object name (test name) errors)

-- the set of the names that pass a test
abbrev pub object_where : (ObjectError → Bool) → ObjectErrors
object_where test = all_object test object_names no_object

-- one error alone
abbrev pub only_object : ObjectError → ObjectErrors
only_object name = noted_object name true no_object

-- the names of a set, in their order
abbrev pub object_names_of : ObjectErrors → List ObjectError
object_names_of errors = filter (has_object errors) object_names
