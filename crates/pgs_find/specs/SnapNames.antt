-- The names of the errors of a head or a clone among the snapshots of its object, in their order, and sets of them.
use Rattle.std.specs.Prelude.{ℕ, ◌≡◌, ◌==◌, ◌^◌, Bool, true, not, if◌then◌else◌, List, [], ◌∷◌, Some, bit_and, bit_or, slice_get, codes}
use Rattle.std.specs.List.{filter}
use Rattle.pgs_find.specs.declared.snap_error.SnapError.{SnapError}
use Rattle.pgs_find.specs.declared.snap_error.SnapError.TheVariants as names
use Rattle.pgs_find.specs.declared.snap_errors.SnapErrors.{SnapErrors}

-- all names, in their order
abbrev pub snap_names : List SnapError
snap_names =
    names.Headless
    ∷ names.SnapsetMissing
    ∷ names.SnapsetCorrupted
    ∷ names.SnapsetError
    ∷ names.InfoMissing
    ∷ names.InfoCorrupted
    ∷ names.SizeMismatch
    ∷ names.CloneMissing
    ∷ names.ExtraClones
    ∷ []

-- the place of a name in that order
abbrev pub snap_place : SnapError → ℕ
snap_place names.Headless = 0
snap_place names.SnapsetMissing = 1
snap_place names.SnapsetCorrupted = 2
snap_place names.SnapsetError = 3
snap_place names.InfoMissing = 4
snap_place names.InfoCorrupted = 5
snap_place names.SizeMismatch = 6
snap_place names.CloneMissing = 7
snap_place names.ExtraClones = 8

-- how a name is written in lists
abbrev pub snap_word : SnapError → List ℕ
snap_word names.Headless = codes "headless"
snap_word names.SnapsetMissing = codes "snapset_missing"
snap_word names.SnapsetCorrupted = codes "snapset_corrupted"
snap_word names.SnapsetError = codes "snapset_error"
snap_word names.InfoMissing = codes "info_missing"
snap_word names.InfoCorrupted = codes "info_corrupted"
snap_word names.SizeMismatch = codes "size_mismatch"
snap_word names.CloneMissing = codes "clone_missing"
snap_word names.ExtraClones = codes "extra_clones"

-- the bit of a name: 2 to its place
abbrev pub snap_bit : SnapError → ℕ
snap_bit name = 2 ^ snap_place name

-- a name stands once among names, at its place: it is there, and no other there has its place
pub record StandsOnce (name : SnapError) (listed : List SnapError) : Type 0 where
  pub there : slice_get listed (snap_place name) ≡ Some name
  pub once : filter (λ n. snap_place n == snap_place name) listed ≡ name ∷ []

-- no error
abbrev pub no_snap : SnapErrors
no_snap = record { bits = 0 }

-- a set with one name more, where it holds
abbrev pub noted_snap : SnapError → Bool → SnapErrors → SnapErrors
noted_snap name so errors = record { bits = if so then bit_or errors.bits (snap_bit name) else errors.bits }

-- a set has a name
abbrev pub has_snap : SnapErrors → SnapError → Bool
has_snap errors name = not (bit_and errors.bits (snap_bit name) == 0)

-- a set has no name
abbrev pub is_no_snap : SnapErrors → Bool
is_no_snap errors = errors.bits == 0

-- a set with those of some names that pass a test
abbrev pub all_snap : (SnapError → Bool) → List SnapError → SnapErrors → SnapErrors
all_snap test [] errors = errors
all_snap test (name ∷ more) errors = all_snap test more (noted_snap name (test name) errors)

-- the set of the names that pass a test
abbrev pub snap_where : (SnapError → Bool) → SnapErrors
snap_where test = all_snap test snap_names no_snap

-- one error alone
abbrev pub only_snap : SnapError → SnapErrors
only_snap name = noted_snap name true no_snap

-- the names of a set, in their order
abbrev pub snap_names_of : SnapErrors → List SnapError
snap_names_of errors = filter (has_snap errors) snap_names
