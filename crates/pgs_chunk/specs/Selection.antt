-- Where a chunk ends.
use Rattle.std.specs.Prelude.{ℕ, Bool, true, false, not, nat_le, ◌&&◌, ◌||◌, List, [], ◌∷◌, ◌++◌, length, filter, IsTrue, ◌≡◌}
use Rattle.std.specs.List.{list_all, list_any}
use Rattle.pgs_name.specs.Families.{same_family}
use Rattle.pgs_name.specs.Families.{Family}
use Rattle.pgs_name.specs.declared.object_id.ObjectId.{ObjectId}
use Rattle.pgs_range.specs.Ranges.{is_at_most, is_above}
use Rattle.pgs_range.specs.declared.bound.Bound.{Bound}
use Rattle.pgs_range.specs.declared.bound.Bound.TheVariants.{Min, At, Max}
use Rattle.pgs_range.specs.declared.family_range.FamilyRange.{FamilyRange}
use Rattle.pgs_range.specs.Ends.{is_upto}
use Rattle.pgs_chunk.specs.Positions.{in_one_family, Ascends}

-- the listed positions without those below the start
abbrev pub from_start : Bound → List ObjectId → List ObjectId
from_start start listed = filter (λ id. is_at_most start id.family) listed

-- the listed positions below a bound
abbrev pub below : Bound → List ObjectId → List ObjectId
below bound listed = filter (λ id. is_above bound id.family) listed

-- all are of one family, or there are none
abbrev pub of_one_family : List ObjectId → Bool
of_one_family listed = list_all (λ a. list_all (λ b. in_one_family a b) listed) listed

-- at most so many positions are listed below a bound, or those of one family
abbrev pub fits : ℕ → List ObjectId → Bound → Bool
fits limit listed bound = nat_le (length (below bound listed)) limit || of_one_family (below bound listed)

-- a listed family other than the first
abbrev pub is_later_family : List ObjectId → Family → Bool
is_later_family [] f = false
is_later_family (first ∷ rest) f = not (same_family first.family f) && list_any (λ id. same_family id.family f) rest

-- where a chunk may end: at a listed family other than the first, or above all families
abbrev pub is_candidate : List ObjectId → Bound → Bool
is_candidate listed Min = false
is_candidate listed (At f) = is_later_family listed f
is_candidate listed Max = true

-- a chunk ends at the greatest candidate that fits
pub record IsEnd (limit : ℕ) (listed : List ObjectId) (end : Bound) : Type 0 where
  pub candidate : IsTrue (is_candidate listed end)
  pub fitting : IsTrue (fits limit listed end)
  pub greatest : (other : Bound) → IsTrue (is_candidate listed other) → IsTrue (fits limit listed other) → IsTrue (is_upto other end)

-- a chunk has the families from the start to the end that the listed positions give
pub record IsSelected (limit : ℕ) (listed : List ObjectId) (start : Bound) (range : FamilyRange) : Type 0 where
  pub begins : range.from ≡ start
  pub ends : IsEnd limit (from_start start listed) range.to

-- more than so many counted positions, and more than one family, are listed, so a listing may stop
abbrev pub is_enough : ℕ → List ObjectId → Bound → Bool
is_enough limit listed start = not (fits limit (from_start start listed) Max)

-- whatever is listed behind changes nothing
pub record IsSettled (limit : ℕ) (listed : List ObjectId) (start : Bound) (range : FamilyRange) : Type 0 where
  pub whatever : (more : List ObjectId) → Ascends (listed ++ more) → IsSelected limit (listed ++ more) start range
