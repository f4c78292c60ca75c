-- Listings of positions.
use Rattle.std.specs.Prelude.{ℕ, Bool, false, not, nat_lt, ◌≡◌, ◌<◌, ◌&&◌, if◌then◌else◌, List, [], ◌∷◌, ◌++◌, length, take}
use Rattle.std.specs.List.{list_any}
use Rattle.std.specs.BTreeSet.{insert_key}
use Rattle.pgs_name.specs.Positions.{position_cmp, same_position}
use Rattle.pgs_name.specs.declared.object_id.ObjectId.{ObjectId}
use Rattle.pgs_range.specs.declared.bound.Bound.{Bound}
use Rattle.pgs_chunk.specs.Positions.{Ascends}
use Rattle.pgs_chunk.specs.Selection.{from_start, of_one_family}

-- a position at its place in an ascending list, once
abbrev pub placed : ObjectId → List ObjectId → List ObjectId
placed id listed = insert_key position_cmp listed id

-- a list has the positions that pass a test, each once, in their order
pub record IsListOf (held : ObjectId → Bool) (listed : List ObjectId) : Type 0 where
  pub ascends : Ascends listed
  pub members : (id : ObjectId) → list_any (same_position id) listed ≡ held id

-- more than so many positions are listed, of two families at least
abbrev pub is_full : ℕ → List ObjectId → Bool
is_full limit listed = nat_lt limit (length listed) && not (of_one_family listed)

-- what is listed, and of the positions behind it as many as make it full, or all
abbrev pub listed_on : ℕ → List ObjectId → List ObjectId → List ObjectId
listed_on limit listed [] = listed
listed_on limit listed (id ∷ rest) = if is_full limit listed then listed else listed_on limit (listed ++ id ∷ []) rest

-- the positions from a bound on, up to and with the first at which they are full, or all
abbrev pub listing : ℕ → Bound → List ObjectId → List ObjectId
listing limit start positions = listed_on limit [] (from_start start positions)

-- the first of some positions: full, or all, and fewer aren't full
pub record IsListing (limit : ℕ) (positions listed : List ObjectId) : Type 0 where
  pub rest : List ObjectId
  pub whole : positions ≡ listed ++ rest
  pub ended : is_full limit listed ≡ false → rest ≡ []
  pub least : (count : ℕ) → count < length listed → is_full limit (take count listed) ≡ false
