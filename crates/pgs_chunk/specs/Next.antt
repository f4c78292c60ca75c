-- The position that a chunk ends at.
use Rattle.std.specs.Prelude.{ℕ, not, List, [], ◌∷◌, Option, None, drop}
use Rattle.std.specs.List.{find}
use Rattle.pgs_name.specs.declared.object_id.ObjectId.{ObjectId}
use Rattle.pgs_chunk.specs.Positions.{in_one_family}

-- the first position of a family other than that of another
abbrev pub other_than : ObjectId → List ObjectId → Option ObjectId
other_than first listed = find (λ id. not (in_one_family first id)) listed

-- the first position that isn't of the first family, behind as many as the limit
abbrev pub next_position : ℕ → List ObjectId → Option ObjectId
next_position limit [] = None
next_position limit (first ∷ rest) = other_than first (drop limit (first ∷ rest))
