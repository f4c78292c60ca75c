-- How objects and ranges are printed.
use Rattle.std.specs.Prelude.{ℕ, if◌then◌else◌, List, [], ◌∷◌, ◌++◌, codes}
use Rattle.pgs_words.specs.Forms.{same_text}
use Rattle.pgs_lines.specs.Objects.{space, key, name}
use Rattle.pgs_lines.specs.declared.object.Object.{Object}
use Rattle.pgs_done.specs.declared.bound.Bound.{Bound}
use Rattle.pgs_done.specs.declared.bound.Bound.TheVariants.{Min, At, Max}
use Rattle.pgs_done.specs.declared.range.Range.{Range}

-- an object as it is kept: a key that is equal to the name says what no key says
abbrev pub as_kept : Object → Object
as_kept object = record object { key = if same_text object.key object.name then [] else object.key }

-- SPACE KEY NAME
abbrev pub object_words : Object → List (List ℕ)
object_words object = space.spell object.space ∷ key.spell object.key ∷ name.spell object.name ∷ []

abbrev pub bound_words : Bound → List (List ℕ)
bound_words Min = codes "min" ∷ []
bound_words (At object) = codes "at" ∷ object_words (as_kept object)
bound_words Max = codes "max" ∷ []

abbrev pub range_words : Range → List (List ℕ)
range_words range = codes "from" ∷ bound_words range.from ++ codes "to" ∷ bound_words range.to
