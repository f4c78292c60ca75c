-- Bounds and ranges as bytes.
use Rattle.std.specs.Prelude.{ℕ, Bool, true, not, ◌&&◌, nat_lt, ◌==◌, if◌then◌else◌, List, length, Option, Some, None}
use Rattle.std.specs.Ordering.{is_lt}
use Rattle.pgs_name.specs.Bounds.{is_name, same_text, kept_key}
use Rattle.pgs_name.specs.Families.{Family, family_named}
use Rattle.pgs_range.specs.Ends.{bound_cmp}
use Rattle.pgs_range.specs.declared.bound.Bound.{Bound}
use Rattle.pgs_range.specs.declared.bound.Bound.TheVariants.{Min, At, Max}
use Rattle.pgs_range.specs.declared.family_range.FamilyRange.{FamilyRange}
use Rattle.pgs_codec.specs.Fields.{Field, u8, such, followed, seen, where_so}
use Rattle.pgs_codec.specs.Ids.{word, name_beside}

-- the parts of a family, one after another: space, key and name
abbrev pub FamilyParts : Type 0
FamilyParts = List ℕ × (List ℕ × List ℕ)

abbrev pub family_parts : Field FamilyParts
family_parts = followed (word 64) (λ space. followed (word 255) (λ key. name_beside key))

-- a name that isn't the key before it
abbrev pub is_name_beside : List ℕ → List ℕ → Bool
is_name_beside key name = is_name name && not (same_text key name)

abbrev pub family_of : FamilyParts → Family
family_of p = family_named p.0 p.1.0 p.1.1

abbrev pub parts_of_family : Family → FamilyParts
parts_of_family f = (f.space, (kept_key f.key f.name, f.name))

-- the key that a family is placed by is never empty
abbrev pub is_placed : Family → Bool
is_placed f = not (length f.key == 0)

-- a family, with its key as it is kept
abbrev pub family : Field Family
family = seen family_of parts_of_family is_placed family_parts

-- a byte that tells of which kind a bound is: 0 below all families, 1 at a family, which follows, 2 above all families
abbrev pub kind : Field ℕ
kind = such (λ byte. nat_lt byte 3) u8

abbrev pub at_or_max : Option Family → Bound
at_or_max None = Max
at_or_max (Some f) = At f

abbrev pub bound_of : ℕ × Option Family → Bound
bound_of p = if p.0 == 0 then Min else at_or_max p.1

abbrev pub parts_of_bound : Bound → ℕ × Option Family
parts_of_bound Min = (0, None)
parts_of_bound (At f) = (1, Some f)
parts_of_bound Max = (2, None)

abbrev pub bound : Field Bound
bound = seen bound_of parts_of_bound (λ b. true) (followed kind (λ byte. where_so (byte == 1) family))

-- a bound lies below another
abbrev pub is_below : Bound → Bound → Bool
is_below a b = is_lt (bound_cmp a b)

-- a range: its bounds, of which the first lies below the second
abbrev pub range : Field FamilyRange
range =
    seen (λ p. record { from = p.0; to = p.1 }) (λ r. (r.from, r.to)) (λ r. true)
    (followed bound (λ from. such (is_below from) bound))
