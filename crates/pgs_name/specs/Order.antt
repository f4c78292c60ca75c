-- The order of families.
use Rattle.std.specs.Prelude.{ℕ, zero, suc, ◌+◌, ◌*◌, ◌/◌, ◌%◌, ◌^◌, List, ◌∷◌, ◌++◌}
use Rattle.std.specs.declared.cmp.Ordering.{Ordering}
use Rattle.std.specs.Ordering.{nat_cmp, ordering_then}
use Rattle.std.specs.Cmp.Lexicographic.{slice_cmp}
use Rattle.pgs_crc.specs.Digest.{crc}
use Rattle.pgs_name.specs.Families.{Family}

-- a word of so many bits with its bits in the other order: the lowest becomes the highest
unfoldable pub reversed : ℕ → ℕ → ℕ
reversed zero word = 0
reversed (suc bits) word = word % 2 * 2 ^ bits + reversed bits (word / 2)

-- the hash of a family: the digest of its space, the byte 0x1F and the key that it is placed by
abbrev pub hash_of : Family → ℕ
hash_of f = crc (f.space ++ 0x1F ∷ f.key)

-- the place of a family's hash: its bits in the other order, so that the families of a group stay together where it is split
abbrev pub place_of : Family → ℕ
place_of f = reversed 32 (hash_of f)

-- two texts, byte by byte, a front before what it is a front of
abbrev pub text_cmp : List ℕ → List ℕ → Ordering
text_cmp a b = slice_cmp nat_cmp a b

-- families: by place, then by space, then by the key that they are placed by, then by name
abbrev pub family_cmp : Family → Family → Ordering
family_cmp a b =
    ordering_then (ordering_then (ordering_then (nat_cmp (place_of a) (place_of b)) (text_cmp a.space b.space)) (text_cmp a.key b.key)) (text_cmp a.name b.name)
