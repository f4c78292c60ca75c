-- Texts of bytes, as words and names are made of.
use Rattle.std.specs.Prelude.{ℕ, Bool, ◌&&◌, nat_le, nat_eq, List}
use Rattle.std.specs.Cmp.Lexicographic.{pointwise}
use Rattle.std.specs.List.{list_all}

-- whether two texts have the same bytes
abbrev pub same_text : List ℕ → List ℕ → Bool
same_text a b = pointwise nat_eq a b

-- a byte that a word or a name may have: 0x21 to 0x7E, which is printed and no blank
abbrev pub plain_byte : ℕ → Bool
plain_byte b = nat_le 33 b && nat_le b 126

-- whether every byte of a text is plain
abbrev pub is_plain : List ℕ → Bool
is_plain w = list_all plain_byte w
