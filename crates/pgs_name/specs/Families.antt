-- Families of objects.
use Rattle.std.specs.Prelude.{ℕ, Bool, ◌&&◌, ◌==◌, if◌then◌else◌, List, length}
use Rattle.pgs_bytes.specs.Texts.{same_text}

-- What the head and the clones of one object share: a space, the key that it is placed by, and a name.
pub record Family : Type 0 where
  pub space : List ℕ
  pub key : List ℕ
  pub name : List ℕ

-- the key that a name is placed by: the key that is given, or the name itself where that is empty
abbrev pub effective_key : List ℕ → List ℕ → List ℕ
effective_key key name = if length key == 0 then name else key

-- the family of these parts
abbrev pub family_named : List ℕ → List ℕ → List ℕ → Family
family_named space key name = record { space = space; key = effective_key key name; name = name }

-- whether two families have the same parts
abbrev pub same_family : Family → Family → Bool
same_family a b = same_text a.space b.space && same_text a.key b.key && same_text a.name b.name
