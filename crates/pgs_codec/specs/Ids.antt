-- The position of an object, as a field.
use Rattle.std.specs.Prelude.{ℕ, Bool, not, ◌&&◌, ◌==◌, List, length}
use Rattle.pgs_name.specs.Bounds.{is_word, is_name, is_snap, same_text, kept_key}
use Rattle.pgs_name.specs.Families.{family_named}
use Rattle.pgs_name.specs.declared.object_id.ObjectId.{ObjectId}
use Rattle.pgs_codec.specs.Fields.{Field, text, u64, such, followed, seen}

-- a space or a key, which may be empty
abbrev pub word : ℕ → Field (List ℕ)
word most = such (is_word most) (text most)

-- a name, which isn't the key before it: such a key is spelled as an empty one
abbrev pub name_beside : List ℕ → Field (List ℕ)
name_beside key = such (λ w. is_name w && not (same_text key w)) (text 255)

abbrev pub snap : Field ℕ
snap = such is_snap u64

-- the parts of a position, one after another: space, key, name and snap
abbrev pub parts : Field (List ℕ × (List ℕ × (List ℕ × ℕ)))
parts = followed (word 64) (λ space. followed (word 255) (λ key. followed (name_beside key) (λ name. snap)))

abbrev pub id_of : List ℕ × (List ℕ × (List ℕ × ℕ)) → ObjectId
id_of p = record { family = family_named p.0 p.1.0 p.1.1.0; snap = p.1.1.1 }

abbrev pub parts_of : ObjectId → List ℕ × (List ℕ × (List ℕ × ℕ))
parts_of id = (id.family.space, (kept_key id.family.key id.family.name, (id.family.name, id.snap)))

-- the key that an object is placed by is never empty
abbrev pub is_placed : ObjectId → Bool
is_placed id = not (length id.family.key == 0)

-- a position, with its key as it is kept
abbrev pub id : Field ObjectId
id = seen id_of parts_of is_placed parts
