-- Edits of one copy, and of which part of it each is: of the data, of the header, of one attribute or of one key.
use Rattle.std.specs.Prelude.{ℕ, Bool, true, false, not, ◌==◌, ◌&&◌, List, [], ◌∷◌}
use Rattle.std.specs.List.{list_all}
use Rattle.pgs_bytes.specs.Texts.{same_text}
use Rattle.pgs_copy.specs.declared.obj_copy.ObjCopy.{ObjCopy}
use Rattle.pgs_copy.specs.declared.effect.Effect.{Effect}
use Rattle.pgs_copy.specs.declared.effect.Effect.TheVariants.{SetData, Write, Truncate, SetAttr, RmAttr, SetOmap, RmOmap, SetHeader}
use Rattle.pgs_copy.specs.Copies.{edited}
use Rattle.pgs_copy.specs.InPlace.{is_edit}

abbrev pub is_of_data : Effect → Bool
is_of_data (SetData bytes) = true
is_of_data (Write at bytes) = true
is_of_data (Truncate size) = true
is_of_data _ = false

abbrev pub is_of_header : Effect → Bool
is_of_header (SetHeader bytes) = true
is_of_header _ = false

-- the effect is on the attribute of a name
abbrev pub is_of_attr : List ℕ → Effect → Bool
is_of_attr attr (SetAttr name value) = same_text attr name
is_of_attr attr (RmAttr name) = same_text attr name
is_of_attr attr _ = false

-- the effect is on this key of the omap
abbrev pub is_of_key : List ℕ → Effect → Bool
is_of_key other (SetOmap key value) = same_text other key
is_of_key other (RmOmap key) = same_text other key
is_of_key other _ = false

-- two effects are on one part of a copy
abbrev pub is_of_one_part : Effect → Effect → Bool
is_of_one_part (SetData bytes) other = is_of_data other
is_of_one_part (Write at bytes) other = is_of_data other
is_of_one_part (Truncate size) other = is_of_data other
is_of_one_part (SetAttr name value) other = is_of_attr name other
is_of_one_part (RmAttr name) other = is_of_attr name other
is_of_one_part (SetOmap key value) other = is_of_key key other
is_of_one_part (RmOmap key) other = is_of_key key other
is_of_one_part (SetHeader bytes) other = is_of_header other
is_of_one_part _ other = false

-- all others are on the snap of the first, and none on its part
abbrev pub is_beside : ℕ × Effect → List (ℕ × Effect) → Bool
is_beside first others = list_all (λ e. first.0 == e.0 && not (is_of_one_part first.1 e.1)) others

-- all effects are edits on the snap of the first, each of another part
abbrev pub are_apart : List (ℕ × Effect) → Bool
are_apart [] = true
are_apart (e ∷ es) = is_edit e.1 && is_beside e es && are_apart es

-- the snap of the first effect
abbrev pub snap_of : List (ℕ × Effect) → ℕ
snap_of [] = 0
snap_of (e ∷ es) = e.0

-- what edits in turn leave of a copy, the first edit first
abbrev pub all_edited : List (ℕ × Effect) → ObjCopy → ObjCopy
all_edited [] copy = copy
all_edited (e ∷ es) copy = all_edited es (edited e.1 copy)
