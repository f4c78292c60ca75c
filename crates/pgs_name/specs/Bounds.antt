-- Which parts a name of an object has.
use Rattle.std.specs.Prelude.{ℕ, Bool, not, ◌&&◌, nat_le, if◌then◌else◌, List, [], ◌∷◌, length}
pub use Rattle.pgs_bytes.specs.Texts.{plain_byte, is_plain, same_text}
use Rattle.pgs_name.specs.declared.object_id.TheConstants.{HEAD}

-- the text is a dash alone, by which an empty space or key is written
abbrev pub is_dash : List ℕ → Bool
is_dash w = same_text w (45 ∷ [])

-- a space or a key: at most so many bytes, all plain, and no dash alone
abbrev pub is_word : ℕ → List ℕ → Bool
is_word most w = nat_le (length w) most && is_plain w && not (is_dash w)

-- a name: 1 to 255 bytes, all plain
abbrev pub is_name : List ℕ → Bool
is_name w = nat_le 1 (length w) && nat_le (length w) 255 && is_plain w

-- a snap: 1 to that of a head
abbrev pub is_snap : ℕ → Bool
is_snap n = nat_le 1 n && nat_le n HEAD

-- the parts are within their bounds
abbrev pub is_named : List ℕ → List ℕ → List ℕ → ℕ → Bool
is_named space key name snap = is_word 64 space && is_word 255 key && is_name name && is_snap snap

-- the key as it is kept: empty where it is the name
abbrev pub kept_key : List ℕ → List ℕ → List ℕ
kept_key key name = if same_text key name then [] else key
