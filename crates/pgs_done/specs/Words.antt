-- Words of an answer, and words as they are appended.
use Rattle.std.specs.Prelude.{ℕ, Bool, true, false, List, [], ◌∷◌, ◌++◌, Option, Some, None}
use Rattle.std.specs.Fmt.{decimal}
use Rattle.pgs_request.specs.declared.version.Version.{Version}

-- ---- words

-- EPOCH'NUMBER
abbrev pub version_word : Version → List ℕ
version_word version = decimal version.epoch ++ 39 ∷ decimal version.number

-- a word that stands where something is so
abbrev pub word_where : Bool → List ℕ → List (List ℕ)
word_where true word = word ∷ []
word_where false word = []

-- a word and a number, where there is a number
abbrev pub number_where : List ℕ → Option ℕ → List (List ℕ)
number_where word None = []
number_where word (Some number) = word ∷ decimal number ∷ []

-- ---- words as they are appended

-- each word behind a space
abbrev pub behind : List (List ℕ) → List ℕ
behind [] = []
behind (w ∷ ws) = 32 ∷ w ++ behind ws

-- the first word, and the others behind a space each
abbrev pub begins : List (List ℕ) → List ℕ
begins [] = []
begins (w ∷ ws) = w ++ behind ws
