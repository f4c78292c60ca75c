-- Objects by a table of their members, and arrays of what is alike.
use Rattle.std.specs.Prelude.{ℕ, Bool, true, false, List, [], ◌∷◌, Option, Some, None, map}
use Rattle.serde_json.specs.Data.{Data, array, object, string, number, unsigned, Members, no_members, member, put}
use Rattle.serde_json.specs.View.{items_of}

-- a member in front of others, where it has a value
abbrev pub with_first : List ℕ → Option Data → Members → Members
with_first key None others = others
with_first key (Some value) others = member key value others

-- The members that have a value, in the order of the table. Each table below is in the alphabetical order of its keys.
abbrev pub members_in : List (List ℕ × Option Data) → Members
members_in [] = no_members
members_in (row ∷ rows) = with_first row.0 row.1 (members_in rows)

-- the object of a table's members
abbrev pub object_of : List (List ℕ × Option Data) → Data
object_of rows = object (members_in rows)

-- an array with an item for each element of a list, in its order
abbrev pub array_of : {A : Type 0} → (A → Data) → List A → Data
array_of item_of xs = array (items_of (map item_of xs))

-- words as strings
abbrev pub words_data : {A : Type 0} → (A → List ℕ) → List A → Data
words_data word names = array_of (λ name. string (word name)) names

-- numbers
abbrev pub numbers_data : List ℕ → Data
numbers_data numbers = array_of (λ n. number (unsigned n)) numbers

-- where something is so
abbrev pub only_where : Bool → Data → Option Data
only_where true value = Some value
only_where false value = None

-- ---- for private clauses: a member put into an object, where it has a value

abbrev pub put_where : List ℕ → Option Data → Members → Members
put_where key None members = members
put_where key (Some value) members = put key value members

-- a word behind others, where it holds
abbrev pub word_where : Bool → List ℕ → List Data
word_where true word = string word ∷ []
word_where false word = []
