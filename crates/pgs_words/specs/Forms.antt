-- How a value is spelled as one text, or as a list of texts, and how it is read again.
use Rattle.std.specs.Prelude.{ℕ, ◌≡◌, ◌==◌, ◌&&◌, Bool, true, false, if◌then◌else◌, List, [], ◌∷◌, ◌++◌, Option, Some, None, option_map, Result, Ok, Err}
use Rattle.std.specs.List.{slice_split, join_with_byte}
pub use Rattle.pgs_bytes.specs.Texts.{same_text}
use Rattle.pgs_words.specs.declared.read_error.ReadError.{ReadError}
use Rattle.pgs_words.specs.declared.read_error.ReadError.TheVariants.{Outside, Memory}

-- ---- steps that may fail

infixl 10 ◌>>=◌
abbrev pub ◌>>=◌ : {A B : Type 0} → Option A → (A → Option B) → Option B
None >>= f = None
(Some x) >>= f = f x

-- a value that passes a test
abbrev pub when : {A : Type 0} → Bool → A → Option A
when test x = if test then Some x else None

-- what a function answered, seen by a view, is what reading gives, unless memory ran out
abbrev pub Fails : {Y : Type 0} → ReadError → Option Y → Type 0
Fails Memory read = Unit {0}
Fails Outside read = read ≡ None

abbrev pub Gives : {X Y : Type 0} → (X → Y) → Result X ReadError → Option Y → Type 0
Gives view (Ok x) read = read ≡ Some (view x)
Gives view (Err e) read = Fails e read

-- ---- texts and their parts

-- the parts of a text between such bytes
abbrev pub parts_of : ℕ → List ℕ → List (List ℕ)
parts_of byte text = slice_split (λ b. b == byte) text

-- the parts that are left of a text, of which nothing may be left
abbrev pub left : ℕ → Option (List ℕ) → List (List ℕ)
left byte None = []
left byte (Some text) = parts_of byte text

abbrev pub first_of : List (List ℕ) → Option (List ℕ × List (List ℕ))
first_of [] = None
first_of (part ∷ parts) = Some (part, parts)

-- the first part as a value, and the other parts
abbrev pub taken : {A : Type 0} → (List ℕ → Option A) → List (List ℕ) → Option (A × List (List ℕ))
taken read parts = do
  first ← first_of parts
  value ← read first.0
  Some (value, first.1)

abbrev pub none_left : List (List ℕ) → Option (Unit {0})
none_left [] = Some tt
none_left (part ∷ parts) = None

-- what stands behind a front
unfoldable pub after_front : List ℕ → List ℕ → Option (List ℕ)
after_front [] text = Some text
after_front (c ∷ front) [] = None
after_front (c ∷ front) (b ∷ text) = if b == c then after_front front text else None

-- ---- values as one text, and as parts

-- which values have a text, which text it is, and which value a text has
pub record Field (A : Type 0) : Type 0 where
  pub fits : A → Bool
  pub spell : A → List ℕ
  pub read : List ℕ → Option A

-- the same with a list of parts
pub record Form (A : Type 0) : Type 0 where
  pub fits : A → Bool
  pub spell : A → List (List ℕ)
  pub read : List (List ℕ) → Option A

-- no part
abbrev pub nothing : Form (Unit {0})
nothing = record { fits = λ x. true; spell = λ x. []; read = none_left }

-- a part, and then others
abbrev pub field : {A B : Type 0} → Field A → Form B → Form (A × B)
field a b = record {
  fits = λ x. a.fits x.0 && b.fits x.1;
  spell = λ x. a.spell x.0 ∷ b.spell x.1;
  read = λ parts. do
    first ← taken a.read parts
    others ← b.read first.1
    Some (first.0, others);
}

-- the last part
abbrev pub last : {A : Type 0} → Field A → Form A
last a = record {
  fits = a.fits;
  spell = λ x. a.spell x ∷ [];
  read = λ parts. do
    first ← taken a.read parts
    none ← none_left first.1
    Some first.0;
}

-- a fixed part, which tells nothing
abbrev pub fixed : List ℕ → List ℕ → Option (Unit {0})
fixed wanted w = when (same_text w wanted) tt

-- a fixed part, and then others
abbrev pub word_then : {B : Type 0} → List ℕ → Form B → Form B
word_then word b = record {
  fits = b.fits;
  spell = λ x. word ∷ b.spell x;
  read = λ parts. do
    first ← taken (fixed word) parts
    b.read first.1;
}

-- all parts, alike
abbrev pub all_fit : {A : Type 0} → Field A → List A → Bool
all_fit a [] = true
all_fit a (x ∷ xs) = a.fits x && all_fit a xs

abbrev pub all_spelled : {A : Type 0} → Field A → List A → List (List ℕ)
all_spelled a [] = []
all_spelled a (x ∷ xs) = a.spell x ∷ all_spelled a xs

abbrev pub all_read : {A : Type 0} → (List ℕ → Option A) → List (List ℕ) → Option (List A)
all_read read [] = Some []
all_read read (part ∷ parts) = do
  x ← read part
  xs ← all_read read parts
  Some (x ∷ xs)

abbrev pub each : {A : Type 0} → Field A → Form (List A)
each a = record { fits = all_fit a; spell = all_spelled a; read = all_read a.read }

abbrev pub has_some : {A : Type 0} → List A → Bool
has_some [] = false
has_some (x ∷ xs) = true

-- parts with such bytes between them, as one text
abbrev pub parts : {A : Type 0} → ℕ → Form A → Field A
parts byte f = record {
  fits = f.fits;
  spell = λ x. join_with_byte byte (f.spell x);
  read = λ text. f.read (parts_of byte text);
}

-- the values that pass a test
abbrev pub such : {A : Type 0} → (A → Bool) → Field A → Field A
such test a = record {
  fits = λ x. a.fits x && test x;
  spell = a.spell;
  read = λ text. do
    x ← a.read text
    when (test x) x;
}

abbrev pub such_form : {A : Type 0} → (A → Bool) → Form A → Form A
such_form test f = record {
  fits = λ x. f.fits x && test x;
  spell = f.spell;
  read = λ parts. do
    x ← f.read parts
    when (test x) x;
}

-- the same values, seen another way
abbrev pub seen : {A B : Type 0} → (A → B) → (B → A) → Form A → Form B
seen to from f = record { fits = λ x. f.fits (from x); spell = λ x. f.spell (from x); read = λ parts. option_map to (f.read parts) }

abbrev pub seen_field : {A B : Type 0} → (A → B) → (B → A) → Field A → Field B
seen_field to from f = record { fits = λ x. f.fits (from x); spell = λ x. f.spell (from x); read = λ text. option_map to (f.read text) }

-- a text that stands for itself
abbrev pub itself : (List ℕ → Bool) → Field (List ℕ)
itself test = record { fits = test; spell = λ text. text; read = λ text. when (test text) text }

-- behind a front
abbrev pub fronted : {A : Type 0} → List ℕ → Field A → Field A
fronted front a = record { fits = a.fits; spell = λ x. front ++ a.spell x; read = λ text. after_front front text >>= a.read }

-- ---- values of several kinds, told by their first part

-- the word of a kind, and how what follows it is read
pub record Row (A : Type 0) : Type 0 where
  pub word : List ℕ
  pub read : List (List ℕ) → Option A

abbrev pub row : {A B : Type 0} → List ℕ → Form B → (B → A) → Row A
row word f make = record { word = word; read = λ parts. option_map make (f.read parts) }

-- by the row whose word it is, or otherwise
abbrev pub by_rows : {A : Type 0} → List (Row A) → (List ℕ → List (List ℕ) → Option A) → List ℕ → List (List ℕ) → Option A
by_rows [] other word parts = other word parts
by_rows (r ∷ rows) other word parts = if same_text word r.word then r.read parts else by_rows rows other word parts

abbrev pub no_row : {A : Type 0} → List ℕ → List (List ℕ) → Option A
no_row word parts = None

abbrev pub read_rows : {A : Type 0} → (List ℕ → List (List ℕ) → Option A) → List (List ℕ) → Option A
read_rows read parts = do
  first ← first_of parts
  read first.0 first.1

-- the parts of a value, and whether it has them
pub record Spelling : Type 0 where
  pub words : List (List ℕ)
  pub fits : Bool

-- a kind's word and what its form spells behind it
abbrev pub said : {B : Type 0} → List ℕ → Form B → B → Spelling
said word f x = record { words = word ∷ f.spell x; fits = f.fits x }

abbrev pub kinds : {A : Type 0} → (A → Spelling) → (List ℕ → List (List ℕ) → Option A) → Form A
kinds spelling read = record { fits = λ x. (spelling x).fits; spell = λ x. (spelling x).words; read = read_rows read }

-- ---- some words that stand for some values

abbrev pub look_up : {A : Type 0} → List (List ℕ × A) → List ℕ → Option A
look_up [] w = None
look_up (r ∷ rows) w = if same_text w r.0 then Some r.1 else look_up rows w

abbrev pub keyword : {A : Type 0} → (A → List ℕ) → List (List ℕ × A) → Field A
keyword spelled rows = record { fits = λ x. true; spell = spelled; read = look_up rows }

-- ---- values of several kinds that are one text, told by its front

-- the front of a kind, and how what follows it is read
pub record Front (A : Type 0) : Type 0 where
  pub front : List ℕ
  pub read : List ℕ → Option A

abbrev pub front : {A B : Type 0} → List ℕ → Field B → (B → A) → Front A
front begin f make = record { front = begin; read = λ text. option_map make (f.read text) }

abbrev pub read_or : {A : Type 0} → Option (List ℕ) → (List ℕ → Option A) → Option A → Option A
read_or None read other = other
read_or (Some rest) read other = read rest

-- by the first row whose front stands there
abbrev pub by_fronts : {A : Type 0} → List (Front A) → List ℕ → Option A
by_fronts [] text = None
by_fronts (r ∷ rows) text = read_or (after_front r.front text) r.read (by_fronts rows text)

-- the text of a value, and whether it has it
pub record Writing : Type 0 where
  pub text : List ℕ
  pub fits : Bool

-- a kind's front and what its field spells behind it
abbrev pub written : {B : Type 0} → List ℕ → Field B → B → Writing
written begin f x = record { text = begin ++ f.spell x; fits = f.fits x }

abbrev pub fronts : {A : Type 0} → (A → Writing) → (List ℕ → Option A) → Field A
fronts writing read = record { fits = λ x. (writing x).fits; spell = λ x. (writing x).text; read = read }
