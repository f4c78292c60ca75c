-- Fields: how values are spelled as bytes and read again.
use Rattle.std.specs.Prelude.{◌==◌, ℕ, zero, suc, ◌≡◌, ◌+◌, ◌^◌, ◌<◌, Bool, true, false, ◌&&◌, nat_lt, nat_le, if◌then◌else◌, List, [], ◌∷◌, ◌++◌, length, take, slice_index, Option, Some, None, Result, Ok, Err}
use Rattle.std.specs.Int.{Width, w32, w64, byte_len, to_le_bytes, from_le_bytes}
use Rattle.pgs_codec.specs.Reading.{Rest, Refusal, Cut, Wrong, unread, behind, ◌>>=◌, ended}

-- which values have a spelling, which bytes it is, and which value is read from the front of what is left
pub record Field (A : Type 0) : Type 0 where
  pub fits : A → Bool
  pub spell : A → List ℕ
  pub read : Rest → Result (A × Rest) Refusal

-- ---- numbers and bytes

-- a number of so many bytes, the lowest first
abbrev pub number : Width → ℕ → Field ℕ
number w bound = record {
  fits = λ n. nat_lt n bound;
  spell = to_le_bytes w;
  read = λ rest.
      if nat_lt (length rest.left) (byte_len w) then Err (Cut rest.place)
      else Ok (from_le_bytes w (take (byte_len w) rest.left), behind (byte_len w) rest);
}

abbrev pub u32 : Field ℕ
u32 = number w32 (2 ^ 32)

abbrev pub u64 : Field ℕ
u64 = number w64 (2 ^ 64)

-- one byte
abbrev pub read_byte : ℕ → List ℕ → Result (ℕ × Rest) Refusal
read_byte place [] = Err (Cut place)
read_byte place (b ∷ bytes) = Ok (b, record { place = place + 1; left = bytes })

abbrev pub u8 : Field ℕ
u8 = record { fits = λ n. nat_lt n 256; spell = λ n. n ∷ []; read = λ rest. read_byte rest.place rest.left }

-- ---- fields of fields

-- the values that pass a test; any other is refused at the field's start
abbrev pub such : {A : Type 0} → (A → Bool) → Field A → Field A
such test a = record {
  fits = λ x. a.fits x && test x;
  spell = a.spell;
  read = λ rest. do
    x ← a.read rest
    if test x.0 then Ok x else Err (Wrong rest.place);
}

-- a field, and then one that may depend on its value
abbrev pub followed : {A B : Type 0} → Field A → (A → Field B) → Field (A × B)
followed a b = record {
  fits = λ x. a.fits x.0 && (b x.0).fits x.1;
  spell = λ x. a.spell x.0 ++ (b x.0).spell x.1;
  read = λ rest. do
    x ← a.read rest
    y ← (b x.0).read x.1
    Ok ((x.0, y.0), y.1);
}

-- the same spellings, of values that are seen another way and pass a test
abbrev pub seen : {A B : Type 0} → (A → B) → (B → A) → (B → Bool) → Field A → Field B
seen to from test a = record {
  fits = λ y. a.fits (from y) && test y;
  spell = λ y. a.spell (from y);
  read = λ rest. do
    x ← a.read rest
    Ok (to x.0, x.1);
}

-- one byte that is always the same, and tells nothing
abbrev pub fixed : ℕ → Field (Unit {0})
fixed value = seen (λ b. tt) (λ x. value) (λ x. true) (such (λ b. b == value) u8)

-- so many bytes at most, behind their number
abbrev pub spelled_text : List ℕ → List ℕ
spelled_text w = u32.spell (length w) ++ w

abbrev pub text : ℕ → Field (List ℕ)
text most = record {
  fits = λ w. nat_lt (length w) (2 ^ 32) && nat_le (length w) most;
  spell = spelled_text;
  read = λ rest. do
    n ← (such (λ n. nat_le n most) u32).read rest
    if nat_lt (length n.1.left) n.0 then Err (Cut rest.place) else Ok (take n.0 n.1.left, behind n.0 n.1);
}

-- a field that is there or not
abbrev pub fits_where : {A : Type 0} → Bool → Field A → Option A → Bool
fits_where true a (Some x) = a.fits x
fits_where true a None = false
fits_where false a (Some x) = false
fits_where false a None = true

abbrev pub spelled_where : {A : Type 0} → Field A → Option A → List ℕ
spelled_where a (Some x) = a.spell x
spelled_where a None = []

abbrev pub read_where : {A : Type 0} → Bool → Field A → Rest → Result (Option A × Rest) Refusal
read_where true a rest = do
  x ← a.read rest
  Ok (Some x.0, x.1)
read_where false a rest = Ok (None, rest)

abbrev pub where_so : {A : Type 0} → Bool → Field A → Field (Option A)
where_so there a = record { fits = fits_where there a; spell = spelled_where a; read = read_where there a }

-- so many fields alike
abbrev pub all_fit : {A : Type 0} → Field A → List A → Bool
all_fit a [] = true
all_fit a (x ∷ xs) = a.fits x && all_fit a xs

abbrev pub all_spelled : {A : Type 0} → Field A → List A → List ℕ
all_spelled a [] = []
all_spelled a (x ∷ xs) = a.spell x ++ all_spelled a xs

unfoldable pub read_all : {A : Type 0} → Field A → ℕ → Rest → Result (List A × Rest) Refusal
read_all a zero rest = Ok ([], rest)
read_all a (suc n) rest = do
  x ← a.read rest
  xs ← read_all a n x.1
  Ok (x.0 ∷ xs.0, xs.1)

-- any number of fields alike, behind their number
abbrev pub counted : {A : Type 0} → Field A → Field (List A)
counted a = record {
  fits = λ xs. u32.fits (length xs) && all_fit a xs;
  spell = λ xs. u32.spell (length xs) ++ all_spelled a xs;
  read = λ rest. do
    n ← u32.read rest
    read_all a n.0 n.1;
}

-- ---- whole texts, and what makes a spelling

-- the value that a whole text spells, or the place at which the text is refused
abbrev pub read_whole : {A : Type 0} → Field A → List ℕ → Result A ℕ
read_whole a text = ended (a.read (unread text))

abbrev pub AreBytes : List ℕ → Type 0
AreBytes bytes = (i : ℕ) → slice_index bytes i < 256

-- what was read was spelled so, and begins where reading began and ends where it goes on
pub record IsRead {A : Type 0} (a : Field A) (rest : Rest) (x : A × Rest) : Type 0 where
  pub bytes : rest.left ≡ a.spell x.0 ++ x.1.left
  pub place : x.1.place ≡ rest.place + length (a.spell x.0)
  pub fits : a.fits x.0 ≡ true

-- Spelling and reading are inverse: what is spelled is read, whatever follows it, and what is read was spelled so.
pub record IsSpelling {A : Type 0} (a : Field A) : Type 0 where
  pub again : (x : A) (place : ℕ) (more : List ℕ) → a.fits x ≡ true → a.read (record { place = place; left = a.spell x ++ more }) ≡ Ok (x, record { place = place + length (a.spell x); left = more })
  pub found : (rest : Rest) (x : A × Rest) → AreBytes rest.left → a.read rest ≡ Ok x → IsRead a rest x
