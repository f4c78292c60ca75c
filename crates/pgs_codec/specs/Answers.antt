-- What calls that read answer.
use Rattle.std.specs.Prelude.{ℕ, ◌≡◌, ◌==◌, if◌then◌else◌, length, Result, Ok, Err}
use Rattle.pgs_codec.specs.Reading.{Rest, Refusal, Cut, Wrong}
use Rattle.pgs_codec.specs.declared.short.Short.{Short}
use Rattle.pgs_codec.specs.declared.field_error.FieldError.{FieldError}
use Rattle.pgs_codec.specs.declared.field_error.FieldError.TheVariants as errors
use Rattle.pgs_codec.specs.declared.decode_error.DecodeError.{DecodeError}
use Rattle.pgs_codec.specs.declared.decode_error.DecodeError.TheVariants as refusals

-- a refusal is that of reading; want of memory is free
abbrev pub Fails : {Y : Type 0} → FieldError → Result Y Refusal → Type 0
Fails errors.Memory read = Unit {0}
Fails (errors.Short at) read = read ≡ Err (Cut at)
Fails (errors.Bad at) read = read ≡ Err (Wrong at)

-- An answer, seen by a view, is what reading gives, and the reader then stands behind it; after a refusal it stays where it was.
abbrev pub Gives : {X Y : Type 0} → (X → Y) → Rest → Rest → Result X FieldError → Result (Y × Rest) Refusal → Type 0
Gives view old new (Ok x) read = read ≡ Ok (view x, new)
Gives view old new (Err e) read = (new ≡ old) × Fails e read

-- the same of a field that any bytes are, if they are enough
abbrev pub GivesNumber : Rest → Rest → Result ℕ Short → Result (ℕ × Rest) Refusal → Type 0
GivesNumber old new (Ok n) read = read ≡ Ok (n, new)
GivesNumber old new (Err e) read = (new ≡ old) × (read ≡ Err (Cut e.at))

-- the same where nothing is said of the reader after a refusal
abbrev pub Reads : {X Y : Type 0} → (X → Y) → Rest → Result X FieldError → Result (Y × Rest) Refusal → Type 0
Reads view new (Ok x) read = read ≡ Ok (view x, new)
Reads view new (Err e) read = Fails e read

-- what a refused field makes of a whole text
abbrev pub refused : FieldError → DecodeError
refused errors.Memory = refusals.Memory
refused (errors.Short at) = refusals.Corrupt at
refused (errors.Bad at) = refusals.Corrupt at

-- nothing is left of a text, or the text is refused where its spelling ends
abbrev pub finished : Rest → Result (Unit {0}) DecodeError
finished rest = if length rest.left == 0 then Ok tt else Err (refusals.Corrupt rest.place)

-- a whole text is decoded as it reads; want of memory is free
abbrev pub Decodes : {X : Type 0} → Result X DecodeError → Result X ℕ → Type 0
Decodes (Ok x) read = read ≡ Ok x
Decodes (Err refusals.Memory) read = Unit {0}
Decodes (Err (refusals.Corrupt at)) read = read ≡ Err at
