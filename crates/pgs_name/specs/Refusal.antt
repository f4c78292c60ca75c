-- How the parts of a name are refused, in the order in which they are looked at.
use Rattle.std.specs.Prelude.{ℕ, not, nat_lt, ◌==◌, if◌then◌else◌, List, length, Option, Some, option_map}
use Rattle.std.specs.Bool.{then_some}
use Rattle.std.specs.List.{position}
use Rattle.std.specs.Option.{option_or}
use Rattle.pgs_name.specs.Bounds.{plain_byte, is_dash, is_snap}
use Rattle.pgs_name.specs.declared.part.Part.{Part}
use Rattle.pgs_name.specs.declared.part.Part.TheVariants.{Space, Key, Name}
use Rattle.pgs_name.specs.declared.name_error.NameError.{NameError}
use Rattle.pgs_name.specs.declared.name_error.NameError.TheVariants.{NameTooLong, BadName, BadSnap}

-- the refusal of a part: its length, or else its first byte that isn't plain
abbrev pub bytes_refusal : Part → ℕ → List ℕ → Option NameError
bytes_refusal part most w =
    if nat_lt most (length w) then Some (NameTooLong part)
    else option_map (λ at. BadName part at) (position (λ b. not (plain_byte b)) w)

-- that of a space or a key, which isn't the dash alone
abbrev pub word_refusal : Part → ℕ → List ℕ → Option NameError
word_refusal part most w = option_or (bytes_refusal part most w) (then_some (is_dash w) (BadName part 0))

-- that of a name, which isn't empty
abbrev pub name_refusal : List ℕ → Option NameError
name_refusal w = option_or (bytes_refusal Name 255 w) (then_some (length w == 0) (BadName Name 0))

-- that of a snap
abbrev pub snap_refusal : ℕ → Option NameError
snap_refusal snap = then_some (not (is_snap snap)) BadSnap

-- the first refusal: of the space, the key, the name, and then the snap
unfoldable pub refusal_of : List ℕ → List ℕ → List ℕ → ℕ → Option NameError
refusal_of space key name snap =
    option_or (word_refusal Space 64 space) (option_or (word_refusal Key 255 key) (option_or (name_refusal name) (snap_refusal snap)))
