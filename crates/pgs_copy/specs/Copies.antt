-- The copies of one family of an object are seen as a function from a snap to the copy there, if there is one.
use Rattle.std.specs.Prelude.{ℕ, ◌==◌, ◌+◌, nat_lt, List, [], ◌∷◌, length, Option, Some, None, option_map, slice_index, slice_set, bit_xor, take, Bool, true, false, if◌then◌else◌}
use Rattle.std.specs.Bool.{then_some}
use Rattle.pgs_bytes.specs.Edits.{resized, written}
use Rattle.pgs_name.specs.declared.object_id.TheConstants.{HEAD}
use Rattle.pgs_copy.specs.Pairs.{with_pair, without, pairs_size}
use Rattle.pgs_copy.specs.declared.obj_copy.ObjCopy.{ObjCopy}
use Rattle.pgs_copy.specs.declared.effect.Effect.{Effect}
use Rattle.pgs_copy.specs.declared.effect.Effect.TheVariants.{Clear, SetData, Write, Truncate, SetAttr, RmAttr, SetOmap, RmOmap, SetHeader, Clone, Remove, Install}
use Rattle.pgs_copy.specs.declared.damage.Damage.{Damage}
use Rattle.pgs_copy.specs.declared.damage.Damage.TheVariants as damages

-- a family of which no copy is there
abbrev pub no_copies : ℕ → Option ObjCopy
no_copies = λ q. None

-- a copy with nothing in it
abbrev pub empty_copy : ObjCopy
empty_copy = record { bytes = []; attrs = []; omap = []; header = [] }

-- the copy, or an empty one where there is none
abbrev pub copy_or_empty : Option ObjCopy → ObjCopy
copy_or_empty None = empty_copy
copy_or_empty (Some copy) = copy

-- the bytes of a copy: of its data, of the names and values of its attributes, of the keys and values of its omap, and of its header
abbrev pub copy_bytes : ObjCopy → ℕ
copy_bytes copy = pairs_size copy.attrs + pairs_size copy.omap + length copy.bytes + length copy.header

-- the name of the attribute that holds the object info: `_`
abbrev pub info_name : List ℕ
info_name = 95 ∷ []

-- the name of a head's attribute that holds the snapset: `snapset`
abbrev pub snapset_name : List ℕ
snapset_name = 115 ∷ 110 ∷ 97 ∷ 112 ∷ 115 ∷ 101 ∷ 116 ∷ []

-- what an effect on one part of a copy leaves of the copy; the effects on a whole copy aren't meant
abbrev pub edited : Effect → ObjCopy → ObjCopy
edited (SetData bytes) copy = record copy { bytes = bytes }
edited (Write at bytes) copy = record copy { bytes = written at bytes copy.bytes }
edited (Truncate size) copy = record copy { bytes = resized size copy.bytes }
edited (SetAttr name value) copy = record copy { attrs = with_pair name value copy.attrs }
edited (RmAttr name) copy = record copy { attrs = without name copy.attrs }
edited (SetOmap key value) copy = record copy { omap = with_pair key value copy.omap }
edited (RmOmap key) copy = record copy { omap = without key copy.omap }
edited (SetHeader bytes) copy = record copy { header = bytes }
edited _ copy = copy

-- a clone of a head: with its own object info, and without the snapset
abbrev pub cloned : List ℕ → ObjCopy → ObjCopy
cloned info head = record head { attrs = with_pair info_name info (without snapset_name head.attrs) }

-- what an effect leaves of the copy at its snap, by the head that is stored beside it: an effect on one part makes an empty copy
-- first where there is none
abbrev pub affected : Effect → Option ObjCopy → Option ObjCopy → Option ObjCopy
affected Clear head copy = Some empty_copy
affected (Clone info) head copy = option_map (cloned info) head
affected Remove head copy = None
affected (Install whole) head copy = Some whole
affected effect head copy = Some (edited effect (copy_or_empty copy))

-- the copies after an effect on a snap: the copy there is what the effect leaves of it, and all others stay
abbrev pub after_effect : ℕ → Effect → (ℕ → Option ObjCopy) → ℕ → Option ObjCopy
after_effect snap effect copies q = if snap == q then affected effect (copies HEAD) (copies q) else copies q

-- the copies after effects in turn, the first effect first
abbrev pub after_effects : List (ℕ × Effect) → (ℕ → Option ObjCopy) → ℕ → Option ObjCopy
after_effects [] copies = copies
after_effects (e ∷ es) copies = after_effects es (after_effect e.0 e.1 copies)

-- bytes with the bits of xor turned in the byte at a place: all bytes as they are where the place is past the end
abbrev pub flipped : ℕ → ℕ → List ℕ → List ℕ
flipped at xor bytes = if nat_lt at (length bytes) then slice_set bytes at (bit_xor (slice_index bytes at) xor) else bytes

-- what damage leaves of a copy that is there; the loss of it isn't meant
abbrev pub hurt : Damage → ObjCopy → ObjCopy
hurt (damages.Flip at xor) copy = record copy { bytes = flipped at xor copy.bytes }
hurt (damages.Cut size) copy = record copy { bytes = take size copy.bytes }
hurt (damages.SetData bytes) copy = record copy { bytes = bytes }
hurt (damages.SetAttr name value) copy = record copy { attrs = with_pair name value copy.attrs }
hurt (damages.RmAttr name) copy = record copy { attrs = without name copy.attrs }
hurt (damages.SetOmap key value) copy = record copy { omap = with_pair key value copy.omap }
hurt (damages.RmOmap key) copy = record copy { omap = without key copy.omap }
hurt (damages.SetHeader bytes) copy = record copy { header = bytes }
hurt damages.Lose copy = copy

-- damage that gives a part another value makes an empty copy first where none is there
abbrev pub makes_copy : Damage → Bool
makes_copy (damages.SetData bytes) = true
makes_copy (damages.SetAttr name value) = true
makes_copy (damages.SetOmap key value) = true
makes_copy (damages.SetHeader bytes) = true
makes_copy _ = false

-- what damage leaves of the copy at its snap, if one is there
abbrev pub damaged : Damage → Option ObjCopy → Option ObjCopy
damaged damages.Lose copy = None
damaged damage (Some copy) = Some (hurt damage copy)
damaged damage None = then_some (makes_copy damage) (hurt damage empty_copy)

-- the copies after damage at a snap: the copy there is what the damage leaves of it, and all others stay
abbrev pub after_damage : ℕ → Damage → (ℕ → Option ObjCopy) → ℕ → Option ObjCopy
after_damage snap damage copies q = if snap == q then damaged damage (copies q) else copies q

-- the copies after damages in turn, the first damage first
abbrev pub after_damages : List (ℕ × Damage) → (ℕ → Option ObjCopy) → ℕ → Option ObjCopy
after_damages [] copies = copies
after_damages (d ∷ ds) copies = after_damages ds (after_damage d.0 d.1 copies)
