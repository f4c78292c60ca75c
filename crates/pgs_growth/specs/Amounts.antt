-- The bytes of the parts that edits change, before and after them.
use Rattle.std.specs.Prelude.{ℕ, ◌+◌, List, length, Option, Some, None, ⊤}
use Rattle.std.specs.List.{sum_by, AllByRecursion}
use Rattle.pgs_bytes.specs.Edits.{written}
use Rattle.pgs_copy.specs.declared.obj_copy.ObjCopy.{ObjCopy}
use Rattle.pgs_copy.specs.declared.effect.Effect.{Effect}
use Rattle.pgs_copy.specs.declared.effect.Effect.TheVariants.{SetData, Write, Truncate, SetAttr, RmAttr, SetOmap, RmOmap, SetHeader}
use Rattle.pgs_copy.specs.Pairs.{value_at, IsInOrder}

-- the bytes of a name with its value: none where it isn't there
abbrev pub entry_size : List ℕ → Option (List ℕ) → ℕ
entry_size name None = 0
entry_size name (Some value) = length name + length value

-- what an edit takes from a copy: the bytes of its part before it
abbrev pub taken_by : Effect → ObjCopy → ℕ
taken_by (SetData bytes) copy = length copy.bytes
taken_by (Write at bytes) copy = length copy.bytes
taken_by (Truncate size) copy = length copy.bytes
taken_by (SetAttr name value) copy = entry_size name (value_at name copy.attrs)
taken_by (RmAttr name) copy = entry_size name (value_at name copy.attrs)
taken_by (SetOmap key value) copy = entry_size key (value_at key copy.omap)
taken_by (RmOmap key) copy = entry_size key (value_at key copy.omap)
taken_by (SetHeader bytes) copy = length copy.header
taken_by _ copy = 0

-- what an edit adds to a copy: the bytes of its part after it
abbrev pub added_by : Effect → ObjCopy → ℕ
added_by (SetData bytes) copy = length bytes
added_by (Write at bytes) copy = length (written at bytes copy.bytes)
added_by (Truncate size) copy = size
added_by (SetAttr name value) copy = length name + length value
added_by (RmAttr name) copy = 0
added_by (SetOmap key value) copy = length key + length value
added_by (RmOmap key) copy = 0
added_by (SetHeader bytes) copy = length bytes
added_by _ copy = 0

abbrev pub taken : List (ℕ × Effect) → ObjCopy → ℕ
taken effects copy = sum_by (λ e. taken_by e.1 copy) effects

abbrev pub added : List (ℕ × Effect) → ObjCopy → ℕ
added effects copy = sum_by (λ e. added_by e.1 copy) effects

-- the names among which an edit puts one stand in their order
abbrev pub IsReady : Effect → ObjCopy → Type 0
IsReady (SetAttr name value) copy = IsInOrder copy.attrs
IsReady (SetOmap key value) copy = IsInOrder copy.omap
IsReady _ copy = ⊤

abbrev pub AreReady : List (ℕ × Effect) → ObjCopy → Type 0
AreReady effects copy = AllByRecursion (λ e. IsReady e.1 copy) effects
