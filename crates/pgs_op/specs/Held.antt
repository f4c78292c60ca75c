-- The bytes that the clean store holds, and would hold.
use Rattle.std.specs.Prelude.{ℕ, ◌+◌, ◌-◌, ◌==◌, if◌then◌else◌, List, [], ◌∷◌, Option}
use Rattle.std.specs.List.{list_any}
use Rattle.pgs_copy.specs.Copies.{after_effects}
use Rattle.pgs_copy.specs.declared.effect.Effect.{Effect}
use Rattle.pgs_copy.specs.declared.obj_copy.ObjCopy.{ObjCopy}
use Rattle.pgs_store.specs.Stores.{copy_size}

-- the bytes of the copies that effects are on, each copy once, by the copies of the family
abbrev pub touched_bytes : List (ℕ × Effect) → (ℕ → Option ObjCopy) → ℕ
touched_bytes [] copies = 0
touched_bytes (e ∷ es) copies = (if list_any (λ other. other.0 == e.0) es then 0 else copy_size (copies e.0)) + touched_bytes es copies

-- what a store would hold after effects on the copies of one family: more by what those copies would hold, and less by what they hold
unfoldable pub held_after : ℕ → List (ℕ × Effect) → (ℕ → Option ObjCopy) → ℕ
held_after held effects copies = held + touched_bytes effects (after_effects effects copies) - touched_bytes effects copies
