-- How the clean store is seen: by what it stores, and by the bytes that it holds.
use Rattle.std.specs.Prelude.{ℕ, List}
use Rattle.pgs_name.specs.Families.{Family}
use Rattle.pgs_copy.specs.declared.effect.Effect.{Effect}
use Rattle.pgs_store.specs.Stores.{Stored}
use Rattle.pgs_store.specs.Kept.{stored}
use Rattle.pgs_op.specs.Held.{held_after}
use Rattle.pgs_op.specs.declared.clean_store.CleanStore.{CleanStore}

-- what it stores
abbrev pub clean : CleanStore → Stored
clean c = stored c.store

-- the bytes that it holds
abbrev pub held_by : CleanStore → ℕ
held_by c = c.held.bytes

-- those that it would hold after effects on the copies of a family
abbrev pub held_with : CleanStore → Family → List (ℕ × Effect) → ℕ
held_with c family effects = held_after (held_by c) effects (clean c family)
