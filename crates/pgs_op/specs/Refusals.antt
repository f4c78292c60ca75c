-- Why a write makes no effects.
use Rattle.std.specs.Prelude.{ℕ, ◌+◌, nat_lt, not, ◌&&◌, List, [], ◌∷◌, Option, Some, None}
use Rattle.std.specs.Bool.{then_some}
use Rattle.pgs_name.specs.declared.object_id.TheConstants.{HEAD}
use Rattle.pgs_copy.specs.declared.effect.Effect.{Effect}
use Rattle.pgs_copy.specs.declared.obj_copy.ObjCopy.{ObjCopy}
use Rattle.pgs_request.specs.Ops.{payload_size}
use Rattle.pgs_request.specs.declared.answers.Refusal.{Refusal}
use Rattle.pgs_request.specs.declared.answers.Refusal.TheVariants.{NoSuchObject, ObjectTooLarge, StoreFull, LogFull}
use Rattle.pgs_request.specs.declared.version.Version.{Version}
use Rattle.pgs_op.specs.Heads.{head_of}
use Rattle.pgs_op.specs.Effects.{wants_head, size_after, effects_of}
use Rattle.pgs_op.specs.Held.{held_after}
use Rattle.pgs_op.specs.declared.limits.TheConstants.{OBJECT_MAX, STORE_MAX, LOG_MAX}
use Rattle.pgs_op.specs.declared.write.Write.{Write}

-- the first row of a table whose condition holds
abbrev pub first : {A : Type 0} → List (Option A) → Option A
first [] = None
first (None ∷ rows) = first rows
first (Some answer ∷ rows) = Some answer

-- the effects of a write of this version on the copies of its family
abbrev pub effects_on : (ℕ → Option ObjCopy) → Write → Version → List (ℕ × Effect)
effects_on copies write version = effects_of write.family (head_of (copies HEAD)) write.context version write.op

-- The first reason that holds: the operation wants a head and there is none; the object would be too large; the clean store, which holds
-- so many bytes, would be too full; the log, which counts so many, would.
unfoldable pub refusal_of : ℕ → (ℕ → Option ObjCopy) → ℕ → Write → Version → Option Refusal
refusal_of held copies log_bytes write version = first (
    then_some (wants_head write.op && not (head_of (copies HEAD)).exists) NoSuchObject
    ∷ then_some (nat_lt OBJECT_MAX (size_after write.op (head_of (copies HEAD)).size)) (ObjectTooLarge (size_after write.op (head_of (copies HEAD)).size))
    ∷ then_some (nat_lt STORE_MAX (held_after held (effects_on copies write version) copies)) (StoreFull (held_after held (effects_on copies write version) copies))
    ∷ then_some (nat_lt LOG_MAX (log_bytes + payload_size write.op)) (LogFull (log_bytes + payload_size write.op))
    ∷ [])
