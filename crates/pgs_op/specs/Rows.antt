-- The rows of refusals, in two parts: those that the head decides, and those that bounds do.
use Rattle.std.specs.Prelude.{ℕ, ◌+◌, nat_lt, not, ◌&&◌, [], ◌∷◌, Option}
use Rattle.std.specs.Bool.{then_some}
use Rattle.pgs_request.specs.Ops.{payload_size}
use Rattle.pgs_request.specs.declared.answers.Refusal.{Refusal}
use Rattle.pgs_request.specs.declared.answers.Refusal.TheVariants.{NoSuchObject, ObjectTooLarge, StoreFull, LogFull}
use Rattle.pgs_request.specs.declared.op.Op.{Op}
use Rattle.pgs_op.specs.Effects.{wants_head, size_after}
use Rattle.pgs_op.specs.Refusals.{first}
use Rattle.pgs_op.specs.declared.head.Head.{Head}
use Rattle.pgs_op.specs.declared.limits.TheConstants.{OBJECT_MAX, STORE_MAX, LOG_MAX}

abbrev pub by_head : Head → Op → Option Refusal
by_head head op = first (
    then_some (wants_head op && not head.exists) NoSuchObject
    ∷ then_some (nat_lt OBJECT_MAX (size_after op head.size)) (ObjectTooLarge (size_after op head.size))
    ∷ [])

-- by the bytes that the clean store would hold, and those that the log counts
abbrev pub by_bounds : ℕ → ℕ → Op → Option Refusal
by_bounds held log_bytes op = first (
    then_some (nat_lt STORE_MAX held) (StoreFull held)
    ∷ then_some (nat_lt LOG_MAX (log_bytes + payload_size op)) (LogFull (log_bytes + payload_size op))
    ∷ [])
