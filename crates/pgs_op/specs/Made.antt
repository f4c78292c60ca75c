-- What making a write's effects answers.
use Rattle.std.specs.Prelude.{ℕ, ◌≡◌, List, Option, Some, None, Result, Ok, Err}
use Rattle.pgs_copy.specs.declared.effect.Effect.{Effect}
use Rattle.pgs_request.specs.declared.answers.Refusal.{Refusal}
use Rattle.pgs_request.specs.declared.version.Version.{Version}
use Rattle.pgs_op.specs.Refusals.{refusal_of, effects_on}
use Rattle.pgs_op.specs.Clean.{clean, held_by}
use Rattle.pgs_op.specs.declared.clean_store.CleanStore.{CleanStore}
use Rattle.pgs_op.specs.declared.write.Write.{Write}
use Rattle.pgs_op.specs.declared.write_error.WriteError.{WriteError}
use Rattle.pgs_op.specs.declared.write_error.WriteError.TheVariants.{Refused, Memory}

-- the refusal of a write of this version over a clean store and a log of so many bytes
abbrev pub refusal_in : CleanStore → ℕ → Write → Version → Option Refusal
refusal_in c log_bytes write version = refusal_of (held_by c) (clean c write.family) log_bytes write version

-- the effects of a write over a clean store
abbrev pub effects_in : CleanStore → Write → Version → List (ℕ × Effect)
effects_in c write version = effects_on (clean c write.family) write version

-- the effects where there is no refusal, and else the refusal; memory may run out at any write
abbrev pub IsMade : Result (List (ℕ × Effect)) WriteError → Option Refusal → List (ℕ × Effect) → Type 0
IsMade (Ok made) refusal effects = (refusal ≡ None) × (made ≡ effects)
IsMade (Err (Refused refused)) refusal effects = refusal ≡ Some refused
IsMade (Err Memory) refusal effects = Unit {0}
