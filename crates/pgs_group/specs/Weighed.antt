-- What a write comes to over the events before it.
use Rattle.std.specs.Prelude.{ℕ, ◌≡◌, ◌+◌, ◌≤◌, ◌<◌, true, false, List, length, Option, Some, None, Result, Ok, Err}
use Rattle.pgs_copy.specs.declared.effect.Effect.{Effect}
use Rattle.pgs_request.specs.Ops.{payload_size}
use Rattle.pgs_request.specs.declared.req_id.ReqId.{ReqId}
use Rattle.pgs_request.specs.declared.answers.Refusal.{Refusal}
use Rattle.pgs_op.specs.Held.{held_after}
use Rattle.pgs_op.specs.Refusals.{effects_on}
use Rattle.pgs_op.specs.declared.limits.TheConstants.{STORE_MAX, LOG_MAX}
use Rattle.pgs_op.specs.declared.write.Write.{Write}
use Rattle.pgs_op.specs.declared.write_error.WriteError.{WriteError}
use Rattle.pgs_op.specs.declared.write_error.WriteError.TheVariants as errors
use Rattle.pgs_op_log.specs.Logs.{version_in}
use Rattle.pgs_gate.specs.Waits.{is_parked}
use Rattle.pgs_gate.specs.declared.limits.TheConstants.{MOST_PARKED}
use Rattle.pgs_range.specs.declared.family_range.FamilyRange.{FamilyRange}
use Rattle.pgs_history.specs.Log.{clean, held, log, ids, log_bytes}
use Rattle.pgs_history.specs.Scrubs.{open_chunk}
use Rattle.pgs_history.specs.Parked.{parked, next_admitted}
use Rattle.pgs_history.specs.Answers.{next_version, refusal, parked_for, where_so, preempted, submit_answer}
use Rattle.pgs_history.specs.declared.write_answer.WriteAnswer.TheVariants as answers
use Rattle.pgs_history.specs.declared.event.Event.{Event}
use Rattle.pgs_history.specs.declared.made.Made.{Made}
use Rattle.pgs_group.specs.declared.weighed.Weighed.{Weighed}
use Rattle.pgs_group.specs.declared.weighed.Weighed.TheVariants.{Declined, Again, Full, Waits, Makes}
use Rattle.pgs_group.specs.declared.due.Due.{Due}
use Rattle.pgs_group.specs.declared.due.Due.TheVariants as dues

-- the effects of a write that gets the next version leave the store and the log within their bounds
pub record AreEffects (made : Made) (past : List Event) (write : Write) (effects : List (ℕ × Effect)) : Type 0 where
  pub are : effects ≡ effects_on (clean (log past) write.family) write (next_version made past)
  pub within : held_after (held (log past)) effects (clean (log past) write.family) ≤ STORE_MAX
  pub room : log_bytes past + payload_size write.op ≤ LOG_MAX

-- the effects, or why there are none; memory may run out at any write
abbrev pub AreMade : Result (List (ℕ × Effect)) WriteError → Made → List Event → Write → Type 0
AreMade (Ok effects) made past write = (refusal past write (next_version made past) ≡ None) × AreEffects made past write effects
AreMade (Err (errors.Refused refused)) made past write = refusal past write (next_version made past) ≡ Some refused
AreMade (Err errors.Memory) made past write = Unit {0}

-- the open chunk's families, where a write of a request waits already
abbrev pub IsAgain : List Event → ReqId → Option FamilyRange → Type 0
IsAgain past id None = where_so (is_parked (parked past) id) (parked_for (open_chunk past)) ≡ None
IsAgain past id (Some range) = (where_so (is_parked (parked past) id) (parked_for (open_chunk past)) ≡ Some (answers.Parked range)) × (is_parked (parked past) id ≡ true)

-- ---- a write that came

-- a write that waits from now on is new, and there is room for it
pub record IsWaiting (made : Made) (past : List Event) (write : Write) (range : FamilyRange) : Type 0 where
  pub answer : submit_answer made past write ≡ answers.Parked range
  pub new : version_in (ids past) write.id ≡ None
  pub apart : is_parked (parked past) write.id ≡ false
  pub room : length (parked past) < MOST_PARKED

-- a write that is appended is new too
pub record IsMaking (made : Made) (past : List Event) (write : Write) (effects : List (ℕ × Effect)) : Type 0 where
  pub answer : submit_answer made past write ≡ answers.Accepted (next_version made past) (preempted past write)
  pub new : version_in (ids past) write.id ≡ None
  pub apart : where_so (is_parked (parked past) write.id) (parked_for (open_chunk past)) ≡ None
  pub effect : AreEffects made past write effects

abbrev pub IsWeighed : Made → List Event → Write → Weighed → Type 0
IsWeighed made past write (Declined declined) = submit_answer made past write ≡ answers.Declined declined
IsWeighed made past write (Again range) = (submit_answer made past write ≡ answers.Parked range) × (is_parked (parked past) write.id ≡ true)
IsWeighed made past write Full = submit_answer made past write ≡ answers.QueueFull MOST_PARKED
IsWeighed made past write (Waits range) = IsWaiting made past write range
IsWeighed made past write (Makes effects) = IsMaking made past write effects

-- ---- the write that is to be taken up next

pub record IsRefusing (made : Made) (past : List Event) (why : Refusal) : Type 0 where
  pub write : Write
  pub next : next_admitted past ≡ Some write
  pub refuses : refusal past write (next_version made past) ≡ Some why

pub record IsAdmitting (made : Made) (past : List Event) (effects : List (ℕ × Effect)) : Type 0 where
  pub write : Write
  pub next : next_admitted past ≡ Some write
  pub unrefused : refusal past write (next_version made past) ≡ None
  pub effect : AreEffects made past write effects

abbrev pub IsDue : Made → List Event → Due → Type 0
IsDue made past dues.Nothing = next_admitted past ≡ None
IsDue made past (dues.Refused refusal) = IsRefusing made past refusal
IsDue made past (dues.Makes effects) = IsAdmitting made past effects
