-- What a write makes by the fields of a group is what it makes by the events.
use Rattle.std.proofs.Common.{◌≡◌, ℕ, ◌+◌, ◌≤◌, List, sym, ◌∙◌, subst}
use Rattle.std.specs.Prelude.{Result, Ok, Err, OnOk}
use Rattle.pgs_copy.specs.declared.effect.Effect.{Effect}
use Rattle.pgs_request.specs.Ops.{payload_size}
use Rattle.pgs_request.specs.declared.version.Version.{Version}
use Rattle.pgs_op.specs.Clean.{held_with}
use Rattle.pgs_op.specs.Held.{held_after}
use Rattle.pgs_op.specs.Made.{IsMade, refusal_in, effects_in}
use Rattle.pgs_op.specs.Refusals.{refusal_of, effects_on}
use Rattle.pgs_op.specs.declared.limits.TheConstants.{STORE_MAX, LOG_MAX}
use Rattle.pgs_op.specs.declared.write.Write.{Write}
use Rattle.pgs_op.specs.declared.write_error.WriteError.{WriteError}
use Rattle.pgs_op.specs.declared.write_error.WriteError.TheVariants.{Refused, Memory}
use Rattle.pgs_history.specs.Log.{clean, log}
use Rattle.pgs_history.specs.Answers.{refusal, next_version}
use Rattle.pgs_history.specs.declared.event.Event.{Event}
use Rattle.pgs_history.specs.declared.made.Made.{Made}
use Rattle.pgs_group.specs.Tied.{AreTied}
use Rattle.pgs_group.specs.Weighed.{AreEffects, AreMade}
use Rattle.pgs_group.specs.declared.group.Group.TheInside.{Inside}

module _ (g : Inside) (made : Made) (past : List Event) (write : Write) (version : Version) (tied : AreTied g past) (is : version ≡ next_version made past) where
  same_refusal : refusal_in g.clean g.log.bytes write version ≡ refusal past write (next_version made past)
  same_refusal = λ i. refusal_of (tied.holds i) (λ q. tied.cleans write.family q i) (tied.log_counts i) write (is i)

  same_effects : effects_in g.clean write version ≡ effects_on (clean (log past) write.family) write (next_version made past)
  same_effects = λ i. effects_on (λ q. tied.cleans write.family q i) write (is i)

  effects_are : (effects : List (ℕ × Effect)) → effects ≡ effects_in g.clean write version → held_with g.clean write.family (effects_in g.clean write version) ≤ STORE_MAX
      → g.log.bytes + payload_size write.op ≤ LOG_MAX → AreEffects made past write effects
  effects_are effects e within room = record {
    are = e ∙ same_effects;
    within = subst (λ n. n ≤ STORE_MAX) (λ i. held_after (tied.holds i) (sym e i) (λ q. tied.cleans write.family q i)) within;
    room = subst (λ n. n + payload_size write.op ≤ LOG_MAX) tied.log_counts room;
  }

pub made_so : (g : Inside) (made : Made) (past : List Event) (write : Write) (version : Version) (result : Result (List (ℕ × Effect)) WriteError) → AreTied g past
    → version ≡ next_version made past → IsMade result (refusal_in g.clean g.log.bytes write version) (effects_in g.clean write version)
    → OnOk result (held_with g.clean write.family (effects_in g.clean write version) ≤ STORE_MAX) → OnOk result (g.log.bytes + payload_size write.op ≤ LOG_MAX)
    → AreMade result made past write
made_so g made past write version (Ok effects) tied is h within room =
    (sym (same_refusal g made past write version tied is) ∙ h.0, effects_are g made past write version tied is effects h.1 within room)
made_so g made past write version (Err (Refused why)) tied is h within room = sym (same_refusal g made past write version tied is) ∙ h
made_so g made past write version (Err Memory) tied is h within room = tt

-- as appending an item wants it
pub held_within : (g : Inside) (made : Made) (past : List Event) (write : Write) (effects : List (ℕ × Effect)) → AreTied g past → AreEffects made past write effects
    → held_with g.clean write.family effects ≤ STORE_MAX
held_within g made past write effects tied h =
    subst (λ n. n ≤ STORE_MAX) (λ i. held_after (sym tied.holds i) effects (λ q. sym (tied.cleans write.family q) i)) h.within

pub bytes_within : (g : Inside) (made : Made) (past : List Event) (write : Write) (effects : List (ℕ × Effect)) → AreTied g past → AreEffects made past write effects
    → g.log.bytes + payload_size write.op ≤ LOG_MAX
bytes_within g made past write effects tied h = subst (λ n. n + payload_size write.op ≤ LOG_MAX) (sym tied.log_counts) h.room
