-- What a write comes to, row by row.
use Rattle.std.proofs.Common.{◌≡◌, ℕ, ◌≤◌, ◌<◌, nat_le, Bool, true, false, ◌&&◌, List, [], ◌∷◌, length, Option, Some, None, refl, sym, ap, ◌∙◌, subst, arith}
use Rattle.std.specs.Prelude.{option_map}
use Rattle.std.proofs.lemmas.Bool.Decides.{nat_tests}
use Rattle.pgs_bytes.proofs.Facts.{none_some, some_none, true_false}
use Rattle.pgs_copy.specs.declared.effect.Effect.{Effect}
use Rattle.pgs_request.specs.Contexts.{bad_place}
use Rattle.pgs_request.specs.declared.req_id.ReqId.{ReqId}
use Rattle.pgs_request.specs.declared.version.Version.{Version}
use Rattle.pgs_request.specs.declared.answers.Refusal.{Refusal}
use Rattle.pgs_request.specs.declared.answers.Declined.TheVariants as reasons
use Rattle.pgs_range.specs.declared.family_range.FamilyRange.{FamilyRange}
use Rattle.pgs_name.specs.Families.{Family}
use Rattle.pgs_op.specs.Refusals.{first}
use Rattle.pgs_op.specs.declared.write.Write.{Write}
use Rattle.pgs_op_log.specs.Logs.{version_in}
use Rattle.pgs_gate.specs.Gate.{verdict_of}
use Rattle.pgs_gate.specs.Waits.{is_parked}
use Rattle.pgs_gate.specs.declared.limits.TheConstants.{MOST_PARKED}
use Rattle.pgs_history.specs.Log.{ids}
use Rattle.pgs_history.specs.Scrubs.{open_chunk}
use Rattle.pgs_history.specs.Parked.{parked}
use Rattle.pgs_history.specs.Answers.{refusal, verdict, waits, gate_of, preempted, parked_for, where_so, unaccepted, or_accepted, next_version, submit_answer}
use Rattle.pgs_history.specs.declared.chunk.Chunk.{Chunk}
use Rattle.pgs_history.specs.declared.write_answer.WriteAnswer.{WriteAnswer}
use Rattle.pgs_history.specs.declared.write_answer.WriteAnswer.TheVariants as answers
use Rattle.pgs_history.specs.declared.event.Event.{Event}
use Rattle.pgs_history.specs.declared.made.Made.{Made}
use Rattle.pgs_group.specs.Weighed.{AreEffects, IsAgain, IsWaiting, IsMaking}

-- six rows, of which the first that is there is the answer
abbrev rows : Option Version → Option WriteAnswer → Option ℕ → Option WriteAnswer → Option WriteAnswer → Option Refusal → Option WriteAnswer
rows at again place full now refusal = first (
    option_map (λ version. answers.Declined (reasons.Repeat version)) at
    ∷ again
    ∷ option_map (λ p. answers.Declined (reasons.BadSnapContext p)) place
    ∷ full
    ∷ now
    ∷ option_map (λ why. answers.Declined (reasons.Refused why)) refusal
    ∷ [])

-- ---- the open chunk's families

abbrev range_row : Bool → Option Chunk → Option FamilyRange
range_row p now = where_so p (option_map (λ chunk. chunk.range) now)

-- a write that doesn't wait
pub not_again : (past : List Event) (id : ReqId) → is_parked (parked past) id ≡ false → IsAgain past id None
not_again past id e = ap (λ p. where_so p (parked_for (open_chunk past))) e

again_from : (past : List Event) (id : ReqId) (now : Option Chunk) → now ≡ open_chunk past → is_parked (parked past) id ≡ true → IsAgain past id (option_map (λ chunk. chunk.range) now)
again_from past id None e p = ap (λ p. where_so p (parked_for (open_chunk past))) p ∙ ap parked_for (sym e)
again_from past id (Some chunk) e p = (ap (λ p. where_so p (parked_for (open_chunk past))) p ∙ ap parked_for (sym e), p)

-- one that waits
pub again_or_not : (past : List Event) (id : ReqId) (range : Option FamilyRange) → range ≡ option_map (λ chunk. chunk.range) (open_chunk past) → is_parked (parked past) id ≡ true
    → IsAgain past id range
again_or_not past id range e p = subst (IsAgain past id) (sym e) (again_from past id (open_chunk past) refl p)

-- a write that waits, waits for an open chunk
none_from : (now : Option Chunk) (family : Family) → waits (verdict_of (gate_of now) family) ≡ true → None ≡ option_map (λ chunk. chunk.range) now → ⊥
none_from None family w e = true_false (sym w)
none_from (Some chunk) family w e = none_some _ e

pub none_waits : (past : List Event) (write : Write) → waits (verdict past write.family) ≡ true → None ≡ option_map (λ chunk. chunk.range) (open_chunk past) → ⊥
none_waits past write w e = none_from (open_chunk past) write.family w e

range_from : (now : Option Chunk) (range : FamilyRange) → Some range ≡ option_map (λ chunk. chunk.range) now → parked_for now ≡ Some (answers.Parked range)
range_from None range e = absurd (some_none _ e)
range_from (Some chunk) range e = cc

apart_from : (p : Bool) (now : Option Chunk) (range : FamilyRange) → Some range ≡ option_map (λ chunk. chunk.range) now → where_so p (parked_for now) ≡ None → p ≡ false
apart_from false now range e none = refl
apart_from true None range e none = absurd (some_none _ e)
apart_from true (Some chunk) range e none = absurd (some_none _ none)

-- ---- the table

module _ (made : Made) (past : List Event) (write : Write) where
  abbrev at : Option Version
  at = version_in (ids past) write.id

  abbrev again_row : Option WriteAnswer
  again_row = where_so (is_parked (parked past) write.id) (parked_for (open_chunk past))

  abbrev full_row : Option WriteAnswer
  full_row = where_so (waits (verdict past write.family) && nat_le MOST_PARKED (length (parked past))) (Some (answers.QueueFull MOST_PARKED))

  abbrev now_row : Option WriteAnswer
  now_row = where_so (waits (verdict past write.family)) (parked_for (open_chunk past))

  abbrev why : Option Refusal
  why = refusal past write (next_version made past)

  abbrev answered : Option WriteAnswer → WriteAnswer
  answered rows = or_accepted rows (next_version made past) (preempted past write)

  table : submit_answer made past write ≡ answered (rows at again_row (bad_place write.context) full_row now_row why)
  unfolding unaccepted
  table = refl

  pub repeated : (version : Version) → Some version ≡ version_in (ids past) write.id → submit_answer made past write ≡ answers.Declined (reasons.Repeat version)
  repeated version is = table ∙ ap (λ a. answered (rows a again_row (bad_place write.context) full_row now_row why)) (sym is)

  -- a request that isn't in the log
  new_table : at ≡ None → submit_answer made past write ≡ answered (rows None again_row (bad_place write.context) full_row now_row why)
  new_table new = table ∙ ap (λ a. answered (rows a again_row (bad_place write.context) full_row now_row why)) new

  pub again : (range : FamilyRange) → None ≡ version_in (ids past) write.id → IsAgain past write.id (Some range)
      → (submit_answer made past write ≡ answers.Parked range) × (is_parked (parked past) write.id ≡ true)
  again range new is = (new_table (sym new) ∙ ap (λ x. answered (rows None x (bad_place write.context) full_row now_row why)) is.0, is.1)

  -- nor waits
  apart_table : at ≡ None → again_row ≡ None → submit_answer made past write ≡ answered (rows None None (bad_place write.context) full_row now_row why)
  apart_table new apart = new_table new ∙ ap (λ x. answered (rows None x (bad_place write.context) full_row now_row why)) apart

  pub misplaced : (place : ℕ) → None ≡ version_in (ids past) write.id → IsAgain past write.id None → Some place ≡ bad_place write.context
      → submit_answer made past write ≡ answers.Declined (reasons.BadSnapContext place)
  misplaced place new apart is = apart_table (sym new) apart ∙ ap (λ p. answered (rows None None p full_row now_row why)) (sym is)

  placed_table : at ≡ None → again_row ≡ None → bad_place write.context ≡ None → submit_answer made past write ≡ answered (rows None None None full_row now_row why)
  placed_table new apart placed = apart_table new apart ∙ ap (λ p. answered (rows None None p full_row now_row why)) placed

  module _ (new : version_in (ids past) write.id ≡ None) (apart : where_so (is_parked (parked past) write.id) (parked_for (open_chunk past)) ≡ None)
      (placed : bad_place write.context ≡ None) where
    pub full : (count : ℕ) → waits (verdict past write.family) ≡ true → count ≡ length (parked past) → MOST_PARKED ≤ count
        → submit_answer made past write ≡ answers.QueueFull MOST_PARKED
    full count w is many =
        let most : nat_le MOST_PARKED (length (parked past)) ≡ true = grind (arith, nat_tests, is, many) in
        let both : (waits (verdict past write.family) && nat_le MOST_PARKED (length (parked past))) ≡ true = λ i. w i && most i in
        placed_table new apart placed ∙ ap (λ b. answered (rows None None None (where_so b (Some (answers.QueueFull MOST_PARKED))) now_row why)) both

    pub waiting : (range : FamilyRange) (count : ℕ) → waits (verdict past write.family) ≡ true → count ≡ length (parked past) → count < MOST_PARKED
        → Some range ≡ option_map (λ chunk. chunk.range) (open_chunk past) → IsWaiting made past write range
    waiting range count w is few there =
        let less : nat_le MOST_PARKED (length (parked past)) ≡ false = grind (arith, nat_tests, is, few) in
        let none : (waits (verdict past write.family) && nat_le MOST_PARKED (length (parked past))) ≡ false = λ i. w i && less i in
        record {
          answer =
              placed_table new apart placed ∙ ap (λ b. answered (rows None None None (where_so b (Some (answers.QueueFull MOST_PARKED))) now_row why)) none
              ∙ ap (λ b. answered (rows None None None None (where_so b (parked_for (open_chunk past))) why)) w
              ∙ ap (λ n. answered (rows None None None None n why)) (range_from (open_chunk past) range there);
          new = new;
          apart = apart_from (is_parked (parked past) write.id) (open_chunk past) range there apart;
          room = subst (λ n. n < MOST_PARKED) is few;
        }

    -- a write that doesn't wait
    passing_table : waits (verdict past write.family) ≡ false → submit_answer made past write ≡ answered (rows None None None None None why)
    passing_table w =
        placed_table new apart placed
        ∙ ap (λ b. answered (rows None None None (where_so (b && nat_le MOST_PARKED (length (parked past))) (Some (answers.QueueFull MOST_PARKED))) (where_so b (parked_for (open_chunk past))) why)) w

    pub refused : (refusal_now : Refusal) → waits (verdict past write.family) ≡ false → refusal past write (next_version made past) ≡ Some refusal_now
        → submit_answer made past write ≡ answers.Declined (reasons.Refused refusal_now)
    refused refusal_now w is = passing_table w ∙ ap (λ r. answered (rows None None None None None r)) is

    pub making : (effects : List (ℕ × Effect)) → waits (verdict past write.family) ≡ false
        → (refusal past write (next_version made past) ≡ None) × AreEffects made past write effects → IsMaking made past write effects
    making effects w is = record {
      answer = passing_table w ∙ ap (λ r. answered (rows None None None None None r)) is.0;
      new = new;
      apart = apart;
      effect = is.1;
    }
