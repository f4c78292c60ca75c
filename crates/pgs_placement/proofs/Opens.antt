-- How a chunk is opened, claimed for, and what is released.
use Rattle.std.proofs.Common.{◌≡◌, ℕ, true, false, List, [], ◌∷◌, Option, Some, None, sym, ap, subst}
use Rattle.std.specs.Prelude.{option_map, is_some}
use Rattle.pgs_bytes.proofs.Facts.{some_none}
use Rattle.pgs_name.specs.declared.object_id.ObjectId.{ObjectId}
use Rattle.pgs_range.specs.declared.bound.Bound.{Bound}
use Rattle.pgs_chunk.specs.Positions.{Ascends}
use Rattle.pgs_op.specs.Refusals.{first}
use Rattle.pgs_history.specs.Answers.{unopened, primary}
use Rattle.pgs_history.specs.Causes.{cause}
use Rattle.pgs_history.specs.Legal.{IsDenial}
use Rattle.pgs_history.specs.Scrubs.{IsBegun, present, claims_at, open_number, start}
use Rattle.pgs_history.specs.declared.cause.Cause.{Cause}
use Rattle.pgs_history.specs.declared.open_answer.OpenAnswer.{OpenAnswer}
use Rattle.pgs_history.specs.declared.open_answer.OpenAnswer.TheVariants as opens
use Rattle.pgs_history.proofs.Causes.{caused}
use Rattle.pgs_history.proofs.Joined.{members_act}
use Rattle.pgs_shards.specs.Listings.{list_in}
use Rattle.pgs_shards.specs.declared.list_answer.ListAnswer.TheVariants.{Listed}
use Rattle.pgs_slots.specs.Rows.{claim_answer}
use Rattle.pgs_slots.specs.declared.claim_answer.ClaimAnswer.TheVariants.{Denied}
use Rattle.pgs_slots.specs.declared.holder.Holder.{Holder}
use Rattle.pgs_placement.specs.State.{PlacementState}
use Rattle.pgs_placement.specs.Scrubs.{is_unlisted, primary_of}
use Rattle.pgs_placement.specs.Sound.{IsSound}
use Rattle.pgs_placement.proofs.Asks.{present_begun}
use Rattle.pgs_placement.proofs.Members.{list_ascends}
use Rattle.pgs_placement.proofs.Slots.{IsToldDenial, told_denial}

-- ---- claims

pub present_of : (w : PlacementState) (serial : ℕ) → IsSound w → Some serial ≡ present w.past → IsBegun w.past serial
present_of w serial s e = present_begun w.made w.past serial s.steady.in_step.legal (sym e)

pub denial_of : (w : PlacementState) (osd : ℕ) (holders : List Holder) → IsSound w → Denied holders ≡ claim_answer w.slots osd → IsDenial (Some holders)
denial_of w osd holders s e = subst IsToldDenial (sym e) (told_denial w.slots osd s.steady.sized)

-- ---- openings

by_rows : (c : Option Cause) (o n : Option ℕ) (answer : OpenAnswer) → c ≡ None
    → first (option_map (λ cause. opens.Over cause) c ∷ option_map (λ osd. opens.StillReserving osd) o ∷ option_map (λ number. opens.Already number) n ∷ []) ≡ Some answer → is_unlisted o n ≡ true
by_rows (Some c) o n answer none e = absurd (some_none c none)
by_rows None (Some o) n answer none e = cc
by_rows None None (Some n) answer none e = cc
by_rows None None None answer none e = absurd cc

no_row : (c : Option Cause) (o n : Option ℕ)
    → first (option_map (λ cause. opens.Over cause) c ∷ option_map (λ osd. opens.StillReserving osd) o ∷ option_map (λ number. opens.Already number) n ∷ []) ≡ None → is_unlisted o n ≡ false
no_row (Some c) o n e = absurd cc
no_row None (Some o) n e = absurd cc
no_row None None (Some n) e = absurd cc
no_row None None None e = cc

-- nothing is listed where a chunk isn't opened
pub unlisted : (w : PlacementState) (serial : ℕ) (answer : OpenAnswer) → IsSound w → present w.past ≡ Some serial → unopened w.made w.past serial ≡ Some answer
    → is_unlisted (claims_at w.made w.past) (open_number w.past) ≡ true
unfolding unopened
unlisted w serial answer s here e = by_rows (cause w.made w.past serial) (claims_at w.made w.past) (open_number w.past) answer ((caused w.made w.past s.steady.in_step.legal).gone serial here) e

pub listed : (w : PlacementState) (serial : ℕ) → unopened w.made w.past serial ≡ None → is_unlisted (claims_at w.made w.past) (open_number w.past) ≡ false
unfolding unopened
listed w serial e = no_row (cause w.made w.past serial) (claims_at w.made w.past) (open_number w.past) e

pub primary_is : (w : PlacementState) (osd : ℕ) → primary w.made w.past ≡ Some osd → osd ≡ primary_of w
primary_is w osd e = sym (ap or_zero e)
  where
    or_zero : Option ℕ → ℕ
    or_zero None = 0
    or_zero (Some x) = x

pub listed_ascends : (w : PlacementState) (osd : ℕ) (start : Bound) (limit : ℕ) (ids : List ObjectId) → Listed ids ≡ list_in limit start w.members osd → Ascends ids
listed_ascends w osd start limit ids e = list_ascends limit start w.members osd ids (sym e)

-- there is a primary
pub some_primary : (w : PlacementState) → IsSound w → is_some (primary w.made w.past) ≡ true
some_primary w s = (members_act w.made w.past s.steady.in_step.legal s.steady.acting).some
