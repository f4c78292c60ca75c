-- Outcomes of requests that don't stand in the log.
use Rattle.std.proofs.Common.{◌≡◌, ℕ, Bool, true, false, List, [], ◌∷◌, Option, Some, None, refl, sym, ap, ◌∙◌}
use Rattle.std.specs.Prelude.{option_map}
use Rattle.pgs_request.specs.declared.req_id.ReqId.{ReqId}
use Rattle.pgs_request.specs.declared.answers.Refusal.{Refusal}
use Rattle.pgs_op.specs.Refusals.{first}
use Rattle.pgs_gate.specs.Waits.{is_parked}
use Rattle.pgs_history.specs.Scrubs.{open_chunk}
use Rattle.pgs_history.specs.Parked.{parked, refused}
use Rattle.pgs_history.specs.Answers.{where_so, unlogged}
use Rattle.pgs_history.specs.declared.chunk.Chunk.{Chunk}
use Rattle.pgs_history.specs.declared.collect_answer.CollectAnswer.{CollectAnswer}
use Rattle.pgs_history.specs.declared.collect_answer.CollectAnswer.TheVariants as collects
use Rattle.pgs_history.specs.declared.event.Event.{Event}

abbrev number_row : Bool → Option Chunk → Option ℕ
number_row p now = where_so p (option_map (λ chunk. chunk.number) now)

abbrev rows : Bool → Option Chunk → Option Refusal → Option CollectAnswer
rows p now r = first (
    where_so p (option_map (λ chunk. collects.StillParked chunk.number) now)
    ∷ option_map (λ refusal. collects.Refused refusal) r
    ∷ [])

as_rows : (past : List Event) (id : ReqId) → unlogged past id ≡ rows (is_parked (parked past) id) (open_chunk past) (refused past id)
unfolding unlogged
as_rows past id = refl

still_row : (p : Bool) (now : Option Chunk) (r : Option Refusal) (chunk : ℕ) → Some chunk ≡ number_row p now → Some (collects.StillParked chunk) ≡ rows p now r
still_row true (Some c) r chunk e = cc
still_row true None r chunk e = absurd cc
still_row false now r chunk e = absurd cc

refused_row : (p : Bool) (now : Option Chunk) (r : Option Refusal) → None ≡ number_row p now → option_map (λ refusal. collects.Refused refusal) r ≡ rows p now r
refused_row true (Some c) r e = absurd cc
refused_row true None None e = refl
refused_row true None (Some r) e = refl
refused_row false now None e = refl
refused_row false now (Some r) e = refl

pub still_so : (past : List Event) (id : ReqId) (chunk : ℕ) → Some chunk ≡ where_so (is_parked (parked past) id) (option_map (λ c. c.number) (open_chunk past))
    → Some (collects.StillParked chunk) ≡ unlogged past id
still_so past id chunk e = still_row (is_parked (parked past) id) (open_chunk past) (refused past id) chunk e ∙ sym (as_rows past id)

pub refused_so : (past : List Event) (id : ReqId) (refusal : Refusal) → None ≡ where_so (is_parked (parked past) id) (option_map (λ c. c.number) (open_chunk past))
    → Some refusal ≡ refused past id → Some (collects.Refused refusal) ≡ unlogged past id
refused_so past id refusal none e =
    ap (option_map (λ r. collects.Refused r)) e ∙ refused_row (is_parked (parked past) id) (open_chunk past) (refused past id) none ∙ sym (as_rows past id)

pub logged_so : (past : List Event) (id : ReqId) → None ≡ where_so (is_parked (parked past) id) (option_map (λ c. c.number) (open_chunk past))
    → None ≡ refused past id → None ≡ unlogged past id
logged_so past id none e =
    ap (option_map (λ r. collects.Refused r)) e ∙ refused_row (is_parked (parked past) id) (open_chunk past) (refused past id) none ∙ sym (as_rows past id)
