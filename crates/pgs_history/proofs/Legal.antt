-- Each step keeps a history legal.
use Rattle.std.proofs.Common.{◌≡◌, ℕ, nat_lt, Bool, true, false, cond, List, ◌∷◌, Option, Some, None, refl, ap, arith}
use Rattle.std.specs.Prelude.{is_some}
use Rattle.std.proofs.lemmas.Bool.Decides.{nat_tests}
use Rattle.pgs_request.specs.declared.req_id.ReqId.{ReqId}
use Rattle.pgs_op.specs.declared.write.Write.{Write}
use Rattle.pgs_history.specs.Members.{collected, pulled, told}
use Rattle.pgs_history.specs.Parked.{next_admitted, is_admitting}
use Rattle.pgs_history.specs.Answers.{collect_answer, last_number, new_ask, close_answer}
use Rattle.pgs_history.specs.After.{after_submit, with_admit, after_admit, after_collected, after_collect, gives, with_pull, after_pull, after_tell, after_closed, after_close}
use Rattle.pgs_history.specs.Legal.{IsLegal}
use Rattle.pgs_history.specs.declared.collect_answer.CollectAnswer.{CollectAnswer}
use Rattle.pgs_history.specs.declared.collect_answer.CollectAnswer.TheVariants.{StillParked, Refused, Unknown, NotYet, Acked}
use Rattle.pgs_history.specs.declared.close_answer.CloseAnswer.{CloseAnswer}
use Rattle.pgs_history.specs.declared.close_answer.CloseAnswer.TheVariants as closes
use Rattle.pgs_history.specs.declared.event.Event.{Event}
use Rattle.pgs_history.specs.declared.event.Event.TheVariants.{Collect, Pull, Tell}
use Rattle.pgs_history.specs.declared.made.Made.{Made}

pub legal_submit : (made : Made) (past : List Event) (write : Write) → is_admitting past ≡ false → IsLegal made past → IsLegal made (after_submit made past write)
legal_submit made past write idle legal = (idle, refl, legal)

admit_legal : (made : Made) (past : List Event) (next : Option Write) → next_admitted past ≡ next → IsLegal made past → IsLegal made (with_admit made past next)
admit_legal made past None e legal = legal
admit_legal made past (Some write) e legal = (ap is_some e, (e, refl), legal)

pub legal_admit : (made : Made) (past : List Event) → IsLegal made past → IsLegal made (after_admit made past)
legal_admit made past legal = admit_legal made past (next_admitted past) refl legal

collected_legal : (made : Made) (past : List Event) (id : ReqId) (answer : CollectAnswer) → collect_answer made past id ≡ answer → is_admitting past ≡ false → IsLegal made past
    → IsLegal made (after_collected past id answer)
collected_legal made past id (StillParked chunk) e idle legal = legal
collected_legal made past id (Refused refusal) e idle legal = legal
collected_legal made past id Unknown e idle legal = legal
collected_legal made past id (NotYet osd count) e idle legal = legal
collected_legal made past id (Acked version) e idle legal =
    let P : Bool → Type 0 = λ v. collected past id ≡ v → IsLegal made (cond v past (Collect id version ∷ past)) in
    (elim (collected past id) as P [
      | true ↦ λ before. legal
      | false ↦ λ new. (idle, (e, new), legal)
    ]) refl

pub legal_collect : (made : Made) (past : List Event) (id : ReqId) → is_admitting past ≡ false → IsLegal made past → IsLegal made (after_collect made past id)
legal_collect made past id idle legal = collected_legal made past id (collect_answer made past id) refl idle legal

pulled_legal : (made : Made) (past : List Event) (osd : ℕ) (asked : Option ℕ) → asked ≡ new_ask made past osd → is_admitting past ≡ false → IsLegal made past
    → IsLegal made (with_pull past osd asked)
pulled_legal made past osd asked new idle legal =
    let P : Bool → Type 0 = λ v. gives past osd asked ≡ v → IsLegal made (cond v (Pull osd (pulled past osd) (last_number past) asked ∷ past) past) in
    (elim (gives past osd asked) as P [
      | true ↦ λ e. (idle, record { begins = refl; ends = refl; asks = new; more = e }, legal)
      | false ↦ λ e. legal
    ]) refl

pub legal_pull : (made : Made) (past : List Event) (osd : ℕ) → is_admitting past ≡ false → IsLegal made past → IsLegal made (after_pull made past osd)
legal_pull made past osd idle legal = pulled_legal made past osd (new_ask made past osd) refl idle legal

pub legal_tell : (made : Made) (past : List Event) (osd applied : ℕ) → is_admitting past ≡ false → IsLegal made past → IsLegal made (after_tell past osd applied)
legal_tell made past osd applied idle legal =
    let P : Bool → Type 0 = λ v. nat_lt (told past osd) applied ≡ v → IsLegal made (cond v (Tell osd applied ∷ past) past) in
    (elim (nat_lt (told past osd) applied) as P [
      | true ↦ λ e. (idle, grind (arith, nat_tests, e), legal)
      | false ↦ λ e. legal
    ]) refl

closed_legal : (made : Made) (past : List Event) (chunk : ℕ) (answer : CloseAnswer) → answer ≡ close_answer made past chunk → is_admitting past ≡ false → IsLegal made past
    → IsLegal made (after_closed past chunk answer)
closed_legal made past chunk closes.NoChunk e idle legal = (idle, (e, tt), legal)
closed_legal made past chunk closes.ClosedBefore e idle legal = (idle, (e, tt), legal)
closed_legal made past chunk (closes.Preempted request) e idle legal = (idle, (e, tt), legal)
closed_legal made past chunk (closes.IntervalChanged old new) e idle legal = (idle, (e, tt), legal)
closed_legal made past chunk (closes.DeviceFault osd count) e idle legal = (idle, (e, tt), legal)
closed_legal made past chunk (closes.NotYet osd) e idle legal = legal
closed_legal made past chunk (closes.Closed report completes) e idle legal = (idle, (e, tt), legal)

pub legal_close : (made : Made) (past : List Event) (chunk : ℕ) → is_admitting past ≡ false → IsLegal made past → IsLegal made (after_close made past chunk)
legal_close made past chunk idle legal = closed_legal made past chunk (close_answer made past chunk) refl idle legal
