-- The write that is taken up next.
use Rattle.std.proofs.Common.{◌≡◌, ℕ, ◌+◌, length, arith, true, false, List, [], ◌∷◌, ◌++◌, Option, Some, None, refl, sym, ap, ◌∙◌, subst}
use Rattle.std.specs.Prelude.{option_map, is_some, slice_get}
use Rattle.std.specs.HashSet.{contains}
use Rattle.pgs_bytes.proofs.Facts.{true_false, heads, shorter}
use Rattle.pgs_copy.specs.declared.effect.Effect.{Effect}
use Rattle.pgs_request.specs.declared.answers.Refusal.{Refusal}
use Rattle.pgs_request.specs.declared.answers.Declined.TheVariants as reasons
use Rattle.pgs_op.specs.declared.write.Write.{Write}
use Rattle.pgs_op_log.specs.Logs.{same_id, version_in}
use Rattle.pgs_store.specs.Stores.{AreSame}
use Rattle.pgs_op.specs.Clean.{clean as clean_of, held_by}
use Rattle.pgs_history.specs.Log.{clean, log, ids}
use Rattle.pgs_history.specs.Scrubs.{open_chunk}
use Rattle.pgs_history.specs.Parked.{parked, first_where_closed, next_admitted, is_admitting, without}
use Rattle.pgs_history.specs.Answers.{refusal, next_version, or_admitted, admit_answer}
use Rattle.pgs_history.specs.After.{with_admit, after_admit}
use Rattle.pgs_history.specs.declared.chunk.Chunk.{Chunk}
use Rattle.pgs_history.specs.declared.made.Made.{Made}
use Rattle.pgs_history.specs.declared.write_answer.WriteAnswer.{WriteAnswer}
use Rattle.pgs_history.specs.declared.write_answer.WriteAnswer.TheVariants as answers
use Rattle.pgs_history.specs.declared.event.Event.{Event}
use Rattle.pgs_history.specs.declared.event.Event.TheVariants.{Admit}
use Rattle.pgs_history.proofs.New.{new_rest, without_first, first_new}
use Rattle.pgs_history.proofs.Answered.{first_is}
use Rattle.pgs_group.proofs.Kept.{AreEnds, kept_acts, kept_epochs, kept_over, kept_ended}
use Rattle.pgs_group.specs.Counts.{count_of}
use Rattle.pgs_group.specs.Given.{pulled_of, asked_of}
use Rattle.pgs_group.specs.Steps.{admitted_told, admit_told}
use Rattle.pgs_group.specs.Weighed.{AreEffects, IsRefusing, IsAdmitting}
use Rattle.pgs_group.specs.Tied.{AreTied}
use Rattle.pgs_group.specs.declared.admitted.Admitted.{Admitted}
use Rattle.pgs_group.specs.declared.group.Group.TheInside.{Inside}

-- ---- which it is

pub none_so : (now : Option Chunk) (writes : List Write) → is_some now ≡ true → None ≡ first_where_closed now writes
none_so None writes e = absurd (true_false (sym e))
none_so (Some chunk) writes e = refl

pub first_so : (now : Option Chunk) (writes : List Write) (first : Option Write) → is_some now ≡ false → first ≡ slice_get writes 0 → first ≡ first_where_closed now writes
first_so (Some chunk) writes first e at = absurd (true_false e)
first_so None [] first e at = at
first_so None (write ∷ writes) first e at = at

pub refusing : (made : Made) (past : List Event) (write : Write) (why : Refusal) → Some write ≡ next_admitted past → refusal past write (next_version made past) ≡ Some why
    → IsRefusing made past why
refusing made past write why next is = record { write = write; next = sym next; refuses = is }

pub admitting : (made : Made) (past : List Event) (write : Write) (effects : List (ℕ × Effect)) → Some write ≡ next_admitted past
    → (refusal past write (next_version made past) ≡ None) × AreEffects made past write effects → IsAdmitting made past effects
admitting made past write effects next is = record { write = write; next = sym next; unrefused = is.0; effect = is.1 }

-- ---- that it is the first that waits

-- the first that waits is the write that is due
pub same_first : (past : List Event) (due first : Write) (waiting rest : List Write) → next_admitted past ≡ Some due → waiting ≡ parked past → waiting ≡ first ∷ rest → due ≡ first
same_first past due first waiting rest next is whole =
    let h = first_is (open_chunk past) (parked past) due next in
    heads due first h.rest rest (sym h.whole ∙ sym is ∙ whole)

-- one waits
pub some_first : (past : List Event) (due : Write) (waiting : List Write) → next_admitted past ≡ Some due → waiting ≡ parked past → waiting ≡ [] → ⊥
some_first past due waiting next is none =
    let h = first_is (open_chunk past) (parked past) due next in
    shorter due h.rest (sym none ∙ is ∙ h.whole)

pub unlogged_first : (g : Inside) (past : List Event) (due : Write) → AreTied g past → next_admitted past ≡ Some due → version_in g.log.ids due.id ≡ None
unlogged_first g past due tied next =
    let h = first_is (open_chunk past) (parked past) due next in
    ap (λ list. version_in list due.id) tied.log_ids ∙ first_new (ids past) (parked past) h.rest due h.whole tied.fresh

-- ---- what is answered and kept

refused_answer : (made : Made) (past : List Event) (write : Write) (why : Refusal) → refusal past write (next_version made past) ≡ Some why
    → admit_answer made past write ≡ answers.Declined (reasons.Refused why)
refused_answer made past write why is = ap (λ r. or_admitted r (next_version made past)) is

taken_answer : (made : Made) (past : List Event) (write : Write) → refusal past write (next_version made past) ≡ None
    → admit_answer made past write ≡ answers.Accepted (next_version made past) None
taken_answer made past write is = ap (λ r. or_admitted r (next_version made past)) is

told_of : (made : Made) (past : List Event) (write : Write) (answer : WriteAnswer) → next_admitted past ≡ Some write → admit_answer made past write ≡ answer
    → Some (record { id = write.id; answer = answer }) ≡ admit_told made past
told_of made past write answer next is = sym (ap (option_map (admitted_told made past)) next ∙ ap (λ a. Some (record { id = write.id; answer = a })) is)

kept_of : (made : Made) (past : List Event) (write : Write) (answer : WriteAnswer) → next_admitted past ≡ Some write → admit_answer made past write ≡ answer
    → Admit write answer ∷ past ≡ after_admit made past
kept_of made past write answer next is = sym (ap (with_admit made past) next ∙ ap (λ a. Admit write a ∷ past) is)

module _ (made : Made) (past : List Event) (write : Write) (waiting rest : List Write) (is : waiting ≡ parked past) (whole : waiting ≡ write ∷ rest) where
  -- a write that was refused
  module _ (why : Refusal) (h : IsRefusing made past why) where
    next_refused : next_admitted past ≡ Some write
    next_refused = h.next ∙ ap (λ w. Some w) (same_first past h.write write waiting rest h.next is whole)

    answer_refused : admit_answer made past write ≡ answers.Declined (reasons.Refused why)
    answer_refused = refused_answer made past write why (ap (λ w. refusal past w (next_version made past)) (sym (same_first past h.write write waiting rest h.next is whole)) ∙ h.refuses)

    pub told_refused : Some (record { id = write.id; answer = answers.Declined (reasons.Refused why) }) ≡ admit_told made past
    told_refused = told_of made past write (answers.Declined (reasons.Refused why)) next_refused answer_refused

    pub kept_refused : Admit write (answers.Declined (reasons.Refused why)) ∷ past ≡ after_admit made past
    kept_refused = kept_of made past write (answers.Declined (reasons.Refused why)) next_refused answer_refused

  -- a write that was accepted
  module _ (effects : List (ℕ × Effect)) (h : IsAdmitting made past effects) where
    next_taken : next_admitted past ≡ Some write
    next_taken = h.next ∙ ap (λ w. Some w) (same_first past h.write write waiting rest h.next is whole)

    answer_taken : admit_answer made past write ≡ answers.Accepted (next_version made past) None
    answer_taken = taken_answer made past write (ap (λ w. refusal past w (next_version made past)) (sym (same_first past h.write write waiting rest h.next is whole)) ∙ h.unrefused)

    pub told_taken : Some (record { id = write.id; answer = answers.Accepted (next_version made past) None }) ≡ admit_told made past
    told_taken = told_of made past write (answers.Accepted (next_version made past) None) next_taken answer_taken

    pub kept_taken : Admit write (answers.Accepted (next_version made past) None) ∷ past ≡ after_admit made past
    kept_taken = kept_of made past write (answers.Accepted (next_version made past) None) next_taken answer_taken

    pub effects_taken : AreEffects made past write effects
    effects_taken = subst (λ w. AreEffects made past w effects) (same_first past h.write write waiting rest h.next is whole) h.effect

-- ---- what is told, and how many wait then

some_mapped : {A B : Type 0} (f : A → B) (x : Option A) → is_some (option_map f x) ≡ is_some x
some_mapped f None = refl
some_mapped f (Some a) = refl

-- something is told exactly where one was to be taken up
pub told_so : (made : Made) (past : List Event) (told : Option Admitted) → told ≡ admit_told made past → is_some told ≡ is_admitting past
told_so made past told is = ap is_some is ∙ some_mapped (admitted_told made past) (next_admitted past)

fewer_from : (made : Made) (past : List Event) (next : Option Write) → next_admitted past ≡ next → is_some next ≡ true
    → length (parked (with_admit made past next)) + 1 ≡ length (parked past)
fewer_from made past None next some = absurd (true_false (sym some))
fewer_from made past (Some write) next some =
    let h = first_is (open_chunk past) (parked past) write next in
    let rest : without write.id (parked past) ≡ h.rest = ap (without write.id) h.whole ∙ without_first write h.rest in
    ap (λ list. length list + 1) rest ∙ length-cons write h.rest ∙ ap (λ list. length list) (sym h.whole)
  where
    length-cons : (w : Write) (ws : List Write) → length ws + 1 ≡ length (w ∷ ws)
    length-cons w ws = omega arith

-- one write less waits
pub fewer_so : (made : Made) (past new : List Event) → new ≡ after_admit made past → is_admitting past ≡ true → length (parked new) + 1 ≡ length (parked past)
fewer_so made past new is some = ap (λ events. length (parked events) + 1) is ∙ fewer_from made past (next_admitted past) refl some

-- ---- the fields after a write was refused

pub tied_refused : (g new : Inside) (past : List Event) (write : Write) (why : Refusal) → AreTied g past → g.waiting ≡ write ∷ new.waiting
    → new.refused.items ≡ g.refused.items ++ (write.id, why) ∷ []
    → new.log ≡ g.log → new.clean ≡ g.clean → new.given ≡ g.given → new.told ≡ g.told → new.collected ≡ g.collected → new.scrubs ≡ g.scrubs → new.fates.items ≡ g.fates.items → AreEnds g new
    → AreTied new (Admit write (answers.Declined (reasons.Refused why)) ∷ past)
tied_refused g new past write why tied taken rf l cl gv t c s f e =
    let whole : parked past ≡ write ∷ new.waiting = sym tied.waits ∙ taken in
    record {
      log_items = ap (λ x. x.items) l ∙ tied.log_items;
      log_ids = ap (λ x. x.ids) l ∙ tied.log_ids;
      log_counts = ap (λ x. x.bytes) l ∙ tied.log_counts;
      cleans = subst (λ x. AreSame (clean_of x) (clean (log past))) (sym cl) tied.cleans;
      holds = ap held_by cl ∙ tied.holds;
      waits = sym (ap (without write.id) whole ∙ without_first write new.waiting);
      fresh = new_rest (ids past) (parked past) new.waiting write whole tied.fresh;
      refuses = rf ∙ ap (λ list. list ++ (write.id, why) ∷ []) tied.refuses;
      pulls = λ osd. ap (λ x. pulled_of x osd) gv ∙ tied.pulls osd;
      asks = λ osd. ap (λ x. asked_of x osd) gv ∙ tied.asks osd;
      tells = λ osd. ap (λ x. count_of x osd) t ∙ tied.tells osd;
      scrubs = s ∙ tied.scrubs;
      acts = kept_acts g new past e tied;
      epochs = kept_epochs g new past e tied;
      over = kept_over g new past e tied;
      ended = kept_ended g new past e tied new.fates.items f;
      ordered = (tt, tied.ordered);
      collects = λ id. ap (λ x. contains same_id x id) c ∙ tied.collects id;
    }
