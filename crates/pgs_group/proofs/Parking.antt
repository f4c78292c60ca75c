-- Writes that wait, after one more was parked or is parked again.
use Rattle.std.proofs.Common.{◌≡◌, true, cond, List, [], ◌∷◌, ◌++◌, sym, ap, ◌∙◌, subst}
use Rattle.pgs_request.specs.declared.req_id.ReqId.{ReqId}
use Rattle.pgs_request.specs.declared.version.Version.{Version}
use Rattle.pgs_range.specs.declared.family_range.FamilyRange.{FamilyRange}
use Rattle.pgs_op.specs.declared.write.Write.{Write}
use Rattle.pgs_gate.specs.Waits.{is_parked}
use Rattle.std.specs.HashSet.{contains}
use Rattle.pgs_store.specs.Stores.{AreSame}
use Rattle.pgs_op.specs.Clean.{clean as clean_of, held_by}
use Rattle.pgs_op_log.specs.Logs.{same_id}
use Rattle.pgs_history.specs.Log.{clean, log, ids}
use Rattle.pgs_history.specs.Parked.{parked, put_last, of_others, AreNew}
use Rattle.pgs_history.specs.declared.write_answer.WriteAnswer.TheVariants as answers
use Rattle.pgs_history.specs.declared.event.Event.TheVariants.{Submit}
use Rattle.pgs_group.proofs.Kept.{AreEnds, kept_acts, kept_epochs, kept_over, kept_ended}
use Rattle.pgs_group.specs.Counts.{count_of}
use Rattle.pgs_group.specs.Given.{pulled_of, asked_of}
use Rattle.pgs_group.specs.Tied.{AreTied}
use Rattle.pgs_group.specs.declared.group.Group.TheInside.{Inside}
use Rattle.pgs_history.specs.declared.event.Event.{Event}
use Rattle.pgs_history.specs.declared.made.Made.{Made}
use Rattle.pgs_history.proofs.New.{new_last}
use Rattle.pgs_group.specs.Weighed.{IsWaiting}

pub same_parked : (waiting writes : List Write) (write : Write) → waiting ≡ writes → is_parked writes write.id ≡ true → waiting ≡ put_last write writes
same_parked waiting writes write is again = is ∙ ap (λ b. cond b writes (writes ++ write ∷ [])) (sym again)

pub same_new : (list : List (ReqId × Version)) (writes : List Write) (write : Write) → AreNew list writes → is_parked writes write.id ≡ true → AreNew list (put_last write writes)
same_new list writes write new again = subst (AreNew list) (ap (λ b. cond b writes (writes ++ write ∷ [])) (sym again)) new

-- a copy is parked
pub one_parked : (made : Made) (past : List Event) (write copy : Write) (range : FamilyRange) (old new : List Write) → IsWaiting made past write range → new ≡ old ++ copy ∷ []
    → copy ≡ write → old ≡ parked past → new ≡ put_last write (parked past)
one_parked made past write copy range old new h put is from =
    put ∙ (λ i. from i ++ is i ∷ []) ∙ ap (λ b. cond b (parked past) (parked past ++ write ∷ [])) (sym h.apart)

pub still_new : (made : Made) (past : List Event) (write : Write) (range : FamilyRange) → IsWaiting made past write range → AreNew (ids past) (parked past)
    → AreNew (ids past) (put_last write (parked past))
still_new made past write range h new = new_last (ids past) (parked past) write new h.new

-- the fields after a copy was parked
pub tied_parked : (g new : Inside) (made : Made) (past : List Event) (write copy : Write) (range : FamilyRange) → AreTied g past → IsWaiting made past write range → copy ≡ write
    → new.waiting ≡ g.waiting ++ copy ∷ [] → new.refused.items ≡ of_others write.id g.refused.items
    → new.log ≡ g.log → new.clean ≡ g.clean → new.given ≡ g.given → new.told ≡ g.told → new.collected ≡ g.collected → new.scrubs ≡ g.scrubs → new.fates.items ≡ g.fates.items → AreEnds g new
    → AreTied new (Submit write (answers.Parked range) ∷ past)
tied_parked g new made past write copy range tied waiting is put rf l cl gv t c s f e = record {
  log_items = ap (λ x. x.items) l ∙ tied.log_items;
  log_ids = ap (λ x. x.ids) l ∙ tied.log_ids;
  log_counts = ap (λ x. x.bytes) l ∙ tied.log_counts;
  cleans = subst (λ x. AreSame (clean_of x) (clean (log past))) (sym cl) tied.cleans;
  holds = ap held_by cl ∙ tied.holds;
  waits = one_parked made past write copy range g.waiting new.waiting waiting put is tied.waits;
  fresh = still_new made past write range waiting tied.fresh;
  refuses = rf ∙ ap (of_others write.id) tied.refuses;
  pulls = λ osd. ap (λ x. pulled_of x osd) gv ∙ tied.pulls osd;
  asks = λ osd. ap (λ x. asked_of x osd) gv ∙ tied.asks osd;
  tells = λ osd. ap (λ x. count_of x osd) t ∙ tied.tells osd;
  scrubs = s ∙ tied.scrubs;
  acts = kept_acts g new past e tied;
  epochs = kept_epochs g new past e tied;
  over = kept_over g new past e tied;
  ended = kept_ended g new past e tied new.fates.items f;
  ordered = (tt, tied.ordered);
  collects = λ id. ap (λ x. contains same_id x id) c ∙ tied.collects id;
}

-- the fields after a write came again that waits
pub tied_again : (g new : Inside) (past : List Event) (write : Write) (range : FamilyRange) → AreTied g past → is_parked (parked past) write.id ≡ true
    → new.waiting ≡ g.waiting → new.refused.items ≡ of_others write.id g.refused.items
    → new.log ≡ g.log → new.clean ≡ g.clean → new.given ≡ g.given → new.told ≡ g.told → new.collected ≡ g.collected → new.scrubs ≡ g.scrubs → new.fates.items ≡ g.fates.items → AreEnds g new
    → AreTied new (Submit write (answers.Parked range) ∷ past)
tied_again g new past write range tied again w rf l cl gv t c s f e = record {
  log_items = ap (λ x. x.items) l ∙ tied.log_items;
  log_ids = ap (λ x. x.ids) l ∙ tied.log_ids;
  log_counts = ap (λ x. x.bytes) l ∙ tied.log_counts;
  cleans = subst (λ x. AreSame (clean_of x) (clean (log past))) (sym cl) tied.cleans;
  holds = ap held_by cl ∙ tied.holds;
  waits = same_parked new.waiting (parked past) write (w ∙ tied.waits) again;
  fresh = same_new (ids past) (parked past) write tied.fresh again;
  refuses = rf ∙ ap (of_others write.id) tied.refuses;
  pulls = λ osd. ap (λ x. pulled_of x osd) gv ∙ tied.pulls osd;
  asks = λ osd. ap (λ x. asked_of x osd) gv ∙ tied.asks osd;
  tells = λ osd. ap (λ x. count_of x osd) t ∙ tied.tells osd;
  scrubs = s ∙ tied.scrubs;
  acts = kept_acts g new past e tied;
  epochs = kept_epochs g new past e tied;
  over = kept_over g new past e tied;
  ended = kept_ended g new past e tied new.fates.items f;
  ordered = (tt, tied.ordered);
  collects = λ id. ap (λ x. contains same_id x id) c ∙ tied.collects id;
}
