-- The fields of a group after a write was appended.
use Rattle.std.proofs.Common.{◌≡◌, ℕ, ◌+◌, cond, false, List, [], ◌∷◌, ◌++◌, Some, None, reverse, refl, sym, ap, ◌∙◌}
use Rattle.std.specs.HashSet.{contains}
use Rattle.std.proofs.lemmas.List.{reverse-append}
use Rattle.pgs_name.specs.Families.{Family, same_family}
use Rattle.pgs_copy.specs.Copies.{after_effects}
use Rattle.pgs_copy.specs.declared.effect.Effect.{Effect}
use Rattle.pgs_store.specs.Stores.{Stored, AreSame, affected}
use Rattle.pgs_request.specs.declared.req_id.ReqId.{ReqId}
use Rattle.pgs_request.specs.declared.version.Version.{Version}
use Rattle.pgs_request.specs.Ops.{payload_size}
use Rattle.pgs_op.specs.Clean.{clean as clean_of, held_by, held_with}
use Rattle.pgs_op.specs.Held.{held_after}
use Rattle.pgs_op.specs.Refusals.{effects_on}
use Rattle.pgs_op.specs.declared.write.Write.{Write}
use Rattle.pgs_medium.specs.declared.item.Item.{Item}
use Rattle.pgs_op_log.specs.Logs.{same_id}
use Rattle.pgs_history.specs.Log.{clean, held, log, ids, log_bytes, item_of}
use Rattle.pgs_history.specs.Scrubs.{open_chunk}
use Rattle.pgs_history.specs.Parked.{parked, of_others, without, is_admitting}
use Rattle.pgs_history.specs.Answers.{next_version}
use Rattle.pgs_history.specs.declared.made.Made.{Made}
use Rattle.pgs_history.specs.declared.fate.Fate.TheVariants as fates_are
use Rattle.pgs_history.specs.declared.write_answer.WriteAnswer.TheVariants.{Accepted}
use Rattle.pgs_history.specs.declared.event.Event.{Event}
use Rattle.pgs_history.specs.declared.event.Event.TheVariants.{Submit, Admit}
use Rattle.pgs_history.proofs.Held.{held_more}
use Rattle.pgs_history.proofs.New.{new_logged, new_admitted, without_first}
use Rattle.pgs_history.proofs.Answered.{apart_is}
use Rattle.pgs_group.proofs.Kept.{AreEnds, kept_acts, kept_epochs, kept_over, kept_ended}
use Rattle.pgs_group.specs.Counts.{count_of}
use Rattle.pgs_group.specs.Given.{pulled_of, asked_of}
use Rattle.pgs_group.specs.Weighed.{AreEffects, IsMaking}
use Rattle.pgs_group.specs.Tied.{AreTied}
use Rattle.pgs_group.specs.declared.scrubbing.Scrubbing.{Scrubbing}
use Rattle.pgs_group.specs.declared.group.Group.TheInside.{Inside}

-- what effects leave of stores that hold the same
affected_same : (a b : Stored) (family : Family) (effects : List (ℕ × Effect)) → AreSame a b → AreSame (affected family effects a) (affected family effects b)
affected_same a b family effects same f q =
    λ i. cond (same_family family f) (after_effects effects (λ r. same f r i) q) (same f q i)

-- the item that was made
abbrev made_item : Version → Write → List (ℕ × Effect) → Item
made_item version write effects = record { number = version.number; epoch = version.epoch; family = write.family; effects = effects }

-- it is that of the write
item_is : (version : Version) (write : Write) (items : List Item) (effects : List (ℕ × Effect)) → effects ≡ effects_on (clean items write.family) write version
    → made_item version write effects ≡ item_of version write items
item_is version write items effects e = λ i. made_item version write (e i)

-- the log and the clean store with one item more
record IsLogged (new : Inside) (items : List Item) (requests : List (ReqId × Version)) (bytes : ℕ) : Type 0 where
  log_items : new.log.items ≡ items
  log_ids : new.log.ids ≡ requests
  log_counts : new.log.bytes ≡ bytes
  cleans : AreSame (clean_of new.clean) (clean items)
  holds : held_by new.clean ≡ held items

logged : (g : Inside) (made : Made) (past : List Event) (write : Write) (version : Version) (effects : List (ℕ × Effect)) (new : Inside) → AreTied g past
    → version ≡ next_version made past → AreEffects made past write effects
    → new.log.items ≡ made_item version write effects ∷ g.log.items → new.log.ids ≡ (write.id, version) ∷ g.log.ids → new.log.bytes ≡ g.log.bytes + payload_size write.op
    → AreSame (clean_of new.clean) (affected write.family effects (clean_of g.clean)) → held_by new.clean ≡ held_with g.clean write.family effects
    → IsLogged new (item_of version write (log past) ∷ log past) ((write.id, version) ∷ ids past) (log_bytes past + payload_size write.op)
logged g made past write version effects new tied next h li lids lb cl hl =
    let are : effects ≡ effects_on (clean (log past) write.family) write version = h.are ∙ ap (effects_on (clean (log past) write.family) write) (sym next) in
    let item = item_is version write (log past) effects are in
    record {
      log_items = li ∙ (λ i. item i ∷ tied.log_items i);
      log_ids = lids ∙ ap (λ xs. (write.id, version) ∷ xs) tied.log_ids;
      log_counts = lb ∙ ap (λ n. n + payload_size write.op) tied.log_counts;
      cleans = λ f q. cl f q ∙ affected_same (clean_of g.clean) (clean (log past)) write.family effects tied.cleans f q
          ∙ (λ i. affected write.family (item i).effects (clean (log past)) f q);
      holds = hl ∙ (λ i. held_after (tied.holds i) (item i).effects (λ q. tied.cleans write.family q i)) ∙ sym (held_more (log past) (item_of version write (log past)));
    }

-- a write to which no chunk gives way
pub tied_beside : (g : Inside) (made : Made) (past : List Event) (write : Write) (version : Version) (effects : List (ℕ × Effect)) (new : Inside)
    → AreTied g past → is_admitting past ≡ false → IsMaking made past write effects → version ≡ next_version made past
    → new.log.items ≡ made_item version write effects ∷ g.log.items → new.log.ids ≡ (write.id, version) ∷ g.log.ids → new.log.bytes ≡ g.log.bytes + payload_size write.op
    → AreSame (clean_of new.clean) (affected write.family effects (clean_of g.clean)) → held_by new.clean ≡ held_with g.clean write.family effects
    → new.refused.items ≡ of_others write.id g.refused.items
    → new.waiting ≡ g.waiting → new.given ≡ g.given → new.told ≡ g.told → new.collected ≡ g.collected → new.scrubs ≡ g.scrubs → new.fates.items ≡ g.fates.items → AreEnds g new
    → AreTied new (Submit write (Accepted version None) ∷ past)
tied_beside g made past write version effects new tied idle making next li lids lb cl hl rf w gv t c s f e =
    let l = logged g made past write version effects new tied next making.effect li lids lb cl hl in
    record {
      log_items = l.log_items;
      log_ids = l.log_ids;
      log_counts = l.log_counts;
      cleans = l.cleans;
      holds = l.holds;
      waits = w ∙ tied.waits;
      fresh = new_logged (ids past) (parked past) write.id version tied.fresh (apart_is (open_chunk past) (parked past) write.id making.apart idle);
      refuses = rf ∙ ap (of_others write.id) tied.refuses;
      pulls = λ osd. ap (λ x. pulled_of x osd) gv ∙ tied.pulls osd;
      asks = λ osd. ap (λ x. asked_of x osd) gv ∙ tied.asks osd;
      tells = λ osd. ap (λ x. count_of x osd) t ∙ tied.tells osd;
      scrubs = s ∙ tied.scrubs;
      acts = kept_acts g new past e tied;
      epochs = kept_epochs g new past e tied;
      over = kept_over g new past e tied;
      ended = kept_ended g new past e tied new.fates.items f;
      ordered = (tt, tied.ordered);
      collects = λ id. ap (λ x. contains same_id x id) c ∙ tied.collects id;
    }

-- after the open chunk gave way
abbrev given_way : Scrubbing → Scrubbing
given_way s = record s { open_chunk = None; used = s.used + 1 }

-- a write to which the open chunk gives way
pub tied_over : (g : Inside) (made : Made) (past : List Event) (write : Write) (version : Version) (effects : List (ℕ × Effect)) (chunk : ℕ) (new : Inside)
    → AreTied g past → is_admitting past ≡ false → IsMaking made past write effects → version ≡ next_version made past
    → new.log.items ≡ made_item version write effects ∷ g.log.items → new.log.ids ≡ (write.id, version) ∷ g.log.ids → new.log.bytes ≡ g.log.bytes + payload_size write.op
    → AreSame (clean_of new.clean) (affected write.family effects (clean_of g.clean)) → held_by new.clean ≡ held_with g.clean write.family effects
    → new.refused.items ≡ of_others write.id g.refused.items
    → new.fates.items ≡ g.fates.items ++ fates_are.Preempted write.id ∷ []
    → new.scrubs ≡ given_way g.scrubs
    → new.waiting ≡ g.waiting → new.given ≡ g.given → new.told ≡ g.told → new.collected ≡ g.collected → AreEnds g new
    → AreTied new (Submit write (Accepted version (Some chunk)) ∷ past)
tied_over g made past write version effects chunk new tied idle making next li lids lb cl hl rf f s w gv t c e =
    let l = logged g made past write version effects new tied next making.effect li lids lb cl hl in
    record {
      log_items = l.log_items;
      log_ids = l.log_ids;
      log_counts = l.log_counts;
      cleans = l.cleans;
      holds = l.holds;
      waits = w ∙ tied.waits;
      fresh = new_logged (ids past) (parked past) write.id version tied.fresh (apart_is (open_chunk past) (parked past) write.id making.apart idle);
      refuses = rf ∙ ap (of_others write.id) tied.refuses;
      pulls = λ osd. ap (λ x. pulled_of x osd) gv ∙ tied.pulls osd;
      asks = λ osd. ap (λ x. asked_of x osd) gv ∙ tied.asks osd;
      tells = λ osd. ap (λ x. count_of x osd) t ∙ tied.tells osd;
      scrubs = s ∙ ap given_way tied.scrubs;
      acts = kept_acts g new past e tied;
      epochs = kept_epochs g new past e tied;
      over = kept_over g new past e tied;
      ended = f ∙ ap (λ list. list ++ fates_are.Preempted write.id ∷ []) (kept_ended g new past e tied g.fates.items refl);
      ordered = (tt, tied.ordered);
      collects = λ id. ap (λ x. contains same_id x id) c ∙ tied.collects id;
    }

-- a write that waited first
pub tied_taken : (g : Inside) (made : Made) (past : List Event) (write : Write) (version : Version) (effects : List (ℕ × Effect)) (new : Inside)
    → AreTied g past → AreEffects made past write effects → version ≡ next_version made past → g.waiting ≡ write ∷ new.waiting
    → new.log.items ≡ made_item version write effects ∷ g.log.items → new.log.ids ≡ (write.id, version) ∷ g.log.ids → new.log.bytes ≡ g.log.bytes + payload_size write.op
    → AreSame (clean_of new.clean) (affected write.family effects (clean_of g.clean)) → held_by new.clean ≡ held_with g.clean write.family effects
    → new.refused.items ≡ g.refused.items → new.given ≡ g.given → new.told ≡ g.told → new.collected ≡ g.collected → new.scrubs ≡ g.scrubs → new.fates.items ≡ g.fates.items → AreEnds g new
    → AreTied new (Admit write (Accepted version None) ∷ past)
tied_taken g made past write version effects new tied h next taken li lids lb cl hl rf gv t c s f e =
    let l = logged g made past write version effects new tied next h li lids lb cl hl in
    let whole : parked past ≡ write ∷ new.waiting = sym tied.waits ∙ taken in
    record {
      log_items = l.log_items;
      log_ids = l.log_ids;
      log_counts = l.log_counts;
      cleans = l.cleans;
      holds = l.holds;
      waits = sym (ap (without write.id) whole ∙ without_first write new.waiting);
      fresh = new_admitted (ids past) (parked past) new.waiting write version whole tied.fresh;
      refuses = rf ∙ tied.refuses;
      pulls = λ osd. ap (λ x. pulled_of x osd) gv ∙ tied.pulls osd;
      asks = λ osd. ap (λ x. asked_of x osd) gv ∙ tied.asks osd;
      tells = λ osd. ap (λ x. count_of x osd) t ∙ tied.tells osd;
      scrubs = s ∙ tied.scrubs;
      acts = kept_acts g new past e tied;
      epochs = kept_epochs g new past e tied;
      over = kept_over g new past e tied;
      ended = kept_ended g new past e tied new.fates.items f;
      ordered = (tt, tied.ordered);
      collects = λ id. ap (λ x. contains same_id x id) c ∙ tied.collects id;
    }

-- the newest event stands in front
pub pushed : (old reserved new : List Event) (event : Event) → reserved ≡ old → new ≡ reserved ++ event ∷ [] → event ∷ reverse old ≡ reverse new
pushed old reserved new event r e = sym (ap reverse (e ∙ ap (λ es. es ++ event ∷ []) r) ∙ reverse-append old (event ∷ []))
