-- A listing by one position at a time goes on, stops and ends.
use Rattle.std.proofs.Common.{ℕ, zero, suc, ◌≡◌, ◌<◌, ◌≤◌, Bool, true, false, cond, ◌&&◌, List, [], ◌∷◌, ◌++◌, length, filter, Option, Some, None, Err, refl, sym, ap, ◌∙◌, subst, arith}
use Rattle.std.proofs.lemmas.List.{append_assoc}
use Rattle.pgs_name.specs.declared.object_id.ObjectId.{ObjectId}
use Rattle.pgs_range.specs.Ranges.{is_at_most}
use Rattle.pgs_range.specs.Listed.{is_ahead, IsNext}
use Rattle.pgs_range.specs.declared.bound.Bound.{Bound}
use Rattle.pgs_range.specs.declared.bound.Bound.TheVariants.{Max}
use Rattle.pgs_range.specs.declared.cursor.Cursor.{Cursor}
use Rattle.pgs_range.specs.declared.cursor.Cursor.TheVariants.{At, After}
use Rattle.pgs_chunk.specs.Positions.{Ascends}
use Rattle.pgs_chunk.specs.Selection.{from_start}
use Rattle.pgs_chunk.specs.Listings.{is_full, listed_on, listing}
use Rattle.pgs_chunk.proofs.Chunks.{from_ascends}
use Rattle.pgs_chunk.proofs.Listings.{front_ascends, one_longer}
use Rattle.pgs_chunk.proofs.Members.{next_none, next_some}
use Rattle.pgs_store.specs.Stores.{is_stored}
use Rattle.pgs_cause.specs.Count.{Rose}
use Rattle.pgs_medium.specs.Device.{Device, listed, not_listed, IsAnswered, IsFailed, IsTold}
use Rattle.pgs_medium.specs.declared.item.Item.{Item}
use Rattle.pgs_medium.specs.declared.medium_error.MediumError.{MediumError}
use Rattle.pgs_medium.specs.declared.medium_error.MediumError.TheVariants as errors
use Rattle.pgs_medium.specs.declared.call_kind.CallKind.TheVariants as kinds
use Rattle.pgs_shard_history.specs.Stores.{stored_by, last_count}
use Rattle.pgs_shard.specs.Scan.{Scan}
use Rattle.pgs_shard.specs.State.{IsTied}
use Rattle.pgs_shard.proofs.Ties.{rose_from, tied_read}
use Rattle.pgs_shard_history.specs.Positions.{positions}
use Rattle.pgs_shard.specs.Listed.{answered, calls_for, AreUnnamed, IsAnsweredAll, IsFailedAfter, IsListedOn}
use Rattle.pgs_shard_history.specs.declared.event.Event.{Event}
use Rattle.pgs_shard_history.specs.declared.event.Event.TheVariants.{ListFailed}
use Rattle.pgs_shard_history.proofs.Positions.{are_positions}

-- the positions that are still ahead
abbrev pub ahead : List Event → Cursor → List ObjectId
ahead past cursor = filter (is_ahead cursor Max) (positions past)

-- what was listed so far, and what is still ahead
pub record IsOn (limit : ℕ) (start : Bound) (past : List Event) (old now : Device) (ids : List ObjectId) (cursor : Cursor) : Type 0 where
  pub held : old.stored ≡ stored_by past
  pub device : now ≡ answered (length ids) old
  pub unnamed : AreUnnamed (length ids) old
  pub left : listing limit start (positions past) ≡ listed_on limit ids (ahead past cursor)
  pub whole : from_start start (positions past) ≡ ids ++ ahead past cursor

and_true : (a : Bool) → (a && true) ≡ a
and_true true = refl
and_true false = refl

same_filter : {X : Type 0} (p q : X → Bool) → ((x : X) → p x ≡ q x) → (xs : List X) → filter p xs ≡ filter q xs
same_filter p q f [] = refl
same_filter p q f (x ∷ xs) = ap (λ b. cond b (x ∷ filter p xs) (filter p xs)) (f x) ∙ ap (λ l. cond (q x) (x ∷ l) l) (same_filter p q f xs)

-- from the start on all is ahead
all_ahead : (start : Bound) (past : List Event) → from_start start (positions past) ≡ ahead past (At start)
all_ahead start past = same_filter (λ id. is_at_most start id.family) (is_ahead (At start) Max) (λ id. sym (and_true (is_at_most start id.family))) (positions past)

pub begins : (limit : ℕ) (start : Bound) (past : List Event) (old : Device) → old.stored ≡ stored_by past → IsOn limit start past old old [] (At start)
begins limit start past old h = record { held = h; device = refl; unnamed = tt; left = ap (listed_on limit []) (all_ahead start past); whole = all_ahead start past }

answered_stores : (calls : ℕ) (device : Device) → (answered calls device).stored ≡ device.stored
answered_stores zero device = refl
answered_stores (suc calls) device = answered_stores calls device

pub answered_fails : (calls : ℕ) (device : Device) → (answered calls device).failing ≡ device.failing
answered_fails zero device = refl
answered_fails (suc calls) device = answered_fails calls device

pub ascends : (limit : ℕ) (start : Bound) (past : List Event) (old now : Device) (ids : List ObjectId) (cursor : Cursor) → IsOn limit start past old now ids cursor → Ascends ids
ascends limit start past old now ids cursor on =
    front_ascends ids (ahead past cursor) (subst Ascends on.whole (from_ascends start (positions past) (are_positions past).ascends))

next_of : (limit : ℕ) (start : Bound) (past : List Event) (old now next : Device) (ids : List ObjectId) (cursor : Cursor) (answer : Option ObjectId)
    → IsOn limit start past old now ids cursor → IsAnswered cursor Max now answer next → IsNext (is_stored (stored_by past)) cursor Max answer
next_of limit start past old now next ids cursor answer on is =
    subst (λ s. IsNext (is_stored s) cursor Max answer) (ap (λ (d : Device). d.stored) on.device ∙ answered_stores (length ids) old ∙ on.held) is.2

-- a further listing that was answered isn't named either
unnamed_on : (calls : ℕ) (old now : Device) → now ≡ answered calls old → AreUnnamed calls old → IsTold kinds.List now false → AreUnnamed (suc calls) old
unnamed_on calls old now e before told = (before, subst (λ d. IsTold kinds.List d false) e told)

-- the next position is listed
pub goes_on : (limit : ℕ) (start : Bound) (past : List Event) (old now next : Device) (ids : List ObjectId) (cursor : Cursor) (id : ObjectId)
    → IsOn limit start past old now ids cursor → false ≡ is_full limit ids → IsAnswered cursor Max now (Some id) next
    → IsOn limit start past old next (ids ++ id ∷ []) (After id)
goes_on limit start past old now next ids cursor id on some is =
    let one : ahead past cursor ≡ id ∷ ahead past (After id) =
    next_some (is_stored (stored_by past)) cursor Max (positions past) id (are_positions past) (next_of limit start past old now next ids cursor (Some id) on is) in
    record {
      held = on.held;
      device = is.0 ∙ ap listed on.device ∙ ap (λ n. answered n old) (sym (one_longer ids id));
      unnamed = subst (λ n. AreUnnamed n old) (sym (one_longer ids id)) (unnamed_on (length ids) old now on.device on.unnamed is.1);
      left = on.left ∙ ap (listed_on limit ids) one
          ∙ ap (λ b. cond b ids (listed_on limit (ids ++ id ∷ []) (ahead past (After id)))) (sym some);
      whole = on.whole ∙ ap (λ l. ids ++ l) one ∙ sym (append_assoc ids (id ∷ []) (ahead past (After id)));
    }

pub fewer : (limit : ℕ) (start : Bound) (past : List Event) (old now next : Device) (ids : List ObjectId) (cursor : Cursor) (id : ObjectId)
    → IsOn limit start past old now ids cursor → IsAnswered cursor Max now (Some id) next → length (ahead past (After id)) < length (ahead past cursor)
fewer limit start past old now next ids cursor id on is =
    let one : ahead past cursor ≡ id ∷ ahead past (After id) =
    next_some (is_stored (stored_by past)) cursor Max (positions past) id (are_positions past) (next_of limit start past old now next ids cursor (Some id) on is) in
    subst (λ l. length (ahead past (After id)) < length l) (sym one) (omega arith)

stopped : (limit : ℕ) (ids rest : List ObjectId) → is_full limit ids ≡ true → listed_on limit ids rest ≡ ids
stopped limit ids [] e = refl
stopped limit ids (id ∷ rest) e = ap (λ b. cond b ids (listed_on limit (ids ++ id ∷ []) rest)) e

-- enough is listed
pub stops : (limit : ℕ) (start : Bound) (past : List Event) (old now : Device) (ids : List ObjectId) (cursor : Cursor)
    → IsOn limit start past old now ids cursor → true ≡ is_full limit ids → ids ≡ listing limit start (positions past)
stops limit start past old now ids cursor on full = sym (on.left ∙ stopped limit ids (ahead past cursor) (sym full))

full_calls : (limit : ℕ) (ids : List ObjectId) → true ≡ is_full limit ids → length ids ≡ calls_for limit ids
full_calls limit ids full = ap (λ b. cond b (length ids) (suc (length ids))) full

open_calls : (limit : ℕ) (ids : List ObjectId) → false ≡ is_full limit ids → suc (length ids) ≡ calls_for limit ids
open_calls limit ids some = ap (λ b. cond b (length ids) (suc (length ids))) some

answered_so : (calls made : ℕ) (old new : Device) → calls ≡ made → new ≡ answered calls old → AreUnnamed calls old → IsAnsweredAll made old new
answered_so calls made old new e is unnamed = subst (λ n. IsAnsweredAll n old new) e (record { left = is; unnamed = unnamed })

pub stops_device : (limit : ℕ) (start : Bound) (past : List Event) (old now : Device) (ids : List ObjectId) (cursor : Cursor)
    → IsOn limit start past old now ids cursor → true ≡ is_full limit ids → IsAnsweredAll (calls_for limit ids) old now
stops_device limit start past old now ids cursor on full =
    answered_so (length ids) (calls_for limit ids) old now (full_calls limit ids full) on.device on.unnamed

-- the end is reached
pub ends : (limit : ℕ) (start : Bound) (past : List Event) (old now next : Device) (ids : List ObjectId) (cursor : Cursor)
    → IsOn limit start past old now ids cursor → IsAnswered cursor Max now None next → ids ≡ listing limit start (positions past)
ends limit start past old now next ids cursor on is =
    let none : ahead past cursor ≡ [] =
    next_none (is_stored (stored_by past)) cursor Max (positions past) (are_positions past) (next_of limit start past old now next ids cursor None on is) in
    sym (on.left ∙ ap (listed_on limit ids) none)

pub ends_device : (limit : ℕ) (start : Bound) (past : List Event) (old now next : Device) (ids : List ObjectId) (cursor : Cursor)
    → IsOn limit start past old now ids cursor → false ≡ is_full limit ids → IsAnswered cursor Max now None next → IsAnsweredAll (calls_for limit ids) old next
ends_device limit start past old now next ids cursor on some is =
    answered_so (suc (length ids)) (calls_for limit ids) old next (open_calls limit ids some) (is.0 ∙ ap listed on.device) (unnamed_on (length ids) old now on.device on.unnamed is.1)

-- what is listed on is no shorter
no_shorter : (limit : ℕ) (ids rest : List ObjectId) → length ids ≤ length (listed_on limit ids rest)
no_shorter limit ids [] = omega arith
no_shorter limit ids (id ∷ rest) =
    let longer : length ids ≤ length (listed_on limit (ids ++ id ∷ []) rest) =
    (let more : length (ids ++ id ∷ []) ≤ length (listed_on limit (ids ++ id ∷ []) rest) = no_shorter limit (ids ++ id ∷ []) rest in omega (arith, one_longer ids id, more)) in
    (elim (is_full limit ids) as (λ b. length ids ≤ length (cond b ids (listed_on limit (ids ++ id ∷ []) rest))) [
      | true ↦ omega arith
      | false ↦ longer
    ])

calls_at_least : (limit : ℕ) (ids : List ObjectId) → length ids ≤ calls_for limit ids
calls_at_least limit ids =
    (elim (is_full limit ids) as (λ b. length ids ≤ cond b (length ids) (suc (length ids))) [
      | true ↦ omega arith
      | false ↦ omega arith
    ])

-- where they aren't full, a further call is made
one_call_more : (limit : ℕ) (ids rest : List ObjectId) → false ≡ is_full limit ids → length ids < calls_for limit (listed_on limit ids rest)
one_call_more limit ids [] some = let e : suc (length ids) ≡ calls_for limit ids = open_calls limit ids some in omega (arith, e)
one_call_more limit ids (id ∷ rest) some =
    subst (λ b. length ids < calls_for limit (cond b ids (listed_on limit (ids ++ id ∷ []) rest))) some (
    let more : length (ids ++ id ∷ []) ≤ length (listed_on limit (ids ++ id ∷ []) rest) = no_shorter limit (ids ++ id ∷ []) rest in
    let calls : length (listed_on limit (ids ++ id ∷ []) rest) ≤ calls_for limit (listed_on limit (ids ++ id ∷ []) rest) = calls_at_least limit (listed_on limit (ids ++ id ∷ []) rest) in
    omega (arith, one_longer ids id, more, calls)
    )

-- the device fails
pub failed : (limit : ℕ) (start : Bound) (past : List Event) (old now next : Device) (ids : List ObjectId) (cursor : Cursor)
    → IsOn limit start past old now ids cursor → false ≡ is_full limit ids → IsFailed kinds.List now next → IsFailedAfter (calls_for limit (listing limit start (positions past))) old next
failed limit start past old now next ids cursor on some is = record {
  calls = length ids;
  fewer = subst (λ whole. length ids < calls_for limit whole) (sym on.left) (one_call_more limit ids (ahead past cursor) some);
  unnamed = on.unnamed;
  failed = subst (λ d. IsFailed kinds.List d next) on.device is;
}

-- memory runs out
pub out_of_memory : (limit : ℕ) (start : Bound) (past : List Event) (old now : Device) (ids : List ObjectId) (cursor : Cursor)
    → IsOn limit start past old now ids cursor → (calls : ℕ) × (now ≡ answered calls old)
out_of_memory limit start past old now ids cursor on = (length ids, on.device)

pub out_of_memory_later : (limit : ℕ) (start : Bound) (past : List Event) (old now next : Device) (ids : List ObjectId) (cursor : Cursor) (id : ObjectId)
    → IsOn limit start past old now ids cursor → IsAnswered cursor Max now (Some id) next → (calls : ℕ) × (next ≡ answered calls old)
out_of_memory_later limit start past old now next ids cursor id on is = (suc (length ids), is.0 ∙ ap listed on.device)

pub ruleset turns = (begins, ascends, goes_on, fewer, stops, stops_device, ends, ends_device, failed, out_of_memory, out_of_memory_later)

-- ---- what a shard's listing leaves

answered_counts : (calls : ℕ) (device : Device) → (answered calls device).faults ≡ device.faults
answered_counts zero device = refl
answered_counts (suc calls) device = answered_counts calls device

-- the device answered
pub tied_answered : (osd stride calls : ℕ) (old new : Device) (items : List Item) (count : ℕ) (scan : Scan) (past : List Event) → IsTied osd stride old items count scan past → new ≡ answered calls old
    → IsTied osd stride new items count scan past
tied_answered osd stride calls old new items count scan past tied e =
    tied_read osd stride old new items count scan past tied (ap (λ (d : Device). d.stored) e ∙ answered_stores calls old)
    (omega (arith, ap (λ (d : Device). d.faults) e, answered_counts calls old))

due_failed : (osd stride most : ℕ) (old new : Device) (items : List Item) (count faults : ℕ) (scan : Scan) (past : List Event) → IsTied osd stride old items count scan past → IsFailedAfter most old new → faults ≡ new.faults
    → Rose (last_count past) faults
due_failed osd stride most old new items count faults scan past tied failed e =
    subst (λ n. Rose (last_count past) n) (sym e)
    (rose_from (last_count past) (answered failed.calls old).faults new.faults (omega (arith, tied.counted, answered_counts failed.calls old)) failed.failed.1)

-- the device failed
pub tied_failed : (osd stride most : ℕ) (old new : Device) (items : List Item) (count faults : ℕ) (scan : Scan) (past : List Event) → IsTied osd stride old items count scan past → IsFailedAfter most old new → faults ≡ new.faults
    → IsTied osd stride new items count scan (ListFailed faults ∷ past)
tied_failed osd stride most old new items count faults scan past tied failed e = record {
  all_items = tied.all_items;
  numbered = tied.numbered;
  count_is = tied.count_is;
  within = tied.within;
  holds = ap (λ (d : Device). d.stored) failed.failed.0 ∙ answered_stores failed.calls old ∙ tied.holds;
  counted = omega (arith, e);
  scan_is = tied.scan_is;
  legal = (due_failed osd stride most old new items count faults scan past tied failed e, tied.legal);
  some = tied.some;
}

failing_of : (old new : Device) (faults calls : ℕ) → new ≡ not_listed faults (answered calls old) → new.failing ≡ old.failing
failing_of old new faults calls e = ap (λ (d : Device). d.failing) e ∙ answered_fails calls old

pub failed_failing : (most : ℕ) (old new : Device) → IsFailedAfter most old new → new.failing ≡ old.failing
failed_failing most old new failed = failing_of old new new.faults failed.calls failed.failed.0

pub answered_failing : (calls : ℕ) (old new : Device) → new ≡ answered calls old → new.failing ≡ old.failing
answered_failing calls old new e = ap (λ (d : Device). d.failing) e ∙ answered_fails calls old

-- ---- what the device's answer says, by its error

pub failed_is : (limit : ℕ) (whole : List ObjectId) (old new : Device) (e : MediumError) → e ≡ errors.Failed → IsListedOn limit whole old (Err e) new → IsFailedAfter (calls_for limit whole) old new
failed_is limit whole old new e is h = subst (λ x. IsListedOn limit whole old (Err x) new) is h

pub memory_is : (limit : ℕ) (whole : List ObjectId) (old new : Device) (e : MediumError) → e ≡ errors.Memory → IsListedOn limit whole old (Err e) new → (calls : ℕ) × (new ≡ answered calls old)
memory_is limit whole old new e is h = subst (λ x. IsListedOn limit whole old (Err x) new) is h

pub memory_failing : (old new : Device) → (calls : ℕ) × (new ≡ answered calls old) → new.failing ≡ old.failing
memory_failing old new h = answered_failing h.0 old new h.1
