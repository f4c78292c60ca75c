-- A shard stays tied to its history.
use Rattle.std.proofs.Common.{◌≡◌, ℕ, ◌+◌, ◌<◌, ◌≤◌, ◌&&◌, Bool, true, false, cond, List, [], ◌∷◌, ◌++◌, length, reverse, Option, Some, None, Ok, slice_get, refl, sym, ap, subst, ◌∙◌, arith}
use Rattle.std.proofs.lemmas.List.{reverse-append, reverse-reverse, length-append, length-reverse}
use Rattle.pgs_cause.specs.Count.{Rose}
use Rattle.pgs_name.specs.Families.{Family}
use Rattle.pgs_chunk.specs.declared.ask.Ask.{Ask}
use Rattle.pgs_copy.specs.declared.damage.Damage.{Damage}
use Rattle.pgs_store.specs.Stores.{Stored, affected, harmed}
use Rattle.pgs_medium.specs.Device.{Device, IsFailed, with_damage}
use Rattle.pgs_medium.specs.declared.call_kind.CallKind.TheVariants as kinds
use Rattle.pgs_medium.specs.declared.item.Item.{Item}
use Rattle.pgs_shard_history.specs.Feeds.{AreNext, AreNumbered, beyond, fed, item_of}
use Rattle.pgs_shard_history.specs.Held.{damage_answer}
use Rattle.pgs_shard_history.specs.Laws.{IsLawful}
use Rattle.pgs_shard_history.specs.Legal.{IsDue}
use Rattle.pgs_shard_history.specs.Scanning.{Scanning, scanning, unasked, is_newer, after_ask, after_drop, can_drop, touches, chunk_where, drop_of, dropped}
use Rattle.pgs_shard_history.specs.Stores.{applied, after_item, stored_by, last_count}
use Rattle.pgs_shard_history.specs.declared.damage_answer.DamageAnswer.{DamageAnswer}
use Rattle.pgs_shard_history.specs.declared.damage_answer.DamageAnswer.TheVariants as damages
use Rattle.pgs_shard_history.specs.declared.event.Event.{Event}
use Rattle.pgs_shard_history.specs.declared.event.Event.TheVariants.{Fed, Applied, DeviceFault, Damaged}
use Rattle.pgs_shard_history.specs.declared.phase.Phase.{Phase}
use Rattle.pgs_shard_history.specs.declared.phase.Phase.TheVariants as phases
use Rattle.pgs_shard_history.proofs.Feeds.{found, numbered_more}
use Rattle.pgs_shard_history.proofs.Laws.{lawful}
use Rattle.pgs_shard.specs.Answers.{IsWrittenAt, IsDoneAt}
use Rattle.pgs_shard.specs.Scan.{Scan, scan_of, entries_of, map_made, cleared, asked_if, in_ask, drop_in, after_drop_in, HasRoomToHand}
use Rattle.pgs_shard.specs.State.{IsTied}

pub lawful_now : (osd stride : ℕ) (device : Device) (items : List Item) (count : ℕ) (scan : Scan) (past : List Event) → IsTied osd stride device items count scan past → IsLawful past
lawful_now osd stride device items count scan past tied = lawful stride past tied.legal

-- ---- room

pub room_some : (phase : Phase) (length capacity : ℕ) → length < capacity → HasRoomToHand phase length capacity
room_some phases.Waiting length capacity h = tt
room_some phases.Between length capacity h = tt
room_some phases.Reading length capacity h = tt
room_some (phases.Mapped place count) length capacity h = h
room_some (phases.Failed place count faults) length capacity h = h
room_some phases.Over length capacity h = tt

pub room_more : (phase : Phase) (length old new : ℕ) → HasRoomToHand phase length old → old ≤ new → HasRoomToHand phase length new
room_more phases.Waiting length old new h up = tt
room_more phases.Between length old new h up = tt
room_more phases.Reading length old new h up = tt
room_more (phases.Mapped place count) length old new h up = omega (arith, h, up)
room_more (phases.Failed place count faults) length old new h up = omega (arith, h, up)
room_more phases.Over length old new h up = tt

pub room_kept : (phase : Phase) (before length old new : ℕ) → HasRoomToHand phase before old → length ≡ before → old ≤ new → HasRoomToHand phase length new
room_kept phase before length old new h same up = subst (λ n. HasRoomToHand phase n new) (sym same) (room_more phase before old new h up)

-- ---- what asks and items do to what is kept of a scan

asked_kept : (osd stride : ℕ) (ask : Option Ask) (s : Scanning) → asked_if ask (scan_of osd stride s) ≡ scan_of osd stride (after_ask ask s)
asked_kept osd stride None s = refl
asked_kept osd stride (Some ask) s = by (is_newer ask s.ask)
  where
    by : (newer : Bool) → cond newer (record (scan_of osd stride unasked) { ask = Some ask }) (scan_of osd stride s) ≡ scan_of osd stride (cond newer (record unasked { ask = Some ask }) s)
    by true = refl
    by false = refl

no_map : (osd : ℕ) (phase : Phase) (ask : Option Ask) → map_made osd (dropped phase) ask [] ≡ None
no_map osd phases.Waiting ask = refl
no_map osd phases.Between ask = refl
no_map osd phases.Reading ask = refl
no_map osd (phases.Mapped place count) ask = refl
no_map osd (phases.Failed place count faults) ask = refl
no_map osd phases.Over ask = refl

no_entries : (phase : Phase) → entries_of phase [] ≡ []
no_entries phases.Waiting = refl
no_entries phases.Between = refl
no_entries phases.Reading = refl
no_entries (phases.Mapped place count) = refl
no_entries (phases.Failed place count faults) = refl
no_entries phases.Over = refl

dropped_kept : (osd stride : ℕ) (drops : Option ℕ) (s : Scanning) → after_drop_in drops (scan_of osd stride s) ≡ scan_of osd stride (after_drop drops s)
dropped_kept osd stride None s = refl
dropped_kept osd stride (Some chunk) s = λ i. record (cleared (dropped s.phase) (scan_of osd stride s)) { entries = sym (no_entries (dropped s.phase)) i; map = sym (no_map osd s.phase s.ask) i }

touches_is : (ask : Option Ask) (item : Item) → in_ask ask item.family ≡ touches ask (Some item)
touches_is None item = refl
touches_is (Some ask) item = refl

drops_is : (osd stride : ℕ) (s : Scanning) (item : Item) → drop_in (scan_of osd stride s) item.family ≡ drop_of s (Some item)
drops_is osd stride s item = ap (λ t. chunk_where (can_drop s.phase && t) s.ask) (touches_is s.ask item)

-- ---- events

pub done_at : {A : Type 0} (asked : Option Item) (old new : Device) (answer : A) → IsWrittenAt asked old (Ok answer) new → IsDoneAt asked old new
done_at None old new answer is = is
done_at (Some item) old new answer is = is

stored_then : (asked : Option Item) (old new : Device) (stored : Stored) → IsDoneAt asked old new → old.stored ≡ stored → new.stored ≡ after_item asked stored
stored_then None old new stored is holds = absurd is
stored_then (Some item) old new stored is holds = ap (λ (d : Device). d.stored) is.0 ∙ ap (affected item.family item.effects) holds

faults_then : (asked : Option Item) (old new : Device) → IsDoneAt asked old new → new.faults ≡ old.faults
faults_then None old new is = absurd is
faults_then (Some item) old new is = ap (λ (d : Device). d.faults) is.0

-- the chunk that an item drops is the one that is due
pub drop_due : (osd stride : ℕ) (device : Device) (items : List Item) (count : ℕ) (scan : Scan) (past : List Event) (item : Item) (drops : Option ℕ) → IsTied osd stride device items count scan past
    → count < length items → slice_get items count ≡ Some item → drops ≡ drop_in scan item.family → drops ≡ drop_of (scanning past) (item_of (count + 1) (fed past))
drop_due osd stride device items count scan past item drops tied below here is =
    let at : item_of (count + 1) (fed past) ≡ Some item = sym (found count items (fed past) tied.all_items tied.numbered below) ∙ here in
    is ∙ ap (λ s. drop_in s item.family) tied.scan_is ∙ drops_is osd stride (scanning past) item ∙ ap (drop_of (scanning past)) (sym at)

-- the next item was written
pub tied_applied : {A : Type 0} (osd stride : ℕ) (old new : Device) (items shown : List Item) (count : ℕ) (scan after : Scan) (past : List Event) (item : Item) (drops : Option ℕ) (answer : A)
    → IsTied osd stride old items count scan past → count < length items → shown ≡ items → slice_get items count ≡ Some item → IsWrittenAt (slice_get shown count) old (Ok answer) new
    → drops ≡ drop_in scan item.family → after ≡ after_drop_in drops scan → IsTied osd stride new items (count + 1) after (Applied (count + 1) drops ∷ past)
tied_applied osd stride old new items shown count scan after past item drops answer tied below same here is drop left =
    let at : slice_get items count ≡ item_of (count + 1) (fed past) = found count items (fed past) tied.all_items tied.numbered below in
    let done : IsDoneAt (item_of (count + 1) (fed past)) old new = subst (λ asked. IsDoneAt asked old new) (ap (λ l. slice_get l count) same ∙ at) (done_at (slice_get shown count) old new answer is) in
    let fits : count + 1 ≤ length (fed past) = omega (arith, below, ap length tied.all_items, length-reverse (fed past)) in
    record {
      all_items = tied.all_items;
      numbered = tied.numbered;
      count_is = refl;
      within = omega (arith, below);
      holds = stored_then (item_of (count + 1) (fed past)) old new (stored_by past) done tied.holds;
      counted = omega (arith, tied.counted, faults_then (item_of (count + 1) (fed past)) old new done);
      scan_is = left ∙ ap (after_drop_in drops) tied.scan_is ∙ dropped_kept osd stride drops (scanning past);
      legal = ((ap (λ n. n + 1) tied.count_is, fits, drop_due osd stride old items count scan past item drops tied below here drop), tied.legal);
      some = tied.some;
    }

-- what is answered then
pub applied_answer : {A : Type 0} (osd stride : ℕ) (old new : Device) (items shown : List Item) (count : ℕ) (scan : Scan) (past : List Event) (item : Item) (drops : Option ℕ) (answer : A)
    → IsTied osd stride old items count scan past → count < length items → shown ≡ items → slice_get items count ≡ Some item → IsWrittenAt (slice_get shown count) old (Ok answer) new → drops ≡ drop_in scan item.family
    → (count + 1 ≡ applied past + 1) × (count + 1 ≤ length (fed past)) × IsDoneAt (item_of (count + 1) (fed past)) old new × (drops ≡ drop_of (scanning past) (item_of (count + 1) (fed past)))
applied_answer osd stride old new items shown count scan past item drops answer tied below same here is drop =
    let at : slice_get items count ≡ item_of (count + 1) (fed past) = found count items (fed past) tied.all_items tied.numbered below in (
      ap (λ n. n + 1) tied.count_is,
      omega (arith, below, ap length tied.all_items, length-reverse (fed past)),
      subst (λ asked. IsDoneAt asked old new) (ap (λ l. slice_get l count) same ∙ at) (done_at (slice_get shown count) old new answer is),
      drop_due osd stride old items count scan past item drops tied below here drop,
    )

-- items were fed
pub tied_fed : (osd stride : ℕ) (device : Device) (before fresh items : List Item) (last count from : ℕ) (scan after : Scan) (ask : Option Ask) (past : List Event) → IsTied osd stride device before count scan past → AreNext from items
    → from ≤ length (fed past) → last ≡ length before → fresh ≡ beyond last items → after ≡ asked_if ask scan → IsTied osd stride device (before ++ fresh) count after (Fed from items ask ∷ past)
tied_fed osd stride device before fresh items last count from scan after ask past tied next begins l is left =
    let len : last ≡ length (fed past) = l ∙ ap length tied.all_items ∙ length-reverse (fed past) in
    let new : beyond (length (fed past)) items ≡ fresh = ap (λ n. beyond n items) (sym len) ∙ sym is in
    record {
      all_items = (λ i. tied.all_items i ++ sym new i)
          ∙ ap (λ l. reverse (fed past) ++ l) (sym (reverse-reverse (beyond (length (fed past)) items)))
          ∙ sym (reverse-append (reverse (beyond (length (fed past)) items)) (fed past));
      numbered = numbered_more (length (fed past)) from items (fed past) next tied.numbered refl begins;
      count_is = tied.count_is;
      within = omega (arith, tied.within, length-append before fresh);
      holds = tied.holds;
      counted = tied.counted;
      scan_is = left ∙ ap (asked_if ask) tied.scan_is ∙ asked_kept osd stride ask (scanning past);
      legal = ((next, begins), tied.legal);
      some = tied.some;
    }

pub rose_from : (last old new : ℕ) → last ≤ old → Rose old new → Rose last new
rose_from last old new below rose = record {
  kept = omega (arith, below, rose.kept);
  more = λ e. rose.more (omega (arith, below, rose.kept, e));
}

-- the device failed at the next item
pub tied_fault : (osd stride : ℕ) (old new : Device) (items : List Item) (count faults : ℕ) (scan : Scan) (past : List Event) → IsTied osd stride old items count scan past → count < length items
    → IsFailed kinds.Write old new → faults ≡ new.faults → IsTied osd stride new items count scan (DeviceFault faults ∷ past)
tied_fault osd stride old new items count faults scan past tied below failed e = record {
  all_items = tied.all_items;
  numbered = tied.numbered;
  count_is = tied.count_is;
  within = tied.within;
  holds = ap (λ (d : Device). d.stored) failed.0 ∙ tied.holds;
  counted = omega (arith, e);
  scan_is = tied.scan_is;
  legal = ((omega (arith, below, tied.count_is, ap length tied.all_items, length-reverse (fed past)), subst (λ n. Rose (last_count past) n) (sym e) (rose_from (last_count past) old.faults new.faults tied.counted failed.1)), tied.legal);
  some = tied.some;
}

-- damage was done
pub tied_damaged : (osd stride : ℕ) (old new : Device) (items : List Item) (count : ℕ) (scan : Scan) (past : List Event) (family : Family) (snap : ℕ) (damage : Damage) → IsTied osd stride old items count scan past
    → new ≡ with_damage family snap damage old → damages.Damaged ≡ damage_answer past family snap damage → IsTied osd stride new items count scan (Damaged family snap damage damages.Damaged ∷ past)
tied_damaged osd stride old new items count scan past family snap damage tied is answer = record {
  all_items = tied.all_items;
  numbered = tied.numbered;
  count_is = tied.count_is;
  within = tied.within;
  holds = ap (λ (d : Device). d.stored) is ∙ ap (harmed family snap damage) tied.holds;
  counted = omega (arith, tied.counted, ap (λ (d : Device). d.faults) is);
  scan_is = tied.scan_is;
  legal = (answer, tied.legal);
  some = tied.some;
}

-- or refused
pub tied_refused : (osd stride : ℕ) (device : Device) (items : List Item) (count : ℕ) (scan : Scan) (past : List Event) (family : Family) (snap : ℕ) (damage : Damage) (answer : DamageAnswer)
    → IsTied osd stride device items count scan past → answer ≡ damage_answer past family snap damage → (answer ≡ damages.Damaged → ⊥) → IsTied osd stride device items count scan (Damaged family snap damage answer ∷ past)
tied_refused osd stride device items count scan past family snap damage damages.Damaged tied is other = absurd (other refl)
tied_refused osd stride device items count scan past family snap damage damages.BeingRead tied is other = record {
  all_items = tied.all_items;
  numbered = tied.numbered;
  count_is = tied.count_is;
  within = tied.within;
  holds = tied.holds;
  counted = tied.counted;
  scan_is = tied.scan_is;
  legal = (is, tied.legal);
  some = tied.some;
}
tied_refused osd stride device items count scan past family snap damage (damages.ShardFull bytes) tied is other = record {
  all_items = tied.all_items;
  numbered = tied.numbered;
  count_is = tied.count_is;
  within = tied.within;
  holds = tied.holds;
  counted = tied.counted;
  scan_is = tied.scan_is;
  legal = (is, tied.legal);
  some = tied.some;
}

-- the device was only read
pub tied_read : (osd stride : ℕ) (old new : Device) (items : List Item) (count : ℕ) (scan : Scan) (past : List Event) → IsTied osd stride old items count scan past → new.stored ≡ old.stored → old.faults ≤ new.faults
    → IsTied osd stride new items count scan past
tied_read osd stride old new items count scan past tied same up = record {
  all_items = tied.all_items;
  numbered = tied.numbered;
  count_is = tied.count_is;
  within = tied.within;
  holds = same ∙ tied.holds;
  counted = omega (arith, tied.counted, up);
  scan_is = tied.scan_is;
  legal = tied.legal;
  some = tied.some;
}

-- a step of the scan was made, which isn't a fault
abbrev KeepsCount : Event → List Event → Type 0
KeepsCount event past = (fed (event ∷ past) ≡ fed past) × (applied (event ∷ past) ≡ applied past) × (stored_by (event ∷ past) ≡ stored_by past) × (last_count (event ∷ past) ≡ last_count past)

pub tied_step : (osd stride : ℕ) (device : Device) (items : List Item) (count : ℕ) (scan after : Scan) (past : List Event) (event : Event) → IsTied osd stride device items count scan past → KeepsCount event past
    → after ≡ scan_of osd stride (scanning (event ∷ past)) → IsDue stride event past → IsTied osd stride device items count after (event ∷ past)
tied_step osd stride device items count scan after past event tied keeps is due = record {
  all_items = tied.all_items ∙ ap reverse (sym keeps.0);
  numbered = subst AreNumbered (sym keeps.0) tied.numbered;
  count_is = tied.count_is ∙ sym keeps.1;
  within = tied.within;
  holds = tied.holds ∙ sym keeps.2;
  counted = omega (arith, tied.counted, keeps.3);
  scan_is = is;
  legal = (due, tied.legal);
  some = tied.some;
}
