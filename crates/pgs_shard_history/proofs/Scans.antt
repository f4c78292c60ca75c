-- The scan of a legal history is sound.
use Rattle.std.proofs.Common.{◌≡◌, ℕ, ◌+◌, ◌<◌, ◌≤◌, ◌==◌, ◌&&◌, Bool, true, false, cond, List, [], ◌∷◌, ◌++◌, length, Option, Some, None, is_some, refl, sym, ap, subst, ◌∙◌, arith, suc, inl, inr}
use Rattle.std.specs.List.{AllByRecursion}
use Rattle.std.specs.List.Sorted.{IsStrictlySortedBy}
use Rattle.std.specs.Ordering.{is_lt, is_le}
use Rattle.std.specs.declared.cmp.Ordering.{Ordering}
use Rattle.std.specs.declared.cmp.Ordering.TheVariants.{Less, Equal, Greater}
use Rattle.std.proofs.lemmas.Bool.Decides.{nat_tests}
use Rattle.pgs_bytes.proofs.Facts.{true_false, true_or_false, none_some, some_none, some_same, both, joined}
use Rattle.pgs_name.specs.Families.{Family, same_family}
use Rattle.pgs_name.specs.Positions.{position_cmp, is_before, same_position}
use Rattle.pgs_name.specs.declared.object_id.ObjectId.{ObjectId}
use Rattle.pgs_name.proofs.Families.{same_family_is, family_is_same}
use Rattle.pgs_name.proofs.Ordered.{position_total, by_family}
use Rattle.pgs_range.specs.Ranges.{in_range, is_at_most, is_above}
use Rattle.pgs_range.specs.Listed.{is_behind, is_ahead, IsNext}
use Rattle.pgs_range.proofs.Tiles.{at_most_up}
use Rattle.pgs_range.specs.declared.cursor.Cursor.TheVariants.{At, After}
use Rattle.pgs_range.specs.declared.family_range.FamilyRange.{FamilyRange}
use Rattle.pgs_chunk.specs.declared.ask.Ask.{Ask}
use Rattle.pgs_copy.specs.Copies.{damaged, after_damage, after_effects}
use Rattle.pgs_copy.specs.declared.damage.Damage.{Damage}
use Rattle.pgs_copy.specs.declared.obj_copy.ObjCopy.{ObjCopy}
use Rattle.pgs_map.specs.Entries.{AreAscending, AreInRange}
use Rattle.pgs_map.specs.declared.entry.Entry.{Entry}
use Rattle.pgs_medium.specs.declared.item.Item.{Item}
use Rattle.pgs_scan.specs.Reads.{steps_left_open}
use Rattle.pgs_scan.specs.Seen.{entry_seen}
use Rattle.pgs_scan.specs.declared.mark.Mark.{Mark}
use Rattle.pgs_scan.specs.declared.mark.Mark.TheVariants as marks
use Rattle.pgs_store.specs.Firsts.{at_snap}
use Rattle.pgs_store.specs.Stores.{Stored, is_stored, affected, harmed}
use Rattle.pgs_shard_history.specs.Feeds.{fed, item_of}
use Rattle.pgs_shard_history.specs.Stores.{applied, stored_by, after_item}
use Rattle.pgs_shard_history.specs.Scanning.{Scanning, scanning, unasked, is_newer, after_ask, after_drop, after_scan, can_drop, touches, chunk_where, drop_of, dropped, cursor_of, is_being_read, is_reading, is_last, is_deep, seen_entry}
use Rattle.pgs_shard_history.specs.Scans.{StandBefore, IsBetween, IsReading, IsMapped, IsAt, IsSoundScan}
use Rattle.pgs_shard_history.specs.Held.{damage_answer, room_answer}
use Rattle.pgs_shard_history.specs.Legal.{IsLegal, IsListing, IsListFailing, IsGoingOn, IsPassing, MayList, HasEnded}
use Rattle.pgs_shard_history.specs.declared.damage_answer.DamageAnswer.TheVariants as answers
use Rattle.pgs_shard_history.specs.declared.event.Event.{Event}
use Rattle.pgs_shard_history.specs.declared.event.Event.TheVariants.{Fed, Applied, DeviceFault, ListFailed, Scanned, Handed, Damaged}
use Rattle.pgs_shard_history.specs.declared.phase.Phase.{Phase}
use Rattle.pgs_shard_history.specs.declared.phase.Phase.TheVariants.{Waiting, Between, Reading, Mapped, Failed, Over}
use Rattle.pgs_shard_history.specs.declared.scan_event.ScanEvent.{ScanEvent}
use Rattle.pgs_shard_history.specs.declared.scan_event.ScanEvent.TheVariants.{Found, More, Passed, Done, ListFault}

-- ---- positions in order

less : (o : Ordering) → is_lt o ≡ true → o ≡ Less
less Less e = refl
less Equal e = absurd (true_false (sym e))
less Greater e = absurd (true_false (sym e))

lt_le : (o : Ordering) → is_lt o ≡ true → is_le o ≡ true
lt_le Less e = refl
lt_le Equal e = absurd (true_false (sym e))
lt_le Greater e = absurd (true_false (sym e))

pub before_chain : (a b c : ObjectId) → is_before a b ≡ true → is_before b c ≡ true → is_before a c ≡ true
before_chain a b c p q = ap is_lt (position_total.trans a b c (less (position_cmp a b) p) (less (position_cmp b c) q))

all_before : (a b : ObjectId) (entries : List Entry) → is_before a b ≡ true → StandBefore a entries → StandBefore b entries
all_before a b [] p h = tt
all_before a b (e ∷ es) p h = (before_chain e.id a b h.0 p, all_before a b es p h.1)

-- ---- one entry more

none_in : (range : FamilyRange) → AreInRange range []
unfolding IsStrictlySortedBy
none_in range = record { ascending = tt; within = tt }

all_more : {A : Type 0} (P : A → Type 0) (xs : List A) (x : A) → AllByRecursion P xs → P x → AllByRecursion P (xs ++ x ∷ [])
all_more P [] x h p = (p, tt)
all_more P (y ∷ ys) x h p = (h.0, all_more P ys x h.1 p)

ascends_more : (entries : List Entry) (e : Entry) → AreAscending entries → StandBefore e.id entries → AreAscending (entries ++ e ∷ [])
unfolding IsStrictlySortedBy
ascends_more [] e h b = (tt, tt)
ascends_more (x ∷ xs) e h b = (all_more (λ y. position_cmp x.id y.id ≡ Less) xs e h.0 (less (position_cmp x.id e.id) b.0), ascends_more xs e h.1 b.1)

pub in_range_more : (range : FamilyRange) (entries : List Entry) (e : Entry) → AreInRange range entries → StandBefore e.id entries → in_range range e.id.family ≡ true → AreInRange range (entries ++ e ∷ [])
in_range_more range entries e h b within = record {
  ascending = ascends_more entries e h.ascending b;
  within = all_more (λ entry. in_range range entry.id.family ≡ true) entries e h.within within;
}

seen_id : (deep : Bool) (id : ObjectId) (mark : Mark) (copy : ObjCopy) → (entry_seen deep id mark copy).id ≡ id
seen_id deep id marks.Fine copy = refl
seen_id deep id marks.StatError copy = refl
seen_id deep id marks.ReadError copy = refl

-- ---- an item of the range drops, and any other leaves the copy

-- an item that drops nothing doesn't touch the range
untouched : (ask : Ask) (s : Scanning) (item : Option Item) → s.ask ≡ Some ask → can_drop s.phase ≡ true → None ≡ drop_of s item → touches (Some ask) item ≡ false
untouched ask s item asked can none =
    elim (true_or_false (touches (Some ask) item)) [
      | inl t ↦
          let it : drop_of s item ≡ Some ask.chunk = ap (λ a. chunk_where (can_drop s.phase && touches a item) a) asked ∙ ap (λ c. chunk_where (c && touches (Some ask) item) (Some ask)) can ∙ ap (λ t. chunk_where t (Some ask)) t in
          absurd (none_some ask.chunk (none ∙ it))
      | inr f ↦ f
    ]

apart : (range : FamilyRange) (f g : Family) → in_range range f ≡ false → in_range range g ≡ true → same_family f g ≡ false
apart range f g out within =
    elim (true_or_false (same_family f g)) [
      | inl s ↦ absurd (true_false (sym within ∙ ap (in_range range) (sym (same_family_is f g s)) ∙ out))
      | inr n ↦ n
    ]

item_leaves : (ask : Ask) (item : Option Item) (stored : Stored) (id : ObjectId) → touches (Some ask) item ≡ false → in_range ask.range id.family ≡ true
    → after_item item stored id.family id.snap ≡ stored id.family id.snap
item_leaves ask None stored id out within = refl
item_leaves ask (Some item) stored id out within =
    ap (λ b. cond b (after_effects item.effects (stored id.family) id.snap) (stored id.family id.snap)) (apart ask.range item.family id.family out within)

-- ---- damage that is done leaves the copy that is being read

not_read : (past : List Event) (family : Family) (snap : ℕ) (damage : Damage) → answers.Damaged ≡ damage_answer past family snap damage → is_being_read past (at_snap family snap) ≡ false
not_read past family snap damage e =
    elim (true_or_false (is_being_read past (at_snap family snap))) [
      | inl r ↦ absurd (refused (e ∙ ap (λ b. cond b answers.BeingRead (room_answer past family snap damage)) r))
      | inr n ↦ n
    ]
  where
    refused : answers.Damaged ≡ answers.BeingRead → ⊥
    refused e = cc

damage_leaves : (past : List Event) (family : Family) (snap : ℕ) (damage : Damage) (id : ObjectId) → (scanning past).phase ≡ Reading → (scanning past).last ≡ Some id
    → is_being_read past (at_snap family snap) ≡ false → harmed family snap damage (stored_by past) id.family id.snap ≡ stored_by past id.family id.snap
damage_leaves past family snap damage id reading last free =
    let other : same_position id (at_snap family snap) ≡ false =
    sym (ap (λ p. is_reading p && is_last (scanning past).last (at_snap family snap)) reading ∙ ap (λ l. is_last l (at_snap family snap)) last) ∙ free in
    elim (true_or_false (same_family family id.family)) [
      | inr n ↦ ap (λ b. cond b (after_damage snap damage (stored_by past id.family) id.snap) (stored_by past id.family id.snap)) n
      | inl f ↦
          let one : family ≡ id.family = same_family_is family id.family f in
          let own : same_family id.family family ≡ true = ap (λ g. same_family id.family g) one ∙ family_is_same id.family in
          elim (true_or_false (snap == id.snap)) [
            | inl s ↦ absurd (true_false (sym (joined (same_family id.family family) (id.snap == snap) own (turned snap id.snap s)) ∙ other))
            | inr n ↦ ap (λ b. cond b (after_damage snap damage (stored_by past id.family) id.snap) (stored_by past id.family id.snap)) f
                ∙ ap (λ b. cond b (damaged damage (stored_by past id.family id.snap)) (stored_by past id.family id.snap)) n
          ]
    ]
  where
    turned : (a b : ℕ) → (a == b) ≡ true → (b == a) ≡ true
    turned a b e = grind (arith, nat_tests)

-- ---- each event keeps it sound

abbrev scan_with : Option Ask → Phase → Option ObjectId → Option ObjCopy → ℕ → List Entry → Scanning
scan_with ask phase last copy steps entries = record { ask = ask; phase = phase; last = last; copy = copy; steps = steps; entries = entries }

some_of : {A : Type 0} (o : Option A) → is_some o ≡ true → (x : A) × (o ≡ Some x)
some_of None e = absurd (true_false (sym e))
some_of (Some x) e = (x, refl)

-- a newer ask, or none
asked_sound : (stride : ℕ) (ask : Option Ask) (s : Scanning) (count : ℕ) (stored : Stored) → IsSoundScan stride s.ask s count stored → IsSoundScan stride (after_ask ask s).ask (after_ask ask s) count stored
asked_sound stride None s count stored h = h
asked_sound stride (Some ask) s count stored h = by (is_newer ask s.ask)
  where
    by : (newer : Bool) → IsSoundScan stride (cond newer (record unasked { ask = Some ask }) s).ask (cond newer (record unasked { ask = Some ask }) s) count stored
    by true = refl
    by false = h

-- more items are applied, or other copies change, and the copy that is read stays
abbrev KeepsCopy : Scanning → Stored → Stored → Type 0
KeepsCopy s old new = (id : ObjectId) → s.phase ≡ Reading → s.last ≡ Some id → new id.family id.snap ≡ old id.family id.snap

same_at : (stride : ℕ) (phase : Phase) (ask : Ask) (last : Option ObjectId) (copy : Option ObjCopy) (steps : ℕ) (entries : List Entry) (count more : ℕ) (old new : Stored)
    → count ≤ more → KeepsCopy (scan_with (Some ask) phase last copy steps entries) old new
    → IsAt stride phase ask (scan_with (Some ask) phase last copy steps entries) count old → IsAt stride phase ask (scan_with (Some ask) phase last copy steps entries) more new
same_at stride Waiting ask last copy steps entries count more old new up keeps h = h
same_at stride Between ask last copy steps entries count more old new up keeps h = record { needed = omega (arith, h.needed, up); entries = h.entries; behind = h.behind; within = h.within }
same_at stride Reading ask last copy steps entries count more old new up keeps h = record {
  id = h.id;
  copy = h.copy;
  last = h.last;
  found = h.found;
  still = keeps h.id refl h.last ∙ h.still;
  needed = omega (arith, h.needed, up);
  within = h.within;
  steps = h.steps;
  entries = h.entries;
  before = h.before;
}
same_at stride (Mapped place then) ask last copy steps entries count more old new up keeps h = h
same_at stride (Failed place then faults) ask last copy steps entries count more old new up keeps h = h
same_at stride Over ask last copy steps entries count more old new up keeps h = h

same_sound : (stride : ℕ) (ask : Option Ask) (phase : Phase) (last : Option ObjectId) (copy : Option ObjCopy) (steps : ℕ) (entries : List Entry) (count more : ℕ) (old new : Stored)
    → count ≤ more → KeepsCopy (scan_with ask phase last copy steps entries) old new
    → IsSoundScan stride ask (scan_with ask phase last copy steps entries) count old → IsSoundScan stride ask (scan_with ask phase last copy steps entries) more new
same_sound stride None phase last copy steps entries count more old new up keeps h = h
same_sound stride (Some ask) phase last copy steps entries count more old new up keeps h = same_at stride phase ask last copy steps entries count more old new up keeps h

-- a scan that is dropped
lost_at : (stride : ℕ) (phase : Phase) (ask : Ask) (count : ℕ) (stored : Stored) → IsAt stride (dropped phase) ask (record unasked { ask = Some ask; phase = dropped phase }) count stored
lost_at stride Waiting ask count stored = refl
lost_at stride Between ask count stored = refl
lost_at stride Reading ask count stored = refl
lost_at stride (Mapped place then) ask count stored = tt
lost_at stride (Failed place then faults) ask count stored = tt
lost_at stride Over ask count stored = tt

-- nothing drops where nothing was asked
never_dropped : (can : Bool) (item : Option Item) (chunk : ℕ) → Some chunk ≡ chunk_where (can && touches None item) None → ⊥
never_dropped true item chunk e = some_none chunk e
never_dropped false item chunk e = some_none chunk e

dropped_sound : (stride : ℕ) (ask : Option Ask) (phase : Phase) (last : Option ObjectId) (copy : Option ObjCopy) (steps : ℕ) (entries : List Entry) (item : Option Item) (chunk count : ℕ) (stored : Stored)
    → Some chunk ≡ drop_of (scan_with ask phase last copy steps entries) item
    → IsSoundScan stride ask (after_drop (Some chunk) (scan_with ask phase last copy steps entries)) count stored
dropped_sound stride None phase last copy steps entries item chunk count stored e = absurd (never_dropped (can_drop phase) item chunk e)
dropped_sound stride (Some ask) phase last copy steps entries item chunk count stored e = lost_at stride phase ask count stored

-- an item that drops nothing leaves the copy that is read
item_keeps : (stride : ℕ) (ask : Ask) (phase : Phase) (last : Option ObjectId) (copy : Option ObjCopy) (steps : ℕ) (entries : List Entry) (item : Option Item) (count : ℕ) (stored : Stored)
    → None ≡ drop_of (scan_with (Some ask) phase last copy steps entries) item → IsAt stride phase ask (scan_with (Some ask) phase last copy steps entries) count stored
    → KeepsCopy (scan_with (Some ask) phase last copy steps entries) stored (after_item item stored)
item_keeps stride ask Waiting last copy steps entries item count stored e h id reading found = absurd (cc)
item_keeps stride ask Between last copy steps entries item count stored e h id reading found = absurd (cc)
item_keeps stride ask Reading last copy steps entries item count stored e h id reading found =
    let is : h.id ≡ id = some_same h.id id (sym h.last ∙ found) in
    item_leaves ask item stored id (untouched ask (scan_with (Some ask) Reading last copy steps entries) item refl refl e) (sym (ap (λ (o : ObjectId). in_range ask.range o.family) is) ∙ h.within)
item_keeps stride ask (Mapped place then) last copy steps entries item count stored e h id reading found = absurd (cc)
item_keeps stride ask (Failed place then faults) last copy steps entries item count stored e h id reading found = absurd (cc)
item_keeps stride ask Over last copy steps entries item count stored e h id reading found = absurd (cc)

applied_sound : (stride : ℕ) (ask : Option Ask) (phase : Phase) (last : Option ObjectId) (copy : Option ObjCopy) (steps : ℕ) (entries : List Entry) (item : Option Item) (drops : Option ℕ) (count : ℕ) (stored : Stored)
    → drops ≡ drop_of (scan_with ask phase last copy steps entries) item → IsSoundScan stride ask (scan_with ask phase last copy steps entries) count stored
    → IsSoundScan stride (after_drop drops (scan_with ask phase last copy steps entries)).ask (after_drop drops (scan_with ask phase last copy steps entries)) (count + 1) (after_item item stored)
applied_sound stride None phase last copy steps entries item None count stored e h = h
applied_sound stride (Some ask) phase last copy steps entries item None count stored e h =
    same_at stride phase ask last copy steps entries count (count + 1) stored (after_item item stored) (omega arith) (item_keeps stride ask phase last copy steps entries item count stored e h) h
applied_sound stride ask phase last copy steps entries item (Some chunk) count stored e h =
    dropped_sound stride ask phase last copy steps entries item chunk (count + 1) (after_item item stored) e

-- a position was found
reading_from : (stride : ℕ) (ask : Ask) (copy : Option ObjCopy) (entries : List Entry) (count : ℕ) (stored : Stored) (id : ObjectId) → ask.needed ≤ count → AreInRange ask.range entries
    → StandBefore id entries → is_at_most ask.range.from id.family ≡ true → is_above ask.range.to id.family ≡ true → is_stored stored id ≡ true
    → IsReading stride ask (scan_with (Some ask) Reading (Some id) (stored id.family id.snap) 0 entries) count stored
reading_from stride ask copy entries count stored id needed within before from to there =
    let one = some_of (stored id.family id.snap) there in
    record {
      id = id;
      copy = one.0;
      last = refl;
      found = one.1;
      still = one.1;
      needed = needed;
      within = joined (is_at_most ask.range.from id.family) (is_above ask.range.to id.family) from to;
      steps = omega arith;
      entries = within;
      before = before;
    }

found_sound : (stride : ℕ) (ask : Option Ask) (phase : Phase) (last : Option ObjectId) (copy : Option ObjCopy) (steps : ℕ) (entries : List Entry) (past : List Event) (id : ObjectId)
    → IsListing ask (scan_with ask phase last copy steps entries) past (Some id) → IsSoundScan stride ask (scan_with ask phase last copy steps entries) (applied past) (stored_by past)
    → IsSoundScan stride ask (scan_with ask Reading (Some id) (stored_by past id.family id.snap) 0 entries) (applied past) (stored_by past)
found_sound stride None phase last copy steps entries past id due h = absurd due
found_sound stride (Some ask) Waiting last copy steps entries past id due h =
    let first : last ≡ None = ap (λ (s : Scanning). s.last) h in
    let none : entries ≡ [] = ap (λ (s : Scanning). s.entries) h in
    let ahead : is_ahead (cursor_of ask None) ask.range.to id ≡ true = sym (ap (λ l. is_ahead (cursor_of ask l) ask.range.to id) first) ∙ due.1.1 in
    let two = both (is_at_most ask.range.from id.family) (is_above ask.range.to id.family) ahead in
    reading_from stride ask copy entries (applied past) (stored_by past) id due.0 (subst (AreInRange ask.range) (sym none) (none_in ask.range)) (subst (StandBefore id) (sym none) tt) two.0 two.1 due.1.0
found_sound stride (Some ask) Between last copy steps entries past id due h =
    let two = both (is_behind (cursor_of ask last) id) (is_above ask.range.to id.family) due.1.1 in
    reading_from stride ask copy entries (applied past) (stored_by past) id h.needed h.entries (h.behind id two.0) (h.within id two.0) two.1 due.1.0
found_sound stride (Some ask) Reading last copy steps entries past id due h = absurd due.0
found_sound stride (Some ask) (Mapped place then) last copy steps entries past id due h = absurd due.0
found_sound stride (Some ask) (Failed place then faults) last copy steps entries past id due h = absurd due.0
found_sound stride (Some ask) Over last copy steps entries past id due h = absurd due.0

-- more is left
more_sound : (stride : ℕ) (ask : Option Ask) (phase : Phase) (last : Option ObjectId) (copy : Option ObjCopy) (steps : ℕ) (entries : List Entry) (count : ℕ) (stored : Stored)
    → IsGoingOn stride (scan_with ask phase last copy steps entries) copy → IsSoundScan stride ask (scan_with ask phase last copy steps entries) count stored
    → IsSoundScan stride ask (scan_with ask phase last copy (suc steps) entries) count stored
more_sound stride ask phase last None steps entries count stored due h = absurd due
more_sound stride None phase last (Some copy) steps entries count stored due h = absurd (let e : phase ≡ Waiting = ap (λ (s : Scanning). s.phase) h in let r : phase ≡ Reading = due.0 in waits (sym e ∙ r))
  where
    waits : Waiting ≡ Reading → ⊥
    waits e = cc
more_sound stride (Some ask) Reading last (Some copy) steps entries count stored due h =
    let same : copy ≡ h.copy = some_same copy h.copy h.found in
    record {
      id = h.id;
      copy = h.copy;
      last = h.last;
      found = h.found;
      still = h.still;
      needed = h.needed;
      within = h.within;
      steps = subst (λ c. suc steps ≤ steps_left_open ask.deep stride c) same due.1;
      entries = h.entries;
      before = h.before;
    }
more_sound stride (Some ask) Waiting last (Some copy) steps entries count stored due h = absurd (let e : Waiting ≡ Reading = due.0 in cc)
more_sound stride (Some ask) Between last (Some copy) steps entries count stored due h = absurd (let e : Between ≡ Reading = due.0 in cc)
more_sound stride (Some ask) (Mapped place then) last (Some copy) steps entries count stored due h = absurd (let e : Mapped place then ≡ Reading = due.0 in cc)
more_sound stride (Some ask) (Failed place then faults) last (Some copy) steps entries count stored due h = absurd (let e : Failed place then faults ≡ Reading = due.0 in cc)
more_sound stride (Some ask) Over last (Some copy) steps entries count stored due h = absurd (let e : Over ≡ Reading = due.0 in cc)

-- the copy was passed
passed_between : (stride : ℕ) (ask : Ask) (id : ObjectId) (mark : Mark) (copy seen : ObjCopy) (steps : ℕ) (entries : List Entry) (count : ℕ) (stored : Stored)
    → IsReading stride ask (scan_with (Some ask) Reading (Some id) (Some copy) steps entries) count stored
    → IsBetween ask (scan_with (Some ask) Between (Some id) None 0 (entries ++ entry_seen ask.deep id mark seen ∷ [])) count
passed_between stride ask id mark copy seen steps entries count stored h =
    let is : h.id ≡ id = some_same h.id id (sym h.last) in
    let e : Entry = entry_seen ask.deep id mark seen in
    let eid : e.id ≡ id = seen_id ask.deep id mark seen in
    let before : StandBefore e.id entries = subst (λ o. StandBefore o entries) (is ∙ sym eid) h.before in
    let within : in_range ask.range id.family ≡ true = sym (ap (λ (o : ObjectId). in_range ask.range o.family) is) ∙ h.within in
    let from : is_at_most ask.range.from id.family ≡ true = (both (is_at_most ask.range.from id.family) (is_above ask.range.to id.family) within).0 in
    record {
      needed = h.needed;
      entries = in_range_more ask.range entries e h.entries before (ap (λ (o : ObjectId). in_range ask.range o.family) eid ∙ within);
      behind = λ next ahead. all_more (λ entry. is_before entry.id next ≡ true) entries e
          (all_before id next entries ahead (subst (λ o. StandBefore o entries) eid before)) (ap (λ o. is_before o next) eid ∙ ahead);
      within = λ next ahead. at_most_up ask.range.from id.family next.family (by_family id next (lt_le (position_cmp id next) ahead)) from;
    }

passed_sound : (stride : ℕ) (ask : Option Ask) (phase : Phase) (last : Option ObjectId) (copy : Option ObjCopy) (steps : ℕ) (entries : List Entry) (id : ObjectId) (mark : Mark) (count : ℕ) (stored : Stored)
    → IsPassing stride (scan_with ask phase last copy steps entries) copy id mark → IsSoundScan stride ask (scan_with ask phase last copy steps entries) count stored
    → IsSoundScan stride ask (scan_with ask Between last None 0 (entries ++ seen_entry (is_deep ask) id mark copy)) count stored
passed_sound stride ask phase last None steps entries id mark count stored due h = absurd due
passed_sound stride None phase last (Some copy) steps entries id mark count stored due h =
    absurd (let e : phase ≡ Waiting = ap (λ (s : Scanning). s.phase) h in let r : phase ≡ Reading = due.0 in waits (sym e ∙ r))
  where
    waits : Waiting ≡ Reading → ⊥
    waits e = cc
passed_sound stride (Some ask) phase last (Some copy) steps entries id mark count stored due h =
    let at : IsAt stride Reading ask (scan_with (Some ask) phase last (Some copy) steps entries) count stored =
    subst (λ p. IsAt stride p ask (scan_with (Some ask) phase last (Some copy) steps entries) count stored) due.0 h in
    let reading : IsReading stride ask (scan_with (Some ask) Reading (Some id) (Some copy) steps entries) count stored =
    subst (λ p. IsReading stride ask (scan_with (Some ask) p (Some id) (Some copy) steps entries) count stored) due.0
    (subst (λ l. IsReading stride ask (scan_with (Some ask) phase l (Some copy) steps entries) count stored) due.1 at) in
    subst (λ l. IsBetween ask (scan_with (Some ask) Between l None 0 (entries ++ entry_seen ask.deep id mark copy ∷ [])) count) (sym due.1)
    (passed_between stride ask id mark copy copy steps entries count stored reading)

-- none is left
done_sound : (stride : ℕ) (ask : Option Ask) (phase : Phase) (last : Option ObjectId) (copy : Option ObjCopy) (steps : ℕ) (entries : List Entry) (past : List Event) (place : ℕ)
    → IsListing ask (scan_with ask phase last copy steps entries) past None → IsSoundScan stride ask (scan_with ask phase last copy steps entries) (applied past) (stored_by past)
    → IsSoundScan stride ask (scan_with ask (Mapped place (applied past)) last copy steps entries) (applied past) (stored_by past)
done_sound stride None phase last copy steps entries past place due h = absurd due
done_sound stride (Some ask) Waiting last copy steps entries past place due h =
    let none : entries ≡ [] = ap (λ (s : Scanning). s.entries) h in
    record { needed = due.0; entries = subst (AreInRange ask.range) (sym none) (none_in ask.range) }
done_sound stride (Some ask) Between last copy steps entries past place due h = record { needed = h.needed; entries = h.entries }
done_sound stride (Some ask) Reading last copy steps entries past place due h = absurd due.0
done_sound stride (Some ask) (Mapped at then) last copy steps entries past place due h = absurd due.0
done_sound stride (Some ask) (Failed at then faults) last copy steps entries past place due h = absurd due.0
done_sound stride (Some ask) Over last copy steps entries past place due h = absurd due.0

-- a listing failed
fault_sound : (stride : ℕ) (ask : Option Ask) (s : Scanning) (past : List Event) (count place then faults : ℕ) (stored : Stored) → IsListFailing ask s past faults
    → IsSoundScan stride ask (record s { ask = ask; phase = Failed place then faults }) count stored
fault_sound stride None s past count place then faults stored due = absurd due
fault_sound stride (Some ask) s past count place then faults stored due = tt

-- what it ended with was handed
handed_sound : (stride : ℕ) (ask : Option Ask) (s : Scanning) (count : ℕ) (stored : Stored) → HasEnded s.phase → s.ask ≡ ask → IsSoundScan stride ask s count stored
    → IsSoundScan stride ask (record unasked { ask = ask; phase = Over }) count stored
handed_sound stride None s count stored ended is h = absurd (subst HasEnded (ap (λ (s : Scanning). s.phase) h) ended)
handed_sound stride (Some ask) s count stored ended is h = tt

damage_keeps : (past : List Event) (family : Family) (snap : ℕ) (damage : Damage) → answers.Damaged ≡ damage_answer past family snap damage
    → KeepsCopy (scanning past) (stored_by past) (harmed family snap damage (stored_by past))
damage_keeps past family snap damage e id reading last = damage_leaves past family snap damage id reading last (not_read past family snap damage e)

scan_kept : (stride : ℕ) (s : Scanning) (count more : ℕ) (old new : Stored) → count ≤ more → KeepsCopy s old new → IsSoundScan stride s.ask s count old → IsSoundScan stride s.ask s more new
scan_kept stride s count more old new up keeps h = same_sound stride s.ask s.phase s.last s.copy s.steps s.entries count more old new up keeps h

pub sound : (stride : ℕ) (past : List Event) → IsLegal stride past → IsSoundScan stride (scanning past).ask (scanning past) (applied past) (stored_by past)
sound stride [] legal = refl
sound stride (Fed from items ask ∷ past) legal = asked_sound stride ask (scanning past) (applied past) (stored_by past) (sound stride past legal.1)
sound stride (Applied number drops ∷ past) legal =
    let s : Scanning = scanning past in
    subst (λ n. IsSoundScan stride (after_drop drops s).ask (after_drop drops s) n (after_item (item_of number (fed past)) (stored_by past))) (sym legal.0.0)
    (applied_sound stride s.ask s.phase s.last s.copy s.steps s.entries (item_of number (fed past)) drops (applied past) (stored_by past) legal.0.2 (sound stride past legal.1))
sound stride (DeviceFault count ∷ past) legal = sound stride past legal.1
sound stride (ListFailed count ∷ past) legal = sound stride past legal.1
sound stride (Scanned (Found id) ∷ past) legal =
    let s : Scanning = scanning past in found_sound stride s.ask s.phase s.last s.copy s.steps s.entries past id legal.0 (sound stride past legal.1)
sound stride (Scanned More ∷ past) legal =
    let s : Scanning = scanning past in more_sound stride s.ask s.phase s.last s.copy s.steps s.entries (applied past) (stored_by past) legal.0 (sound stride past legal.1)
sound stride (Scanned (Passed id mark) ∷ past) legal =
    let s : Scanning = scanning past in passed_sound stride s.ask s.phase s.last s.copy s.steps s.entries id mark (applied past) (stored_by past) legal.0 (sound stride past legal.1)
sound stride (Scanned Done ∷ past) legal =
    let s : Scanning = scanning past in done_sound stride s.ask s.phase s.last s.copy s.steps s.entries past (suc (length past)) legal.0 (sound stride past legal.1)
sound stride (Scanned (ListFault count) ∷ past) legal =
    fault_sound stride (scanning past).ask (scanning past) past (applied past) (suc (length past)) (applied past) count (stored_by past) legal.0
sound stride (Handed ∷ past) legal = handed_sound stride (scanning past).ask (scanning past) (applied past) (stored_by past) legal.0 refl (sound stride past legal.1)
sound stride (Damaged family snap damage answers.Damaged ∷ past) legal =
    scan_kept stride (scanning past) (applied past) (applied past) (stored_by past) (harmed family snap damage (stored_by past)) (omega arith) (damage_keeps past family snap damage legal.0) (sound stride past legal.1)
sound stride (Damaged family snap damage answers.BeingRead ∷ past) legal = sound stride past legal.1
sound stride (Damaged family snap damage (answers.ShardFull bytes) ∷ past) legal = sound stride past legal.1
