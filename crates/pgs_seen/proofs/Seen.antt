-- The entries of each scan that ended with a map are what was seen.
use Rattle.std.proofs.Common.{◌≡◌, ℕ, ◌-◌, ◌≤◌, Bool, true, false, cond, List, [], ◌∷◌, ◌++◌, length, drop, Option, Some, None, is_some, ◌⊎◌, inl, inr, refl, sym, ap, subst, ◌∙◌, arith, suc}
use Rattle.std.specs.Prelude.{unwrap_or}
use Rattle.std.specs.Option.{option_or}
use Rattle.std.specs.Ordering.{is_lt, is_le, is_eq, ordering_reverse}
use Rattle.std.specs.declared.cmp.Ordering.{Ordering}
use Rattle.std.specs.declared.cmp.Ordering.TheVariants.{Less, Equal, Greater}
use Rattle.std.specs.Cmp.{tied_itself}
use Rattle.std.proofs.lemmas.List.Folds.{find-append}
use Rattle.pgs_bytes.proofs.Facts.{true_false, some_same, both, joined}
use Rattle.pgs_name.specs.Positions.{position_cmp, is_before, same_position}
use Rattle.pgs_name.specs.declared.object_id.ObjectId.{ObjectId}
use Rattle.pgs_name.proofs.Ordered.{position_total, position_same, by_family}
use Rattle.pgs_range.specs.Ranges.{in_range, is_at_most, is_above}
use Rattle.pgs_range.specs.Listed.{is_behind, IsNext}
use Rattle.pgs_range.specs.declared.cursor.Cursor.{Cursor}
use Rattle.pgs_range.specs.declared.cursor.Cursor.TheVariants.{At, After}
use Rattle.pgs_range.proofs.Tiles.{at_most_up}
use Rattle.pgs_chunk.specs.declared.ask.Ask.{Ask}
use Rattle.pgs_chunk.proofs.Members.{same_position_is}
use Rattle.pgs_copy.specs.declared.obj_copy.ObjCopy.{ObjCopy}
use Rattle.pgs_map.specs.Entries.{entry_at}
use Rattle.pgs_map.specs.declared.entry.Entry.{Entry}
use Rattle.pgs_scan.specs.Seen.{entry_seen}
use Rattle.pgs_scan.specs.declared.mark.Mark.{Mark}
use Rattle.pgs_scan.specs.declared.mark.Mark.TheVariants as marks
use Rattle.pgs_store.specs.Stores.{Stored, is_stored}
use Rattle.pgs_shard_history.specs.Legal.{IsLegal, IsListing, IsGoingOn, IsPassing, MayList}
use Rattle.pgs_shard_history.specs.Scanning.{Scanning, scanning, unasked, is_newer, dropped, cursor_of, is_deep, seen_entry as passed_entries}
use Rattle.pgs_shard_history.specs.Scans.{StandBefore, IsBetween, IsReading, IsAt, IsSoundScan, at_place}
use Rattle.pgs_shard_history.specs.Stores.{applied, stored_by}
use Rattle.pgs_shard_history.specs.declared.event.Event.{Event}
use Rattle.pgs_shard_history.specs.declared.event.Event.TheVariants.{Fed, Applied, DeviceFault, ListFailed, Scanned, Handed, Damaged}
use Rattle.pgs_shard_history.specs.declared.phase.Phase.{Phase}
use Rattle.pgs_shard_history.specs.declared.phase.Phase.TheVariants.{Waiting, Between, Reading, Mapped, Failed, Over}
use Rattle.pgs_shard_history.specs.declared.scan_event.ScanEvent.TheVariants.{Found, More, Passed, Done, ListFault}
use Rattle.pgs_shard_history.proofs.Scans.{sound}
use Rattle.pgs_seen.specs.Seen.{first_kept, seen_by, mark_of, entry_by, IsSeen, AreSeen}

-- ---- entries of positions

less : (o : Ordering) → is_lt o ≡ true → o ≡ Less
less Less e = refl
less Equal e = absurd (true_false (sym e))
less Greater e = absurd (true_false (sym e))

-- entries that all stand before a position aren't of it
before_none : (id : ObjectId) (entries : List Entry) → StandBefore id entries → entry_at id entries ≡ None
before_none id [] h = refl
before_none id (e ∷ entries) h =
    let other : same_position id e.id ≡ false =
    sym (position_same id e.id) ∙ ap is_eq (position_total.antisymm id e.id) ∙ ap (λ r. is_eq (ordering_reverse r)) (less (position_cmp e.id id) h.0) in
    ap (λ b. cond b (Some e) (entry_at id entries)) other ∙ before_none id entries h.1

no_more : (r : Option Entry) → option_or r None ≡ r
no_more None = refl
no_more (Some e) = refl

with_one : (id : ObjectId) (entries : List Entry) (e : Entry) → entry_at id (entries ++ e ∷ []) ≡ option_or (entry_at id entries) (cond (same_position id e.id) (Some e) None)
with_one id entries e = find-append (λ x. same_position id x.id) entries (e ∷ [])

-- an entry of another position changes nothing
beside : (id : ObjectId) (entries : List Entry) (e : Entry) → same_position id e.id ≡ false → entry_at id (entries ++ e ∷ []) ≡ entry_at id entries
beside id entries e other =
    with_one id entries e ∙ ap (λ b. option_or (entry_at id entries) (cond b (Some e) None)) other ∙ no_more (entry_at id entries)

-- one of the position itself is found, where there was none
added : (id : ObjectId) (entries : List Entry) (e : Entry) → same_position id e.id ≡ true → entry_at id entries ≡ None → entry_at id (entries ++ e ∷ []) ≡ Some e
added id entries e own none =
    with_one id entries e ∙ ap (λ r. option_or r (cond (same_position id e.id) (Some e) None)) none ∙ ap (λ b. cond b (Some e) None) own

own_position : (id : ObjectId) → same_position id id ≡ true
own_position id = sym (position_same id id) ∙ ap is_eq (tied_itself position_total id)

seen_id : (deep : Bool) (id : ObjectId) (mark : Mark) (copy : ObjCopy) → (entry_seen deep id mark copy).id ≡ id
seen_id deep id marks.Fine copy = refl
seen_id deep id marks.StatError copy = refl
seen_id deep id marks.ReadError copy = refl

-- what stands behind a position that is behind a cursor is behind that cursor
behind_on : (cursor : Cursor) (id other : ObjectId) → is_behind cursor id ≡ true → position_cmp id other ≡ Less → is_behind cursor other ≡ true
behind_on (At bound) id other h l = at_most_up bound id.family other.family (by_family id other (ap is_le l)) h
behind_on (After last) id other h l = ap is_lt (position_total.trans last id other (less (position_cmp last id) h) l)

-- ---- what was seen of a position by now

-- nothing was found at it or behind it
abbrev IsAhead : Option Stored → Option Mark → Type 0
IsAhead seen mark = (seen ≡ None) × (mark ≡ None)

-- it is being read, and its copy is the one that was stored when it was found
record IsHere (id : ObjectId) (copy : Option ObjCopy) (seen : Option Stored) (mark : Option Mark) : Type 0 where
  stored : Stored
  seen_is : seen ≡ Some stored
  copy_is : stored id.family id.snap ≡ copy
  unmarked : mark ≡ None

-- it was passed, or something behind it was found: its entry is that of what was stored then
record IsPast (deep : Bool) (id : ObjectId) (entries : List Entry) (seen : Option Stored) (mark : Option Mark) : Type 0 where
  stored : Stored
  seen_is : seen ≡ Some stored
  entry_is : entry_at id entries ≡ entry_by deep id mark (stored id.family id.snap)

-- how the position found last, if there is one, stands to it: with none it is still ahead
abbrev toward : Option ObjectId → ObjectId → Ordering
toward None id = Less
toward (Some last) id = position_cmp last id

-- between two copies, and while one is read
abbrev WhileBetween : Ordering → Bool → ObjectId → List Entry → Option Stored → Option Mark → Type 0
WhileBetween Less deep id entries seen mark = IsAhead seen mark
WhileBetween Equal deep id entries seen mark = IsPast deep id entries seen mark
WhileBetween Greater deep id entries seen mark = IsPast deep id entries seen mark

abbrev WhileReading : Ordering → Bool → ObjectId → Option ObjCopy → List Entry → Option Stored → Option Mark → Type 0
WhileReading Less deep id copy entries seen mark = IsAhead seen mark
WhileReading Equal deep id copy entries seen mark = IsHere id copy seen mark
WhileReading Greater deep id copy entries seen mark = IsPast deep id entries seen mark

-- by where the scan is
abbrev IsSeenAt : Phase → Ask → Scanning → ObjectId → Option Stored → Option Mark → Type 0
IsSeenAt Waiting ask s id seen mark = IsAhead seen mark
IsSeenAt Between ask s id seen mark = WhileBetween (toward s.last id) ask.deep id s.entries seen mark
IsSeenAt Reading ask s id seen mark = WhileReading (toward s.last id) ask.deep id s.copy s.entries seen mark
IsSeenAt (Mapped place then) ask s id seen mark = Unit {0}
IsSeenAt (Failed place then faults) ask s id seen mark = Unit {0}
IsSeenAt Over ask s id seen mark = Unit {0}

-- of a position of the ask's range, if there is an ask
abbrev IsSeenNow : Option Ask → Scanning → ObjectId → Option Stored → Option Mark → Type 0
IsSeenNow None s id seen mark = Unit {0}
IsSeenNow (Some ask) s id seen mark = in_range ask.range id.family ≡ true → IsSeenAt s.phase ask s id seen mark

-- ---- each event keeps it so

abbrev scan_with : Option Ask → Phase → Option ObjectId → Option ObjCopy → ℕ → List Entry → Scanning
scan_with ask phase last copy steps entries = record { ask = ask; phase = phase; last = last; copy = copy; steps = steps; entries = entries }

-- a newer ask, or none
asked_seen : (ask : Ask) (s : Scanning) (id : ObjectId) (seen : Option Stored) (mark : Option Mark) (newer : Bool) → IsSeenNow s.ask s id seen mark
    → IsSeenNow (cond newer (record unasked { ask = Some ask }) s).ask (cond newer (record unasked { ask = Some ask }) s) id (cond newer None seen) (cond newer None mark)
asked_seen ask s id seen mark true h = λ within. (refl, refl)
asked_seen ask s id seen mark false h = h

-- an item that drops the scan
lost_at : (phase : Phase) (ask : Ask) (id : ObjectId) → IsSeenAt (dropped phase) ask (record unasked { ask = Some ask; phase = dropped phase }) id None None
lost_at Waiting ask id = (refl, refl)
lost_at Between ask id = (refl, refl)
lost_at Reading ask id = (refl, refl)
lost_at (Mapped place then) ask id = tt
lost_at (Failed place then faults) ask id = tt
lost_at Over ask id = tt

lost_seen : (ask : Option Ask) (phase : Phase) (id : ObjectId) → IsSeenNow ask (record unasked { ask = ask; phase = dropped phase }) id None None
lost_seen None phase id = tt
lost_seen (Some ask) phase id = λ within. lost_at phase ask id

-- where a scan looks for the next position: this one is still to come, and has no entry
record IsToCome (cursor : Cursor) (id : ObjectId) (entries : List Entry) (seen : Option Stored) (mark : Option Mark) : Type 0 where
  behind : is_behind cursor id ≡ true
  ahead : IsAhead seen mark
  none : entry_at id entries ≡ None

-- or it is past
record IsGone (deep : Bool) (cursor : Cursor) (id : ObjectId) (entries : List Entry) (seen : Option Stored) (mark : Option Mark) : Type 0 where
  before : is_behind cursor id ≡ false
  past : IsPast deep id entries seen mark

between_either : (ask : Ask) (last : Option ObjectId) (copy : Option ObjCopy) (steps : ℕ) (entries : List Entry) (count : ℕ) (id : ObjectId) (seen : Option Stored) (mark : Option Mark)
    → in_range ask.range id.family ≡ true → IsBetween ask (scan_with (Some ask) Between last copy steps entries) count → WhileBetween (toward last id) ask.deep id entries seen mark
    → IsToCome (cursor_of ask last) id entries seen mark ⊎ IsGone ask.deep (cursor_of ask last) id entries seen mark
between_either ask None copy steps entries count id seen mark within h now =
    let from : is_at_most ask.range.from id.family ≡ true = (both (is_at_most ask.range.from id.family) (is_above ask.range.to id.family) within).0 in
    inl (record { behind = from; ahead = now; none = before_none id entries (h.behind id from) })
between_either ask (Some last) copy steps entries count id seen mark within h now =
    let P : Ordering → Type 0 = λ v. position_cmp last id ≡ v → WhileBetween v ask.deep id entries seen mark
    → IsToCome (After last) id entries seen mark ⊎ IsGone ask.deep (After last) id entries seen mark in
    (elim (position_cmp last id) as P [
      | Less ↦ λ e w. inl (record { behind = ap is_lt e; ahead = w; none = before_none id entries (h.behind id (ap is_lt e)) })
      | Equal ↦ λ e w. inr (record { before = ap is_lt e; past = w })
      | Greater ↦ λ e w. inr (record { before = ap is_lt e; past = w })
    ]) refl now

-- either one or the other, before a listing
due_either : (stride : ℕ) (phase : Phase) (ask : Ask) (last : Option ObjectId) (copy : Option ObjCopy) (steps : ℕ) (entries : List Entry) (count : ℕ) (stored : Stored) (id : ObjectId) (seen : Option Stored) (mark : Option Mark)
    → MayList phase ask count → IsAt stride phase ask (scan_with (Some ask) phase last copy steps entries) count stored
    → in_range ask.range id.family ≡ true → IsSeenAt phase ask (scan_with (Some ask) phase last copy steps entries) id seen mark
    → IsToCome (cursor_of ask last) id entries seen mark ⊎ IsGone ask.deep (cursor_of ask last) id entries seen mark
due_either stride Waiting ask last copy steps entries count stored id seen mark may h within now =
    let first : last ≡ None = ap (λ (s : Scanning). s.last) h in
    let none : entries ≡ [] = ap (λ (s : Scanning). s.entries) h in
    let from : is_at_most ask.range.from id.family ≡ true = (both (is_at_most ask.range.from id.family) (is_above ask.range.to id.family) within).0 in
    inl (record { behind = ap (λ l. is_behind (cursor_of ask l) id) first ∙ from; ahead = now; none = ap (entry_at id) none })
due_either stride Between ask last copy steps entries count stored id seen mark may h within now = between_either ask last copy steps entries count id seen mark within h now
due_either stride Reading ask last copy steps entries count stored id seen mark may h within now = absurd may
due_either stride (Mapped place then) ask last copy steps entries count stored id seen mark may h within now = absurd may
due_either stride (Failed place then faults) ask last copy steps entries count stored id seen mark may h within now = absurd may
due_either stride Over ask last copy steps entries count stored id seen mark may h within now = absurd may

-- nothing is stored there
not_stored : (stored : Stored) (id : ObjectId) → (is_stored stored id ≡ true → ⊥) → stored id.family id.snap ≡ None
not_stored stored id never = by (stored id.family id.snap) never
  where
    by : (copy : Option ObjCopy) → (is_some copy ≡ true → ⊥) → copy ≡ None
    by None f = refl
    by (Some copy) f = absurd (f refl)

-- a position was found
found_to_come : (ask : Ask) (cursor : Cursor) (entries : List Entry) (stored : Stored) (found id : ObjectId) (seen : Option Stored) (mark : Option Mark)
    → in_range ask.range id.family ≡ true → IsNext (is_stored stored) cursor ask.range.to (Some found) → IsToCome cursor id entries seen mark
    → WhileReading (position_cmp found id) ask.deep id (stored found.family found.snap) entries (cond (is_before found id) seen (first_kept seen stored)) mark
found_to_come ask cursor entries stored found id seen mark within next h =
    let first : first_kept seen stored ≡ Some stored = ap (λ s. first_kept s stored) h.ahead.0 in
    let P : Ordering → Type 0 = λ v. position_cmp found id ≡ v → WhileReading v ask.deep id (stored found.family found.snap) entries (cond (is_lt v) seen (first_kept seen stored)) mark in
    (elim (position_cmp found id) as P [
      | Less ↦ λ e. h.ahead
      | Equal ↦ λ e.
          let same : found ≡ id = same_position_is found id (sym (position_same found id) ∙ ap is_eq e) in
          record { stored = stored; seen_is = first; copy_is = ap (λ (o : ObjectId). stored o.family o.snap) (sym same); unmarked = h.ahead.1 }
      | Greater ↦ λ e.
          let above : is_above ask.range.to id.family ≡ true = (both (is_at_most ask.range.from id.family) (is_above ask.range.to id.family) within).1 in
          let none : stored id.family id.snap ≡ None =
          not_stored stored id (λ there. true_false (sym (next.2 id there (joined (is_behind cursor id) (is_above ask.range.to id.family) h.behind above)) ∙ ap is_le e)) in
          record { stored = stored; seen_is = first; entry_is = h.none ∙ sym (ap (entry_by ask.deep id mark) none) }
    ]) refl

found_gone : (ask : Ask) (cursor : Cursor) (entries : List Entry) (stored : Stored) (found id : ObjectId) (seen : Option Stored) (mark : Option Mark)
    → IsNext (is_stored stored) cursor ask.range.to (Some found) → IsGone ask.deep cursor id entries seen mark
    → WhileReading (position_cmp found id) ask.deep id (stored found.family found.snap) entries (cond (is_before found id) seen (first_kept seen stored)) mark
found_gone ask cursor entries stored found id seen mark next h =
    let behind : is_behind cursor found ≡ true = (both (is_behind cursor found) (is_above ask.range.to found.family) next.1).0 in
    let P : Ordering → Type 0 = λ v. position_cmp found id ≡ v → WhileReading v ask.deep id (stored found.family found.snap) entries (cond (is_lt v) seen (first_kept seen stored)) mark in
    (elim (position_cmp found id) as P [
      | Less ↦ λ e. absurd (true_false (sym (behind_on cursor found id behind e) ∙ h.before))
      | Equal ↦ λ e.
          let same : found ≡ id = same_position_is found id (sym (position_same found id) ∙ ap is_eq e) in
          absurd (true_false (sym behind ∙ ap (is_behind cursor) same ∙ h.before))
      | Greater ↦ λ e.
          let past = h.past in
          record { stored = past.stored; seen_is = ap (λ s. first_kept s stored) past.seen_is; entry_is = past.entry_is }
    ]) refl

found_seen : (stride : ℕ) (ask : Option Ask) (phase : Phase) (last : Option ObjectId) (copy : Option ObjCopy) (steps : ℕ) (entries : List Entry) (past : List Event) (found id : ObjectId) (seen : Option Stored) (mark : Option Mark)
    → IsListing ask (scan_with ask phase last copy steps entries) past (Some found) → IsSoundScan stride ask (scan_with ask phase last copy steps entries) (applied past) (stored_by past)
    → IsSeenNow ask (scan_with ask phase last copy steps entries) id seen mark
    → IsSeenNow ask (scan_with ask Reading (Some found) (stored_by past found.family found.snap) 0 entries) id (cond (is_before found id) seen (first_kept seen (stored_by past))) mark
found_seen stride None phase last copy steps entries past found id seen mark due h now = tt
found_seen stride (Some ask) phase last copy steps entries past found id seen mark due h now = λ within.
    elim (due_either stride phase ask last copy steps entries (applied past) (stored_by past) id seen mark due.0 h within (now within)) [
      | inl coming ↦ found_to_come ask (cursor_of ask last) entries (stored_by past) found id seen mark within due.1 coming
      | inr gone ↦ found_gone ask (cursor_of ask last) entries (stored_by past) found id seen mark due.1 gone
    ]

-- more is left
more_seen : (ask : Option Ask) (phase : Phase) (last : Option ObjectId) (copy : Option ObjCopy) (steps : ℕ) (entries : List Entry) (id : ObjectId) (seen : Option Stored) (mark : Option Mark)
    → IsSeenNow ask (scan_with ask phase last copy steps entries) id seen mark → IsSeenNow ask (scan_with ask phase last copy (suc steps) entries) id seen mark
more_seen None phase last copy steps entries id seen mark now = tt
more_seen (Some ask) Waiting last copy steps entries id seen mark now = now
more_seen (Some ask) Between last copy steps entries id seen mark now = now
more_seen (Some ask) Reading last copy steps entries id seen mark now = now
more_seen (Some ask) (Mapped place then) last copy steps entries id seen mark now = now
more_seen (Some ask) (Failed place then faults) last copy steps entries id seen mark now = now
more_seen (Some ask) Over last copy steps entries id seen mark now = now

-- the copy was passed
passed_here : (deep : Bool) (id : ObjectId) (mark : Mark) (copy : ObjCopy) (entries : List Entry) (seen : Option Stored) (old : Option Mark) → StandBefore id entries → IsHere id (Some copy) seen old
    → IsPast deep id (entries ++ entry_seen deep id mark copy ∷ []) seen (Some mark)
passed_here deep id mark copy entries seen old before h =
    let e : Entry = entry_seen deep id mark copy in
    let own : same_position id e.id ≡ true = ap (same_position id) (seen_id deep id mark copy) ∙ own_position id in
    record { stored = h.stored; seen_is = h.seen_is; entry_is = added id entries e own (before_none id entries before) ∙ sym (ap (entry_by deep id (Some mark)) h.copy_is) }

passed_by : (deep : Bool) (passed id : ObjectId) (mark : Mark) (copy : ObjCopy) (entries : List Entry) (seen : Option Stored) (old : Option Mark) → StandBefore passed entries
    → WhileReading (position_cmp passed id) deep id (Some copy) entries seen old
    → WhileBetween (position_cmp passed id) deep id (entries ++ entry_seen deep passed mark copy ∷ []) seen (cond (same_position passed id) (Some mark) old)
passed_by deep passed id mark copy entries seen old before now =
    let e : Entry = entry_seen deep passed mark copy in
    let P : Ordering → Type 0 = λ v. position_cmp passed id ≡ v → WhileReading v deep id (Some copy) entries seen old
    → WhileBetween v deep id (entries ++ e ∷ []) seen (cond (is_eq v) (Some mark) old) in
    let all : WhileBetween (position_cmp passed id) deep id (entries ++ e ∷ []) seen (cond (is_eq (position_cmp passed id)) (Some mark) old) =
    (elim (position_cmp passed id) as P [
      | Less ↦ λ c w. w
      | Equal ↦ λ c w.
          let same : passed ≡ id = same_position_is passed id (sym (position_same passed id) ∙ ap is_eq c) in
          subst (λ o. IsPast deep o (entries ++ e ∷ []) seen (Some mark)) same
          (passed_here deep passed mark copy entries seen old before (subst (λ o. IsHere o (Some copy) seen old) (sym same) w))
      | Greater ↦ λ c w.
          let other : same_position id e.id ≡ false =
          ap (same_position id) (seen_id deep passed mark copy) ∙ sym (position_same id passed) ∙ ap is_eq (position_total.antisymm id passed) ∙ ap (λ r. is_eq (ordering_reverse r)) c in
          record { stored = w.stored; seen_is = w.seen_is; entry_is = beside id entries e other ∙ w.entry_is }
    ]) refl now in
    subst (λ b. WhileBetween (position_cmp passed id) deep id (entries ++ e ∷ []) seen (cond b (Some mark) old)) (position_same passed id) all

passed_seen : (stride : ℕ) (ask : Option Ask) (phase : Phase) (last : Option ObjectId) (copy : Option ObjCopy) (steps : ℕ) (entries : List Entry) (passed : ObjectId) (mark : Mark) (count : ℕ) (stored : Stored)
    (id : ObjectId) (seen : Option Stored) (old : Option Mark)
    → IsPassing stride (scan_with ask phase last copy steps entries) copy passed mark → IsSoundScan stride ask (scan_with ask phase last copy steps entries) count stored
    → IsSeenNow ask (scan_with ask phase last copy steps entries) id seen old
    → IsSeenNow ask (scan_with ask Between last None 0 (entries ++ passed_entries (is_deep ask) passed mark copy)) id seen (cond (same_position passed id) (Some mark) old)
passed_seen stride ask phase last None steps entries passed mark count stored id seen old due h now = absurd due
passed_seen stride None phase last (Some copy) steps entries passed mark count stored id seen old due h now = tt
passed_seen stride (Some ask) phase last (Some copy) steps entries passed mark count stored id seen old due h now = λ within.
    let at : IsReading stride ask (scan_with (Some ask) phase last (Some copy) steps entries) count stored =
    subst (λ p. IsAt stride p ask (scan_with (Some ask) phase last (Some copy) steps entries) count stored) due.0 h in
    let is : at.id ≡ passed = some_same at.id passed (sym at.last ∙ due.1) in
    let reading : WhileReading (toward last id) ask.deep id (Some copy) entries seen old =
    subst (λ p. IsSeenAt p ask (scan_with (Some ask) phase last (Some copy) steps entries) id seen old) due.0 (now within) in
    subst (λ l. WhileBetween (toward l id) ask.deep id (entries ++ entry_seen ask.deep passed mark copy ∷ []) seen (cond (same_position passed id) (Some mark) old)) (sym due.1)
    (passed_by ask.deep passed id mark copy entries seen old (subst (λ o. StandBefore o entries) is at.before)
    (subst (λ l. WhileReading (toward l id) ask.deep id (Some copy) entries seen old) due.1 reading))

-- it ended, or what it ended with was handed
over_seen : (ask : Option Ask) (id : ObjectId) (seen : Option Stored) (mark : Option Mark) → IsSeenNow ask (record unasked { ask = ask; phase = Over }) id seen mark
over_seen None id seen mark = tt
over_seen (Some ask) id seen mark = λ within. tt

mapped_seen : (ask : Option Ask) (s : Scanning) (place then : ℕ) (id : ObjectId) (seen : Option Stored) (mark : Option Mark) → IsSeenNow ask (record s { phase = Mapped place then }) id seen mark
mapped_seen None s place then id seen mark = tt
mapped_seen (Some ask) s place then id seen mark = λ within. tt

failed_seen : (ask : Option Ask) (s : Scanning) (place then faults : ℕ) (id : ObjectId) (seen : Option Stored) (mark : Option Mark) → IsSeenNow ask (record s { phase = Failed place then faults }) id seen mark
failed_seen None s place then faults id seen mark = tt
failed_seen (Some ask) s place then faults id seen mark = λ within. tt

-- it is so in each legal history
seen_now : (stride : ℕ) (past : List Event) → IsLegal stride past → (id : ObjectId) → IsSeenNow (scanning past).ask (scanning past) id (seen_by id past) (mark_of id past)
seen_now stride [] legal id = tt
seen_now stride (Fed from items None ∷ past) legal id = seen_now stride past legal.1 id
seen_now stride (Fed from items (Some ask) ∷ past) legal id =
    let s : Scanning = scanning past in asked_seen ask s id (seen_by id past) (mark_of id past) (is_newer ask s.ask) (seen_now stride past legal.1 id)
seen_now stride (Applied number None ∷ past) legal id = seen_now stride past legal.1 id
seen_now stride (Applied number (Some chunk) ∷ past) legal id = lost_seen (scanning past).ask (scanning past).phase id
seen_now stride (DeviceFault count ∷ past) legal id = seen_now stride past legal.1 id
seen_now stride (ListFailed count ∷ past) legal id = seen_now stride past legal.1 id
seen_now stride (Scanned (Found found) ∷ past) legal id =
    let s : Scanning = scanning past in
    found_seen stride s.ask s.phase s.last s.copy s.steps s.entries past found id (seen_by id past) (mark_of id past) legal.0 (sound stride past legal.1) (seen_now stride past legal.1 id)
seen_now stride (Scanned More ∷ past) legal id =
    let s : Scanning = scanning past in more_seen s.ask s.phase s.last s.copy s.steps s.entries id (seen_by id past) (mark_of id past) (seen_now stride past legal.1 id)
seen_now stride (Scanned (Passed passed mark) ∷ past) legal id =
    let s : Scanning = scanning past in
    passed_seen stride s.ask s.phase s.last s.copy s.steps s.entries passed mark (applied past) (stored_by past) id (seen_by id past) (mark_of id past) legal.0 (sound stride past legal.1) (seen_now stride past legal.1 id)
seen_now stride (Scanned Done ∷ past) legal id = mapped_seen (scanning past).ask (scanning past) (suc (length past)) (applied past) id (seen_by id past) (mark_of id past)
seen_now stride (Scanned (ListFault count) ∷ past) legal id = failed_seen (scanning past).ask (scanning past) (suc (length past)) (applied past) count id (seen_by id past) (mark_of id past)
seen_now stride (Handed ∷ past) legal id = over_seen (scanning past).ask id None None
seen_now stride (Damaged family snap damage answer ∷ past) legal id = seen_now stride past legal.1 id

-- ---- the end

-- none is left
done_by : (ask : Ask) (cursor : Cursor) (entries : List Entry) (stored : Stored) (id : ObjectId) (seen : Option Stored) (mark : Option Mark)
    → in_range ask.range id.family ≡ true → IsNext (is_stored stored) cursor ask.range.to None → IsToCome cursor id entries seen mark ⊎ IsGone ask.deep cursor id entries seen mark
    → entry_at id entries ≡ entry_by ask.deep id mark (unwrap_or seen stored id.family id.snap)
done_by ask cursor entries stored id seen mark within next (inl coming) =
    let above : is_above ask.range.to id.family ≡ true = (both (is_at_most ask.range.from id.family) (is_above ask.range.to id.family) within).1 in
    let none : stored id.family id.snap ≡ None =
    not_stored stored id (λ there. next id there (joined (is_behind cursor id) (is_above ask.range.to id.family) coming.behind above)) in
    coming.none ∙ sym (ap (λ s. entry_by ask.deep id mark (unwrap_or s stored id.family id.snap)) coming.ahead.0 ∙ ap (entry_by ask.deep id mark) none)
done_by ask cursor entries stored id seen mark within next (inr gone) =
    gone.past.entry_is ∙ sym (ap (λ s. entry_by ask.deep id mark (unwrap_or s stored id.family id.snap)) gone.past.seen_is)

done_seen : (stride : ℕ) (ask : Ask) (phase : Phase) (last : Option ObjectId) (copy : Option ObjCopy) (steps : ℕ) (entries : List Entry) (past : List Event)
    → IsListing (Some ask) (scan_with (Some ask) phase last copy steps entries) past None
    → IsSoundScan stride (Some ask) (scan_with (Some ask) phase last copy steps entries) (applied past) (stored_by past)
    → ((id : ObjectId) → IsSeenNow (Some ask) (scan_with (Some ask) phase last copy steps entries) id (seen_by id past) (mark_of id past)) → IsSeen ask entries past
done_seen stride ask phase last copy steps entries past due h now = λ id within.
    done_by ask (cursor_of ask last) entries (stored_by past) id (seen_by id past) (mark_of id past) within due.1
    (due_either stride phase ask last copy steps entries (applied past) (stored_by past) id (seen_by id past) (mark_of id past) due.0 h within (now id within))

-- when a scan ends with a map, its entries are what it saw
pub ended : (stride : ℕ) (past : List Event) (ask : Ask) → IsLegal stride (Scanned Done ∷ past) → (scanning past).ask ≡ Some ask → IsSeen ask (scanning past).entries (Scanned Done ∷ past)
ended stride past ask legal asked =
    let s : Scanning = scanning past in
    let of : Option Ask → Scanning = λ a. scan_with a s.phase s.last s.copy s.steps s.entries in
    done_seen stride ask s.phase s.last s.copy s.steps s.entries past
    (subst (λ a. IsListing a (of a) past None) asked legal.0)
    (subst (λ a. IsSoundScan stride a (of a) (applied past) (stored_by past)) asked (sound stride past legal.1))
    (λ id. subst (λ a. IsSeenNow a (of a) id (seen_by id past) (mark_of id past)) asked (seen_now stride past legal.1 id))

-- ---- what comes behind the end changes nothing

-- entries are what was seen at a place that the history has reached
record IsKept (ask : Ask) (entries : List Entry) (past : List Event) (place : ℕ) : Type 0 where
  within : place ≤ length past
  seen : IsSeen ask entries (at_place place past)

one_left : (n place : ℕ) → place ≤ n → suc n - place ≡ suc (n - place)
one_left n place h = omega (arith, h)

none_left : (n place : ℕ) → n ≡ place → n - place ≡ 0
none_left n place h = omega (arith, h)

kept_more : (event : Event) (past : List Event) (place : ℕ) (ask : Ask) (entries : List Entry) → IsKept ask entries past place → IsKept ask entries (event ∷ past) place
kept_more event past place ask entries h = record {
  within = let l = h.within in omega (arith, l);
  seen = subst (λ n. IsSeen ask entries (drop n (event ∷ past))) (sym (one_left (length past) place h.within)) h.seen;
}

kept_at_end : (event : Event) (past : List Event) (place : ℕ) (ask : Ask) (entries : List Entry) → suc (length past) ≡ place → IsSeen ask entries (event ∷ past) → IsKept ask entries (event ∷ past) place
kept_at_end event past place ask entries is h = record {
  within = omega (arith, is);
  seen = subst (λ n. IsSeen ask entries (drop n (event ∷ past))) (sym (none_left (suc (length past)) place is)) h;
}

never_dropped : (phase : Phase) (place count : ℕ) → dropped phase ≡ Mapped place count → ⊥
never_dropped Waiting place count e = cc
never_dropped Between place count e = cc
never_dropped Reading place count e = cc
never_dropped (Mapped p c) place count e = cc
never_dropped (Failed p c f) place count e = cc
never_dropped Over place count e = cc

never_going_on : (stride : ℕ) (s : Scanning) (copy : Option ObjCopy) (place count : ℕ) → IsGoingOn stride s copy → s.phase ≡ Mapped place count → ⊥
never_going_on stride s None place count h e = h
never_going_on stride s (Some copy) place count h e = let reads : s.phase ≡ Reading = h.0 in cc

asked_kept : (event : Event) (past : List Event) (newest : Ask) (s : Scanning) (newer : Bool) (place count : ℕ) (ask : Ask)
    → (s.phase ≡ Mapped place count → s.ask ≡ Some ask → IsKept ask s.entries past place)
    → (cond newer (record unasked { ask = Some newest }) s).phase ≡ Mapped place count → (cond newer (record unasked { ask = Some newest }) s).ask ≡ Some ask
    → IsKept ask (cond newer (record unasked { ask = Some newest }) s).entries (event ∷ past) place
asked_kept event past newest s true place count ask h e asked = absurd cc
asked_kept event past newest s false place count ask h e asked = kept_more event past place ask s.entries (h e asked)

kept : (stride : ℕ) (past : List Event) → IsLegal stride past → (place count : ℕ) (ask : Ask) → (scanning past).phase ≡ Mapped place count → (scanning past).ask ≡ Some ask
    → IsKept ask (scanning past).entries past place
kept stride [] legal place count ask e asked = absurd cc
kept stride (Fed from items None ∷ past) legal place count ask e asked = kept_more (Fed from items None) past place ask (scanning past).entries (kept stride past legal.1 place count ask e asked)
kept stride (Fed from items (Some newest) ∷ past) legal place count ask e asked =
    let s : Scanning = scanning past in
    asked_kept (Fed from items (Some newest)) past newest s (is_newer newest s.ask) place count ask (kept stride past legal.1 place count ask) e asked
kept stride (Applied number None ∷ past) legal place count ask e asked = kept_more (Applied number None) past place ask (scanning past).entries (kept stride past legal.1 place count ask e asked)
kept stride (Applied number (Some chunk) ∷ past) legal place count ask e asked = absurd (never_dropped (scanning past).phase place count e)
kept stride (DeviceFault faults ∷ past) legal place count ask e asked = kept_more (DeviceFault faults) past place ask (scanning past).entries (kept stride past legal.1 place count ask e asked)
kept stride (ListFailed faults ∷ past) legal place count ask e asked = kept_more (ListFailed faults) past place ask (scanning past).entries (kept stride past legal.1 place count ask e asked)
kept stride (Scanned (Found id) ∷ past) legal place count ask e asked = absurd cc
kept stride (Scanned More ∷ past) legal place count ask e asked = absurd (never_going_on stride (scanning past) (scanning past).copy place count legal.0 e)
kept stride (Scanned (Passed id mark) ∷ past) legal place count ask e asked = absurd cc
kept stride (Scanned Done ∷ past) legal place count ask e asked =
    let is : suc (length past) ≡ place = cc in
    kept_at_end (Scanned Done) past place ask (scanning past).entries is (ended stride past ask legal asked)
kept stride (Scanned (ListFault faults) ∷ past) legal place count ask e asked = absurd cc
kept stride (Handed ∷ past) legal place count ask e asked = absurd cc
kept stride (Damaged family snap damage answer ∷ past) legal place count ask e asked =
    kept_more (Damaged family snap damage answer) past place ask (scanning past).entries (kept stride past legal.1 place count ask e asked)

-- in each legal history whose newest scan ended with a map, its entries are what it had seen when it ended
pub seen : (stride : ℕ) (past : List Event) → IsLegal stride past → AreSeen past
seen stride past legal = λ place count ask e asked. (kept stride past legal place count ask e asked).seen
