-- Each step of a scan keeps a shard tied to its history, and is due.
use Rattle.std.proofs.Common.{◌≡◌, ℕ, zero, suc, ◌+◌, ◌<◌, ◌≤◌, Bool, true, false, cond, List, [], ◌∷◌, ◌++◌, length, Option, Some, None, is_some, Result, Ok, Err, refl, sym, ap, subst, ◌∙◌, arith}
use Rattle.std.specs.Prelude.{nat_lt, option_map, max, IfSome}
use Rattle.std.proofs.lemmas.Bool.Decides.{nat_tests}
use Rattle.pgs_bytes.proofs.Facts.{some_same, some_none, true_false}
use Rattle.pgs_cause.specs.Count.{Rose}
use Rattle.pgs_name.specs.declared.object_id.ObjectId.{ObjectId}
use Rattle.pgs_range.specs.Listed.{IsNext}
use Rattle.pgs_chunk.specs.declared.ask.Ask.{Ask}
use Rattle.pgs_copy.specs.Pairs.{Pairs}
use Rattle.pgs_copy.specs.declared.obj_copy.ObjCopy.{ObjCopy}
use Rattle.pgs_map.specs.Entries.{entry_of}
use Rattle.pgs_map.specs.declared.entry.Entry.{Entry}
use Rattle.pgs_map.specs.declared.scrub_map.ScrubMap.{ScrubMap}
use Rattle.pgs_medium.specs.Device.{Device, listed, IsFailed}
use Rattle.pgs_medium.specs.declared.call_kind.CallKind.TheVariants as kinds
use Rattle.pgs_medium.specs.declared.item.Item.{Item}
use Rattle.pgs_medium.specs.declared.medium_error.MediumError.{MediumError}
use Rattle.pgs_medium.specs.declared.medium_error.MediumError.TheVariants as errors
use Rattle.pgs_scan.specs.Calls.{IsOnlyRead, IsCalled, AreCalled, IsStatFailure, IsBegun, IsReadOnAt, IsReadOn, kind_of}
use Rattle.pgs_scan.specs.Reads.{Read, read_after, steps_left_open, strides, pages, parts}
use Rattle.pgs_scan.specs.Seen.{entry_seen, entry_without_digests, unread_entry, half_read_entry}
use Rattle.pgs_scan.specs.Steps.{IsFrontAt, begun, read_on, leaves_more, has_data_left, with_stride, with_page}
use Rattle.pgs_scan.specs.declared.mark.Mark.{Mark}
use Rattle.pgs_scan.specs.declared.mark.Mark.TheVariants as marks
use Rattle.pgs_scan.specs.declared.reading_step.ReadingStep.{ReadingStep}
use Rattle.pgs_scan.specs.declared.reading_step.ReadingStep.TheVariants as readings
use Rattle.pgs_scan.proofs.Calls.{begun_kept, kept_store}
use Rattle.pgs_scan.proofs.Steps.{read_first, read_further, more_is, read_whole, front_after}
use Rattle.pgs_scan.proofs.Parts.{not_below_is}
use Rattle.pgs_scan.proofs.Scans.{half_seen}
use Rattle.pgs_store.specs.Stores.{Stored, is_stored}
use Rattle.pgs_shard_history.specs.Legal.{MayList, IsListing, IsListFailing, IsGoingOn, IsPassing, IsMarked}
use Rattle.pgs_shard_history.specs.Scanning.{Scanning, scanning, after_scan, cursor_of, is_deep, seen_entry}
use Rattle.pgs_shard_history.specs.Scans.{IsReading, IsAt, IsSoundScan, map_of}
use Rattle.pgs_shard_history.specs.Stores.{applied, stored_by, last_count}
use Rattle.pgs_shard_history.specs.declared.event.Event.{Event}
use Rattle.pgs_shard_history.specs.declared.event.Event.TheVariants.{Scanned}
use Rattle.pgs_shard_history.specs.declared.phase.Phase.{Phase}
use Rattle.pgs_shard_history.specs.declared.phase.Phase.TheVariants as phases
use Rattle.pgs_shard_history.specs.declared.scan_event.ScanEvent.TheVariants as events
use Rattle.pgs_shard_history.proofs.Scans.{sound}
use Rattle.pgs_shard.specs.Scan.{Scan, scan_of, reading_of, entries_of, map_made, due_at, due_in, found, going_on, passed, mapped, failed, handed, handed_by, handed_at, cleared, after_handing, HasRoomToHand}
use Rattle.pgs_shard.specs.Scan as kept
use Rattle.pgs_shard.specs.Scans.{IsIdle, IsIdleIn, IsEarly, IsReadCall, IsHandedInRange, handed_in}
use Rattle.pgs_shard.specs.Scans as told
use Rattle.pgs_shard.specs.State.{IsTied}
use Rattle.pgs_shard.specs.Steps.{IsListedFor, MayListNext, IsStatNext, IsReadNext, IsFrontOf, IsReadFor, IsReadBy}
use Rattle.pgs_shard.specs.declared.scan_due.ScanDue.{ScanDue}
use Rattle.pgs_shard.specs.declared.scan_due.ScanDue.TheVariants as dues
use Rattle.pgs_shard.proofs.Ties.{tied_read, tied_step, rose_from, room_kept}

below_is : (a b : ℕ) → nat_lt a b ≡ true → a < b
below_is a b h = grind (arith, nat_tests)

-- ---- what is due

idle_first : (count needed : ℕ) (early : Bool) → dues.Idle ≡ cond early (dues.NotYet count needed) dues.Next → ⊥
idle_first count needed true e = cc
idle_first count needed false e = cc

idle_at : (phase : Phase) (reading : Option Read) (ask : Ask) (count : ℕ) → dues.Idle ≡ due_at phase reading ask count → IsIdleIn phase
idle_at phases.Waiting reading ask count e = idle_first count ask.needed (nat_lt count ask.needed) e
idle_at phases.Between reading ask count e = cc
idle_at phases.Reading None ask count e = cc
idle_at phases.Reading (Some reading) ask count e = cc
idle_at (phases.Mapped place then) reading ask count e = tt
idle_at (phases.Failed place then faults) reading ask count e = tt
idle_at phases.Over reading ask count e = tt

abbrev IsEarlyAt : Phase → Ask → ℕ → ℕ → ℕ → Type 0
IsEarlyAt phase ask count told needed = (phase ≡ phases.Waiting) × (needed ≡ ask.needed) × (told ≡ count) × (told < needed)

early_first : (ask : Ask) (count told needed : ℕ) (early : Bool) → nat_lt count ask.needed ≡ early → dues.NotYet told needed ≡ cond early (dues.NotYet count ask.needed) dues.Next
    → IsEarlyAt phases.Waiting ask count told needed
early_first ask count told needed true h e =
    let n : needed ≡ ask.needed = cc in
    let c : told ≡ count = cc in
    (refl, n, c, subst (λ k. k < needed) (sym c) (subst (λ k. count < k) (sym n) (below_is count ask.needed h)))
early_first ask count told needed false h e = absurd (cc)

early_at : (phase : Phase) (reading : Option Read) (ask : Ask) (count told needed : ℕ) → dues.NotYet told needed ≡ due_at phase reading ask count → IsEarlyAt phase ask count told needed
early_at phases.Waiting reading ask count told needed e = early_first ask count told needed (nat_lt count ask.needed) refl e
early_at phases.Between reading ask count told needed e = absurd (cc)
early_at phases.Reading None ask count told needed e = absurd (cc)
early_at phases.Reading (Some reading) ask count told needed e = absurd (cc)
early_at (phases.Mapped place then) reading ask count told needed e = absurd (cc)
early_at (phases.Failed place then faults) reading ask count told needed e = absurd (cc)
early_at phases.Over reading ask count told needed e = absurd (cc)

next_first : (count needed : ℕ) (early : Bool) → nat_lt count needed ≡ early → dues.Next ≡ cond early (dues.NotYet count needed) dues.Next → needed ≤ count
next_first count needed true h e = absurd (cc)
next_first count needed false h e = not_below_is count needed h

next_at : (phase : Phase) (reading : Option Read) (ask : Ask) (count : ℕ) → dues.Next ≡ due_at phase reading ask count → MayList phase ask count
next_at phases.Waiting reading ask count e = next_first count ask.needed (nat_lt count ask.needed) refl e
next_at phases.Between reading ask count e = tt
next_at phases.Reading None ask count e = cc
next_at phases.Reading (Some reading) ask count e = cc
next_at (phases.Mapped place then) reading ask count e = cc
next_at (phases.Failed place then faults) reading ask count e = cc
next_at phases.Over reading ask count e = cc

not_first : (due : ScanDue) (count needed : ℕ) (early : Bool) → (due ≡ dues.NotYet count needed → ⊥) → (due ≡ dues.Next → ⊥) → due ≡ cond early (dues.NotYet count needed) dues.Next → ⊥
not_first due count needed true a b e = a e
not_first due count needed false a b e = b e

stat_early : (count needed : ℕ) → dues.Stat ≡ dues.NotYet count needed → ⊥
stat_early count needed e = cc

stat_next : dues.Stat ≡ dues.Next → ⊥
stat_next e = cc

read_early : (count needed : ℕ) → dues.Read ≡ dues.NotYet count needed → ⊥
read_early count needed e = cc

read_next : dues.Read ≡ dues.Next → ⊥
read_next e = cc

stat_at : (phase : Phase) (reading : Option Read) (ask : Ask) (count : ℕ) → dues.Stat ≡ due_at phase reading ask count → (phase ≡ phases.Reading) × (reading ≡ None)
stat_at phases.Waiting reading ask count e = absurd (not_first dues.Stat count ask.needed (nat_lt count ask.needed) (stat_early count ask.needed) stat_next e)
stat_at phases.Between reading ask count e = absurd (cc)
stat_at phases.Reading None ask count e = (refl, refl)
stat_at phases.Reading (Some reading) ask count e = absurd (cc)
stat_at (phases.Mapped place then) reading ask count e = absurd (cc)
stat_at (phases.Failed place then faults) reading ask count e = absurd (cc)
stat_at phases.Over reading ask count e = absurd (cc)

read_at : (phase : Phase) (reading : Option Read) (ask : Ask) (count : ℕ) → dues.Read ≡ due_at phase reading ask count → (phase ≡ phases.Reading) × (is_some reading ≡ true)
read_at phases.Waiting reading ask count e = absurd (not_first dues.Read count ask.needed (nat_lt count ask.needed) (read_early count ask.needed) read_next e)
read_at phases.Between reading ask count e = absurd (cc)
read_at phases.Reading None ask count e = absurd (cc)
read_at phases.Reading (Some reading) ask count e = (refl, refl)
read_at (phases.Mapped place then) reading ask count e = absurd (cc)
read_at (phases.Failed place then faults) reading ask count e = absurd (cc)
read_at phases.Over reading ask count e = absurd (cc)

-- the same of a scan with its ask, if there is one
idle_by : (ask : Option Ask) (scan : Scan) (s : Scanning) (count : ℕ) → scan.phase ≡ s.phase → dues.Idle ≡ kept.due_by ask scan count → IsIdle ask s
idle_by None scan s count same e = tt
idle_by (Some ask) scan s count same e = subst IsIdleIn same (idle_at scan.phase scan.reading ask count e)

early_by : (ask : Option Ask) (scan : Scan) (s : Scanning) (count told needed : ℕ) → scan.phase ≡ s.phase → dues.NotYet told needed ≡ kept.due_by ask scan count → IsEarly ask s told needed × (told ≡ count)
early_by None scan s count told needed same e = absurd (cc)
early_by (Some ask) scan s count told needed same e =
    let h = early_at scan.phase scan.reading ask count told needed e in ((sym same ∙ h.0, h.1, h.3), h.2)

next_by : (ask : Option Ask) (scan : Scan) (s : Scanning) (count : ℕ) → scan.phase ≡ s.phase → dues.Next ≡ kept.due_by ask scan count → MayListNext ask s count
next_by None scan s count same e = absurd (cc)
next_by (Some ask) scan s count same e = subst (λ p. MayList p ask count) same (next_at scan.phase scan.reading ask count e)

stat_by : (ask : Option Ask) (scan : Scan) (count : ℕ) → dues.Stat ≡ kept.due_by ask scan count → (scan.phase ≡ phases.Reading) × (scan.reading ≡ None)
stat_by None scan count e = absurd (cc)
stat_by (Some ask) scan count e = stat_at scan.phase scan.reading ask count e

read_by : (ask : Option Ask) (scan : Scan) (count : ℕ) → dues.Read ≡ kept.due_by ask scan count → (scan.phase ≡ phases.Reading) × (is_some scan.reading ≡ true)
read_by None scan count e = absurd (cc)
read_by (Some ask) scan count e = read_at scan.phase scan.reading ask count e

-- ---- while a copy is read

-- what is known of it
pub record IsReadingNow (stride : ℕ) (s : Scanning) (count : ℕ) (stored : Stored) : Type 0 where
  pub ask : Ask
  pub asked : s.ask ≡ Some ask
  pub reading : IsReading stride ask s count stored

reading_of_sound : (stride : ℕ) (ask : Option Ask) (s : Scanning) (count : ℕ) (stored : Stored) → s.ask ≡ ask → IsSoundScan stride ask s count stored → s.phase ≡ phases.Reading → IsReadingNow stride s count stored
reading_of_sound stride None s count stored asked h reading = absurd (let e : phases.Waiting ≡ phases.Reading = sym (ap (λ (t : Scanning). t.phase) h) ∙ reading in cc)
reading_of_sound stride (Some ask) s count stored asked h reading = record { ask = ask; asked = asked; reading = subst (λ p. IsAt stride p ask s count stored) reading h }

reading_now : (osd stride : ℕ) (device : Device) (items : List Item) (count : ℕ) (scan : Scan) (past : List Event) → IsTied osd stride device items count scan past → (scanning past).phase ≡ phases.Reading
    → IsReadingNow stride (scanning past) (applied past) (stored_by past)
reading_now osd stride device items count scan past tied reading =
    reading_of_sound stride (scanning past).ask (scanning past) (applied past) (stored_by past) refl (sound stride past tied.legal) reading

no_steps : (stride steps : ℕ) (copy : ObjCopy) → reading_of stride steps (Some copy) ≡ None → steps ≡ 0
no_steps stride zero copy e = refl
no_steps stride (suc steps) copy e = absurd (some_none (read_after stride (suc steps) copy) e)

some_steps : (stride steps : ℕ) (copy : Option ObjCopy) → is_some (reading_of stride steps copy) ≡ true → 1 ≤ steps
some_steps stride zero copy e = absurd (true_false (sym e))
some_steps stride (suc steps) copy e = omega arith

-- what was read so far
so_far : (stride steps : ℕ) (copy : ObjCopy) → 1 ≤ steps → reading_of stride steps (Some copy) ≡ Some (read_after stride steps copy)
so_far stride zero copy h = absurd (omega (arith, h))
so_far stride (suc steps) copy h = refl

-- ---- what the step that is due is

pub due_idle : (osd stride : ℕ) (device : Device) (items : List Item) (count : ℕ) (scan : Scan) (past : List Event) → IsTied osd stride device items count scan past → dues.Idle ≡ due_in scan count
    → IsIdle (scanning past).ask (scanning past)
due_idle osd stride device items count scan past tied e =
    idle_by (scanning past).ask (scan_of osd stride (scanning past)) (scanning past) count refl (e ∙ ap (λ s. due_in s count) tied.scan_is)

pub due_early : (osd stride : ℕ) (device : Device) (items : List Item) (count told needed : ℕ) (scan : Scan) (past : List Event) → IsTied osd stride device items count scan past → dues.NotYet told needed ≡ due_in scan count
    → IsEarly (scanning past).ask (scanning past) told needed × (told ≡ applied past)
due_early osd stride device items count told needed scan past tied e =
    let h = early_by (scanning past).ask (scan_of osd stride (scanning past)) (scanning past) count told needed refl (e ∙ ap (λ s. due_in s count) tied.scan_is) in
    (h.0, h.1 ∙ tied.count_is)

pub due_next : (osd stride : ℕ) (device : Device) (items : List Item) (count : ℕ) (scan : Scan) (past : List Event) → IsTied osd stride device items count scan past → dues.Next ≡ due_in scan count
    → MayListNext (scanning past).ask (scanning past) (applied past)
due_next osd stride device items count scan past tied e =
    subst (λ n. MayListNext (scanning past).ask (scanning past) n) tied.count_is
    (next_by (scanning past).ask (scan_of osd stride (scanning past)) (scanning past) count refl (e ∙ ap (λ s. due_in s count) tied.scan_is))

pub due_stat : (osd stride : ℕ) (device : Device) (items : List Item) (count : ℕ) (scan : Scan) (past : List Event) → IsTied osd stride device items count scan past → dues.Stat ≡ due_in scan count
    → IsStatNext (scanning past)
due_stat osd stride device items count scan past tied e =
    let two = stat_by (scanning past).ask (scan_of osd stride (scanning past)) count (e ∙ ap (λ s. due_in s count) tied.scan_is) in
    let now = reading_now osd stride device items count scan past tied two.0 in
    record { phase = two.0; steps = no_steps stride (scanning past).steps now.reading.copy (sym (ap (reading_of stride (scanning past).steps) now.reading.found) ∙ two.1) }

pub due_read : (osd stride : ℕ) (device : Device) (items : List Item) (count : ℕ) (scan : Scan) (past : List Event) → IsTied osd stride device items count scan past → dues.Read ≡ due_in scan count
    → IsReadNext (scanning past)
due_read osd stride device items count scan past tied e =
    let two = read_by (scanning past).ask (scan_of osd stride (scanning past)) count (e ∙ ap (λ s. due_in s count) tied.scan_is) in
    record { phase = two.0; steps = some_steps stride (scanning past).steps (scanning past).copy two.1 }

pub ruleset dues_are = (due_idle, due_early, due_next, due_stat, due_read)

-- ---- listing

-- the device of a listing that was answered
listing_answered : (ask : Option Ask) (last : Option ObjectId) (old new : Device) (next : Option ObjectId) → IsListedFor ask last old (Ok next) new → new ≡ listed old
listing_answered None last old new next h = absurd h
listing_answered (Some ask) last old new next h = h.0

listing_due : (ask : Option Ask) (s : Scanning) (past : List Event) (old new : Device) (next : Option ObjectId) → old.stored ≡ stored_by past → MayListNext ask s (applied past) → IsListedFor ask s.last old (Ok next) new
    → IsListing ask s past next
listing_due None s past old new next same may h = absurd may
listing_due (Some ask) s past old new next same may h = (may, subst (λ st. IsNext (is_stored st) (cursor_of ask s.last) ask.range.to next) same h.2)

listing_failed : (ask : Option Ask) (last : Option ObjectId) (old new : Device) → IsListedFor ask last old (Err errors.Failed) new → IsFailed kinds.List old new
listing_failed None last old new h = absurd h
listing_failed (Some ask) last old new h = h

failing_due : (ask : Option Ask) (s : Scanning) (past : List Event) (count : ℕ) → MayListNext ask s (applied past) → Rose (last_count past) count → IsListFailing ask s past count
failing_due None s past count may rose = absurd may
failing_due (Some ask) s past count may rose = (may, rose)

listed_read : (osd stride : ℕ) (old new : Device) (items : List Item) (count : ℕ) (scan : Scan) (past : List Event) → IsTied osd stride old items count scan past → new ≡ listed old → IsTied osd stride new items count scan past
listed_read osd stride old new items count scan past tied is =
    tied_read osd stride old new items count scan past tied (ap (λ (d : Device). d.stored) is) (omega (arith, ap (λ (d : Device). d.faults) is))

-- a listing of the scan as it is kept is one of the scan as its history has it
listed_as : (osd stride : ℕ) (device : Device) (items : List Item) (count : ℕ) (scan : Scan) (past : List Event) (old new : Device) (answer : Result (Option ObjectId) MediumError)
    → IsTied osd stride device items count scan past → IsListedFor scan.ask scan.last old answer new → IsListedFor (scanning past).ask (scanning past).last old answer new
listed_as osd stride device items count scan past old new answer tied h = subst (λ (s : Scan). IsListedFor s.ask s.last old answer new) tied.scan_is h

-- where the next position may be looked for, no map is kept
listing_entries : (ask : Option Ask) (s : Scanning) (count : ℕ) → MayListNext ask s count → entries_of s.phase s.entries ≡ s.entries
listing_entries None s count may = absurd may
listing_entries (Some ask) s count may = by s.phase may
  where
    by : (phase : Phase) → MayList phase ask count → entries_of phase s.entries ≡ s.entries
    by phases.Waiting may = refl
    by phases.Between may = refl
    by phases.Reading may = absurd may
    by (phases.Mapped place then) may = absurd may
    by (phases.Failed place then faults) may = absurd may
    by phases.Over may = absurd may

-- the next position was found
pub tied_found : (osd stride : ℕ) (old new : Device) (items : List Item) (count : ℕ) (scan after : Scan) (past : List Event) (id last kept_id : ObjectId) → IsTied osd stride old items count scan past
    → MayListNext (scanning past).ask (scanning past) (applied past) → IsListedFor scan.ask scan.last old (Ok (Some id)) new → after ≡ found last scan → last ≡ id → kept_id ≡ id
    → IsTied osd stride new items count after (Scanned (events.Found kept_id) ∷ past)
tied_found osd stride old new items count scan after past id last kept_id tied may h is alike same =
    let list = listed_as osd stride old items count scan past old new (Ok (Some id)) tied h in
    let device : new ≡ listed old = listing_answered (scanning past).ask (scanning past).last old new (Some id) list in
    subst (λ o. IsTied osd stride new items count after (Scanned (events.Found o) ∷ past)) (sym same)
    (tied_step osd stride new items count scan after past (Scanned (events.Found id)) (listed_read osd stride old new items count scan past tied device) (refl, refl, refl, refl)
    (is ∙ ap (λ o. found o scan) alike ∙ ap (found id) tied.scan_is ∙ (λ i. record (found id (scan_of osd stride (scanning past))) { entries = listing_entries (scanning past).ask (scanning past) (applied past) may i }))
    (listing_due (scanning past).ask (scanning past) past old new (Some id) tied.holds may list))

-- it is due
pub found_due : (osd stride : ℕ) (old new : Device) (items : List Item) (count : ℕ) (scan : Scan) (past now : List Event) (id : ObjectId) → IsTied osd stride old items count scan past → past ≡ now
    → MayListNext (scanning now).ask (scanning now) (applied now) → IsListedFor scan.ask scan.last old (Ok (Some id)) new → IsListing (scanning now).ask (scanning now) now (Some id)
found_due osd stride old new items count scan past now id tied same may h =
    subst (λ p. MayListNext (scanning p).ask (scanning p) (applied p) → IsListing (scanning p).ask (scanning p) p (Some id)) same
    (λ m. listing_due (scanning past).ask (scanning past) past old new (Some id) tied.holds m (listed_as osd stride old items count scan past old new (Ok (Some id)) tied h)) may

-- what it leaves of the device
pub listed_called : (ask : Option Ask) (last : Option ObjectId) (old new : Device) (next : Option ObjectId) → IsListedFor ask last old (Ok next) new → IsCalled kinds.List false old new
listed_called None last old new next h = absurd h
listed_called (Some ask) last old new next h = (h.0, h.1)

pub failed_called : (ask : Option Ask) (last : Option ObjectId) (old new : Device) → IsListedFor ask last old (Err errors.Failed) new → IsCalled kinds.List true old new
failed_called ask last old new h = listing_failed ask last old new h

-- none was left
made_by : (osd count : ℕ) (map : ScrubMap) (ask : Option Ask) (kept entries : List Entry) → Some map ≡ option_map (λ (a : Ask). map_of osd a count kept) ask → kept ≡ entries
    → Some map ≡ option_map (λ (a : Ask). map_of osd a count entries) ask
made_by osd count map ask kept entries made same = made ∙ ap (λ l. option_map (λ (a : Ask). map_of osd a count l) ask) same

pub tied_done : (osd stride : ℕ) (old new : Device) (items : List Item) (count place : ℕ) (scan after : Scan) (past : List Event) (map : ScrubMap) → IsTied osd stride old items count scan past
    → MayListNext (scanning past).ask (scanning past) (applied past) → IsListedFor scan.ask scan.last old (Ok None) new → place ≡ suc (length past)
    → Some map ≡ option_map (λ (a : Ask). map_of osd a count scan.entries) scan.ask → after ≡ mapped place count map scan → IsTied osd stride new items count after (Scanned events.Done ∷ past)
tied_done osd stride old new items count place scan after past map tied may h at made is =
    let list = listed_as osd stride old items count scan past old new (Ok None) tied h in
    let device : new ≡ listed old = listing_answered (scanning past).ask (scanning past).last old new None list in
    let own : Some map ≡ option_map (λ (a : Ask). map_of osd a count (entries_of (scanning past).phase (scanning past).entries)) (scanning past).ask =
    made ∙ ap (λ (s : Scan). option_map (λ (a : Ask). map_of osd a count s.entries) s.ask) tied.scan_is in
    let same : Some map ≡ option_map (λ (a : Ask). map_of osd a count (scanning past).entries) (scanning past).ask =
    made_by osd count map (scanning past).ask (entries_of (scanning past).phase (scanning past).entries) (scanning past).entries own (listing_entries (scanning past).ask (scanning past) (applied past) may) in
    let then : Some map ≡ option_map (λ (a : Ask). map_of osd a (applied past) (scanning past).entries) (scanning past).ask =
    same ∙ ap (λ n. option_map (λ (a : Ask). map_of osd a n (scanning past).entries) (scanning past).ask) tied.count_is in
    tied_step osd stride new items count scan after past (Scanned events.Done) (listed_read osd stride old new items count scan past tied device) (refl, refl, refl, refl)
    (is ∙ ap (mapped place count map) tied.scan_is ∙ (λ i. record (scan_of osd stride (scanning past)) { phase = phases.Mapped (at i) (tied.count_is i); entries = []; map = then i }))
    (listing_due (scanning past).ask (scanning past) past old new None tied.holds may list)

-- the device failed at it
pub tied_list_fault : (osd stride : ℕ) (old new : Device) (items : List Item) (count place faults : ℕ) (scan after : Scan) (past : List Event) → IsTied osd stride old items count scan past
    → MayListNext (scanning past).ask (scanning past) (applied past) → IsListedFor scan.ask scan.last old (Err errors.Failed) new → place ≡ suc (length past) → faults ≡ new.faults
    → after ≡ failed place count faults scan → IsTied osd stride new items count after (Scanned (events.ListFault faults) ∷ past)
tied_list_fault osd stride old new items count place faults scan after past tied may h at e is =
    let list = listed_as osd stride old items count scan past old new (Err errors.Failed) tied h in
    let gone : IsFailed kinds.List old new = listing_failed (scanning past).ask (scanning past).last old new list in
    let rose : Rose (last_count past) faults = subst (λ n. Rose (last_count past) n) (sym e) (rose_from (last_count past) old.faults new.faults tied.counted gone.1) in
    record {
      all_items = tied.all_items;
      numbered = tied.numbered;
      count_is = tied.count_is;
      within = tied.within;
      holds = ap (λ (d : Device). d.stored) gone.0 ∙ tied.holds;
      counted = omega (arith, e);
      scan_is = is ∙ ap (failed place count faults) tied.scan_is
          ∙ (λ i. record (scan_of osd stride (scanning past)) { phase = phases.Failed (at i) (tied.count_is i) faults; entries = listing_entries (scanning past).ask (scanning past) (applied past) may i; map = None });
      legal = (failing_due (scanning past).ask (scanning past) past faults may rose, tied.legal);
      some = tied.some;
    }

-- memory ran out behind a listing
pub tied_listed : (osd stride : ℕ) (old new : Device) (items : List Item) (count : ℕ) (scan : Scan) (past : List Event) (next : Option ObjectId) → IsTied osd stride old items count scan past
    → IsListedFor scan.ask scan.last old (Ok next) new → IsTied osd stride new items count scan past
tied_listed osd stride old new items count scan past next tied h =
    listed_read osd stride old new items count scan past tied (listing_answered scan.ask scan.last old new next h)

pub listed_only : (ask : Option Ask) (last : Option ObjectId) (old new : Device) (next : Option ObjectId) → IsListedFor ask last old (Ok next) new → IsOnlyRead old new
listed_only ask last old new next h =
    let is : new ≡ listed old = listing_answered ask last old new next h in
    record { stored = ap (λ (d : Device). d.stored) is; failing = ap (λ (d : Device). d.failing) is; faults = omega (arith, ap (λ (d : Device). d.faults) is) }

unlisted : (ask : Option Ask) (last : Option ObjectId) (old new : Device) → IsListedFor ask last old (Err errors.Memory) new → new ≡ old
unlisted None last old new h = absurd h
unlisted (Some ask) last old new h = h

pub tied_unlisted : (osd stride : ℕ) (old new : Device) (items : List Item) (count : ℕ) (scan : Scan) (past : List Event) → IsTied osd stride old items count scan past
    → IsListedFor scan.ask scan.last old (Err errors.Memory) new → IsTied osd stride new items count scan past
tied_unlisted osd stride old new items count scan past tied h = subst (λ d. IsTied osd stride d items count scan past) (sym (unlisted scan.ask scan.last old new h)) tied

pub unlisted_only : (ask : Option Ask) (last : Option ObjectId) (old new : Device) → IsListedFor ask last old (Err errors.Memory) new → IsOnlyRead old new
unlisted_only ask last old new h =
    let is : new ≡ old = unlisted ask last old new h in
    record { stored = ap (λ (d : Device). d.stored) is; failing = ap (λ (d : Device). d.failing) is; faults = omega (arith, ap (λ (d : Device). d.faults) is) }

-- ---- reading

last_is : (osd stride : ℕ) (device : Device) (items : List Item) (count : ℕ) (scan : Scan) (past : List Event) → IsTied osd stride device items count scan past → scan.last ≡ (scanning past).last
last_is osd stride device items count scan past tied = ap (λ (s : Scan). s.last) tied.scan_is

-- the copy that is read is stored, and stands at the position found last
pub still_there : (osd stride : ℕ) (device : Device) (items : List Item) (count : ℕ) (scan : Scan) (past : List Event) (id : ObjectId) → IsTied osd stride device items count scan past → (scanning past).phase ≡ phases.Reading
    → Some id ≡ scan.last → (copy : ObjCopy) × ((scanning past).copy ≡ Some copy) × (device.stored id.family id.snap ≡ Some copy)
still_there osd stride device items count scan past id tied reading last =
    let now = reading_now osd stride device items count scan past tied reading in
    let is : id ≡ now.reading.id = some_same id now.reading.id (last ∙ last_is osd stride device items count scan past tied ∙ now.reading.last) in
    (now.reading.copy, now.reading.found, ap (λ (o : ObjectId). device.stored o.family o.snap) is ∙ ap (λ (st : Stored). st now.reading.id.family now.reading.id.snap) tied.holds ∙ now.reading.still)

pub last_some : (osd stride : ℕ) (device : Device) (items : List Item) (count : ℕ) (scan : Scan) (past : List Event) → IsTied osd stride device items count scan past → (scanning past).phase ≡ phases.Reading → is_some scan.last ≡ true
last_some osd stride device items count scan past tied reading =
    let now = reading_now osd stride device items count scan past tied reading in
    ap is_some (last_is osd stride device items count scan past tied ∙ now.reading.last)

pub stat_last : (osd stride : ℕ) (device : Device) (items : List Item) (count : ℕ) (scan : Scan) (past : List Event) → IsTied osd stride device items count scan past → IsStatNext (scanning past) → is_some scan.last ≡ true
stat_last osd stride device items count scan past tied next = last_some osd stride device items count scan past tied next.phase

pub read_last : (osd stride : ℕ) (device : Device) (items : List Item) (count : ℕ) (scan : Scan) (past : List Event) → IsTied osd stride device items count scan past → IsReadNext (scanning past) → is_some scan.last ≡ true
read_last osd stride device items count scan past tied next = last_some osd stride device items count scan past tied next.phase

pub stat_there : (osd stride : ℕ) (device : Device) (items : List Item) (count : ℕ) (scan : Scan) (past : List Event) (id : ObjectId) → IsTied osd stride device items count scan past → IsStatNext (scanning past)
    → Some id ≡ scan.last → is_some (device.stored id.family id.snap) ≡ true
stat_there osd stride device items count scan past id tied next last = ap is_some (still_there osd stride device items count scan past id tied next.phase last).2

-- what was read stands in the scan as it is kept
reading_is : (osd stride : ℕ) (device : Device) (items : List Item) (count : ℕ) (scan : Scan) (past : List Event) (copy : ObjCopy) → IsTied osd stride device items count scan past → 1 ≤ (scanning past).steps
    → (scanning past).copy ≡ Some copy → scan.reading ≡ Some (read_after stride (scanning past).steps copy)
reading_is osd stride device items count scan past copy tied some found =
    ap (λ (s : Scan). s.reading) tied.scan_is ∙ ap (reading_of stride (scanning past).steps) found ∙ so_far stride (scanning past).steps copy some

pub reading_some : (osd stride : ℕ) (device : Device) (items : List Item) (count : ℕ) (scan : Scan) (past : List Event) → IsTied osd stride device items count scan past → IsReadNext (scanning past) → is_some scan.reading ≡ true
reading_some osd stride device items count scan past tied next =
    let now = reading_now osd stride device items count scan past tied next.phase in
    ap is_some (reading_is osd stride device items count scan past now.reading.copy tied next.steps now.reading.found)

front_of : (stride : ℕ) (stored : Option ObjCopy) (copy : ObjCopy) (reading : Option Read) (steps : ℕ) → stored ≡ Some copy → reading ≡ Some (read_after stride steps copy) → IsFrontOf stored reading
front_of stride stored copy reading steps there is =
    subst (λ r. IsFrontOf stored r) (sym is) (subst (λ o. IsFrontAt o (read_after stride steps copy)) (sym there) (front_after stride steps copy))

pub front_there : (osd stride : ℕ) (device : Device) (items : List Item) (count : ℕ) (scan : Scan) (past : List Event) (id : ObjectId) → IsTied osd stride device items count scan past → IsReadNext (scanning past)
    → Some id ≡ scan.last → IsFrontOf (device.stored id.family id.snap) scan.reading
front_there osd stride device items count scan past id tied next last =
    let there = still_there osd stride device items count scan past id tied next.phase last in
    front_of stride (device.stored id.family id.snap) there.0 scan.reading (scanning past).steps there.2 (reading_is osd stride device items count scan past there.0 tied next.steps there.1)

only_read : (osd stride : ℕ) (old new : Device) (items : List Item) (count : ℕ) (scan : Scan) (past : List Event) → IsTied osd stride old items count scan past → IsOnlyRead old new → IsTied osd stride new items count scan past
only_read osd stride old new items count scan past tied is = tied_read osd stride old new items count scan past tied is.stored is.faults

pub tied_only_read : (osd stride : ℕ) (old new : Device) (items : List Item) (count : ℕ) (scan : Scan) (past : List Event) → IsTied osd stride old items count scan past → IsOnlyRead old new → IsTied osd stride new items count scan past
tied_only_read osd stride old new items count scan past tied is = only_read osd stride old new items count scan past tied is

-- ---- its first step

-- more is left in a deep scrub
first_open : (deep : Bool) (stride : ℕ) (copy : ObjCopy) (steps : ℕ) → deep ≡ true → steps ≡ 0 → steps < steps_left_open deep stride copy
first_open true stride copy steps e none = omega (arith, none, one_page (parts 256 (length copy.omap)))
  where
    one_page : (n : ℕ) → 1 ≤ max 1 n
    one_page n = omega arith
first_open false stride copy steps e none = absurd (true_false (sym e))

going_on_due : (stride : ℕ) (s : Scanning) (copy : ObjCopy) → s.copy ≡ Some copy → s.phase ≡ phases.Reading → s.steps < steps_left_open (is_deep s.ask) stride copy → IsGoingOn stride s s.copy
going_on_due stride s copy found reading below = subst (λ o. IsGoingOn stride s o) (sym found) (reading, below)

passing_due : (stride : ℕ) (s : Scanning) (copy : ObjCopy) (id : ObjectId) (mark : Mark) → s.copy ≡ Some copy → s.phase ≡ phases.Reading → s.last ≡ Some id → IsMarked stride s copy mark → IsPassing stride s s.copy id mark
passing_due stride s copy id mark found reading last marked = subst (λ o. IsPassing stride s o id mark) (sym found) (reading, last, marked)

-- after a step that leaves more, of what was read then
more_kept : (osd stride : ℕ) (s : Scanning) (copy : ObjCopy) (read : Read) → s.copy ≡ Some copy → read ≡ read_after stride (suc s.steps) copy → s.phase ≡ phases.Reading
    → going_on read (scan_of osd stride s) ≡ scan_of osd stride (record s { steps = suc s.steps })
more_kept osd stride s copy read found is reading =
    λ i. record (scan_of osd stride s) { reading = (ap Some is ∙ sym (ap (option_map (read_after stride (suc s.steps))) found)) i }

-- after the copy was passed
pass_kept : (osd stride : ℕ) (s : Scanning) (copy : ObjCopy) (id : ObjectId) (mark : Mark) (entry : Entry) (past : List Event) → s.phase ≡ phases.Reading → s.copy ≡ Some copy
    → entry ≡ entry_seen (is_deep s.ask) id mark copy → passed entry (scan_of osd stride s) ≡ scan_of osd stride (after_scan (events.Passed id mark) past s)
pass_kept osd stride s copy id mark entry past reading found is =
    λ i. record (scan_of osd stride s) {
      phase = phases.Between;
      reading = None;
      entries = entries_of (reading i) s.entries ++ (ap (λ e. e ∷ []) is ∙ sym (ap (seen_entry (is_deep s.ask) id mark) found)) i;
      map = None;
    }

begun_device : {E : Type 0} (copy : Option ObjCopy) (old new : Device) (answer : Result (Option Read) E) → IsBegun copy old answer new → IsOnlyRead old new
begun_device copy old new answer h = begun_kept copy old new answer h

begun_is : (E : Type 0) (stored : Option ObjCopy) (copy : ObjCopy) (old new : Device) (read : Read) → stored ≡ Some copy → IsBegun {E = E} stored old (Ok (Some read)) new → AreCalled false false old new × (read ≡ begun copy)
begun_is E stored copy old new read there h = subst (λ o. IsBegun {E = E} o old (Ok (Some read)) new) there h

begun_failed : (E : Type 0) (stored : Option ObjCopy) (copy : ObjCopy) (old new : Device) → stored ≡ Some copy → IsBegun {E = E} stored old (Ok None) new → IsStatFailure old new
begun_failed E stored copy old new there h = subst (λ o. IsBegun {E = E} o old (Ok None) new) there h

-- what is known where the first step is made
pub record IsFirst (stride : ℕ) (device : Device) (s : Scanning) (id : ObjectId) : Type 0 where
  pub copy : ObjCopy
  pub found : s.copy ≡ Some copy
  pub there : device.stored id.family id.snap ≡ Some copy
  pub phase : s.phase ≡ phases.Reading
  pub last : s.last ≡ Some id
  pub none : s.steps ≡ 0

first_of : (osd stride : ℕ) (device : Device) (items : List Item) (count : ℕ) (scan : Scan) (past : List Event) (id : ObjectId) → IsTied osd stride device items count scan past → IsStatNext (scanning past) → Some id ≡ scan.last
    → IsFirst stride device (scanning past) id
first_of osd stride device items count scan past id tied next last =
    let there = still_there osd stride device items count scan past id tied next.phase last in
    record { copy = there.0; found = there.1; there = there.2; phase = next.phase; last = sym (last ∙ last_is osd stride device items count scan past tied); none = next.steps }

deep_is : (osd stride : ℕ) (device : Device) (items : List Item) (count : ℕ) (scan : Scan) (past : List Event) → IsTied osd stride device items count scan past → is_deep scan.ask ≡ is_deep (scanning past).ask
deep_is osd stride device items count scan past tied = ap (λ (s : Scan). is_deep s.ask) tied.scan_is

-- in a deep scrub it leaves more
pub tied_begun : (E : Type 0) (osd stride : ℕ) (old new : Device) (items : List Item) (count : ℕ) (scan after : Scan) (past : List Event) (id : ObjectId) (read : Read) → IsTied osd stride old items count scan past
    → IsStatNext (scanning past) → Some id ≡ scan.last → is_deep scan.ask ≡ true → IsBegun {E = E} (old.stored id.family id.snap) old (Ok (Some read)) new → after ≡ going_on read scan
    → IsTied osd stride new items count after (Scanned events.More ∷ past)
tied_begun E osd stride old new items count scan after past id read tied next last deep h is =
    let first = first_of osd stride old items count scan past id tied next last in
    let two = begun_is E (old.stored id.family id.snap) first.copy old new read first.there h in
    let so : read ≡ read_after stride (suc (scanning past).steps) first.copy = two.1 ∙ read_first stride first.copy ∙ ap (λ n. read_after stride (suc n) first.copy) (sym first.none) in
    tied_step osd stride new items count scan after past (Scanned events.More)
    (only_read osd stride old new items count scan past tied (begun_device {E = E} (old.stored id.family id.snap) old new (Ok (Some read)) h)) (refl, refl, refl, refl)
    (is ∙ ap (going_on read) tied.scan_is ∙ more_kept osd stride (scanning past) first.copy read first.found so first.phase)
    (going_on_due stride (scanning past) first.copy first.found first.phase
    (first_open (is_deep (scanning past).ask) stride first.copy (scanning past).steps (sym (deep_is osd stride old items count scan past tied) ∙ deep) first.none))

all_read : (deep : Bool) (stride : ℕ) (copy : ObjCopy) (steps : ℕ) → deep ≡ false → steps ≡ 0 → steps ≡ steps_left_open deep stride copy
all_read true stride copy steps e none = absurd (true_false e)
all_read false stride copy steps e none = none

shallow_is : (deep : Bool) (id : ObjectId) (copy : ObjCopy) (read : Read) (entry : Entry) → deep ≡ false → read ≡ begun copy → entry ≡ entry_without_digests false id read.size read.copy.attrs
    → entry ≡ entry_seen deep id marks.Fine copy
shallow_is true id copy read entry e b is = absurd (true_false e)
shallow_is false id copy read entry e b is = is ∙ ap (λ (r : Read). entry_without_digests false id r.size r.copy.attrs) b

-- in a shallow one the copy is passed with it
pub tied_shallow : (E : Type 0) (osd stride : ℕ) (old new : Device) (items : List Item) (count : ℕ) (scan after : Scan) (past : List Event) (id : ObjectId) (read : Read) (entry : Entry) → IsTied osd stride old items count scan past
    → IsStatNext (scanning past) → Some id ≡ scan.last → is_deep scan.ask ≡ false → IsBegun {E = E} (old.stored id.family id.snap) old (Ok (Some read)) new
    → entry ≡ entry_without_digests false id read.size read.copy.attrs → after ≡ passed entry scan → IsTied osd stride new items count after (Scanned (events.Passed id marks.Fine) ∷ past)
tied_shallow E osd stride old new items count scan after past id read entry tied next last deep h made is =
    let first = first_of osd stride old items count scan past id tied next last in
    let two = begun_is E (old.stored id.family id.snap) first.copy old new read first.there h in
    let shallow : is_deep (scanning past).ask ≡ false = sym (deep_is osd stride old items count scan past tied) ∙ deep in
    tied_step osd stride new items count scan after past (Scanned (events.Passed id marks.Fine))
    (only_read osd stride old new items count scan past tied (begun_device {E = E} (old.stored id.family id.snap) old new (Ok (Some read)) h)) (refl, refl, refl, refl)
    (is ∙ ap (passed entry) tied.scan_is ∙ pass_kept osd stride (scanning past) first.copy id marks.Fine entry past first.phase first.found (shallow_is (is_deep (scanning past).ask) id first.copy read entry shallow two.1 made))
    (passing_due stride (scanning past) first.copy id marks.Fine first.found first.phase first.last (all_read (is_deep (scanning past).ask) stride first.copy (scanning past).steps shallow first.none))

-- the device failed at it
pub tied_unread : (E : Type 0) (osd stride : ℕ) (old new : Device) (items : List Item) (count : ℕ) (scan after : Scan) (past : List Event) (id : ObjectId) (entry : Entry) → IsTied osd stride old items count scan past
    → IsStatNext (scanning past) → Some id ≡ scan.last → IsBegun {E = E} (old.stored id.family id.snap) old (Ok None) new → entry ≡ unread_entry id → after ≡ passed entry scan
    → IsTied osd stride new items count after (Scanned (events.Passed id marks.StatError) ∷ past)
tied_unread E osd stride old new items count scan after past id entry tied next last h made is =
    let first = first_of osd stride old items count scan past id tied next last in
    tied_step osd stride new items count scan after past (Scanned (events.Passed id marks.StatError))
    (only_read osd stride old new items count scan past tied (begun_device {E = E} (old.stored id.family id.snap) old new (Ok None) h)) (refl, refl, refl, refl)
    (is ∙ ap (passed entry) tied.scan_is ∙ pass_kept osd stride (scanning past) first.copy id marks.StatError entry past first.phase first.found made)
    (passing_due stride (scanning past) first.copy id marks.StatError first.found first.phase first.last first.none)

-- ---- its further steps

-- what is known where one is made
pub record IsFurther (stride : ℕ) (device : Device) (scan : Scan) (s : Scanning) (id : ObjectId) : Type 0 where
  pub copy : ObjCopy
  pub found : s.copy ≡ Some copy
  pub there : device.stored id.family id.snap ≡ Some copy
  pub phase : s.phase ≡ phases.Reading
  pub last : s.last ≡ Some id
  pub some : 1 ≤ s.steps
  pub deep : is_deep s.ask ≡ true
  pub most : s.steps ≤ strides stride copy + pages copy
  pub reading : scan.reading ≡ Some (read_after stride s.steps copy)

must_be_deep : (deep : Bool) (stride steps : ℕ) (copy : ObjCopy) → 1 ≤ steps → steps ≤ steps_left_open deep stride copy → (deep ≡ true) × (steps ≤ strides stride copy + pages copy)
must_be_deep true stride steps copy some most = (refl, most)
must_be_deep false stride steps copy some most = absurd (omega (arith, some, most))

further_of : (osd stride : ℕ) (device : Device) (items : List Item) (count : ℕ) (scan : Scan) (past : List Event) (id : ObjectId) → IsTied osd stride device items count scan past → IsReadNext (scanning past) → Some id ≡ scan.last
    → IsFurther stride device scan (scanning past) id
further_of osd stride device items count scan past id tied next last =
    let now = reading_now osd stride device items count scan past tied next.phase in
    let is : id ≡ now.reading.id = some_same id now.reading.id (last ∙ last_is osd stride device items count scan past tied ∙ now.reading.last) in
    let two = must_be_deep now.ask.deep stride (scanning past).steps now.reading.copy next.steps now.reading.steps in
    record {
      copy = now.reading.copy;
      found = now.reading.found;
      there = ap (λ (o : ObjectId). device.stored o.family o.snap) is ∙ ap (λ (st : Stored). st now.reading.id.family now.reading.id.snap) tied.holds ∙ now.reading.still;
      phase = next.phase;
      last = sym (last ∙ last_is osd stride device items count scan past tied);
      some = next.steps;
      deep = ap is_deep now.asked ∙ two.0;
      most = two.1;
      reading = reading_is osd stride device items count scan past now.reading.copy tied next.steps now.reading.found;
    }

-- what the step did to what was read
further_step : {E : Type 0} (stride : ℕ) (old new : Device) (scan after : Scan) (s : Scanning) (id : ObjectId) (answer : Result ReadingStep E) (f : IsFurther stride old scan s id)
    → IsReadFor stride (old.stored id.family id.snap) old scan answer new after
    → (now : Read) × IsReadOn stride f.copy old (read_after stride s.steps f.copy) answer new now × (after ≡ going_on now scan)
further_step {E} stride old new scan after s id answer f h =
    let by = subst (λ r. IsReadBy stride (old.stored id.family id.snap) old r scan answer new after) f.reading h in
    (by.now, subst (λ o. IsReadOnAt stride o old (read_after stride s.steps f.copy) answer new by.now) f.there by.step, by.kept)

pub further_only : {E : Type 0} (stride : ℕ) (stored : Option ObjCopy) (old new : Device) (scan after : Scan) (answer : Result ReadingStep E) → IsReadFor stride stored old scan answer new after → IsOnlyRead old new
further_only {E} stride stored old new scan after answer h = by scan.reading h
  where
    by : (reading : Option Read) → IsReadBy stride stored old reading scan answer new after → IsOnlyRead old new
    by None h = absurd h
    by (Some read) h = kept_store stride stored old new read h.now answer h.step

-- without memory what was read stays, and so does the scan
stays : (E : Type 0) (stride : ℕ) (stored : Option ObjCopy) (old new : Device) (reading : Option Read) (scan after : Scan) (e : E) → scan.reading ≡ reading → IsReadBy {E = E} stride stored old reading scan (Err e) new after → after ≡ scan
stays E stride stored old new None scan after e is h = absurd h
stays E stride stored old new (Some read) scan after e is h =
    h.kept ∙ (λ i. record scan { reading = (ap Some (unread stored h.step) ∙ sym is) i })
  where
    unread : (stored : Option ObjCopy) → IsReadOnAt {E = E} stride stored old read (Err e) new h.now → h.now ≡ read
    unread None k = absurd k
    unread (Some copy) k = k.1

pub tied_unmoved : (E : Type 0) (osd stride : ℕ) (old new : Device) (items : List Item) (count : ℕ) (scan after : Scan) (past : List Event) (id : ObjectId) (e : E) → IsTied osd stride old items count scan past
    → IsReadNext (scanning past) → Some id ≡ scan.last → IsReadFor {E = E} stride (old.stored id.family id.snap) old scan (Err e) new after → IsTied osd stride new items count after past
tied_unmoved E osd stride old new items count scan after past id e tied next last h =
    subst (λ k. IsTied osd stride new items count k past) (sym (stays E stride (old.stored id.family id.snap) old new scan.reading scan after e refl h))
    (only_read osd stride old new items count scan past tied (further_only {E = E} stride (old.stored id.family id.snap) old new scan after (Err e) h))

pub room_unmoved : (E : Type 0) (stride : ℕ) (stored : Option ObjCopy) (old new : Device) (scan after : Scan) (e : E) (before length old_room new_room : ℕ) → IsReadFor {E = E} stride stored old scan (Err e) new after
    → HasRoomToHand scan.phase before old_room → length ≡ before → old_room ≤ new_room → HasRoomToHand after.phase length new_room
room_unmoved E stride stored old new scan after e before length old_room new_room h room same up =
    subst (λ (k : Scan). HasRoomToHand k.phase length new_room) (sym (stays E stride stored old new scan.reading scan after e refl h)) (room_kept scan.phase before length old_room new_room room same up)

left_more : (stride steps : ℕ) (copy : ObjCopy) → 1 ≤ stride → 1 ≤ steps → leaves_more copy (read_after stride steps copy) ≡ true → steps < strides stride copy + pages copy
left_more stride steps copy s k more = below_is steps (strides stride copy + pages copy) (sym (more_is stride steps copy s k) ∙ more)

left_none : (stride steps : ℕ) (copy : ObjCopy) → 1 ≤ stride → 1 ≤ steps → leaves_more copy (read_after stride steps copy) ≡ false → strides stride copy + pages copy ≤ steps
left_none stride steps copy s k more = not_below_is steps (strides stride copy + pages copy) (sym (more_is stride steps copy s k) ∙ more)

in_deep : (deep : Bool) (stride : ℕ) (copy : ObjCopy) → deep ≡ true → steps_left_open deep stride copy ≡ strides stride copy + pages copy
in_deep true stride copy e = refl
in_deep false stride copy e = absurd (true_false (sym e))

-- more is left
pub tied_more : (E : Type 0) (osd stride : ℕ) (old new : Device) (items : List Item) (count : ℕ) (scan after : Scan) (past : List Event) (id : ObjectId) → IsTied osd stride old items count scan past → IsReadNext (scanning past)
    → Some id ≡ scan.last → IsReadFor {E = E} stride (old.stored id.family id.snap) old scan (Ok readings.More) new after → IsTied osd stride new items count after (Scanned events.More ∷ past)
tied_more E osd stride old new items count scan after past id tied next last h =
    let s : Scanning = scanning past in
    let f = further_of osd stride old items count scan past id tied next last in
    let step = further_step {E = E} stride old new scan after s id (Ok readings.More) f h in
    let so : step.0 ≡ read_after stride (suc s.steps) f.copy = step.1.2 ∙ read_further stride s.steps f.copy tied.some f.some in
    tied_step osd stride new items count scan after past (Scanned events.More) (only_read osd stride old new items count scan past tied (further_only {E = E} stride (old.stored id.family id.snap) old new scan after (Ok readings.More) h))
    (refl, refl, refl, refl) (step.2 ∙ ap (going_on step.0) tied.scan_is ∙ more_kept osd stride s f.copy step.0 f.found so f.phase)
    (going_on_due stride s f.copy f.found f.phase (subst (λ n. s.steps < n) (sym (in_deep (is_deep s.ask) stride f.copy f.deep)) (left_more stride s.steps f.copy tied.some f.some step.1.1)))

deep_entry_is : (deep : Bool) (id : ObjectId) (copy seen : ObjCopy) (entry : Entry) → deep ≡ true → seen ≡ copy → entry ≡ entry_of true id seen → entry ≡ entry_seen deep id marks.Fine copy
deep_entry_is true id copy seen entry e same is = is ∙ ap (entry_of true id) same
deep_entry_is false id copy seen entry e same is = absurd (true_false (sym e))

-- a step keeps the attributes
attrs_on : (stride : ℕ) (copy : ObjCopy) (read : Read) → (read_on stride copy read).copy.attrs ≡ read.copy.attrs
attrs_on stride copy read = by (has_data_left read)
  where
    by : (left : Bool) → (cond left (with_stride stride copy read) (with_page copy read)).copy.attrs ≡ read.copy.attrs
    by true = refl
    by false = refl

some_attrs : (attrs : Pairs) (reading : Option Read) (read : Read) → Some attrs ≡ option_map (λ (r : Read). r.copy.attrs) reading → reading ≡ Some read → read.copy.attrs ≡ attrs
some_attrs attrs reading read e is = some_same read.copy.attrs attrs (sym (ap (option_map (λ (r : Read). r.copy.attrs)) is) ∙ sym e)

told_of : (reading : Option Read) (read : Read) (P : Read → Type 0) → reading ≡ Some read → IfSome reading P → P read
told_of reading read P is h = subst (λ r. IfSome r P) is h

-- the whole copy was read, and is passed
pub tied_whole : (E : Type 0) (osd stride : ℕ) (old new : Device) (items : List Item) (count : ℕ) (scan middle after : Scan) (past : List Event) (id : ObjectId) (attrs : Pairs) (entry : Entry) → IsTied osd stride old items count scan past
    → IsReadNext (scanning past) → Some id ≡ scan.last → IsReadFor {E = E} stride (old.stored id.family id.snap) old scan (Ok readings.Whole) new middle → Some attrs ≡ option_map (λ (r : Read). r.copy.attrs) scan.reading
    → IfSome middle.reading (λ read. read.copy.attrs ≡ attrs → entry ≡ entry_of true id read.copy) → after ≡ passed entry middle → IsTied osd stride new items count after (Scanned (events.Passed id marks.Fine) ∷ past)
tied_whole E osd stride old new items count scan middle after past id attrs entry tied next last h given made is =
    let s : Scanning = scanning past in
    let f = further_of osd stride old items count scan past id tied next last in
    let step = further_step {E = E} stride old new scan middle s id (Ok readings.Whole) f h in
    let whole : (step.0).copy ≡ f.copy = ap (λ (r : Read). r.copy) step.1.2 ∙ read_whole stride s.steps f.copy tied.some f.some step.1.1 in
    let kept : (step.0).copy.attrs ≡ attrs =
    ap (λ (r : Read). r.copy.attrs) step.1.2 ∙ attrs_on stride f.copy (read_after stride s.steps f.copy) ∙ some_attrs attrs scan.reading (read_after stride s.steps f.copy) given f.reading in
    let told : entry ≡ entry_of true id (step.0).copy =
    told_of middle.reading step.0 (λ read. read.copy.attrs ≡ attrs → entry ≡ entry_of true id read.copy) (ap (λ (k : Scan). k.reading) step.2) made kept in
    let over : s.steps ≡ strides stride f.copy + pages f.copy = omega (arith, f.most, left_none stride s.steps f.copy tied.some f.some step.1.1) in
    tied_step osd stride new items count scan after past (Scanned (events.Passed id marks.Fine))
    (only_read osd stride old new items count scan past tied (further_only {E = E} stride (old.stored id.family id.snap) old new scan middle (Ok readings.Whole) h)) (refl, refl, refl, refl)
    (is ∙ ap (passed entry) step.2 ∙ ap (passed entry) tied.scan_is ∙ pass_kept osd stride s f.copy id marks.Fine entry past f.phase f.found (deep_entry_is (is_deep s.ask) id f.copy (step.0).copy entry f.deep whole told))
    (passing_due stride s f.copy id marks.Fine f.found f.phase f.last (over ∙ sym (in_deep (is_deep s.ask) stride f.copy f.deep)))

-- the device failed, and the copy is passed with what was read
pub tied_half_read : (E : Type 0) (osd stride : ℕ) (old new : Device) (items : List Item) (count : ℕ) (scan middle after : Scan) (past : List Event) (id : ObjectId) (attrs : Pairs) (entry : Entry) → IsTied osd stride old items count scan past
    → IsReadNext (scanning past) → Some id ≡ scan.last → IsReadFor {E = E} stride (old.stored id.family id.snap) old scan (Ok readings.Failed) new middle → Some attrs ≡ option_map (λ (r : Read). r.copy.attrs) scan.reading
    → IfSome middle.reading (λ read. entry ≡ entry_without_digests true id read.size attrs) → after ≡ passed entry middle
    → IsTied osd stride new items count after (Scanned (events.Passed id marks.ReadError) ∷ past)
tied_half_read E osd stride old new items count scan middle after past id attrs entry tied next last h given made is =
    let s : Scanning = scanning past in
    let f = further_of osd stride old items count scan past id tied next last in
    let step = further_step {E = E} stride old new scan middle s id (Ok readings.Failed) f h in
    let told : entry ≡ entry_without_digests true id (step.0).size attrs =
    told_of middle.reading step.0 (λ read. entry ≡ entry_without_digests true id read.size attrs) (ap (λ (k : Scan). k.reading) step.2) made in
    let own : attrs ≡ (read_after stride s.steps f.copy).copy.attrs = sym (some_attrs attrs scan.reading (read_after stride s.steps f.copy) given f.reading) in
    let seen : entry ≡ half_read_entry id f.copy =
    told ∙ ap (λ (r : Read). entry_without_digests true id r.size attrs) step.1.1 ∙ ap (entry_without_digests true id (read_after stride s.steps f.copy).size) own ∙ half_seen id f.copy (read_after stride s.steps f.copy) (front_after stride s.steps f.copy) in
    tied_step osd stride new items count scan after past (Scanned (events.Passed id marks.ReadError))
    (only_read osd stride old new items count scan past tied (further_only {E = E} stride (old.stored id.family id.snap) old new scan middle (Ok readings.Failed) h)) (refl, refl, refl, refl)
    (is ∙ ap (passed entry) step.2 ∙ ap (passed entry) tied.scan_is ∙ pass_kept osd stride s f.copy id marks.ReadError entry past f.phase f.found seen)
    (passing_due stride s f.copy id marks.ReadError f.found f.phase f.last (f.deep, f.some))

-- ---- what the steps of reading leave of the device

pub begun_call : (E : Type 0) (osd stride : ℕ) (old new : Device) (items : List Item) (count : ℕ) (scan : Scan) (past : List Event) (id : ObjectId) (read : Read) → IsTied osd stride old items count scan past → IsStatNext (scanning past)
    → Some id ≡ scan.last → IsBegun {E = E} (old.stored id.family id.snap) old (Ok (Some read)) new → IsReadCall stride (scanning past).steps (scanning past).copy false old new
begun_call E osd stride old new items count scan past id read tied next last h =
    let first = first_of osd stride old items count scan past id tied next last in
    let two = begun_is E (old.stored id.family id.snap) first.copy old new read first.there h in
    subst (λ n. IsReadCall stride n (scanning past).copy false old new) (sym first.none) (subst (λ o. IsReadCall stride 0 o false old new) (sym first.found) two.0)

pub unread_call : (E : Type 0) (osd stride : ℕ) (old new : Device) (items : List Item) (count : ℕ) (scan : Scan) (past : List Event) (id : ObjectId) → IsTied osd stride old items count scan past → IsStatNext (scanning past)
    → Some id ≡ scan.last → IsBegun {E = E} (old.stored id.family id.snap) old (Ok None) new → IsReadCall stride (scanning past).steps (scanning past).copy true old new
unread_call E osd stride old new items count scan past id tied next last h =
    let first = first_of osd stride old items count scan past id tied next last in
    subst (λ n. IsReadCall stride n (scanning past).copy true old new) (sym first.none)
    (subst (λ o. IsReadCall stride 0 o true old new) (sym first.found) (begun_failed E (old.stored id.family id.snap) first.copy old new first.there h))

called_at : (stride steps : ℕ) (copy : ObjCopy) (failed : Bool) (old new : Device) → 1 ≤ steps → IsCalled (kind_of (read_after stride steps copy)) failed old new → IsReadCall stride steps (Some copy) failed old new
called_at stride zero copy failed old new some h = absurd (omega (arith, some))
called_at stride (suc steps) copy failed old new some h = h

pub further_call : (E : Type 0) (osd stride : ℕ) (old new : Device) (items : List Item) (count : ℕ) (scan after : Scan) (past : List Event) (id : ObjectId) (step : ReadingStep) (failed : Bool)
    → IsTied osd stride old items count scan past → IsReadNext (scanning past) → Some id ≡ scan.last → IsReadFor {E = E} stride (old.stored id.family id.snap) old scan (Ok step) new after
    → ((copy : ObjCopy) (before now : Read) → IsReadOn {E = E} stride copy old before (Ok step) new now → IsCalled (kind_of before) failed old new)
    → IsReadCall stride (scanning past).steps (scanning past).copy failed old new
further_call E osd stride old new items count scan after past id step failed tied next last h told =
    let f = further_of osd stride old items count scan past id tied next last in
    let did = further_step {E = E} stride old new scan after (scanning past) id (Ok step) f h in
    subst (λ o. IsReadCall stride (scanning past).steps o failed old new) (sym f.found)
    (called_at stride (scanning past).steps f.copy failed old new f.some (told f.copy (read_after stride (scanning past).steps f.copy) did.0 did.1))

-- ---- handing

-- what is kept of a scan hands what its history says
handed_kept : (osd stride : ℕ) (ask : Option Ask) (s : Scanning) → handed_by osd ask (scan_of osd stride (record s { ask = ask })) ≡ told.handed_by osd ask s
handed_kept osd stride None s = refl
handed_kept osd stride (Some ask) s = by s.phase
  where
    by : (phase : Phase) → handed_at osd phase ask (scan_of osd stride (record s { ask = Some ask; phase = phase })) ≡ told.handed_at osd phase ask s.entries
    by phases.Waiting = refl
    by phases.Between = refl
    by phases.Reading = refl
    by (phases.Mapped place then) = refl
    by (phases.Failed place then faults) = refl
    by phases.Over = refl

pub handed_is : (osd stride : ℕ) (device : Device) (items : List Item) (count : ℕ) (scan : Scan) (past : List Event) → IsTied osd stride device items count scan past → handed osd scan ≡ handed_in osd (scanning past)
handed_is osd stride device items count scan past tied = ap (handed osd) tied.scan_is ∙ handed_kept osd stride (scanning past).ask (scanning past)

entries_mapped : (stride : ℕ) (ask : Option Ask) (s : Scanning) (count : ℕ) (stored : Stored) → IsSoundScan stride ask s count stored → (osd : ℕ) → IfSome (told.handed_by osd ask s) IsHandedInRange
entries_mapped stride None s count stored h osd = tt
entries_mapped stride (Some ask) s count stored h osd = by s.phase h
  where
    by : (phase : Phase) → IsAt stride phase ask s count stored → IfSome (told.handed_at osd phase ask s.entries) IsHandedInRange
    by phases.Waiting h = tt
    by phases.Between h = tt
    by phases.Reading h = tt
    by (phases.Mapped place then) h = h.entries
    by (phases.Failed place then faults) h = tt
    by phases.Over h = tt

pub handed_in_range : (osd stride : ℕ) (device : Device) (items : List Item) (count : ℕ) (scan : Scan) (past : List Event) → IsTied osd stride device items count scan past → IfSome (handed_in osd (scanning past)) IsHandedInRange
handed_in_range osd stride device items count scan past tied = entries_mapped stride (scanning past).ask (scanning past) (applied past) (stored_by past) (sound stride past tied.legal) osd

pub ruleset hands = (handed_is, handed_in_range)
