-- A scan that ended with a map stays as it was at the place where it ended, until something drops it or it is handed.
use Rattle.std.proofs.Common.{◌≡◌, ℕ, suc, ◌-◌, ◌≤◌, ◌&&◌, Bool, true, false, cond, List, [], ◌∷◌, length, drop, Option, Some, None, refl, sym, ap, ◌∙◌, subst, arith}
use Rattle.pgs_bytes.proofs.Facts.{some_same, some_none}
use Rattle.pgs_medium.specs.declared.item.Item.{Item}
use Rattle.pgs_chunk.specs.declared.ask.Ask.{Ask}
use Rattle.pgs_copy.specs.declared.obj_copy.ObjCopy.{ObjCopy}
use Rattle.pgs_shard.specs.Scans.{handed_at, handed_by, handed_in}
use Rattle.pgs_exchange.specs.declared.scan_result.ScanResult.{ScanResult}
use Rattle.pgs_exchange.specs.declared.scan_result.Found.TheVariants as results
use Rattle.pgs_map.specs.declared.entry.Entry.{Entry}
use Rattle.pgs_map.specs.declared.scrub_map.ScrubMap.{ScrubMap}
use Rattle.pgs_shard_history.specs.Legal.{IsLegal, IsGoingOn}
use Rattle.pgs_shard_history.specs.Scanning.{Scanning, scanning, is_newer, after_ask, can_drop, touches, chunk_where, drop_of, dropped, after_drop}
use Rattle.pgs_shard_history.specs.Feeds.{fed, item_of}
use Rattle.pgs_shard_history.specs.Scans.{at_place}
use Rattle.pgs_shard_history.specs.Stores.{applied}
use Rattle.pgs_shard_history.specs.declared.event.Event.{Event}
use Rattle.pgs_shard_history.specs.declared.event.Event.TheVariants.{Fed, Applied, DeviceFault, ListFailed, Scanned, Handed, Damaged}
use Rattle.pgs_shard_history.specs.declared.phase.Phase.{Phase}
use Rattle.pgs_shard_history.specs.declared.phase.Phase.TheVariants.{Waiting, Between, Reading, Mapped, Failed, Over}
use Rattle.pgs_shard_history.specs.declared.scan_event.ScanEvent.TheVariants.{Found, More, Passed, Done, ListFault}
use Rattle.pgs_placement.specs.Cited.{result_of, fault_of}

-- ---- a history with one event more

one_left : (n place : ℕ) → place ≤ n → suc n - place ≡ suc (n - place)
one_left n place h = omega (arith, h)

none_left : (n : ℕ) → n - n ≡ 0
none_left n = omega arith

pub at_place_more : (event : Event) (past : List Event) (place : ℕ) → place ≤ length past → at_place place (event ∷ past) ≡ at_place place past
at_place_more event past place h = ap (λ n. drop n (event ∷ past)) (one_left (length past) place h)

pub at_end : (past : List Event) → at_place (length past) past ≡ past
at_end past = ap (λ n. drop n past) (none_left (length past))

-- ---- events that leave a map

-- at a place the scan was as it is now
pub record IsSince (past : List Event) (place count : ℕ) : Type 0 where
  pub within : place ≤ length past
  pub same : scanning (at_place place past) ≡ scanning past
  pub applied_is : applied (at_place place past) ≡ count

since_more : (event : Event) (past : List Event) (place count : ℕ) → scanning (event ∷ past) ≡ scanning past → IsSince past place count → IsSince (event ∷ past) place count
since_more event past place count e h = record {
  within = let l = h.within in omega (arith, l);
  same = ap scanning (at_place_more event past place h.within) ∙ h.same ∙ sym e;
  applied_is = ap applied (at_place_more event past place h.within) ∙ h.applied_is;
}

-- a scan ended at a place, with a map or a fault
abbrev pub HasPlace : Phase → ℕ → ℕ → Type 0
HasPlace (Mapped at number) place count = (at ≡ place) × (number ≡ count)
HasPlace (Failed at number faults) place count = (at ≡ place) × (number ≡ count)
HasPlace phase place count = ⊥

asked_same : (ask : Option Ask) (s : Scanning) (place count : ℕ) → HasPlace (after_ask ask s).phase place count → after_ask ask s ≡ s
asked_same None s place count h = refl
asked_same (Some ask) s place count h = by_newer (is_newer ask s.ask) h
  where
    by_newer : (b : Bool) → HasPlace (cond b (record { ask = Some ask; phase = Waiting; last = None; copy = None; steps = 0; entries = [] }) s).phase place count
        → cond b (record { ask = Some ask; phase = Waiting; last = None; copy = None; steps = 0; entries = [] }) s ≡ s
    by_newer true f = absurd f
    by_newer false f = refl

never_dropped : (phase : Phase) (touched : Bool) (ask : Option Ask) (chunk place count : ℕ) → Some chunk ≡ chunk_where (can_drop phase && touched) ask → HasPlace (dropped phase) place count → ⊥
never_dropped Waiting touched ask chunk place count e h = h
never_dropped Between touched ask chunk place count e h = h
never_dropped Reading touched ask chunk place count e h = h
never_dropped (Mapped p c) touched ask chunk place count e h = h
never_dropped (Failed p c f) touched ask chunk place count e h = some_none chunk e
never_dropped Over touched ask chunk place count e h = h

drop_same : (drops : Option ℕ) (s : Scanning) (item : Option Item) (place count : ℕ) → drops ≡ drop_of s item → HasPlace (after_drop drops s).phase place count → after_drop drops s ≡ s
drop_same None s item place count e h = refl
drop_same (Some chunk) s item place count e h = absurd (never_dropped s.phase (touches s.ask item) s.ask chunk place count e h)

going_not_ended : (stride : ℕ) (s : Scanning) (copy : Option ObjCopy) (place count : ℕ) → IsGoingOn stride s copy → HasPlace s.phase place count → ⊥
going_not_ended stride s None place count h e = h
going_not_ended stride s (Some copy) place count h e = subst (λ p. HasPlace p place count) h.0 e

ended_now : (event : Event) (past : List Event) (place count : ℕ) → suc (length past) ≡ place → applied (event ∷ past) ≡ count → IsSince (event ∷ past) place count
ended_now event past place count is then = record {
  within = omega (arith, is);
  same = ap (λ n. scanning (at_place n (event ∷ past))) (sym is) ∙ ap scanning (at_end (event ∷ past));
  applied_is = ap (λ n. applied (at_place n (event ∷ past))) (sym is) ∙ ap applied (at_end (event ∷ past)) ∙ then;
}

pub ended_since : (stride : ℕ) (past : List Event) (place count : ℕ) → IsLegal stride past → HasPlace (scanning past).phase place count → IsSince past place count
ended_since stride [] place count legal h = absurd h
ended_since stride (Fed from items ask ∷ past) place count legal h =
    let same = asked_same ask (scanning past) place count h in
    since_more (Fed from items ask) past place count same (ended_since stride past place count legal.1 (subst (λ s. HasPlace s.phase place count) same h))
ended_since stride (Applied number drops ∷ past) place count legal h =
    let same = drop_same drops (scanning past) (item_of number (fed past)) place count legal.0.2 h in
    since_more (Applied number drops) past place count same (ended_since stride past place count legal.1 (subst (λ s. HasPlace s.phase place count) same h))
ended_since stride (DeviceFault faults ∷ past) place count legal h = since_more (DeviceFault faults) past place count refl (ended_since stride past place count legal.1 h)
ended_since stride (ListFailed faults ∷ past) place count legal h = since_more (ListFailed faults) past place count refl (ended_since stride past place count legal.1 h)
ended_since stride (Scanned (Found id) ∷ past) place count legal h = absurd h
ended_since stride (Scanned More ∷ past) place count legal h = absurd (going_not_ended stride (scanning past) (scanning past).copy place count legal.0 h)
ended_since stride (Scanned (Passed id mark) ∷ past) place count legal h = absurd h
ended_since stride (Scanned Done ∷ past) place count legal h = ended_now (Scanned Done) past place count h.0 h.1
ended_since stride (Scanned (ListFault faults) ∷ past) place count legal h = ended_now (Scanned (ListFault faults)) past place count h.0 h.1
ended_since stride (Handed ∷ past) place count legal h = absurd h
ended_since stride (Damaged family snap damage answer ∷ past) place count legal h = since_more (Damaged family snap damage answer) past place count refl (ended_since stride past place count legal.1 h)

pub mapped_since : (stride : ℕ) (past : List Event) (place count : ℕ) → IsLegal stride past → (scanning past).phase ≡ Mapped place count → IsSince past place count
mapped_since stride past place count legal e = ended_since stride past place count legal (subst (λ p. HasPlace p place count) (sym e) (refl, refl))

pub failed_since : (stride : ℕ) (past : List Event) (place count faults : ℕ) → IsLegal stride past → (scanning past).phase ≡ Failed place count faults → IsSince past place count
failed_since stride past place count faults legal e = ended_since stride past place count legal (subst (λ p. HasPlace p place count) (sym e) (refl, refl))

-- ---- what is handed

-- a map that is handed is of the OSD and of the ask of a scan that ended with it at the place that is handed
pub record IsMapFrom (osd : ℕ) (ask : Option Ask) (phase : Phase) (entries : List Entry) (scanned : ScanResult) (map : ScrubMap) : Type 0 where
  pub count : ℕ
  pub asked : Ask
  pub of : ask ≡ Some asked
  pub phase_is : phase ≡ Mapped scanned.place count
  pub whole : scanned ≡ result_of scanned.place map
  pub osd_is : map.osd ≡ osd
  pub chunk_is : map.chunk ≡ asked.chunk
  pub serial_is : map.serial ≡ asked.serial
  pub range_is : map.range ≡ asked.range
  pub needed_is : map.needed ≡ asked.needed
  pub applied_is : map.applied ≡ count
  pub entries_is : map.entries ≡ entries

same_map : (a b : ScrubMap) → results.Map a ≡ results.Map b → a ≡ b
same_map a b e = cc

map_at : (osd : ℕ) (ask : Ask) (phase : Phase) (entries : List Entry) (scanned : ScanResult) (map : ScrubMap) → handed_at osd phase ask entries ≡ Some scanned → scanned.found ≡ results.Map map
    → IsMapFrom osd (Some ask) phase entries scanned map
map_at osd ask Waiting entries scanned map e f = absurd cc
map_at osd ask Between entries scanned map e f = absurd cc
map_at osd ask Reading entries scanned map e f = absurd cc
map_at osd ask (Mapped place count) entries scanned map e f = mapped scanned map (sym (some_same _ scanned e)) f
  where
    mapped : (scanned : ScanResult) (map : ScrubMap) → scanned ≡ record { osd = osd; serial = ask.serial; chunk = ask.chunk; applied = count; place = place; found = results.Map (record { osd = osd; serial = ask.serial; chunk = ask.chunk; needed = ask.needed; applied = count; range = ask.range; entries = entries }) }
        → scanned.found ≡ results.Map map → IsMapFrom osd (Some ask) (Mapped place count) entries scanned map
    mapped scanned map e f =
        let made : ScrubMap = record { osd = osd; serial = ask.serial; chunk = ask.chunk; needed = ask.needed; applied = count; range = ask.range; entries = entries } in
        let is : made ≡ map = same_map made map (ap (λ d. d.found) (sym e) ∙ f) in
        let where_is : scanned.place ≡ place = ap (λ d. d.place) e in
        record {
          count = count;
          asked = ask;
          of = refl;
          phase_is = ap (λ n. Mapped n count) (sym where_is);
          whole = e ∙ ap (λ m. result_of place m) is ∙ ap (λ n. result_of n map) (sym where_is);
          osd_is = sym (ap (λ m. m.osd) is);
          chunk_is = sym (ap (λ m. m.chunk) is);
          serial_is = sym (ap (λ m. m.serial) is);
          range_is = sym (ap (λ m. m.range) is);
          needed_is = sym (ap (λ m. m.needed) is);
          applied_is = sym (ap (λ m. m.applied) is);
          entries_is = sym (ap (λ m. m.entries) is);
        }
map_at osd ask (Failed place count faults) entries scanned map e f = absurd (no_map (ap (λ d. d.found) (some_same _ scanned e) ∙ f))
  where
    no_map : results.ListFault faults ≡ results.Map map → ⊥
    no_map same = cc
map_at osd ask Over entries scanned map e f = absurd cc

pub map_of_scan : (osd : ℕ) (ask : Option Ask) (s : Scanning) (scanned : ScanResult) (map : ScrubMap) → s.ask ≡ ask → handed_in osd s ≡ Some scanned → scanned.found ≡ results.Map map
    → IsMapFrom osd ask s.phase s.entries scanned map
map_of_scan osd ask s scanned map is e f = by_ask s.ask refl is e
  where
    by_ask : (own : Option Ask) → own ≡ s.ask → own ≡ ask → handed_by osd own s ≡ Some scanned → IsMapFrom osd ask s.phase s.entries scanned map
    by_ask None here is e = absurd cc
    by_ask (Some a) here is e = subst (λ o. IsMapFrom osd o s.phase s.entries scanned map) is (map_at osd a s.phase s.entries scanned map e f)

-- a fault that is handed is of the OSD and of the ask of a scan that ended with it at the place that is handed
pub record IsFaultFrom (osd : ℕ) (ask : Option Ask) (phase : Phase) (scanned : ScanResult) (faults : ℕ) : Type 0 where
  pub count : ℕ
  pub asked : Ask
  pub of : ask ≡ Some asked
  pub phase_is : phase ≡ Failed scanned.place count faults
  pub whole : scanned ≡ fault_of osd scanned.serial scanned.chunk faults count scanned.place
  pub chunk_is : scanned.chunk ≡ asked.chunk
  pub serial_is : scanned.serial ≡ asked.serial

fault_at : (osd : ℕ) (ask : Ask) (phase : Phase) (entries : List Entry) (scanned : ScanResult) (faults : ℕ) → handed_at osd phase ask entries ≡ Some scanned → scanned.found ≡ results.ListFault faults
    → IsFaultFrom osd (Some ask) phase scanned faults
fault_at osd ask Waiting entries scanned faults e f = absurd cc
fault_at osd ask Between entries scanned faults e f = absurd cc
fault_at osd ask Reading entries scanned faults e f = absurd cc
fault_at osd ask (Mapped place count) entries scanned faults e f = absurd (no_fault (ap (λ d. d.found) (some_same _ scanned e) ∙ f))
  where
    no_fault : results.Map (record { osd = osd; serial = ask.serial; chunk = ask.chunk; needed = ask.needed; applied = count; range = ask.range; entries = entries }) ≡ results.ListFault faults → ⊥
    no_fault same = cc
fault_at osd ask (Failed place count own) entries scanned faults e f = told scanned (sym (some_same _ scanned e)) f
  where
    same_faults : results.ListFault own ≡ results.ListFault faults → own ≡ faults
    same_faults e = cc

    told : (scanned : ScanResult) → scanned ≡ fault_of osd ask.serial ask.chunk own count place → scanned.found ≡ results.ListFault faults → IsFaultFrom osd (Some ask) (Failed place count own) scanned faults
    told scanned e f =
        let is : own ≡ faults = same_faults (ap (λ d. d.found) (sym e) ∙ f) in
        let place_is : scanned.place ≡ place = ap (λ d. d.place) e in
        let chunk_is : scanned.chunk ≡ ask.chunk = ap (λ d. d.chunk) e in
        let serial_is : scanned.serial ≡ ask.serial = ap (λ d. d.serial) e in
        record {
          count = count;
          asked = ask;
          of = refl;
          phase_is = ap (λ n. Failed n count own) (sym place_is) ∙ ap (λ n. Failed scanned.place count n) is;
          whole = e ∙ (λ i. fault_of osd (sym serial_is i) (sym chunk_is i) (is i) count (sym place_is i));
          chunk_is = chunk_is;
          serial_is = serial_is;
        }
fault_at osd ask Over entries scanned faults e f = absurd cc

pub fault_of_scan : (osd : ℕ) (ask : Option Ask) (s : Scanning) (scanned : ScanResult) (faults : ℕ) → s.ask ≡ ask → handed_in osd s ≡ Some scanned → scanned.found ≡ results.ListFault faults
    → IsFaultFrom osd ask s.phase scanned faults
fault_of_scan osd ask s scanned faults is e f = by_ask s.ask refl is e
  where
    by_ask : (own : Option Ask) → own ≡ s.ask → own ≡ ask → handed_by osd own s ≡ Some scanned → IsFaultFrom osd ask s.phase scanned faults
    by_ask None here is e = absurd cc
    by_ask (Some a) here is e = subst (λ o. IsFaultFrom osd o s.phase scanned faults) is (fault_at osd a s.phase s.entries scanned faults e f)
