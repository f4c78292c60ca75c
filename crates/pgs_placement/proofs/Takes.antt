-- A map that an OSD hands is of the chunk that it says, and is what its scan had ended with at the place that is handed.
use Rattle.std.proofs.Common.{◌≡◌, ℕ, zero, suc, ◌==◌, ◌≤◌, arith, true, false, cond, List, [], ◌∷◌, length, Option, Some, None, refl, sym, ap, ◌∙◌, subst}
use Rattle.pgs_chunk.specs.declared.ask.Ask.{Ask}
use Rattle.pgs_range.specs.Ranges.{in_range}
use Rattle.pgs_map.specs.Entries.{entry_at}
use Rattle.pgs_map.specs.declared.entry.Entry.{Entry}
use Rattle.pgs_map.specs.declared.scrub_map.ScrubMap.{ScrubMap}
use Rattle.pgs_history.specs.Facts.{upto}
use Rattle.pgs_history.specs.Legal.{IsOfChunk}
use Rattle.pgs_history.specs.Log.{log}
use Rattle.pgs_history.specs.Scrubs.{IsBegun, open_chunk, last_kind, is_deep}
use Rattle.pgs_history.specs.declared.chunk.Chunk.{Chunk}
use Rattle.pgs_history.specs.declared.event.Event.{Event}
use Rattle.pgs_shard.specs.Scans.{handed_in, past_after_hand}
use Rattle.pgs_exchange.specs.declared.scan_result.ScanResult.{ScanResult}
use Rattle.pgs_exchange.specs.declared.scan_result.Found.TheVariants as results
use Rattle.pgs_store.specs.Stores.{Stored}
use Rattle.pgs_shard_history.specs.Laws.{applied_items}
use Rattle.pgs_shard_history.specs.Scanning.{Scanning, scanning}
use Rattle.pgs_shard_history.specs.Scans.{at_place, IsMapped, IsAt, IsSoundScan}
use Rattle.pgs_shard_history.specs.Stores.{applied, stored_by}
use Rattle.pgs_shard_history.specs.declared.phase.Phase.{Phase}
use Rattle.pgs_shard_history.specs.declared.phase.Phase.TheVariants.{Mapped}
use Rattle.pgs_shard_history.proofs.Scans.{sound}
use Rattle.pgs_shard_history.specs.declared.event.Event.{Event as ShardEvent}
use Rattle.pgs_shard_history.specs.Legal.{IsLegal as IsLegalShard}
use Rattle.pgs_shards.specs.Members.{Member, past_in}
use Rattle.pgs_shards.specs.Scans.{hand_answer, after_hand, hand_in, with_handed}
use Rattle.pgs_done.specs.declared.done.Done.TheVariants as dones
use Rattle.pgs_done.specs.declared.take_answer.TakeAnswer.TheVariants.{NotDone}
use Rattle.pgs_placement.specs.Scrubs.{handed_taken, after_taking}
use Rattle.pgs_seen.specs.Seen.{seen_entry, IsSeen}
use Rattle.pgs_seen.proofs.Seen.{seen}
use Rattle.pgs_placement.specs.Cited.{result_of, IsMapOf, HasSeen, IsCited, IsScanFault, IsFaultCited}
use Rattle.pgs_placement.specs.Counts.{is_member, IsOfOpened, IsAsked, IsInStep}
use Rattle.pgs_placement.specs.Sound.{IsSound}
use Rattle.pgs_placement.specs.State.{PlacementState}
use Rattle.pgs_placement.proofs.Versions.{applied_at, items_at}
use Rattle.pgs_placement.proofs.Mapped.{IsMapFrom, map_of_scan, mapped_since, IsFaultFrom, fault_of_scan, failed_since}
use Rattle.pgs_placement.proofs.Members.{hand_of, legal_in}

-- what an ask says of an open chunk, its map says too
of_opened : (past : List Event) (asked : Option Ask) (ask : Ask) (map : ScrubMap) → asked ≡ Some ask → IsAsked past asked → map.chunk ≡ ask.chunk → map.range ≡ ask.range → IsOfChunk past map
of_opened past asked ask map is h chunk_is range_is = from (subst (IsAsked past) is h)
  where
    from : IsOfOpened past ask → IsOfChunk past map
    from o = λ chunk now number. range_is ∙ (o.now chunk now (number ∙ chunk_is)).range

of_now : (past : List Event) (asked : Option Ask) (ask : Ask) (map : ScrubMap) → asked ≡ Some ask → IsAsked past asked → map.chunk ≡ ask.chunk → map.serial ≡ ask.serial
    → map.range ≡ ask.range → map.needed ≡ ask.needed → (chunk : Chunk) → open_chunk past ≡ Some chunk → chunk.number ≡ map.chunk → IsMapOf chunk map
of_now past asked ask map is h chunk_is serial_is range_is needed_is chunk now number = from (subst (IsAsked past) is h)
  where
    from : IsOfOpened past ask → IsMapOf chunk map
    from o =
        let one = o.now chunk now (number ∙ chunk_is) in
        record { serial = serial_is ∙ one.serial; range = range_is ∙ one.range; needed = needed_is ∙ one.needed }

-- its entries are those of the copies that were seen
seen_now : (past : List Event) (asked : Option Ask) (ask : Ask) (map : ScrubMap) (entries : List Entry) (at : List ShardEvent) → asked ≡ Some ask → IsAsked past asked → map.chunk ≡ ask.chunk
    → map.range ≡ ask.range → map.entries ≡ entries → IsSeen ask entries at → (chunk : Chunk) → open_chunk past ≡ Some chunk → chunk.number ≡ map.chunk → HasSeen map (is_deep (last_kind past)) at
seen_now past asked ask map entries at is h chunk_is range_is entries_is seen_at chunk now number = from (subst (IsAsked past) is h)
  where
    from : IsOfOpened past ask → HasSeen map (is_deep (last_kind past)) at
    from o = λ id inside.
        ap (entry_at id) entries_is ∙ seen_at id (ap (λ r. in_range r id.family) (sym range_is) ∙ inside) ∙ ap (λ d. seen_entry d id at) (o.deep chunk now (number ∙ chunk_is))

map_of_past : (osd : ℕ) (shard : List ShardEvent) (scanned : ScanResult) (map : ScrubMap) → handed_in osd (scanning shard) ≡ Some scanned → scanned.found ≡ results.Map map
    → IsMapFrom osd (scanning shard).ask (scanning shard).phase (scanning shard).entries scanned map
map_of_past osd shard scanned map e f = map_of_scan osd (scanning shard).ask (scanning shard) scanned map refl e f

pub take_of : (w : PlacementState) (osd : ℕ) (scanned : ScanResult) (map : ScrubMap) → IsSound w → is_member w.made osd ≡ true → hand_in w.members osd ≡ Some scanned → scanned.found ≡ results.Map map
    → IsOfChunk w.past map
take_of w osd scanned map s member e f =
    let m = map_of_past osd (past_in w.members osd) scanned map (sym (hand_of w.members osd) ∙ e) f in
    of_opened w.past (scanning (past_in w.members osd)).ask m.asked map m.of (s.steady.in_step.each osd member).asked m.chunk_is m.range_is

-- that of the call
pub of_chunk : (w : PlacementState) (osd : ℕ) (scanned : ScanResult) (map : ScrubMap) → IsSound w → is_member w.made osd ≡ true → Some scanned ≡ hand_in w.members osd → results.Map map ≡ scanned.found
    → IsOfChunk w.past map
of_chunk w osd scanned map s member e f = take_of w osd scanned map s member (sym e) (sym f)

-- a scan that ended with a map had applied what its ask needs
needed_at : (stride : ℕ) (ask : Ask) (phase : Phase) (s : Scanning) (place count now : ℕ) (stored : Stored) → phase ≡ Mapped place count → IsAt stride phase ask s now stored → ask.needed ≤ count
needed_at stride ask phase s place count now stored is h = from (subst (λ p. IsAt stride p ask s now stored) is h)
  where
    from : IsMapped ask s count → ask.needed ≤ count
    from m = m.needed

needed_of : (stride : ℕ) (asked : Option Ask) (ask : Ask) (s : Scanning) (place count now : ℕ) (stored : Stored) → asked ≡ Some ask → s.phase ≡ Mapped place count → IsSoundScan stride asked s now stored
    → ask.needed ≤ count
needed_of stride asked ask s place count now stored is mapped h =
    needed_at stride ask s.phase s place count now stored mapped (subst (λ a. IsSoundScan stride a s now stored) is h)

-- the map is cited at its place
pub take_cited : (stride : ℕ) (members : List Member) (past : List Event) (osd : ℕ) (scanned : ScanResult) (map : ScrubMap) → IsLegalShard stride (past_in members osd) → IsInStep past osd (past_in members osd)
    → hand_in members osd ≡ Some scanned → scanned.found ≡ results.Map map → IsCited members past scanned.place map
take_cited stride members past osd scanned map legal h e f =
    let shard : List ShardEvent = past_in members osd in
    let told : handed_in osd (scanning shard) ≡ Some scanned = sym (hand_of members osd) ∙ e in
    let m = map_of_past osd shard scanned map told f in
    let since = mapped_since stride shard scanned.place m.count legal m.phase_is in
    let enough : m.asked.needed ≤ m.count =
    needed_of stride (scanning shard).ask m.asked (scanning shard) scanned.place m.count (applied shard) (stored_by shard) m.of m.phase_is (sound stride shard legal) in
    let needs = m.needed_is in
    let counts = m.applied_is in
    let then = since.applied_is in
    let less : applied (at_place scanned.place shard) ≤ applied shard = applied_at stride shard scanned.place legal in
    let pulls = h.applied_pulled in
    let has = h.pulled_log in
    let items : applied_items (at_place scanned.place shard) ≡ upto map.applied (log past) =
    items_at stride past osd shard scanned.place legal h ∙ ap (λ n. upto n (log past)) (since.applied_is ∙ sym m.applied_is) in
    subst (λ q. (scanned.place ≤ length (past_in members q)) → (handed_in q (scanning (at_place scanned.place (past_in members q))) ≡ Some (result_of scanned.place map))
    → (applied_items (at_place scanned.place (past_in members q)) ≡ upto map.applied (log past))
    → ((chunk : Chunk) → open_chunk past ≡ Some chunk → chunk.number ≡ map.chunk → HasSeen map (is_deep (last_kind past)) (at_place scanned.place (past_in members q))) → IsCited members past scanned.place map) m.osd_is
    (λ within ended first seen_there. record {
      within = within;
      ended = ended;
      items = first;
      needed = omega (arith, enough, needs, counts);
      logged = omega (arith, counts, then, less, pulls, has);
      of = of_now past (scanning shard).ask m.asked map m.of h.asked m.chunk_is m.serial_is m.range_is m.needed_is;
      seen = seen_there;
    }) since.within (ap (λ s. handed_in osd s) since.same ∙ told ∙ ap (λ d. Some d) m.whole) items
    (seen_now past (scanning shard).ask m.asked map (scanning shard).entries (at_place scanned.place shard) m.of h.asked m.chunk_is m.range_is m.entries_is
    (seen stride shard legal scanned.place m.count m.asked m.phase_is m.of))

-- ---- a fault

fault_of_past : (osd : ℕ) (shard : List ShardEvent) (scanned : ScanResult) (count : ℕ) → handed_in osd (scanning shard) ≡ Some scanned → scanned.found ≡ results.ListFault count
    → IsFaultFrom osd (scanning shard).ask (scanning shard).phase scanned count
fault_of_past osd shard scanned count e f = fault_of_scan osd (scanning shard).ask (scanning shard) scanned count refl e f

-- an ask that is asked is of an opened chunk
asked_is : (past : List Event) (asked : Option Ask) (ask : Ask) → asked ≡ Some ask → IsAsked past asked → IsOfOpened past ask
asked_is past asked ask is h = subst (IsAsked past) is h

scan_cited : (members : List Member) (serial chunk osd count : ℕ) → 1 ≤ chunk → IsScanFault members serial chunk osd count → IsFaultCited members serial chunk osd count
scan_cited members serial zero osd count some h = absurd (omega (arith, some))
scan_cited members serial (suc chunk) osd count some h = h

-- the fault is cited at its place, and is of a scrub that began
pub fault_cited : (stride : ℕ) (members : List Member) (past : List Event) (osd : ℕ) (scanned : ScanResult) (count : ℕ) → IsLegalShard stride (past_in members osd) → IsInStep past osd (past_in members osd)
    → hand_in members osd ≡ Some scanned → scanned.found ≡ results.ListFault count → IsFaultCited members scanned.serial scanned.chunk osd count × IsBegun past scanned.serial
fault_cited stride members past osd scanned count legal h e f =
    let shard : List ShardEvent = past_in members osd in
    let told : handed_in osd (scanning shard) ≡ Some scanned = sym (hand_of members osd) ∙ e in
    let m = fault_of_past osd shard scanned count told f in
    let since = failed_since stride shard scanned.place m.count count legal m.phase_is in
    let opened = asked_is past (scanning shard).ask m.asked m.of h.asked in (
      scan_cited members scanned.serial scanned.chunk osd count (subst (λ n. 1 ≤ n) (sym m.chunk_is) opened.some) (record {
        place = scanned.place;
        applied = m.count;
        within = since.within;
        ended = ap (λ s. handed_in osd s) since.same ∙ told ∙ ap (λ d. Some d) m.whole;
      }),
      subst (IsBegun past) (sym m.serial_is) opened.begun,
    )

pub fault_begun : (w : PlacementState) (osd : ℕ) (scanned : ScanResult) (count : ℕ) → IsSound w → is_member w.made osd ≡ true → Some scanned ≡ hand_in w.members osd → results.ListFault count ≡ scanned.found
    → IsBegun w.past scanned.serial
fault_begun w osd scanned count s member e f =
    let h = s.steady.in_step in
    (fault_cited w.stride w.members w.past osd scanned count (legal_in w.stride w.members osd h.whole) (h.each osd member) (sym e) (sym f)).1

-- ---- nothing

-- where an OSD hands nothing it stays as it is
none_handed : (members : List Member) (osd : ℕ) → hand_in members osd ≡ None → with_handed osd members ≡ members
none_handed [] osd none = refl
none_handed (member ∷ members) osd none =
    (elim (member.osd == osd) as (λ b. cond b (hand_answer member) (hand_in members osd) ≡ None → cond b (after_hand member ∷ members) (member ∷ with_handed osd members) ≡ member ∷ members) [
      | true ↦ λ e. ap (λ d. record member { past = past_after_hand d member.past } ∷ members) e
      | false ↦ λ e. ap (λ l. member ∷ l) (none_handed members osd e)
    ]) none

-- where nothing is handed, nothing changes but that this was answered
pub none_taken : (w u v : PlacementState) (group osd : ℕ) → None ≡ hand_in w.members osd → u ≡ record w { members = with_handed osd w.members }
    → v ≡ record u { done = dones.Take group osd NotDone ∷ u.done } → v ≡ after_taking w group osd
none_taken w u v group osd none handed is =
    let kept : PlacementState → PlacementState = λ x. record x { done = dones.Take group osd NotDone ∷ x.done } in
    is ∙ ap kept (handed ∙ ap (λ ms. record w { members = ms }) (none_handed w.members osd (sym none))) ∙ ap (λ d. handed_taken d w group osd) none
