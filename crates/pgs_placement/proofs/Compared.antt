-- A chunk that is closed has compared copies that all stand at its one version.
use Rattle.std.proofs.Common.{◌≡◌, ℕ, ◌+◌, ◌<◌, ◌≤◌, ◌==◌, ◌&&◌, ◌||◌, nat_lt, Bool, true, false, cond, not, List, [], ◌∷◌, length, find, Option, Some, None, refl, sym, ap, ◌∙◌, subst, arith}
use Rattle.std.specs.Prelude.{is_none, option_map}
use Rattle.std.specs.Bool.{then_some}
use Rattle.std.specs.List.{AllByRecursion}
use Rattle.std.proofs.lemmas.Bool.Decides.{nat_tests}
use Rattle.pgs_bytes.proofs.Facts.{none_some, some_none, some_same, true_false}
use Rattle.pgs_map.specs.declared.scrub_map.ScrubMap.{ScrubMap}
use Rattle.pgs_medium.specs.declared.item.Item.{Item}
use Rattle.pgs_op.specs.Refusals.{first}
use Rattle.pgs_compare.specs.Report.{report}
use Rattle.pgs_compare.specs.declared.report.Report.{Report}
use Rattle.pgs_history.specs.Acting.{acting}
use Rattle.pgs_history.specs.Answers.{taken_by, take_answer, missing, version_of, maps_of, found, is_last, told_of, unclosed, or_closed, close_answer}
use Rattle.pgs_history.specs.Facts.{upto}
use Rattle.pgs_history.specs.Legal.{IsLegal}
use Rattle.pgs_history.specs.Log.{log, item_of}
use Rattle.pgs_history.specs.Scrubs.{last_kind, is_deep, opened, open_chunk, has_number, is_open, fate, taken}
use Rattle.pgs_history.specs.declared.chunk.Chunk.{Chunk}
use Rattle.pgs_history.specs.declared.fate.Fate.{Fate}
use Rattle.pgs_history.specs.declared.fate.Fate.TheVariants as fates
use Rattle.pgs_history.specs.declared.write_answer.WriteAnswer.TheVariants.{Declined, Parked, QueueFull, Accepted}
use Rattle.pgs_history.specs.declared.begin_answer.BeginAnswer.TheVariants.{Busy, Began}
use Rattle.pgs_history.specs.declared.open_answer.OpenAnswer.TheVariants.{Over, StillReserving, Already, Opened}
use Rattle.pgs_history.specs.declared.fault_answer.FaultAnswer.TheVariants as faults
use Rattle.pgs_history.specs.declared.interval_answer.IntervalAnswer.TheVariants as intervals
use Rattle.pgs_history.specs.declared.take_answer.TakeAnswer.TheVariants.{Stale, Taken}
use Rattle.pgs_history.specs.declared.close_answer.CloseAnswer.TheVariants as closes
use Rattle.pgs_history.specs.declared.event.Event.{Event}
use Rattle.pgs_history.specs.declared.event.Event.TheVariants.{Submit, Admit, Collect, Pull, Tell, Begin, Reserve, Open, Take, Close, Fault, Interval}
use Rattle.pgs_history.specs.declared.made.Made.{Made}
use Rattle.pgs_history.proofs.Answered.{accepted_is, admitted_is}
use Rattle.pgs_history.proofs.Fates.{fated}
use Rattle.pgs_history.proofs.Gates.{none_above}
use Rattle.pgs_history.proofs.Steps.{opened_is}
use Rattle.pgs_shard.specs.Scans.{handed_in}
use Rattle.pgs_shard_history.specs.Laws.{applied_items}
use Rattle.pgs_shard_history.specs.Scanning.{scanning}
use Rattle.pgs_shard_history.specs.Scans.{at_place}
use Rattle.pgs_shards.specs.Members.{Member, past_in}
use Rattle.pgs_placement.specs.Cited.{result_of, IsMapOf, HasSeen, IsCited, AreCited}
use Rattle.pgs_placement.specs.Compared.{IsCompared, IsOneVersion, AreCompared}
use Rattle.pgs_placement.specs.Versions.{items_in}
use Rattle.pgs_placement.proofs.Inside.{none_open}
use Rattle.pgs_placement.proofs.Items.{upto_over}
use Rattle.pgs_placement.proofs.Versions.{all_upto, version_of as items_upto}

-- ---- numbers

both_true : (a b : Bool) → (a && b) ≡ true → (a ≡ true) × (b ≡ true)
both_true true b e = (refl, e)
both_true false b e = absurd (true_false (sym e))

same_numbers : (a b : ℕ) → (a == b) ≡ true → a ≡ b
same_numbers a b e = grind (arith, nat_tests, e)

-- ---- it is of a chunk that was opened

taken_open : (now : Option Chunk) (number : ℕ) → Taken ≡ taken_by now number → (c : Chunk) × (now ≡ Some c) × (c.number ≡ number)
taken_open None number e = absurd cc
taken_open (Some c) number e = by_test (c.number == number) refl e
  where
    by_test : (b : Bool) → b ≡ (c.number == number) → Taken ≡ cond b Taken (Stale (Some c.number)) → (d : Chunk) × (Some c ≡ Some d) × (d.number ≡ number)
    by_test true is e = (c, refl, same_numbers c.number number (sym is))
    by_test false is e = absurd cc

within_opened : (made : Made) (past : List Event) (map : ScrubMap) → IsLegal made past → Taken ≡ take_answer past map → map.chunk ≤ opened past
within_opened made past map legal e =
    let t = taken_open (open_chunk past) map.chunk e in
    let last : t.0.number ≡ opened past = (fated made past legal).last t.0 t.1 in
    let number = t.2 in
    omega (arith, last, number)

last_within : (made : Made) (past : List Event) (m map : ScrubMap) (chunk osd : ℕ) (before : Option ScrubMap) → m.chunk ≤ opened past → ((x : ScrubMap) → before ≡ Some x → chunk ≤ opened past)
    → cond ((m.chunk == chunk) && (m.osd == osd)) (Some m) before ≡ Some map → chunk ≤ opened past
last_within made past m map chunk osd before most earlier e =
    let P : Bool → Type 0 = λ v. ((m.chunk == chunk) && (m.osd == osd)) ≡ v → cond v (Some m) before ≡ Some map → chunk ≤ opened past in
    (elim ((m.chunk == chunk) && (m.osd == osd)) as P [
      | true ↦ λ same is. subst (λ n. n ≤ opened past) (same_numbers m.chunk chunk (both_true (m.chunk == chunk) (m.osd == osd) same).0) most
      | false ↦ λ other is. earlier map is
    ]) refl e

taken_within : (made : Made) (past : List Event) → IsLegal made past → (chunk osd : ℕ) (map : ScrubMap) → taken past chunk osd ≡ Some map → chunk ≤ opened past
taken_within made [] legal chunk osd map e = absurd (none_some map e)
taken_within made (Take place m Taken ∷ past) legal chunk osd map e =
    last_within made past m map chunk osd (taken past chunk osd) (within_opened made past m legal.2 legal.1.0) (λ x is. taken_within made past legal.2 chunk osd x is) e
taken_within made (Take place m (Stale now) ∷ past) legal chunk osd map e = taken_within made past legal.2 chunk osd map e
taken_within made (Submit write answer ∷ past) legal chunk osd map e = taken_within made past legal.2 chunk osd map e
taken_within made (Admit write answer ∷ past) legal chunk osd map e = taken_within made past legal.2 chunk osd map e
taken_within made (Collect id version ∷ past) legal chunk osd map e = taken_within made past legal.2 chunk osd map e
taken_within made (Pull other from to asked ∷ past) legal chunk osd map e = taken_within made past legal.2 chunk osd map e
taken_within made (Tell other count ∷ past) legal chunk osd map e = taken_within made past legal.2 chunk osd map e
taken_within made (Begin kind answer ∷ past) legal chunk osd map e = taken_within made past legal.2 chunk osd map e
taken_within made (Reserve serial other denied answer ∷ past) legal chunk osd map e = taken_within made past legal.2 chunk osd map e
taken_within made (Fault serial number other count answer ∷ past) legal chunk osd map e = taken_within made past legal.2 chunk osd map e
taken_within made (Interval osds answer ∷ past) legal chunk osd map e = taken_within made past legal.2 chunk osd map e
taken_within made (Open serial listed (Over cause) ∷ past) legal chunk osd map e = taken_within made past legal.2 chunk osd map e
taken_within made (Open serial listed (StillReserving other) ∷ past) legal chunk osd map e = taken_within made past legal.2 chunk osd map e
taken_within made (Open serial listed (Already other) ∷ past) legal chunk osd map e = taken_within made past legal.2 chunk osd map e
taken_within made (Open serial listed (Opened next) ∷ past) legal chunk osd map e = let h = taken_within made past legal.2 chunk osd map e in omega (arith, h)
taken_within made (Close number answer ∷ past) legal chunk osd map e = taken_within made past legal.2 chunk osd map e

-- ---- the map that an OSD gave last of the chunk that is open

-- the scan that it is of, whatever came into the log since
record IsGiven (members : List Member) (past : List Event) (chunk : Chunk) (osd : ℕ) (map : ScrubMap) : Type 0 where
  place : ℕ
  within : place ≤ length (past_in members osd)
  ended : handed_in osd (scanning (at_place place (past_in members osd))) ≡ Some (result_of place map)
  items : applied_items (at_place place (past_in members osd)) ≡ upto map.applied (log past)
  needed : map.needed ≤ map.applied
  logged : map.applied ≤ length (log past)
  of : IsMapOf chunk map
  seen : HasSeen map (is_deep (last_kind past)) (at_place place (past_in members osd))

-- one item more
given_more : (members : List Member) (past : List Event) (item : Item) (chunk : Chunk) (osd : ℕ) (map : ScrubMap) → item.number ≡ length (log past) + 1 → IsGiven members past chunk osd map
    → (new : List Event) → log new ≡ item ∷ log past → last_kind new ≡ last_kind past → IsGiven members new chunk osd map
given_more members past item chunk osd map number h new is kind =
    let logged = h.logged in
    let above : map.applied < item.number = omega (arith, number, logged) in
    let size : length (log new) ≡ length (item ∷ log past) = ap length is in
    record {
      place = h.place;
      within = h.within;
      ended = h.ended;
      items = h.items ∙ sym (upto_over map.applied item (log past) above) ∙ ap (upto map.applied) (sym is);
      needed = h.needed;
      logged = omega (arith, size, logged);
      of = h.of;
      seen = subst (λ k. HasSeen map (is_deep k) (at_place h.place (past_in members osd))) (sym kind) h.seen;
    }

-- the log stays
given_same : (members : List Member) (past new : List Event) (chunk : Chunk) (osd : ℕ) (map : ScrubMap) → log new ≡ log past → last_kind new ≡ last_kind past → IsGiven members past chunk osd map
    → IsGiven members new chunk osd map
given_same members past new chunk osd map is kind h = record {
  place = h.place;
  within = h.within;
  ended = h.ended;
  items = h.items ∙ ap (upto map.applied) (sym is);
  needed = h.needed;
  logged = subst (λ l. map.applied ≤ length l) (sym is) h.logged;
  of = h.of;
  seen = subst (λ k. HasSeen map (is_deep k) (at_place h.place (past_in members osd))) (sym kind) h.seen;
}

given_now : (members : List Member) (past : List Event) (place : ℕ) (map : ScrubMap) (chunk : Chunk) → open_chunk past ≡ Some chunk → chunk.number ≡ map.chunk → IsCited members past place map
    → IsGiven members past chunk map.osd map
given_now members past place map chunk now number h = record {
  place = place;
  within = h.within;
  ended = h.ended;
  items = h.items;
  needed = h.needed;
  logged = h.logged;
  of = h.of chunk now number;
  seen = h.seen chunk now number;
}

taken_now : (members : List Member) (past : List Event) (place : ℕ) (given map : ScrubMap) (chunk : Chunk) (osd : ℕ) (before : Option ScrubMap) → open_chunk past ≡ Some chunk
    → IsCited members past place given → ((m : ScrubMap) → before ≡ Some m → IsGiven members past chunk osd m)
    → cond ((given.chunk == chunk.number) && (given.osd == osd)) (Some given) before ≡ Some map → IsGiven members past chunk osd map
taken_now members past place given map chunk osd before now cited earlier e =
    let P : Bool → Type 0 = λ v. ((given.chunk == chunk.number) && (given.osd == osd)) ≡ v → cond v (Some given) before ≡ Some map → IsGiven members past chunk osd map in
    (elim ((given.chunk == chunk.number) && (given.osd == osd)) as P [
      | true ↦ λ same is.
          let both = both_true (given.chunk == chunk.number) (given.osd == osd) same in
          let osd_is : given.osd ≡ osd = same_numbers given.osd osd both.1 in
          let number : chunk.number ≡ given.chunk = sym (same_numbers given.chunk chunk.number both.0) in
          subst (λ m. IsGiven members past chunk osd m) (some_same given map is)
          (subst (λ o. IsGiven members past chunk o given) osd_is (given_now members past place given chunk now number cited))
      | false ↦ λ other is. earlier map is
    ]) refl e

not_opened : (made : Made) (past : List Event) (chunk : Chunk) (osd : ℕ) (map : ScrubMap) → IsLegal made past → chunk.number ≡ opened past + 1 → taken past chunk.number osd ≡ Some map → ⊥
not_opened made past chunk osd map legal number e =
    let most : chunk.number ≤ opened past = taken_within made past legal chunk.number osd map e in
    omega (arith, number, most)

given : (made : Made) (members : List Member) (past : List Event) → IsLegal made past → AreCited members past → (chunk : Chunk) → open_chunk past ≡ Some chunk → (osd : ℕ) (map : ScrubMap)
    → taken past chunk.number osd ≡ Some map → IsGiven members past chunk osd map
given made members [] legal cited chunk now osd map e = absurd (none_some chunk now)
given made members (Take place m Taken ∷ past) legal cited chunk now osd map e =
    given_same members past (Take place m Taken ∷ past) chunk osd map refl refl
    (taken_now members past place m map chunk osd (taken past chunk.number osd) now cited.0 (λ other is. given made members past legal.2 cited.1 chunk now osd other is) e)
given made members (Take place m (Stale other) ∷ past) legal cited chunk now osd map e =
    given_same members past (Take place m (Stale other) ∷ past) chunk osd map refl refl (given made members past legal.2 cited.1 chunk now osd map e)
given made members (Submit write (Declined why) ∷ past) legal cited chunk now osd map e =
    given_same members past (Submit write (Declined why) ∷ past) chunk osd map refl refl (given made members past legal.2 cited.1 chunk now osd map e)
given made members (Submit write (Parked range) ∷ past) legal cited chunk now osd map e =
    given_same members past (Submit write (Parked range) ∷ past) chunk osd map refl refl (given made members past legal.2 cited.1 chunk now osd map e)
given made members (Submit write (QueueFull count) ∷ past) legal cited chunk now osd map e =
    given_same members past (Submit write (QueueFull count) ∷ past) chunk osd map refl refl (given made members past legal.2 cited.1 chunk now osd map e)
given made members (Submit write (Accepted version None) ∷ past) legal cited chunk now osd map e =
    given_more members past (item_of version write (log past)) chunk osd map (sym (ap (λ v. v.number) (accepted_is made past write version None legal.1).next))
    (given made members past legal.2 cited.1 chunk now osd map e) (Submit write (Accepted version None) ∷ past) refl refl
given made members (Submit write (Accepted version (Some number)) ∷ past) legal cited chunk now osd map e = absurd (none_some chunk now)
given made members (Admit write (Declined why) ∷ past) legal cited chunk now osd map e =
    given_same members past (Admit write (Declined why) ∷ past) chunk osd map refl refl (given made members past legal.2 cited.1 chunk now osd map e)
given made members (Admit write (Parked range) ∷ past) legal cited chunk now osd map e =
    given_same members past (Admit write (Parked range) ∷ past) chunk osd map refl refl (given made members past legal.2 cited.1 chunk now osd map e)
given made members (Admit write (QueueFull count) ∷ past) legal cited chunk now osd map e =
    given_same members past (Admit write (QueueFull count) ∷ past) chunk osd map refl refl (given made members past legal.2 cited.1 chunk now osd map e)
given made members (Admit write (Accepted version preempts) ∷ past) legal cited chunk now osd map e =
    given_more members past (item_of version write (log past)) chunk osd map (sym (ap (λ v. v.number) (admitted_is made past write version preempts legal.1.1).next))
    (given made members past legal.2 cited.1 chunk now osd map e) (Admit write (Accepted version preempts) ∷ past) refl refl
given made members (Collect id version ∷ past) legal cited chunk now osd map e =
    given_same members past (Collect id version ∷ past) chunk osd map refl refl (given made members past legal.2 cited.1 chunk now osd map e)
given made members (Pull other from to asked ∷ past) legal cited chunk now osd map e =
    given_same members past (Pull other from to asked ∷ past) chunk osd map refl refl (given made members past legal.2 cited.1 chunk now osd map e)
given made members (Tell other count ∷ past) legal cited chunk now osd map e =
    given_same members past (Tell other count ∷ past) chunk osd map refl refl (given made members past legal.2 cited.1 chunk now osd map e)
given made members (Begin kind (Busy serial) ∷ past) legal cited chunk now osd map e =
    given_same members past (Begin kind (Busy serial) ∷ past) chunk osd map refl refl (given made members past legal.2 cited.1 chunk now osd map e)
given made members (Begin kind (Began serial first) ∷ past) legal cited chunk now osd map e = absurd (none_some chunk (sym (none_open made past serial first legal.2 legal.1) ∙ now))
given made members (Open serial listed (Over cause) ∷ past) legal cited chunk now osd map e =
    given_same members past (Open serial listed (Over cause) ∷ past) chunk osd map refl refl (given made members past legal.2 cited.1 chunk now osd map e)
given made members (Open serial listed (StillReserving other) ∷ past) legal cited chunk now osd map e =
    given_same members past (Open serial listed (StillReserving other) ∷ past) chunk osd map refl refl (given made members past legal.2 cited.1 chunk now osd map e)
given made members (Open serial listed (Already other) ∷ past) legal cited chunk now osd map e =
    given_same members past (Open serial listed (Already other) ∷ past) chunk osd map refl refl (given made members past legal.2 cited.1 chunk now osd map e)
given made members (Open serial listed (Opened next) ∷ past) legal cited chunk now osd map e =
    let is : next ≡ chunk = some_same next chunk now in
    let number : chunk.number ≡ opened past + 1 = sym (ap (λ c. c.number) is) ∙ ap (λ c. c.number) (opened_is made past serial listed next legal.1.2).next in
    absurd (not_opened made past chunk osd map legal.2 number e)
given made members (Close number closes.NoChunk ∷ past) legal cited chunk now osd map e =
    given_same members past (Close number closes.NoChunk ∷ past) chunk osd map refl refl (given made members past legal.2 cited.1 chunk now osd map e)
given made members (Close number closes.ClosedBefore ∷ past) legal cited chunk now osd map e =
    given_same members past (Close number closes.ClosedBefore ∷ past) chunk osd map refl refl (given made members past legal.2 cited.1 chunk now osd map e)
given made members (Close number (closes.Preempted request) ∷ past) legal cited chunk now osd map e =
    given_same members past (Close number (closes.Preempted request) ∷ past) chunk osd map refl refl (given made members past legal.2 cited.1 chunk now osd map e)
given made members (Close number (closes.IntervalChanged old new) ∷ past) legal cited chunk now osd map e =
    given_same members past (Close number (closes.IntervalChanged old new) ∷ past) chunk osd map refl refl (given made members past legal.2 cited.1 chunk now osd map e)
given made members (Close number (closes.DeviceFault other count) ∷ past) legal cited chunk now osd map e =
    given_same members past (Close number (closes.DeviceFault other count) ∷ past) chunk osd map refl refl (given made members past legal.2 cited.1 chunk now osd map e)
given made members (Close number (closes.NotYet other) ∷ past) legal cited chunk now osd map e =
    given_same members past (Close number (closes.NotYet other) ∷ past) chunk osd map refl refl (given made members past legal.2 cited.1 chunk now osd map e)
given made members (Close number (closes.Closed told completes) ∷ past) legal cited chunk now osd map e = absurd (none_some chunk now)
given made members (Reserve serial other denied answer ∷ past) legal cited chunk now osd map e =
    given_same members past (Reserve serial other denied answer ∷ past) chunk osd map refl refl (given made members past legal.2 cited.1 chunk now osd map e)
given made members (Fault serial number other count (faults.Stale stale) ∷ past) legal cited chunk now osd map e =
    given_same members past (Fault serial number other count (faults.Stale stale) ∷ past) chunk osd map refl refl (given made members past legal.2 cited.1 chunk now osd map e)
given made members (Fault serial number other count faults.Ended ∷ past) legal cited chunk now osd map e = absurd (none_some chunk now)
given made members (Interval osds (intervals.LastEpoch epoch) ∷ past) legal cited chunk now osd map e =
    given_same members past (Interval osds (intervals.LastEpoch epoch) ∷ past) chunk osd map refl refl (given made members past legal.2 cited.1 chunk now osd map e)
given made members (Interval osds (intervals.NotCaughtUp late count total) ∷ past) legal cited chunk now osd map e =
    given_same members past (Interval osds (intervals.NotCaughtUp late count total) ∷ past) chunk osd map refl refl (given made members past legal.2 cited.1 chunk now osd map e)
given made members (Interval osds (intervals.Changed new serial) ∷ past) legal cited chunk now osd map e = absurd (none_some chunk now)

-- ---- a chunk that is closed

not_told : (why : Option Fate) (told : Report) (completes : Bool) → closes.Closed told completes ≡ told_of why → ⊥
not_told None told completes e = absurd cc
not_told (Some fates.Closed) told completes e = absurd cc
not_told (Some (fates.Preempted request)) told completes e = absurd cc
not_told (Some (fates.IntervalChanged old new)) told completes e = absurd cc
not_told (Some (fates.DeviceFault osd count)) told completes e = absurd cc

closed_from : (a b : Bool) (why : Option Fate) (m : Option ℕ) (n told : Report) (last completes : Bool)
    → closes.Closed told completes ≡ or_closed (first (then_some a closes.NoChunk ∷ then_some b (told_of why) ∷ option_map (λ osd. closes.NotYet osd) m ∷ [])) n last
    → (b ≡ false) × (m ≡ None) × (told ≡ n)
closed_from true b why m n told last completes e = absurd cc
closed_from false true why m n told last completes e = absurd (not_told why told completes e)
closed_from false false why (Some osd) n told last completes e = absurd cc
closed_from false false why None n told last completes e = (refl, refl, cc)

closed_as : (made : Made) (past : List Event) (number : ℕ) (told : Report) (completes : Bool) → closes.Closed told completes ≡ close_answer made past number
    → (not (is_open past number) ≡ false) × (missing made past number ≡ None) × (told ≡ found made past number)
unfolding unclosed
closed_as made past number told completes e =
    closed_from ((number == 0) || nat_lt (opened past) number) (not (is_open past number)) (fate made past number) (missing made past number) (found made past number) told
    (is_last (open_chunk past)) completes e

open_of : (now : Option Chunk) (number : ℕ) → not (has_number now number) ≡ false → (c : Chunk) × (now ≡ Some c) × (c.number ≡ number)
open_of None number e = absurd (true_false e)
open_of (Some c) number e = (c, refl, same_numbers c.number number (by_not (c.number == number) e))
  where
    by_not : (b : Bool) → not b ≡ false → b ≡ true
    by_not true e = refl
    by_not false e = sym e

not_none : (o : Option ScrubMap) → is_none o ≡ false → (m : ScrubMap) × (o ≡ Some m)
not_none None e = absurd (true_false e)
not_none (Some m) e = (m, refl)

find_none : (test : ℕ → Bool) (xs : List ℕ) → find test xs ≡ None → AllByRecursion (λ x. test x ≡ false) xs
find_none test [] e = tt
find_none test (x ∷ xs) e =
    let P : Bool → Type 0 = λ v. test x ≡ v → cond v (Some x) (find test xs) ≡ None → (test x ≡ false) × AllByRecursion (λ y. test y ≡ false) xs in
    (elim (test x) as P [
      | true ↦ λ hit is. absurd (some_none x is)
      | false ↦ λ miss rest. (miss, find_none test xs rest)
    ]) refl e

all_compared : (members : List Member) (past : List Event) (chunk : Chunk) (osds : List ℕ) → ((osd : ℕ) → is_none (taken past chunk.number osd) ≡ false → IsCompared members past chunk osd)
    → AllByRecursion (λ osd. is_none (taken past chunk.number osd) ≡ false) osds → AllByRecursion (IsCompared members past chunk) osds
all_compared members past chunk [] each all = tt
all_compared members past chunk (osd ∷ osds) each all = (each osd all.0, all_compared members past chunk osds each all.1)

one_compared : (made : Made) (members : List Member) (past : List Event) → IsLegal made past → AreCited members past → (chunk : Chunk) → open_chunk past ≡ Some chunk → (osd : ℕ)
    → is_none (taken past chunk.number osd) ≡ false → IsCompared members past chunk osd
one_compared made members past legal cited chunk now osd some =
    let m = not_none (taken past chunk.number osd) some in
    let g = given made members past legal cited chunk now osd m.0 m.1 in
    let needs = g.of.needed in
    let enough = g.needed in
    let outside = none_above made past legal chunk now in
    record {
      map = m.0;
      place = g.place;
      given = m.1;
      of = g.of;
      within = g.within;
      ended = g.ended;
      version = ap (items_in chunk.range) g.items ∙ items_upto chunk m.0.applied (log past) outside (omega (arith, needs, enough));
      all = sym (all_upto chunk (log past) outside);
      seen = g.seen;
    }

closed_compared : (made : Made) (members : List Member) (past : List Event) (number : ℕ) (told : Report) (completes : Bool) → IsLegal made past → AreCited members past
    → closes.Closed told completes ≡ close_answer made past number → IsOneVersion made members past number told
closed_compared made members past number told completes legal cited e =
    let h = closed_as made past number told completes e in
    let o = open_of (open_chunk past) number h.0 in
    let chunk : Chunk = o.0 in
    let none : find (λ osd. is_none (taken past chunk.number osd)) (acting made past) ≡ None = ap (λ n. find (λ osd. is_none (taken past n osd)) (acting made past)) o.2 ∙ h.1 in
    record {
      chunk = chunk;
      is = o.1;
      numbered = o.2;
      reported = h.2 ∙ ap (λ now. report (acting made past) (version_of now) (maps_of past number (acting made past))) o.1;
      each = all_compared members past chunk (acting made past) (λ osd. one_compared made members past legal cited chunk o.1 osd)
          (find_none (λ osd. is_none (taken past chunk.number osd)) (acting made past) none);
    }

pub are_compared : (made : Made) (members : List Member) (past : List Event) → IsLegal made past → AreCited members past → AreCompared made members past
are_compared made members [] legal cited = tt
are_compared made members (Submit write answer ∷ past) legal cited = (tt, are_compared made members past legal.2 cited.1)
are_compared made members (Admit write answer ∷ past) legal cited = (tt, are_compared made members past legal.2 cited.1)
are_compared made members (Collect id version ∷ past) legal cited = (tt, are_compared made members past legal.2 cited.1)
are_compared made members (Pull osd from to asked ∷ past) legal cited = (tt, are_compared made members past legal.2 cited.1)
are_compared made members (Tell osd count ∷ past) legal cited = (tt, are_compared made members past legal.2 cited.1)
are_compared made members (Begin kind answer ∷ past) legal cited = (tt, are_compared made members past legal.2 cited.1)
are_compared made members (Open serial listed answer ∷ past) legal cited = (tt, are_compared made members past legal.2 cited.1)
are_compared made members (Take place map answer ∷ past) legal cited = (tt, are_compared made members past legal.2 cited.1)
are_compared made members (Reserve serial osd denied answer ∷ past) legal cited = (tt, are_compared made members past legal.2 cited.1)
are_compared made members (Fault serial number osd count answer ∷ past) legal cited = (tt, are_compared made members past legal.2 cited.1)
are_compared made members (Interval osds answer ∷ past) legal cited = (tt, are_compared made members past legal.2 cited.1)
are_compared made members (Close number (closes.IntervalChanged old new) ∷ past) legal cited = (tt, are_compared made members past legal.2 cited.1)
are_compared made members (Close number (closes.DeviceFault osd count) ∷ past) legal cited = (tt, are_compared made members past legal.2 cited.1)
are_compared made members (Close number closes.NoChunk ∷ past) legal cited = (tt, are_compared made members past legal.2 cited.1)
are_compared made members (Close number closes.ClosedBefore ∷ past) legal cited = (tt, are_compared made members past legal.2 cited.1)
are_compared made members (Close number (closes.Preempted request) ∷ past) legal cited = (tt, are_compared made members past legal.2 cited.1)
are_compared made members (Close number (closes.NotYet osd) ∷ past) legal cited = (tt, are_compared made members past legal.2 cited.1)
are_compared made members (Close number (closes.Closed told completes) ∷ past) legal cited =
    (closed_compared made members past number told completes legal.2 cited.1 legal.1.0, are_compared made members past legal.2 cited.1)
