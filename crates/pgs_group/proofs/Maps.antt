-- The maps that were taken, and their positions.
use Rattle.std.proofs.Common.{ℕ, ◌≡◌, ◌+◌, ◌<◌, ◌≤◌, ◌==◌, ◌&&◌, true, false, cond, List, [], ◌∷◌, ◌++◌, length, take, drop, get_or, reverse, Option, Some, None, refl, sym, ap, ◌∙◌, subst}
use Rattle.std.proofs.lemmas.List.{append_assoc, append-nil, take_more, drop_more, drop_all, reverse-append}
use Rattle.pgs_bytes.proofs.Facts.{none_some, some_same}
use Rattle.std.specs.Borrow.{Bor}
use Rattle.pgs_compare.specs.Parts.{maps_seen}
use Rattle.pgs_compare.specs.Report.{AreOrdered as AreMapsOrdered}
use Rattle.pgs_map.specs.Entries.{AreAscending}
use Rattle.pgs_map.specs.declared.scrub_map.ScrubMap.{ScrubMap}
use Rattle.pgs_history.specs.Scrubs.{taken, taken_after}
use Rattle.pgs_history.specs.Answers.{with_map, maps_of}
use Rattle.pgs_history.specs.Chunks.{AreOrdered}
use Rattle.pgs_history.specs.declared.take_answer.TakeAnswer.TheVariants.{Stale, Taken}
use Rattle.pgs_history.specs.declared.event.Event.{Event}
use Rattle.pgs_history.specs.declared.event.Event.TheVariants.{Submit, Admit, Collect, Pull, Tell, Begin, Reserve, Open, Take, Close, Fault, Interval}

-- ---- looked for from the newest event on

one_more : (events : List Event) (left at : ℕ) (event : Event) → left ≡ at + 1 → at < length events → event ≡ get_or events at event → reverse (take left events) ≡ event ∷ reverse (take at events)
one_more events left at event is within here =
    ap (λ n. reverse (take n events)) is
    ∙ ap reverse (take_more events at event within ∙ ap (λ x. take at events ++ x ∷ []) (sym here))
    ∙ reverse-append (take at events) (event ∷ [])

-- an event gives a map, or leaves what was before
given : (event : Event) (chunk osd : ℕ) (before : Option ScrubMap) (map : ScrubMap) → taken_after event chunk osd None ≡ Some map → taken_after event chunk osd before ≡ Some map
given (Take place m Taken) chunk osd before map e =
    (elim ((m.chunk == chunk) && (m.osd == osd)) as (λ b. cond b (Some m) None ≡ Some map → cond b (Some m) before ≡ Some map) [
      | true ↦ λ same. same
      | false ↦ λ none. absurd (none_some map none)
    ]) e
given (Take place m (Stale now)) chunk osd before map e = absurd (none_some map e)
given (Admit write answer) chunk osd before map e = absurd (none_some map e)
given (Submit write answer) chunk osd before map e = absurd (none_some map e)
given (Collect id version) chunk osd before map e = absurd (none_some map e)
given (Pull o from to asked) chunk osd before map e = absurd (none_some map e)
given (Tell o applied) chunk osd before map e = absurd (none_some map e)
given (Begin kind answer) chunk osd before map e = absurd (none_some map e)
given (Open serial listed answer) chunk osd before map e = absurd (none_some map e)
given (Close c answer) chunk osd before map e = absurd (none_some map e)
given (Reserve serial o denied answer) chunk osd before map e = absurd (none_some map e)
given (Fault serial c o count answer) chunk osd before map e = absurd (none_some map e)
given (Interval osds answer) chunk osd before map e = absurd (none_some map e)

not_given : (event : Event) (chunk osd : ℕ) (before : Option ScrubMap) → taken_after event chunk osd None ≡ None → taken_after event chunk osd before ≡ before
not_given (Take place m Taken) chunk osd before e =
    (elim ((m.chunk == chunk) && (m.osd == osd)) as (λ b. cond b (Some m) None ≡ None → cond b (Some m) before ≡ before) [
      | true ↦ λ same. absurd (none_some m (sym same))
      | false ↦ λ none. refl
    ]) e
not_given (Take place m (Stale now)) chunk osd before e = refl
not_given (Admit write answer) chunk osd before e = refl
not_given (Submit write answer) chunk osd before e = refl
not_given (Collect id version) chunk osd before e = refl
not_given (Pull o from to asked) chunk osd before e = refl
not_given (Tell o applied) chunk osd before e = refl
not_given (Begin kind answer) chunk osd before e = refl
not_given (Open serial listed answer) chunk osd before e = refl
not_given (Close c answer) chunk osd before e = refl
not_given (Reserve serial o denied answer) chunk osd before e = refl
not_given (Fault serial c o count answer) chunk osd before e = refl
not_given (Interval osds answer) chunk osd before e = refl

pub taken_here : (events : List Event) (chunk osd left at : ℕ) (event : Event) (map : ScrubMap) → left ≡ at + 1 → at < length events → event ≡ get_or events at event
    → taken_after event chunk osd None ≡ Some map → taken (reverse (take left events)) chunk osd ≡ Some map
taken_here events chunk osd left at event map is within here e =
    ap (λ past. taken past chunk osd) (one_more events left at event is within here) ∙ given event chunk osd (taken (reverse (take at events)) chunk osd) map e

pub taken_below : (events : List Event) (chunk osd left at : ℕ) (event : Event) → left ≡ at + 1 → at < length events → event ≡ get_or events at event
    → taken_after event chunk osd None ≡ None → taken (reverse (take left events)) chunk osd ≡ taken (reverse (take at events)) chunk osd
taken_below events chunk osd left at event is within here e =
    ap (λ past. taken past chunk osd) (one_more events left at event is within here) ∙ not_given event chunk osd (taken (reverse (take at events)) chunk osd) e

-- ---- the entries of a map that was taken are in order

in_order : (past : List Event) (chunk osd : ℕ) (map : ScrubMap) → AreOrdered past → taken past chunk osd ≡ Some map → AreAscending map.entries
in_order [] chunk osd map h e = absurd (none_some map e)
in_order (Take place m Taken ∷ past) chunk osd map h e =
    (elim ((m.chunk == chunk) && (m.osd == osd)) as (λ b. cond b (Some m) (taken past chunk osd) ≡ Some map → AreAscending map.entries) [
      | true ↦ λ same. subst (λ x. AreAscending x.entries) (some_same m map same) h.0.ascending
      | false ↦ λ rest. in_order past chunk osd map h.1 rest
    ]) e
in_order (Take place m (Stale now) ∷ past) chunk osd map h e = in_order past chunk osd map h.1 e
in_order (Admit write answer ∷ past) chunk osd map h e = in_order past chunk osd map h.1 e
in_order (Submit write answer ∷ past) chunk osd map h e = in_order past chunk osd map h.1 e
in_order (Collect id version ∷ past) chunk osd map h e = in_order past chunk osd map h.1 e
in_order (Pull o from to asked ∷ past) chunk osd map h e = in_order past chunk osd map h.1 e
in_order (Tell o applied ∷ past) chunk osd map h e = in_order past chunk osd map h.1 e
in_order (Begin kind answer ∷ past) chunk osd map h e = in_order past chunk osd map h.1 e
in_order (Open serial listed answer ∷ past) chunk osd map h e = in_order past chunk osd map h.1 e
in_order (Close c answer ∷ past) chunk osd map h e = in_order past chunk osd map h.1 e
in_order (Reserve serial o denied answer ∷ past) chunk osd map h e = in_order past chunk osd map h.1 e
in_order (Fault serial c o count answer ∷ past) chunk osd map h e = in_order past chunk osd map h.1 e
in_order (Interval osds answer ∷ past) chunk osd map h e = in_order past chunk osd map h.1 e

pub taken_ascends : (past : List Event) (chunk osd : ℕ) (map : ScrubMap) → AreOrdered past → Some map ≡ taken past chunk osd → AreAscending map.entries
taken_ascends past chunk osd map h e = in_order past chunk osd map h (sym e)

-- ---- maps are gathered one OSD after another

rest_of : (past : List Event) (chunk : ℕ) (osds : List ℕ) (at d : ℕ) → at < length osds
    → with_map (taken past chunk (get_or osds at d)) (maps_of past chunk (drop (at + 1) osds)) ≡ maps_of past chunk (drop at osds)
rest_of past chunk osds at d within = sym (ap (λ x. maps_of past chunk x) (drop_more osds at d within))

seen_more : (maps : List (Bor ScrubMap)) (map : Bor ScrubMap) → maps_seen (maps ++ map ∷ []) ≡ maps_seen maps ++ map.now ∷ []
seen_more [] map = refl
seen_more (m ∷ maps) map = ap (λ l. m.now ∷ l) (seen_more maps map)

-- an OSD's map is taken along
pub one_gathered : (past : List Event) (chunk : ℕ) (osds : List ℕ) (at d : ℕ) (maps new : List (Bor ScrubMap)) (map : Bor ScrubMap) (all : List ScrubMap) → at < length osds
    → Some map.now ≡ taken past chunk (get_or osds at d) → new ≡ maps ++ map ∷ [] → maps_seen maps ++ maps_of past chunk (drop at osds) ≡ all
    → maps_seen new ++ maps_of past chunk (drop (at + 1) osds) ≡ all
one_gathered past chunk osds at d maps new map all within is more so_far =
    let rest : List ScrubMap = maps_of past chunk (drop (at + 1) osds) in
    ap (λ l. maps_seen l ++ rest) more ∙ ap (λ l. l ++ rest) (seen_more maps map) ∙ append_assoc (maps_seen maps) (map.now ∷ []) rest
    ∙ ap (λ o. maps_seen maps ++ with_map o rest) is ∙ ap (λ l. maps_seen maps ++ l) (rest_of past chunk osds at d within) ∙ so_far

-- an OSD gave none
pub none_gathered : (past : List Event) (chunk : ℕ) (osds : List ℕ) (at d : ℕ) (maps : List (Bor ScrubMap)) (all : List ScrubMap) → at < length osds
    → None ≡ taken past chunk (get_or osds at d) → maps_seen maps ++ maps_of past chunk (drop at osds) ≡ all → maps_seen maps ++ maps_of past chunk (drop (at + 1) osds) ≡ all
none_gathered past chunk osds at d maps all within is so_far =
    ap (λ o. maps_seen maps ++ with_map o (maps_of past chunk (drop (at + 1) osds))) is ∙ ap (λ l. maps_seen maps ++ l) (rest_of past chunk osds at d within) ∙ so_far

pub all_gathered : (past : List Event) (chunk : ℕ) (osds : List ℕ) (at : ℕ) (maps : List (Bor ScrubMap)) (all : List ScrubMap) → length osds ≤ at
    → maps_seen maps ++ maps_of past chunk (drop at osds) ≡ all → maps_seen maps ≡ all
all_gathered past chunk osds at maps all done so_far =
    sym (append-nil (maps_seen maps)) ∙ sym (ap (λ x. maps_seen maps ++ maps_of past chunk x) (drop_all at osds done)) ∙ so_far

-- one map more, whose entries are in order
pub ordered_more : (maps new : List (Bor ScrubMap)) (map : Bor ScrubMap) → new ≡ maps ++ map ∷ [] → AreMapsOrdered (maps_seen maps) → AreAscending map.now.entries
    → AreMapsOrdered (maps_seen new)
ordered_more maps new map more so_far ascends = subst (λ l. AreMapsOrdered (maps_seen l)) (sym more) (go maps so_far)
  where
    go : (maps : List (Bor ScrubMap)) → AreMapsOrdered (maps_seen maps) → AreMapsOrdered (maps_seen (maps ++ map ∷ []))
    go [] h = (ascends, tt)
    go (m ∷ maps) h = (h.0, go maps h.1)

pub ruleset gathering = (one_gathered, none_gathered, all_gathered, ordered_more)
