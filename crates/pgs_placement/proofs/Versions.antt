-- A map that was taken tells of copies at the one version of its chunk.
use Rattle.std.proofs.Common.{◌≡◌, ℕ, zero, suc, ◌+◌, ◌-◌, ◌≤◌, nat_lt, nat_le, Bool, true, false, cond, List, [], ◌∷◌, ◌++◌, length, drop, reverse, refl, sym, ap, ◌∙◌, subst, arith}
use Rattle.std.proofs.lemmas.Bool.Decides.{nat_tests}
use Rattle.std.proofs.lemmas.List.{append_assoc, length-append}
use Rattle.pgs_medium.specs.declared.item.Item.{Item}
use Rattle.pgs_history.specs.Facts.{upto}
use Rattle.pgs_history.specs.Log.{log}
use Rattle.pgs_history.specs.Members.{pulled}
use Rattle.pgs_history.specs.Legal.{IsLegal}
use Rattle.pgs_history.specs.Parked.{AreOutside}
use Rattle.pgs_history.specs.declared.chunk.Chunk.{Chunk}
use Rattle.pgs_history.specs.declared.take_answer.TakeAnswer.TheVariants.{Stale, Taken}
use Rattle.pgs_history.specs.declared.event.Event.{Event}
use Rattle.pgs_history.specs.declared.event.Event.TheVariants.{Submit, Admit, Collect, Pull, Tell, Begin, Reserve, Open, Take, Close, Fault, Interval}
use Rattle.pgs_history.specs.declared.made.Made.{Made}
use Rattle.pgs_history.proofs.Gates.{none_above}
use Rattle.pgs_shard_history.specs.Feeds.{AreNumbered as AreNumberedFed, beyond, fed}
use Rattle.pgs_shard_history.specs.Laws.{upto as upto_fed, applied_items}
use Rattle.pgs_shard_history.specs.Legal.{IsLegal as IsLegalShard}
use Rattle.pgs_shard_history.specs.Scans.{at_place}
use Rattle.pgs_shard_history.specs.Stores.{applied}
use Rattle.pgs_shard_history.specs.declared.event.Event.{Event as ShardEvent}
use Rattle.pgs_shard_history.specs.declared.event.Event.TheVariants as events
use Rattle.pgs_shard_history.proofs.Laws.{numbered as numbered_fed, within as within_fed, are_first}
use Rattle.pgs_shards.specs.Members.{Member}
use Rattle.pgs_placement.specs.Cited.{AreCited}
use Rattle.pgs_placement.specs.Counts.{IsInStep}
use Rattle.pgs_placement.specs.Versions.{items_in, HaveVersions}

-- ---- items up to a number

same_upto : (n : ℕ) (items : List Item) → upto_fed n items ≡ upto n items
same_upto n [] = refl
same_upto n (item ∷ items) = ap (λ rest. cond (nat_le item.number n) (item ∷ items) rest) (same_upto n items)

-- those of fewer of them
upto_less : (m p : ℕ) (items : List Item) → m ≤ p → upto m (upto p items) ≡ upto m items
upto_less m p [] less = refl
upto_less m p (item ∷ items) less =
    let P : Bool → Type 0 = λ v. nat_le item.number p ≡ v → upto m (cond v (item ∷ items) (upto p items)) ≡ cond (nat_le item.number m) (item ∷ items) (upto m items) in
    (elim (nat_le item.number p) as P [
      | true ↦ λ e. refl
      | false ↦ λ e.
          let over : nat_le item.number m ≡ false = grind (arith, nat_tests, e, less) in
          upto_less m p items less ∙ sym (ap (λ v. cond v (item ∷ items) (upto m items)) over)
    ]) refl

-- newer items in front change nothing
upto_behind : (n : ℕ) (new items : List Item) → AreNumberedFed (new ++ items) → n ≤ length items → upto_fed n (new ++ items) ≡ upto_fed n items
upto_behind n [] items numbered below = refl
upto_behind n (x ∷ new) items numbered below =
    let size : length (new ++ items) ≡ length new + length items = length-append new items in
    let number : x.number ≡ length (new ++ items) + 1 = numbered.0 in
    let P : Bool → Type 0 = λ v. nat_le x.number n ≡ v → cond v (x ∷ new ++ items) (upto_fed n (new ++ items)) ≡ upto_fed n items in
    (elim (nat_le x.number n) as P [
      | true ↦ λ h. absurd (grind (arith, nat_tests, h, number, below, size))
      | false ↦ λ h. upto_behind n new items numbered.1 below
    ]) refl

-- ---- what was fed before

-- newer items stand in front of those that were fed before
pub record IsFedSince (past before : List ShardEvent) : Type 0 where
  pub new : List Item
  pub whole : fed past ≡ new ++ fed before

one_since : (event : ShardEvent) (past before : List ShardEvent) → IsFedSince past before → IsFedSince (event ∷ past) before
one_since (events.Fed from items ask) past before h = record {
  new = reverse (beyond (length (fed past)) items) ++ h.new;
  whole = ap (λ l. reverse (beyond (length (fed past)) items) ++ l) h.whole ∙ sym (append_assoc (reverse (beyond (length (fed past)) items)) h.new (fed before));
}
one_since (events.Applied number drops) past before h = record { new = h.new; whole = h.whole }
one_since (events.DeviceFault count) past before h = record { new = h.new; whole = h.whole }
one_since (events.ListFailed count) past before h = record { new = h.new; whole = h.whole }
one_since (events.Scanned event) past before h = record { new = h.new; whole = h.whole }
one_since events.Handed past before h = record { new = h.new; whole = h.whole }
one_since (events.Damaged family snap damage answer) past before h = record { new = h.new; whole = h.whole }

since : (n : ℕ) (past : List ShardEvent) → IsFedSince past (drop n past)
since zero past = record { new = []; whole = refl }
since (suc n) [] = record { new = []; whole = refl }
since (suc n) (event ∷ past) = one_since event past (drop n past) (since n past)

legal_before : (stride n : ℕ) (past : List ShardEvent) → IsLegalShard stride past → IsLegalShard stride (drop n past)
legal_before stride zero past legal = legal
legal_before stride (suc n) [] legal = tt
legal_before stride (suc n) (event ∷ past) legal = legal_before stride n past legal.1

-- what an OSD had applied at a place are the first items of the log
pub first_items : (stride : ℕ) (past : List Event) (osd : ℕ) (shard : List ShardEvent) (place : ℕ) → IsLegalShard stride shard → IsInStep past osd shard → applied (at_place place shard) ≤ applied shard
    → applied_items (at_place place shard) ≡ upto (applied (at_place place shard)) (log past)
first_items stride past osd shard place whole h less =
    let at : List ShardEvent = at_place place shard in
    let n : ℕ = applied at in
    let legal = legal_before stride (length shard - place) shard whole in
    let s = since (length shard - place) shard in
    let numbered : AreNumberedFed (s.new ++ fed at) = subst AreNumberedFed s.whole (numbered_fed stride shard whole) in
    let most : n ≤ length (fed at) = within_fed stride at legal in
    let pulls = h.applied_pulled in
    are_first stride at legal
    ∙ sym (upto_behind n s.new (fed at) numbered most)
    ∙ sym (ap (upto_fed n) s.whole)
    ∙ same_upto n (fed shard)
    ∙ ap (upto n) h.items
    ∙ upto_less n (pulled past osd) (log past) (omega (arith, less, pulls))

-- fewer items were applied before
applied_before : (stride n : ℕ) (past : List ShardEvent) → IsLegalShard stride past → applied (drop n past) ≤ applied past
applied_before stride zero past legal = omega arith
applied_before stride (suc n) [] legal = omega arith
applied_before stride (suc n) (events.Fed from items ask ∷ past) legal = applied_before stride n past legal.1
applied_before stride (suc n) (events.Applied number drops ∷ past) legal =
    let h = applied_before stride n past legal.1 in
    let next : number ≡ applied past + 1 = legal.0.0 in
    omega (arith, h, next)
applied_before stride (suc n) (events.DeviceFault count ∷ past) legal = applied_before stride n past legal.1
applied_before stride (suc n) (events.ListFailed count ∷ past) legal = applied_before stride n past legal.1
applied_before stride (suc n) (events.Scanned event ∷ past) legal = applied_before stride n past legal.1
applied_before stride (suc n) (events.Handed ∷ past) legal = applied_before stride n past legal.1
applied_before stride (suc n) (events.Damaged family snap damage answer ∷ past) legal = applied_before stride n past legal.1

pub applied_at : (stride : ℕ) (shard : List ShardEvent) (place : ℕ) → IsLegalShard stride shard → applied (at_place place shard) ≤ applied shard
applied_at stride shard place whole = applied_before stride (length shard - place) shard whole

pub items_at : (stride : ℕ) (past : List Event) (osd : ℕ) (shard : List ShardEvent) (place : ℕ) → IsLegalShard stride shard → IsInStep past osd shard
    → applied_items (at_place place shard) ≡ upto (applied (at_place place shard)) (log past)
items_at stride past osd shard place whole h = first_items stride past osd shard place whole h (applied_before stride (length shard - place) shard whole)

-- ---- none of the range above the version

outside_upto : (chunk : Chunk) (n : ℕ) (items : List Item) → AreOutside chunk items → AreOutside chunk (upto n items)
outside_upto chunk n [] h = tt
outside_upto chunk n (item ∷ items) h =
    (elim (nat_le item.number n) as (λ v. AreOutside chunk (cond v (item ∷ items) (upto n items))) [
      | true ↦ h
      | false ↦ outside_upto chunk n items h.1
    ])

-- of the range the items are those up to the version
pub all_upto : (chunk : Chunk) (items : List Item) → AreOutside chunk items → items_in chunk.range items ≡ items_in chunk.range (upto chunk.version items)
all_upto chunk [] h = refl
all_upto chunk (item ∷ items) h =
    let P : Bool → Type 0 = λ v. nat_le item.number chunk.version ≡ v → items_in chunk.range (item ∷ items) ≡ items_in chunk.range (cond v (item ∷ items) (upto chunk.version items)) in
    (elim (nat_le item.number chunk.version) as P [
      | true ↦ λ e. refl
      | false ↦ λ e.
          let above : nat_lt chunk.version item.number ≡ true = grind (arith, nat_tests, e) in
          ap (λ v. cond v (item ∷ items_in chunk.range items) (items_in chunk.range items)) (h.0 above) ∙ all_upto chunk items h.1
    ]) refl

-- so are those that were applied, where that is as far as the version at least
pub version_of : (chunk : Chunk) (n : ℕ) (items : List Item) → AreOutside chunk items → chunk.version ≤ n → items_in chunk.range (upto n items) ≡ items_in chunk.range (upto chunk.version items)
version_of chunk n items h most =
    all_upto chunk (upto n items) (outside_upto chunk n items h) ∙ ap (items_in chunk.range) (upto_less chunk.version n items most)

-- ---- each map

pub have_versions : (made : Made) (members : List Member) (past : List Event) → IsLegal made past → AreCited members past → HaveVersions members past
have_versions made members [] legal cited = tt
have_versions made members (Take place map Taken ∷ past) legal cited = (
  λ chunk now number.
      let of = cited.0.of chunk now number in
      let needed = of.needed in
      let enough = cited.0.needed in
      ap (items_in chunk.range) cited.0.items ∙ version_of chunk map.applied (log past) (none_above made past legal.2 chunk now) (omega (arith, needed, enough)),
  have_versions made members past legal.2 cited.1,
)
have_versions made members (Take place map (Stale now) ∷ past) legal cited = (tt, have_versions made members past legal.2 cited.1)
have_versions made members (Submit write answer ∷ past) legal cited = (tt, have_versions made members past legal.2 cited.1)
have_versions made members (Admit write answer ∷ past) legal cited = (tt, have_versions made members past legal.2 cited.1)
have_versions made members (Collect id version ∷ past) legal cited = (tt, have_versions made members past legal.2 cited.1)
have_versions made members (Pull osd from to asked ∷ past) legal cited = (tt, have_versions made members past legal.2 cited.1)
have_versions made members (Tell osd count ∷ past) legal cited = (tt, have_versions made members past legal.2 cited.1)
have_versions made members (Begin kind answer ∷ past) legal cited = (tt, have_versions made members past legal.2 cited.1)
have_versions made members (Open serial listed answer ∷ past) legal cited = (tt, have_versions made members past legal.2 cited.1)
have_versions made members (Reserve serial osd denied answer ∷ past) legal cited = (tt, have_versions made members past legal.2 cited.1)
have_versions made members (Fault serial chunk osd count answer ∷ past) legal cited = (tt, have_versions made members past legal.2 cited.1)
have_versions made members (Interval osds answer ∷ past) legal cited = (tt, have_versions made members past legal.2 cited.1)
have_versions made members (Close chunk answer ∷ past) legal cited = (tt, have_versions made members past legal.2 cited.1)
