-- Each legal history is lawful.
use Rattle.std.proofs.Common.{◌≡◌, ℕ, ◌+◌, ◌<◌, ◌≤◌, ◌==◌, Bool, true, false, cond, List, [], ◌∷◌, ◌++◌, length, reverse, Option, Some, None, nat_le, refl, sym, ap, subst, ◌∙◌, arith}
use Rattle.std.specs.List.{AllByRecursion}
use Rattle.std.proofs.lemmas.Bool.Decides.{nat_tests}
use Rattle.std.proofs.lemmas.List.{length-append}
use Rattle.pgs_bytes.proofs.Facts.{true_false}
use Rattle.pgs_medium.specs.declared.item.Item.{Item}
use Rattle.pgs_shard_history.specs.Feeds.{AreNumbered, beyond, fed, item_of}
use Rattle.pgs_shard_history.specs.Stores.{applied, after_item, stored_by, last_count}
use Rattle.pgs_cause.specs.Count.{Rose}
use Rattle.pgs_chunk.specs.declared.ask.Ask.{Ask}
use Rattle.pgs_shard_history.specs.Legal.{IsLegal, IsListFailing}
use Rattle.pgs_shard_history.specs.Scanning.{Scanning, scanning}
use Rattle.pgs_shard_history.specs.Laws.{upto, then_item, applied_items, AreFirst, after_items, AreHarmless, counts, IsLawful}
use Rattle.pgs_shard_history.specs.declared.damage_answer.DamageAnswer.TheVariants as answers
use Rattle.pgs_shard_history.specs.declared.event.Event.{Event}
use Rattle.pgs_shard_history.specs.declared.event.Event.TheVariants.{Fed, Applied, DeviceFault, ListFailed, Scanned, Handed, Damaged}
use Rattle.pgs_shard_history.specs.declared.scan_event.ScanEvent.TheVariants.{Found, More, Passed, Done, ListFault}
use Rattle.pgs_shard_history.proofs.Feeds.{numbered_more}

-- what a legal history fed is numbered
pub numbered : (stride : ℕ) (past : List Event) → IsLegal stride past → AreNumbered (fed past)
numbered stride [] legal = tt
numbered stride (Fed from items ask ∷ past) legal = numbered_more (length (fed past)) from items (fed past) legal.0.0 (numbered stride past legal.1) refl legal.0.1
numbered stride (Applied number drops ∷ past) legal = numbered stride past legal.1
numbered stride (DeviceFault count ∷ past) legal = numbered stride past legal.1
numbered stride (ListFailed count ∷ past) legal = numbered stride past legal.1
numbered stride (Scanned event ∷ past) legal = numbered stride past legal.1
numbered stride (Handed ∷ past) legal = numbered stride past legal.1
numbered stride (Damaged family snap damage answer ∷ past) legal = numbered stride past legal.1

-- no item is applied that wasn't fed
pub within : (stride : ℕ) (past : List Event) → IsLegal stride past → applied past ≤ length (fed past)
within stride [] legal = omega arith
within stride (Fed from items ask ∷ past) legal = omega (arith, within stride past legal.1, length-append (reverse (beyond (length (fed past)) items)) (fed past))
within stride (Applied number drops ∷ past) legal = legal.0.1
within stride (DeviceFault count ∷ past) legal = within stride past legal.1
within stride (ListFailed count ∷ past) legal = within stride past legal.1
within stride (Scanned event ∷ past) legal = within stride past legal.1
within stride (Handed ∷ past) legal = within stride past legal.1
within stride (Damaged family snap damage answer ∷ past) legal = within stride past legal.1

-- newer items don't change the items up to a number
upto_onto : (number : ℕ) (new items : List Item) → AreNumbered (new ++ items) → number ≤ length items → upto number (new ++ items) ≡ upto number items
upto_onto number [] items numbered below = refl
upto_onto number (x ∷ new) items numbered below =
    let P : Bool → Type 0 = λ v. nat_le x.number number ≡ v → cond v (x ∷ new ++ items) (upto number (new ++ items)) ≡ upto number items in
    (elim (nat_le x.number number) as P [
      | true ↦ λ h. absurd (grind (arith, nat_tests, h, numbered.0, below, length-append new items))
      | false ↦ λ h. upto_onto number new items numbered.1 below
    ]) refl

-- the items up to the last number are all
upto_all : (number : ℕ) (items : List Item) → AreNumbered items → length items ≤ number → upto number items ≡ items
upto_all number [] numbered over = refl
upto_all number (x ∷ items) numbered over =
    let P : Bool → Type 0 = λ v. nat_le x.number number ≡ v → cond v (x ∷ items) (upto number items) ≡ x ∷ items in
    (elim (nat_le x.number number) as P [
      | true ↦ λ h. refl
      | false ↦ λ h. absurd (grind (arith, nat_tests, h, numbered.0, over))
    ]) refl

upto_skips : (number : ℕ) (x : Item) (items : List Item) → number < x.number → upto number (x ∷ items) ≡ upto number items
upto_skips number x items below =
    let P : Bool → Type 0 = λ v. nat_le x.number number ≡ v → cond v (x ∷ items) (upto number items) ≡ upto number items in
    (elim (nat_le x.number number) as P [
      | true ↦ λ h. absurd (grind (arith, nat_tests, h, below))
      | false ↦ λ h. refl
    ]) refl

upto_takes : (number : ℕ) (x : Item) (items : List Item) → x.number ≤ number → upto number (x ∷ items) ≡ x ∷ items
upto_takes number x items below =
    let P : Bool → Type 0 = λ v. nat_le x.number number ≡ v → cond v (x ∷ items) (upto number items) ≡ x ∷ items in
    (elim (nat_le x.number number) as P [
      | true ↦ λ h. refl
      | false ↦ λ h. absurd (grind (arith, nat_tests, h, below))
    ]) refl

-- the items up to the next number are the next one and those before
upto_next : (number : ℕ) (items : List Item) → AreNumbered items → number < length items → then_item (item_of (number + 1) items) (upto number items) ≡ upto (number + 1) items
upto_next number [] numbered below = absurd (omega (arith, below))
upto_next number (x ∷ items) numbered below =
    let P : Bool → Type 0 = λ v. (x.number == number + 1) ≡ v → then_item (cond v (Some x) (item_of (number + 1) items)) (upto number (x ∷ items)) ≡ upto (number + 1) (x ∷ items) in
    (elim (x.number == number + 1) as P [
      | true ↦ λ h.
          let is : x.number ≡ number + 1 = grind (arith, nat_tests, h) in
          ap (λ l. x ∷ l) (upto_skips number x items (omega (arith, is)) ∙ upto_all number items numbered.1 (omega (arith, is, numbered.0)))
          ∙ sym (upto_takes (number + 1) x items (omega (arith, is)))
      | false ↦ λ h.
          let more : number < length items = grind (arith, nat_tests, h, numbered.0, below) in
          ap (then_item (item_of (number + 1) items)) (upto_skips number x items (omega (arith, numbered.0, more)))
          ∙ upto_next number items numbered.1 more
          ∙ sym (upto_skips (number + 1) x items (omega (arith, numbered.0, more)))
    ]) refl

pub are_first : (stride : ℕ) (past : List Event) → IsLegal stride past → AreFirst past
are_first stride [] legal = refl
are_first stride (Fed from items ask ∷ past) legal =
    are_first stride past legal.1
    ∙ sym (upto_onto (applied past) (reverse (beyond (length (fed past)) items)) (fed past) (numbered stride (Fed from items ask ∷ past) legal) (within stride past legal.1))
are_first stride (Applied number drops ∷ past) legal =
    let more : applied past < length (fed past) = omega (arith, legal.0.0, legal.0.1) in
    subst (λ n. then_item (item_of n (fed past)) (applied_items past) ≡ upto n (fed past)) (sym legal.0.0)
    (ap (then_item (item_of (applied past + 1) (fed past))) (are_first stride past legal.1) ∙ upto_next (applied past) (fed past) (numbered stride past legal.1) more)
are_first stride (DeviceFault count ∷ past) legal = are_first stride past legal.1
are_first stride (ListFailed count ∷ past) legal = are_first stride past legal.1
are_first stride (Scanned event ∷ past) legal = are_first stride past legal.1
are_first stride (Handed ∷ past) legal = are_first stride past legal.1
are_first stride (Damaged family snap damage answer ∷ past) legal = are_first stride past legal.1

after_then : (asked : Option Item) (items : List Item) → after_item asked (after_items items) ≡ after_items (then_item asked items)
after_then None items = refl
after_then (Some item) items = refl

-- without damage the store is what the items leave that were applied
pub stored_whole : (past : List Event) → AreHarmless past → stored_by past ≡ after_items (applied_items past)
stored_whole [] harmless = refl
stored_whole (Fed from items ask ∷ past) harmless = stored_whole past harmless.1
stored_whole (Applied number drops ∷ past) harmless =
    ap (after_item (item_of number (fed past))) (stored_whole past harmless.1) ∙ after_then (item_of number (fed past)) (applied_items past)
stored_whole (DeviceFault count ∷ past) harmless = stored_whole past harmless.1
stored_whole (ListFailed count ∷ past) harmless = stored_whole past harmless.1
stored_whole (Scanned event ∷ past) harmless = stored_whole past harmless.1
stored_whole (Handed ∷ past) harmless = stored_whole past harmless.1
stored_whole (Damaged family snap damage answers.Damaged ∷ past) harmless = absurd (true_false (sym harmless.0))
stored_whole (Damaged family snap damage answers.BeingRead ∷ past) harmless = stored_whole past harmless.1
stored_whole (Damaged family snap damage (answers.ShardFull bytes) ∷ past) harmless = stored_whole past harmless.1

below_more : (old new : ℕ) (ns : List ℕ) → old ≤ new → AllByRecursion (λ n. n ≤ old) ns → AllByRecursion (λ n. n ≤ new) ns
below_more old new [] up all = tt
below_more old new (n ∷ ns) up all = (omega (arith, all.0, up), below_more old new ns up all.1)

rose_listing : (ask : Option Ask) (s : Scanning) (past : List Event) (count : ℕ) → IsListFailing ask s past count → Rose (last_count past) count
rose_listing None s past count failing = absurd failing
rose_listing (Some ask) s past count failing = failing.1

pub counts_rise : (stride : ℕ) (past : List Event) → IsLegal stride past → AllByRecursion (λ count. count ≤ last_count past) (counts past)
counts_rise stride [] legal = tt
counts_rise stride (Fed from items ask ∷ past) legal = counts_rise stride past legal.1
counts_rise stride (Applied number drops ∷ past) legal = counts_rise stride past legal.1
counts_rise stride (DeviceFault count ∷ past) legal = (omega arith, below_more (last_count past) count (counts past) legal.0.1.kept (counts_rise stride past legal.1))
counts_rise stride (ListFailed count ∷ past) legal = (omega arith, below_more (last_count past) count (counts past) legal.0.kept (counts_rise stride past legal.1))
counts_rise stride (Scanned (Found id) ∷ past) legal = counts_rise stride past legal.1
counts_rise stride (Scanned More ∷ past) legal = counts_rise stride past legal.1
counts_rise stride (Scanned (Passed id mark) ∷ past) legal = counts_rise stride past legal.1
counts_rise stride (Scanned Done ∷ past) legal = counts_rise stride past legal.1
counts_rise stride (Scanned (ListFault count) ∷ past) legal = (omega arith, below_more (last_count past) count (counts past) (rose_listing (scanning past).ask (scanning past) past count legal.0).kept (counts_rise stride past legal.1))
counts_rise stride (Handed ∷ past) legal = counts_rise stride past legal.1
counts_rise stride (Damaged family snap damage answer ∷ past) legal = counts_rise stride past legal.1

pub lawful : (stride : ℕ) (past : List Event) → IsLegal stride past → IsLawful past
lawful stride past legal = record {
  first = are_first stride past legal;
  whole = λ harmless. stored_whole past harmless ∙ ap after_items (are_first stride past legal);
  newest = counts_rise stride past legal;
}
