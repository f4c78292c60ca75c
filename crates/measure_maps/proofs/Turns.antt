-- Entries of which each stands before the next ascend.
use Rattle.std.proofs.Common.{ℕ, ◌≡◌, ◌+◌, ◌-◌, ◌<◌, ◌≤◌, true, List, [], ◌∷◌, length, get_or, refl, sym, ◌∙◌, arith}
use Rattle.std.proofs.lemmas.List.{get_or_default}
use Rattle.std.proofs.lemmas.List.Sorted.{all_adjacent_more}
use Rattle.std.proofs.lemmas.Map.Keys.{sorted_from_all_adjacent}
use Rattle.std.specs.Cmp.{on_total}
use Rattle.std.specs.List.{AllAdjacentBelow}
use Rattle.std.specs.List.Sorted.{IsStrictlySortedBy}
use Rattle.std.specs.declared.cmp.Ordering.{Ordering}
use Rattle.std.specs.declared.cmp.Ordering.TheVariants.{Less, Equal, Greater}
use Rattle.std.specs.Ordering.{is_lt}
use Rattle.pgs_bytes.proofs.Facts.{true_false}
use Rattle.pgs_map.specs.Entries.{AreAscending}
use Rattle.pgs_map.specs.declared.entry.Entry.{Entry}
use Rattle.pgs_name.proofs.Ordered.{position_total}
use Rattle.pgs_name.specs.Positions.{position_cmp, is_before}

-- each entry up to a place stands before the next
abbrev pub AreBelow : List Entry → ℕ → Type 0
AreBelow entries at = AllAdjacentBelow (λ a b. position_cmp a.id b.id ≡ Less) entries at

less_of : (o : Ordering) → is_lt o ≡ true → o ≡ Less
less_of Less e = refl
less_of Equal e = absurd (true_false (sym e))
less_of Greater e = absurd (true_false (sym e))

pub first_below : (entries : List Entry) → AreBelow entries 1
first_below entries k d l = absurd (omega arith)

pub one_more : (entries : List Entry) (at : ℕ) (d e : Entry) → 1 ≤ at → at < length entries → AreBelow entries at
    → is_before (get_or entries (at - 1) d).id (get_or entries at e).id ≡ true → AreBelow entries (at + 1)
one_more entries at d e least within so_far before =
    let less : position_cmp (get_or entries (at - 1) d).id (get_or entries at e).id ≡ Less = less_of _ before in
    all_adjacent_more entries (λ a b. position_cmp a.id b.id ≡ Less) at least so_far (λ c.
    (λ i. position_cmp (get_or_default entries (at - 1) c d (omega arith) i).id (get_or_default entries at c e within i).id) ∙ less)

pub all_below : (entries : List Entry) (at : ℕ) → length entries ≤ at → AreBelow entries at → AreAscending entries
unfolding IsStrictlySortedBy
all_below [] at done so_far = tt
all_below (entry ∷ entries) at done so_far =
    sorted_from_all_adjacent (on_total (λ e. e.id) position_total) (entry ∷ entries) entry (λ k l. so_far k entry (omega (arith, l, done)))

pub ruleset turns = (first_below, one_more, all_below)
