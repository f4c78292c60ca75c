-- The first copy that passes the test of the best is the best, and where none passes none is eligible.
use Rattle.std.proofs.Common.{ℕ, ◌≡◌, Bool, true, false, not, ◌&&◌, ◌||◌, ◌⊎◌, inl, inr, ◌+◌, List, [], ◌∷◌, length, Option, Some, None, arith, refl, sym, ap, ◌∙◌}
use Rattle.std.specs.Prelude.{MatchOption}
use Rattle.std.specs.List.{list_any, AllByRecursion}
use Rattle.pgs_bytes.proofs.Facts.{true_false, both, joined, true_or_false}
use Rattle.pgs_select.specs.Choice.{is_below}
use Rattle.pgs_select.specs.Judging.{info_told}
use Rattle.pgs_select.specs.Best.{is_above, is_best, best_place, is_alike, IsNoneEligible, IsBest}
use Rattle.pgs_select.specs.declared.judged.Judged.{Judged}
use Rattle.pgs_select.proofs.Places.{first_place, no_place}
use Rattle.pgs_select.proofs.Ranks.{below_chain, not_below_itself, alike_below}

-- ---- small facts

all_to : (P Q : Judged → Type 0) → ((x : Judged) → P x → Q x) → (xs : List Judged) → AllByRecursion P xs → AllByRecursion Q xs
all_to P Q f [] h = tt
all_to P Q f (x ∷ xs) h = (f x h.0, all_to P Q f xs h.1)

is_not : (b : Bool) → not b ≡ true → b ≡ false
is_not true e = absurd (true_false (sym e))
is_not false e = refl

false_where : (b : Bool) → (b ≡ true → ⊥) → b ≡ false
false_where true h = absurd (h refl)
false_where false h = refl

neither : (a b : Bool) → (a || b) ≡ false → (a ≡ false) × (b ≡ false)
neither true b e = absurd (true_false e)
neither false b e = (refl, e)

none_of : (p : Judged → Bool) (xs : List Judged) → list_any p xs ≡ false → AllByRecursion (λ x. p x ≡ false) xs
none_of p [] e = tt
none_of p (x ∷ xs) e =
    let each = neither (p x) (list_any p xs) e in
    (each.0, none_of p xs each.1)

none_from : (p : Judged → Bool) (xs : List Judged) → AllByRecursion (λ x. p x ≡ false) xs → list_any p xs ≡ false
none_from p [] h = refl
none_from p (x ∷ xs) h = ap (λ b. b || list_any p xs) h.0 ∙ none_from p xs h.1

any_alike : (p q : Judged → Bool) → ((x : Judged) → p x ≡ q x) → (xs : List Judged) → list_any p xs ≡ list_any q xs
any_alike p q same [] = refl
any_alike p q same (x ∷ xs) = λ i. same x i || any_alike p q same xs i

second_false : (a b : Bool) → (a && b) ≡ false → a ≡ true → b ≡ false
second_false true b e h = e
second_false false b e h = absurd (true_false (sym h))

first_false : (a b : Bool) → a ≡ false → (a && b) ≡ false
first_false a b e = ap (λ x. x && b) e

-- ---- where none passes

-- an eligible copy above which there is none; what holds of every copy holds of it too
record IsTop (P : Judged → Type 0) (xs : List Judged) : Type 0 where
  top : Judged
  kept : P top
  eligible : top.eligible ≡ true
  over : AllByRecursion (λ o. is_above top o ≡ false) xs

AreRanked : (Judged → Type 0) → List Judged → Type 0
AreRanked P xs = IsNoneEligible xs ⊎ IsTop P xs

-- where none is eligible, none is above another
none_over : (x : Judged) (xs : List Judged) → IsNoneEligible xs → AllByRecursion (λ o. is_above x o ≡ false) xs
none_over x xs h = all_to (λ o. o.eligible ≡ false) (λ o. is_above x o ≡ false) (λ o k. first_false o.eligible (is_below (info_told x) (info_told o)) k) xs h

not_over_itself : (x : Judged) → is_above x x ≡ false
not_over_itself x = false_where (is_above x x) (λ t. true_false (sym (both x.eligible (is_below (info_told x) (info_told x)) t).1 ∙ not_below_itself (info_told x)))

-- what is above one that is above another is above that too
over_more : (m x o : Judged) → is_below (info_told m) (info_told x) ≡ true → is_above m o ≡ false → is_above x o ≡ false
over_more m x o below h =
    false_where (is_above x o)
    (λ t.
    let k = both o.eligible (is_below (info_told x) (info_told o)) t in
    true_false (sym (joined o.eligible (is_below (info_told m) (info_told o)) k.0 (below_chain (info_told m) (info_told x) (info_told o) below k.1)) ∙ h))

with_eligible : (P : Judged → Type 0) (x : Judged) (xs : List Judged) → P x → x.eligible ≡ true → IsNoneEligible xs ⊎ IsTop P xs → IsTop P (x ∷ xs)
with_eligible P x xs p e (inl none) = record { top = x; kept = p; eligible = e; over = (not_over_itself x, none_over x xs none) }
with_eligible P x xs p e (inr h) =
    elim (true_or_false (is_below (info_told h.top) (info_told x))) [
      | inl below ↦ record { top = x; kept = p; eligible = e; over = (not_over_itself x, all_to (λ o. is_above h.top o ≡ false) (λ o. is_above x o ≡ false) (λ o k. over_more h.top x o below k) xs h.over) }
      | inr not_below ↦ record { top = h.top; kept = h.kept; eligible = h.eligible; over = (false_where (is_above h.top x) (λ t. true_false (sym (both x.eligible (is_below (info_told h.top) (info_told x)) t).1 ∙ not_below)), h.over) }
    ]

with_ineligible : (P : Judged → Type 0) (x : Judged) (xs : List Judged) → x.eligible ≡ false → IsNoneEligible xs ⊎ IsTop P xs → IsNoneEligible (x ∷ xs) ⊎ IsTop P (x ∷ xs)
with_ineligible P x xs e (inl none) = inl (e, none)
with_ineligible P x xs e (inr h) =
    inr (record { top = h.top; kept = h.kept; eligible = h.eligible; over = (first_false x.eligible (is_below (info_told h.top) (info_told x)) e, h.over) })

ranked : (P : Judged → Type 0) (xs : List Judged) → AllByRecursion P xs → IsNoneEligible xs ⊎ IsTop P xs
ranked P [] h = inl tt
ranked P (x ∷ xs) h =
    elim (true_or_false x.eligible) [
      | inl e ↦ inr (with_eligible P x xs h.0 e (ranked P xs h.1))
      | inr e ↦ with_ineligible P x xs e (ranked P xs h.1)
    ]

best_where : (all : List Judged) (m : Judged) → m.eligible ≡ true → list_any (is_above m) all ≡ false → is_best all m ≡ true
best_where all m e none = joined m.eligible (not (list_any (is_above m) all)) e (ap not none)

none_eligible : (all : List Judged) → AllByRecursion (λ x. is_best all x ≡ false) all → IsNoneEligible all
none_eligible all h = of (ranked (λ x. is_best all x ≡ false) all h)
  where
    of : IsNoneEligible all ⊎ IsTop (λ x. is_best all x ≡ false) all → IsNoneEligible all
    of (inl none) = none
    of (inr t) = absurd (true_false (sym (best_where all t.top t.eligible (none_from (is_above t.top) all t.over)) ∙ t.kept))

-- ---- where one passes

above_alike : (a b : Judged) → is_alike (info_told a) (info_told b) ≡ true → (o : Judged) → is_above a o ≡ is_above b o
above_alike a b h o = ap (λ t. o.eligible && t) (alike_below (info_told a) (info_told b) (info_told o) h)

-- an eligible copy that doesn't pass doesn't rank as one that does
apart : (all : List Judged) (best other : Judged) → is_best all best ≡ true → is_best all other ≡ false → other.eligible ≡ true
    → is_alike (info_told best) (info_told other) ≡ false
apart all best other b h e =
    false_where (is_alike (info_told best) (info_told other))
    (λ alike.
    let none : list_any (is_above best) all ≡ false = is_not (list_any (is_above best) all) (both best.eligible (not (list_any (is_above best) all)) b).1 in
    let same : list_any (is_above best) all ≡ list_any (is_above other) all = any_alike (is_above best) (is_above other) (above_alike best other alike) all in
    true_false (sym (best_where all other e (sym same ∙ none)) ∙ h))

pub is_best_place : (all : List Judged) (place : ℕ) → best_place all ≡ Some place → IsBest all place
is_best_place all place e =
    let f = first_place (is_best all) all place e in
    let passes = both f.here.eligible (not (list_any (is_above f.here) all)) f.passes in
    let none = none_of (is_above f.here) all (is_not (list_any (is_above f.here) all) passes.1) in
    record {
      front = f.front;
      best = f.here;
      behind = f.behind;
      whole = f.whole;
      here = f.at ∙ zero_more (length f.front);
      eligible = passes.0;
      none_above = all_to (λ o. is_above f.here o ≡ false) (λ o. o.eligible ≡ true → is_below (info_told f.here) (info_told o) ≡ false) (λ o n. second_false o.eligible (is_below (info_told f.here) (info_told o)) n) all none;
      none_alike = all_to (λ o. is_best all o ≡ false) (λ o. o.eligible ≡ true → is_alike (info_told f.here) (info_told o) ≡ false) (λ o n. apart all f.here o f.passes n) f.front f.before;
    }
  where
    zero_more : (n : ℕ) → 0 + n ≡ n
    zero_more n = omega arith

-- ---- both

pub best_law : (all : List Judged) (place : Option ℕ) → place ≡ best_place all → MatchOption place (IsNoneEligible all) (IsBest all)
best_law all (Some place) e = is_best_place all place (sym e)
best_law all None e = none_eligible all (no_place (is_best all) all (sym e))
