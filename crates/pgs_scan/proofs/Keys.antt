-- Pairs in the order of their keys: what stands behind the last key of a front.
use Rattle.std.proofs.Common.{ℕ, zero, suc, ◌+◌, ◌-◌, ◌≡◌, Bool, true, cond, ◌&&◌, List, [], ◌∷◌, ◌++◌, length, take, drop, Some, None, refl, sym, ap, ◌∙◌, subst, arith}
use Rattle.std.specs.Prelude.{slice_get, option_map}
use Rattle.std.specs.declared.cmp.Ordering.TheVariants.{Less, Greater}
use Rattle.std.specs.Ordering.{is_lt, nat_cmp, ordering_reverse}
use Rattle.std.specs.Cmp.Lexicographic.{slice_cmp, nat_list_cmp_total}
use Rattle.std.specs.List.{filter, AllByRecursion}
use Rattle.std.specs.List.Sorted.{IsStrictlySortedBy}
use Rattle.std.specs.Map.{keys_of}
use Rattle.std.specs.BTreeMap.Range.{range_contains}
use Rattle.std.specs.declared.ops.Bound.TheVariants.{Unbounded, Excluded}
use Rattle.std.proofs.lemmas.Cmp.{tied_itself}
use Rattle.std.proofs.lemmas.List.{take-append-drop}
use Rattle.std.proofs.Math.Seq.{take-add}
use Rattle.pgs_copy.specs.Pairs.{Pairs, IsInOrder}
use Rattle.pgs_medium.specs.Reads.{behind_key}
use Rattle.pgs_scan.specs.Asked.{last_key}

-- the last of pairs, of which there is a first
abbrev last_of : List ℕ × List ℕ → Pairs → List ℕ × List ℕ
last_of p [] = p
last_of p (q ∷ qs) = last_of q qs

-- whether a key stands behind another
abbrev behind : List ℕ → List ℕ × List ℕ → Bool
behind key p = range_contains (slice_cmp nat_cmp) (Excluded key) Unbounded p.0

all_behind : (key : List ℕ) (ps : Pairs) → AllByRecursion (λ q. slice_cmp nat_cmp key q ≡ Less) (keys_of ps) → filter (behind key) ps ≡ ps
all_behind key [] h = refl
all_behind key (p ∷ ps) h = ap (λ o. cond (is_lt o && true) (p ∷ filter (behind key) ps) (filter (behind key) ps)) h.0 ∙ ap (λ l. p ∷ l) (all_behind key ps h.1)

below_last : (key : List ℕ) (p : List ℕ × List ℕ) (ps rest : Pairs) → AllByRecursion (λ q. slice_cmp nat_cmp key q ≡ Less) (keys_of (p ∷ ps ++ rest))
    → slice_cmp nat_cmp key (last_of p ps).0 ≡ Less
below_last key p [] rest h = h.0
below_last key p (q ∷ qs) rest h = below_last key q qs rest h.1

-- of pairs in order, all behind the last of a front are what the front leaves
left_behind : (p : List ℕ × List ℕ) (ps rest : Pairs) → IsInOrder (p ∷ ps ++ rest) → filter (behind (last_of p ps).0) (p ∷ ps ++ rest) ≡ rest
unfolding IsStrictlySortedBy
left_behind p [] rest h =
    ap (λ o. cond (is_lt o && true) (p ∷ filter (behind p.0) rest) (filter (behind p.0) rest)) (tied_itself nat_list_cmp_total p.0) ∙ all_behind p.0 rest h.0
left_behind p (q ∷ qs) rest h =
    let key = (last_of q qs).0 in
    let above : slice_cmp nat_cmp key p.0 ≡ Greater = nat_list_cmp_total.antisymm key p.0 ∙ ap ordering_reverse (below_last p.0 q qs rest h.0) in
    ap (λ o. cond (is_lt o && true) (p ∷ filter (behind key) (q ∷ qs ++ rest)) (filter (behind key) (q ∷ qs ++ rest))) above ∙ left_behind q qs rest h.1

all_from_start : (ps : Pairs) → behind_key None ps ≡ ps
all_from_start [] = refl
all_from_start (p ∷ ps) = ap (λ l. p ∷ l) (all_from_start ps)

last_place : (p : List ℕ × List ℕ) (ps : Pairs) → slice_get (p ∷ ps) (length (p ∷ ps) - 1) ≡ Some (last_of p ps)
last_place p [] = refl
last_place p (q ∷ qs) =
    let place : length (p ∷ q ∷ qs) - 1 ≡ suc (length (q ∷ qs) - 1) = omega arith in
    ap (slice_get (p ∷ q ∷ qs)) place ∙ last_place q qs

behind_front : (front rest : Pairs) → IsInOrder (front ++ rest) → behind_key (last_key front) (front ++ rest) ≡ rest
behind_front [] rest h = all_from_start rest
behind_front (p ∷ ps) rest h = ap (λ k. behind_key (option_map (λ q. q.0) k) (p ∷ ps ++ rest)) (last_place p ps) ∙ left_behind p ps rest h

-- behind the last key of a front stands what the front leaves
pub behind_taken : (n : ℕ) (ps : Pairs) → IsInOrder ps → behind_key (last_key (take n ps)) ps ≡ drop n ps
behind_taken n ps h =
    let whole : take n ps ++ drop n ps ≡ ps = take-append-drop n ps in
    ap (behind_key (last_key (take n ps))) (sym whole) ∙ behind_front (take n ps) (drop n ps) (subst IsInOrder (sym whole) h)

-- ---- fronts are in order too

all_in_front : (P : List ℕ → Type 0) (n : ℕ) (ps : Pairs) → AllByRecursion P (keys_of ps) → AllByRecursion P (keys_of (take n ps))
all_in_front P zero ps h = tt
all_in_front P (suc n) [] h = tt
all_in_front P (suc n) (p ∷ ps) h = (h.0, all_in_front P n ps h.1)

in_order_front : (n : ℕ) (ps : Pairs) → IsInOrder ps → IsInOrder (take n ps)
unfolding IsStrictlySortedBy
in_order_front zero ps h = tt
in_order_front (suc n) [] h = tt
in_order_front (suc n) (p ∷ ps) h = (all_in_front (λ q. slice_cmp nat_cmp p.0 q ≡ Less) n ps h.0, in_order_front n ps h.1)

pub page_in_order : (n m : ℕ) (ps : Pairs) → IsInOrder ps → IsInOrder (take n ps ++ take m (drop n ps))
page_in_order n m ps h = subst IsInOrder (take-add n m ps) (in_order_front (n + m) ps h)
