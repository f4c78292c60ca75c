-- Pairs put behind others, and taken away again.
use Rattle.std.proofs.Common.{ℕ, ◌≡◌, cond, List, [], ◌∷◌, ◌++◌, refl, sym, ap, ◌∙◌, subst, append_assoc}
use Rattle.std.specs.declared.cmp.Ordering.TheVariants.{Less, Greater}
use Rattle.std.specs.Ordering.{is_eq, match_ordering, nat_cmp, ordering_reverse}
use Rattle.std.specs.Cmp.Lexicographic.{slice_cmp, nat_list_cmp_total}
use Rattle.std.specs.List.{AllByRecursion}
use Rattle.std.specs.List.Sorted.{IsStrictlySortedBy}
use Rattle.std.specs.Map.{keys_of}
use Rattle.std.proofs.lemmas.Cmp.{tied_itself}
use Rattle.pgs_copy.specs.Pairs.{Pairs, IsInOrder, with_pair, without}

below_middle : (key : List ℕ) (xs ys : Pairs) (p : List ℕ × List ℕ) → AllByRecursion (λ q. slice_cmp nat_cmp key q ≡ Less) (keys_of (xs ++ p ∷ ys))
    → slice_cmp nat_cmp key p.0 ≡ Less
below_middle key [] ys p h = h.0
below_middle key (x ∷ xs) ys p h = below_middle key xs ys p h.1

above : (p x : List ℕ × List ℕ) (xs ys : Pairs) → AllByRecursion (λ q. slice_cmp nat_cmp x.0 q ≡ Less) (keys_of (xs ++ p ∷ ys)) → slice_cmp nat_cmp p.0 x.0 ≡ Greater
above p x xs ys h = nat_list_cmp_total.antisymm p.0 x.0 ∙ ap ordering_reverse (below_middle x.0 xs ys p h)

-- a pair whose key stands behind all others goes last
put_last : (xs ys : Pairs) (p : List ℕ × List ℕ) → IsInOrder (xs ++ p ∷ ys) → with_pair p.0 p.1 xs ≡ xs ++ p ∷ []
unfolding IsStrictlySortedBy
put_last [] ys p h = refl
put_last (x ∷ xs) ys p h =
    ap (λ o. match_ordering o (p ∷ x ∷ xs) ((x.0, p.1) ∷ xs) (x ∷ with_pair p.0 p.1 xs)) (above p x xs ys h.0) ∙ ap (λ l. x ∷ l) (put_last xs ys p h.1)

-- and is taken away from there
last_gone : (xs ys : Pairs) (p : List ℕ × List ℕ) → IsInOrder (xs ++ p ∷ ys) → without p.0 (xs ++ p ∷ []) ≡ xs
unfolding IsStrictlySortedBy
last_gone [] ys p h = ap (λ o. cond (is_eq o) [] (p ∷ [])) (tied_itself nat_list_cmp_total p.0)
last_gone (x ∷ xs) ys p h =
    ap (λ o. cond (is_eq o) (xs ++ p ∷ []) (x ∷ without p.0 (xs ++ p ∷ []))) (above p x xs ys h.0) ∙ ap (λ l. x ∷ l) (last_gone xs ys p h.1)

-- the first of some pairs was put behind others: the rest can be put behind these
pub rest_ready : (omap new rest pairs : Pairs) (p : List ℕ × List ℕ) → IsInOrder (omap ++ pairs) → pairs ≡ p ∷ rest → new ≡ with_pair p.0 p.1 omap → IsInOrder (new ++ rest)
rest_ready omap new rest pairs p h e is =
    let here : IsInOrder (omap ++ p ∷ rest) = subst (λ l. IsInOrder (omap ++ l)) e h in
    let at : omap ++ p ∷ rest ≡ new ++ rest = sym (append_assoc omap (p ∷ []) rest) ∙ ap (λ l. l ++ rest) (sym (is ∙ put_last omap rest p here)) in
    subst IsInOrder at here

-- so was the rest
pub all_behind : (omap new last rest pairs : Pairs) (p : List ℕ × List ℕ) → IsInOrder (omap ++ pairs) → pairs ≡ p ∷ rest → new ≡ with_pair p.0 p.1 omap → last ≡ new ++ rest
    → last ≡ omap ++ pairs
all_behind omap new last rest pairs p h e is more =
    let here : IsInOrder (omap ++ p ∷ rest) = subst (λ l. IsInOrder (omap ++ l)) e h in
    more ∙ ap (λ l. l ++ rest) (is ∙ put_last omap rest p here) ∙ append_assoc omap (p ∷ []) rest ∙ ap (λ l. omap ++ l) (sym e)

-- or it wasn't, and the first was taken away again
pub undone : (omap new last rest pairs : Pairs) (p : List ℕ × List ℕ) → IsInOrder (omap ++ pairs) → pairs ≡ p ∷ rest → new ≡ with_pair p.0 p.1 omap → last ≡ without p.0 new
    → last ≡ omap
undone omap new last rest pairs p h e is gone =
    let here : IsInOrder (omap ++ p ∷ rest) = subst (λ l. IsInOrder (omap ++ l)) e h in
    gone ∙ ap (without p.0) (is ∙ put_last omap rest p here) ∙ last_gone omap rest p here

pub ruleset tails = (rest_ready)
