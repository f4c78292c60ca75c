-- Lists of the positions that pass a test, and what a listing by one position at a time gives of them.
use Rattle.std.proofs.Common.{ℕ, arith, nat_eq, ◌≡◌, inl, inr, Bool, true, false, cond, ◌&&◌, ◌||◌, List, [], ◌∷◌, filter, Some, None, refl, sym, ap, ◌∙◌, subst}
use Rattle.std.specs.Cmp.{tied_itself}
use Rattle.std.specs.declared.cmp.Ordering.{Ordering}
use Rattle.std.specs.declared.cmp.Ordering.TheVariants.{Less, Equal, Greater}
use Rattle.std.specs.Ordering.{is_le, is_lt, ordering_reverse}
use Rattle.std.specs.List.{AllByRecursion, list_any}
use Rattle.std.specs.List.Sorted.{IsStrictlySortedBy}
use Rattle.std.proofs.lemmas.Bool.Decides.{nat_tests}
use Rattle.std.proofs.lemmas.List.Kept.{IsStrictlySortedBy-filter}
use Rattle.pgs_bytes.proofs.Facts.{both, joined, true_false, true_or_false}
use Rattle.pgs_name.specs.Families.{same_family}
use Rattle.pgs_name.specs.Positions.{position_cmp, is_before, same_position}
use Rattle.pgs_name.specs.declared.object_id.ObjectId.{ObjectId}
use Rattle.pgs_name.proofs.Families.{same_family_is}
use Rattle.pgs_name.proofs.Ordered.{position_total, position_same, by_family}
use Rattle.pgs_range.specs.Ranges.{is_above}
use Rattle.pgs_range.specs.Listed.{is_behind, is_ahead, IsNext}
use Rattle.pgs_range.specs.declared.bound.Bound.{Bound}
use Rattle.pgs_range.specs.declared.cursor.Cursor.{Cursor}
use Rattle.pgs_range.specs.declared.cursor.Cursor.TheVariants.{At, After}
use Rattle.pgs_range.proofs.Tiles.{at_most_up}
use Rattle.pgs_chunk.specs.Positions.{Ascends}
use Rattle.pgs_chunk.specs.Listings.{placed, IsListOf}
use Rattle.pgs_chunk.proofs.Lists.{all_weaker, filter_all}
use Rattle.pgs_chunk.proofs.Ordered as ordered

same_number : (m n : ℕ) → nat_eq m n ≡ true → m ≡ n
same_number m n e = grind (arith, nat_tests)

-- positions of one family and one snap are the same
pub same_position_is : (a b : ObjectId) → same_position a b ≡ true → a ≡ b
same_position_is a b e =
    let parts = both (same_family a.family b.family) (nat_eq a.snap b.snap) e in
    let family : a.family ≡ b.family = same_family_is a.family b.family parts.0 in
    let snap : a.snap ≡ b.snap = same_number a.snap b.snap parts.1 in
    λ i. record { family = family i; snap = snap i }

pub has_head : (id : ObjectId) (rest : List ObjectId) → list_any (same_position id) (id ∷ rest) ≡ true
has_head = ordered.has_head position_cmp position_total same_position position_same same_position_is

-- what all listed positions have each of them has
pub has_all : (P : ObjectId → Type 0) (ids : List ObjectId) → AllByRecursion P ids → (id : ObjectId) → list_any (same_position id) ids ≡ true → P id
has_all = ordered.has_all position_cmp position_total same_position position_same same_position_is

pub placed_ascends : (id : ObjectId) (ids : List ObjectId) → Ascends ids → Ascends (placed id ids)
placed_ascends = ordered.placed_up position_cmp position_total same_position position_same same_position_is

pub placed_has : (id other : ObjectId) (ids : List ObjectId)
    → list_any (same_position other) (placed id ids) ≡ (same_position other id || list_any (same_position other) ids)
placed_has = ordered.placed_has position_cmp position_total same_position position_same same_position_is

pub filter_has : (test : ObjectId → Bool) (id : ObjectId) (ids : List ObjectId) → list_any (same_position id) (filter test ids) ≡ (test id && list_any (same_position id) ids)
filter_has = ordered.filter_has position_cmp position_total same_position position_same same_position_is

pub filter_ascends : (test : ObjectId → Bool) (ids : List ObjectId) → Ascends ids → Ascends (filter test ids)
filter_ascends = IsStrictlySortedBy-filter position_cmp

-- two ascending lists with the same positions are the same
pub same_members : (one two : List ObjectId) → Ascends one → Ascends two
    → ((id : ObjectId) → list_any (same_position id) one ≡ list_any (same_position id) two) → one ≡ two
same_members = ordered.same_elements position_cmp position_total same_position position_same same_position_is

pub same_lists : (held : ObjectId → Bool) (one two : List ObjectId) → IsListOf held one → IsListOf held two → one ≡ two
same_lists held one two a b = same_members one two a.ascends b.ascends (λ id. a.members id ∙ sym (b.members id))

-- ---- the next position

held_of : (held ahead : ObjectId → Bool) (ids : List ObjectId) (id : ObjectId) (rest : List ObjectId) → IsListOf held ids → filter ahead ids ≡ id ∷ rest
    → (held id ≡ true) × (ahead id ≡ true)
held_of held ahead ids id rest is e =
    let there : (ahead id && list_any (same_position id) ids) ≡ true =
    sym (filter_has ahead id ids) ∙ ap (list_any (same_position id)) e ∙ has_head id rest in
    let parts = both (ahead id) (list_any (same_position id) ids) there in
    (sym (is.members id) ∙ parts.1, parts.0)

none_by : (held : ObjectId → Bool) (cursor : Cursor) (to : Bound) (ids : List ObjectId) → IsListOf held ids → IsNext held cursor to None
    → (left : List ObjectId) → filter (is_ahead cursor to) ids ≡ left → left ≡ []
none_by held cursor to ids is next [] e = refl
none_by held cursor to ids is next (id ∷ rest) e =
    let parts = held_of held (is_ahead cursor to) ids id rest is e in
    absurd (next id parts.0 parts.1)

-- where there is none, none of the list is left
pub next_none : (held : ObjectId → Bool) (cursor : Cursor) (to : Bound) (ids : List ObjectId) → IsListOf held ids → IsNext held cursor to None
    → filter (is_ahead cursor to) ids ≡ []
next_none held cursor to ids is next = none_by held cursor to ids is next (filter (is_ahead cursor to) ids) refl

not_le : (r : Ordering) → r ≡ Less → is_le (ordering_reverse r) ≡ true → ⊥
not_le r l e = true_false (sym e ∙ ap (λ s. is_le (ordering_reverse s)) l)

-- the least of an ascending list is its first
least_is_first : (id first : ObjectId) (rest : List ObjectId) → Ascends (first ∷ rest) → list_any (same_position id) (first ∷ rest) ≡ true
    → is_le (position_cmp id first) ≡ true → first ≡ id
unfolding IsStrictlySortedBy
least_is_first id first rest h e l =
    elim (true_or_false (same_position id first)) [
      | inl same ↦ sym (same_position_is id first same)
      | inr other ↦
          let behind : position_cmp first id ≡ Less =
          has_all (λ z. position_cmp first z ≡ Less) rest h.0 id (ordered.or_right (same_position id first) (list_any (same_position id) rest) other e) in
          absurd (not_le (position_cmp first id) behind (sym (ap is_le (position_total.antisymm id first)) ∙ l))
    ]

headed_by : (held : ObjectId → Bool) (cursor : Cursor) (to : Bound) (ids : List ObjectId) (id : ObjectId) → IsListOf held ids → IsNext held cursor to (Some id)
    → (left : List ObjectId) → filter (is_ahead cursor to) ids ≡ left → list_any (same_position id) left ≡ true → (rest : List ObjectId) × (left ≡ id ∷ rest)
headed_by held cursor to ids id is next [] e there = absurd (true_false (sym there))
headed_by held cursor to ids id is next (first ∷ rest) e there =
    let parts = held_of held (is_ahead cursor to) ids first rest is e in
    let up : Ascends (first ∷ rest) = subst Ascends e (filter_ascends (is_ahead cursor to) ids is.ascends) in
    (rest, ap (λ x. x ∷ rest) (least_is_first id first rest up there (next.2 first parts.0 parts.1)))

some_by : (held : ObjectId → Bool) (cursor : Cursor) (to : Bound) (ids : List ObjectId) (id : ObjectId) → IsListOf held ids → IsNext held cursor to (Some id)
    → (left : List ObjectId) → filter (is_ahead cursor to) ids ≡ left → (rest : List ObjectId) × (left ≡ id ∷ rest)
some_by held cursor to ids id is next left e =
    let there : list_any (same_position id) left ≡ true =
    ap (list_any (same_position id)) (sym e) ∙ filter_has (is_ahead cursor to) id ids
    ∙ joined (is_ahead cursor to id) (list_any (same_position id) ids) next.1 (is.members id ∙ next.0) in
    headed_by held cursor to ids id is next left e there

-- ---- behind a position

less_is : (r : Ordering) → is_lt r ≡ true → r ≡ Less
less_is Less e = refl
less_is Equal e = absurd (true_false (sym e))
less_is Greater e = absurd (true_false (sym e))

-- what is behind a position that is behind a cursor is behind that cursor
behind_chain : (cursor : Cursor) (id other : ObjectId) → is_behind cursor id ≡ true → position_cmp id other ≡ Less → is_behind cursor other ≡ true
behind_chain (At bound) id other h l = at_most_up bound id.family other.family (by_family id other (ap is_le l)) h
behind_chain (After last) id other h l = ap is_lt (position_total.trans last id other (less_is (position_cmp last id) h) l)

and_true : (a : Bool) → (a && true) ≡ a
and_true true = refl
and_true false = refl

and_false : (a : Bool) → (a && false) ≡ false
and_false true = refl
and_false false = refl

and_same : (a b c : Bool) → (a ≡ true → b ≡ true) → (a && c) ≡ (a && (b && c))
and_same true b c f = ap (λ x. x && c) (sym (f refl))
and_same false b c f = refl

split_by : {X : Type 0} (r : X → Bool) (x : X) (ys zs : List X) (p q : Bool) → p ≡ (r x && q) → zs ≡ filter r ys
    → cond p (x ∷ zs) zs ≡ filter r (cond q (x ∷ ys) ys)
split_by r x ys zs p true e h = ap (λ b. cond b (x ∷ zs) zs) (e ∙ and_true (r x)) ∙ ap (λ l. cond (r x) (x ∷ l) l) h
split_by r x ys zs p false e h = ap (λ b. cond b (x ∷ zs) zs) (e ∙ and_false (r x)) ∙ h

split : {X : Type 0} (p q r : X → Bool) → ((x : X) → p x ≡ (r x && q x)) → (xs : List X) → filter p xs ≡ filter r (filter q xs)
split p q r f [] = refl
split p q r f (x ∷ xs) = split_by r x (filter q xs) (filter p xs) (p x) (q x) (f x) (split p q r f xs)

-- behind the first of those that are ahead are the others
tail_by : (cursor : Cursor) (to : Bound) (ids : List ObjectId) (id : ObjectId) (rest : List ObjectId) → Ascends ids → filter (is_ahead cursor to) ids ≡ id ∷ rest
    → is_ahead cursor to id ≡ true → filter (is_ahead (After id) to) ids ≡ rest
unfolding IsStrictlySortedBy
tail_by cursor to ids id rest h e a =
    let up : Ascends (id ∷ rest) = subst Ascends e (filter_ascends (is_ahead cursor to) ids h) in
    let in_cursor : is_behind cursor id ≡ true = (both (is_behind cursor id) (is_above to id.family) a).0 in
    let tests : (x : ObjectId) → is_ahead (After id) to x ≡ (is_before id x && is_ahead cursor to x) =
    λ x. and_same (is_before id x) (is_behind cursor x) (is_above to x.family) (λ l. behind_chain cursor id x in_cursor (less_is (position_cmp id x) l)) in
    let itself : is_before id id ≡ false = ap is_lt (tied_itself position_total id) in
    split (is_ahead (After id) to) (is_ahead cursor to) (is_before id) tests ids ∙ ap (filter (is_before id)) e
    ∙ ap (λ b. cond b (id ∷ filter (is_before id) rest) (filter (is_before id) rest)) itself
    ∙ filter_all (is_before id) rest (all_weaker (λ y. position_cmp id y ≡ Less) (λ y. is_before id y ≡ true) (λ y l. ap is_lt l) rest up.0)

-- the next position is the first of those that are ahead, and the others are ahead of it
pub next_some : (held : ObjectId → Bool) (cursor : Cursor) (to : Bound) (ids : List ObjectId) (id : ObjectId) → IsListOf held ids → IsNext held cursor to (Some id)
    → filter (is_ahead cursor to) ids ≡ id ∷ filter (is_ahead (After id) to) ids
next_some held cursor to ids id is next =
    let found = some_by held cursor to ids id is next (filter (is_ahead cursor to) ids) refl in
    found.1 ∙ ap (λ l. id ∷ l) (sym (tail_by cursor to ids id found.0 is.ascends found.1 next.1))

pub none_ascend : Ascends []
unfolding IsStrictlySortedBy
none_ascend = tt
