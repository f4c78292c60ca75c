-- The next position of a list is the first that is ahead.
use Rattle.std.proofs.Common.{◌≡◌, ◌&&◌, Bool, true, false, cond, List, [], ◌∷◌, filter, Option, Some, None, refl, sym, ap, ◌∙◌, subst, inl, inr}
use Rattle.std.specs.Cmp.{tied_itself}
use Rattle.std.specs.List.{list_any, find}
use Rattle.std.specs.List.Sorted.{IsStrictlySortedBy}
use Rattle.std.specs.Ordering.{is_le}
use Rattle.std.specs.declared.cmp.Ordering.TheVariants.{Less}
use Rattle.pgs_bytes.proofs.Facts.{both, true_false, true_or_false}
use Rattle.pgs_name.specs.Positions.{position_cmp, same_position}
use Rattle.pgs_name.specs.declared.object_id.ObjectId.{ObjectId}
use Rattle.pgs_name.proofs.Ordered.{position_total}
use Rattle.pgs_range.specs.Listed.{is_ahead, IsNext}
use Rattle.pgs_range.specs.declared.bound.Bound.{Bound}
use Rattle.pgs_range.specs.declared.cursor.Cursor.{Cursor}
use Rattle.pgs_chunk.specs.Positions.{Ascends}
use Rattle.pgs_chunk.specs.Listings.{IsListOf}
use Rattle.pgs_chunk.proofs.Members.{same_position_is, has_head, has_all, filter_has, filter_ascends, next_none, next_some}
use Rattle.pgs_chunk.proofs.Ordered.{or_right}

-- the first of a list
abbrev pub first : {X : Type 0} → List X → Option X
first [] = None
first (x ∷ xs) = Some x

pub find_first : {X : Type 0} (test : X → Bool) (xs : List X) → find test xs ≡ first (filter test xs)
find_first test [] = refl
find_first test (x ∷ xs) =
    (elim (test x) as (λ v. cond v (Some x) (find test xs) ≡ first (cond v (x ∷ filter test xs) (filter test xs))) [
      | true ↦ refl
      | false ↦ find_first test xs
    ])

-- ---- what is next is the first

pub found_next : (held : ObjectId → Bool) (cursor : Cursor) (to : Bound) (ids : List ObjectId) (next : Option ObjectId) → IsListOf held ids → IsNext held cursor to next
    → find (is_ahead cursor to) ids ≡ next
found_next held cursor to ids None is next = find_first (is_ahead cursor to) ids ∙ ap first (next_none held cursor to ids is next)
found_next held cursor to ids (Some id) is next = find_first (is_ahead cursor to) ids ∙ ap first (next_some held cursor to ids id is next)

-- ---- the first is what is next

-- the first of an ascending list is the least
first_is_least : (id other : ObjectId) (rest : List ObjectId) → Ascends (id ∷ rest) → list_any (same_position other) (id ∷ rest) ≡ true → is_le (position_cmp id other) ≡ true
unfolding IsStrictlySortedBy
first_is_least id other rest up there =
    elim (true_or_false (same_position other id)) [
      | inl same ↦ ap (λ o. is_le (position_cmp id o)) (same_position_is other id same) ∙ ap is_le (tied_itself position_total id)
      | inr apart ↦ ap is_le (has_all (λ z. position_cmp id z ≡ Less) rest up.0 other (or_right (same_position other id) (list_any (same_position other) rest) apart there))
    ]

-- what is held and ahead is left
is_left : (held : ObjectId → Bool) (cursor : Cursor) (to : Bound) (ids left : List ObjectId) → IsListOf held ids → filter (is_ahead cursor to) ids ≡ left
    → (other : ObjectId) → held other ≡ true → is_ahead cursor to other ≡ true → list_any (same_position other) left ≡ true
is_left held cursor to ids left is e other h a =
    ap (list_any (same_position other)) (sym e) ∙ filter_has (is_ahead cursor to) other ids ∙ ap (λ v. v && list_any (same_position other) ids) a ∙ is.members other ∙ h

next_of : (held : ObjectId → Bool) (cursor : Cursor) (to : Bound) (ids left : List ObjectId) → IsListOf held ids → filter (is_ahead cursor to) ids ≡ left
    → IsNext held cursor to (first left)
next_of held cursor to ids [] is e = λ other h a. true_false (sym (is_left held cursor to ids [] is e other h a))
next_of held cursor to ids (id ∷ rest) is e =
    let there : (is_ahead cursor to id && list_any (same_position id) ids) ≡ true =
    sym (filter_has (is_ahead cursor to) id ids) ∙ ap (list_any (same_position id)) e ∙ has_head id rest in
    let parts = both (is_ahead cursor to id) (list_any (same_position id) ids) there in
    let up : Ascends (id ∷ rest) = subst Ascends e (filter_ascends (is_ahead cursor to) ids is.ascends) in
    (sym (is.members id) ∙ parts.1, parts.0, λ other h a. first_is_least id other rest up (is_left held cursor to ids (id ∷ rest) is e other h a))

pub next_found : (held : ObjectId → Bool) (cursor : Cursor) (to : Bound) (ids : List ObjectId) → IsListOf held ids → IsNext held cursor to (find (is_ahead cursor to) ids)
next_found held cursor to ids is =
    subst (IsNext held cursor to) (sym (find_first (is_ahead cursor to) ids)) (next_of held cursor to ids (filter (is_ahead cursor to) ids) is refl)
