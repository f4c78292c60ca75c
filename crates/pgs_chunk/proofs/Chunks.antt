-- The chunk that begins at a bound: it is the one that is selected, and it takes positions away.
use Rattle.std.proofs.Common.{ℕ, ◌≡◌, ◌≤◌, ◌<◌, Bool, true, false, cond, not, List, [], ◌∷◌, length, filter, Option, Some, None, refl, sym, ap, ◌∙◌, subst, arith}
use Rattle.std.specs.Ordering.{is_le, ordering_reverse}
use Rattle.std.specs.declared.cmp.Ordering.{Ordering}
use Rattle.std.specs.declared.cmp.Ordering.TheVariants.{Less}
use Rattle.std.specs.List.{list_any}
use Rattle.std.proofs.lemmas.List.Kept.{IsStrictlySortedBy-filter}
use Rattle.std.proofs.lemmas.Map.Keys.{sorted_head}
use Rattle.std.specs.List.{AllByRecursion}
use Rattle.pgs_bytes.proofs.Facts.{both, true_false}
use Rattle.pgs_name.specs.Families.{Family, same_family}
use Rattle.pgs_name.specs.Order.{family_cmp}
use Rattle.pgs_name.specs.Positions.{position_cmp}
use Rattle.pgs_name.specs.Total.{family_total}
use Rattle.pgs_name.specs.declared.object_id.ObjectId.{ObjectId}
use Rattle.pgs_range.specs.Ranges.{is_at_most}
use Rattle.pgs_range.specs.Ends.{is_upto}
use Rattle.pgs_range.specs.declared.bound.Bound.{Bound}
use Rattle.pgs_range.specs.declared.bound.Bound.TheVariants.{At, Max}
use Rattle.pgs_range.specs.declared.family_range.FamilyRange.{FamilyRange}
use Rattle.pgs_range.proofs.Tiles.{at_most_up}
use Rattle.pgs_chunk.specs.Positions.{Ascends}
use Rattle.pgs_chunk.specs.Next.{next_position}
use Rattle.pgs_chunk.specs.Selection.{from_start, is_later_family, is_candidate, is_enough, IsEnd, IsSelected, IsSettled}
use Rattle.pgs_chunk.specs.Chunk.{bound_at, chunk_of}
use Rattle.pgs_chunk.proofs.Lists.{all_filtered, filter_shorter}
use Rattle.pgs_chunk.proofs.Above.{ends_above, later_above}
use Rattle.pgs_chunk.proofs.Early.{settled}
use Rattle.pgs_chunk.proofs.Ends.{ends_there, ends_nowhere}

-- what is from a start on ascends as the list does
pub from_ascends : (start : Bound) (listed : List ObjectId) → Ascends listed → Ascends (from_start start listed)
from_ascends start listed h = IsStrictlySortedBy-filter position_cmp (λ id. is_at_most start id.family) listed h

is_end : (limit : ℕ) (xs : List ObjectId) → Ascends xs → (next : Option ObjectId) → next ≡ next_position limit xs → IsEnd limit xs (bound_at next)
is_end limit xs h None e = ends_nowhere limit xs h e
is_end limit xs h (Some x) e = ends_there limit xs x h e

-- the chunk is the one that is selected
pub chunk_selected : (limit : ℕ) (listed : List ObjectId) (start : Bound) → Ascends listed → IsSelected limit listed start (chunk_of limit listed start)
chunk_selected limit listed start h = record {
  begins = refl;
  ends = is_end limit (from_start start listed) (from_ascends start listed h) (next_position limit (from_start start listed)) refl;
}

pub chunk_is_selected : (limit : ℕ) (listed : List ObjectId) (start : Bound) (range : FamilyRange) → Ascends listed → range ≡ chunk_of limit listed start
    → IsSelected limit listed start range
chunk_is_selected limit listed start range h e = subst (IsSelected limit listed start) (sym e) (chunk_selected limit listed start h)

-- it ends above its start
pub chunk_rises : (limit : ℕ) (listed : List ObjectId) (start : Bound) → Ascends listed → is_upto Max start ≡ false
    → is_upto (chunk_of limit listed start).to start ≡ false
chunk_rises limit listed start h m = ends_above limit listed start (chunk_of limit listed start) h (chunk_selected limit listed start h) m

-- ---- where it ends at a family, fewer positions are left than there were

kept_once : {X : Type 0} (p : X → Bool) (x : X) (ys zs : List X) (b c : Bool) → p x ≡ b → (b ≡ true → c ≡ true) → filter p ys ≡ filter p zs
    → filter p (cond c (x ∷ ys) ys) ≡ cond b (x ∷ filter p zs) (filter p zs)
kept_once p x ys zs true true e f h = ap (λ t. cond t (x ∷ filter p ys) (filter p ys)) e ∙ ap (λ l. x ∷ l) h
kept_once p x ys zs true false e f h = absurd (true_false (sym (f refl)))
kept_once p x ys zs false true e f h = ap (λ t. cond t (x ∷ filter p ys) (filter p ys)) e ∙ h
kept_once p x ys zs false false e f h = h

-- a test that follows from another, after that one
pub filter_after : {X : Type 0} (p q : X → Bool) → ((x : X) → p x ≡ true → q x ≡ true) → (xs : List X) → filter p (filter q xs) ≡ filter p xs
filter_after p q f [] = refl
filter_after p q f (x ∷ xs) = kept_once p x (filter q xs) xs (p x) (q x) refl (f x) (filter_after p q f xs)

lt_from_turned : (r : Ordering) → r ≡ Less → is_le (ordering_reverse r) ≡ false
lt_from_turned r e = ap (λ s. is_le (ordering_reverse s)) e

-- a start that isn't above a family isn't above those from a later family on
from_later : (start : Bound) (first f : Family) → is_at_most start first ≡ true → family_cmp first f ≡ Less → (id : ObjectId)
    → is_at_most (At f) id.family ≡ true → is_at_most start id.family ≡ true
from_later start first f a l id e =
    at_most_up start f id.family e (at_most_up start first f (ap is_le l) a)

fewer_of : (start : Bound) (ys : List ObjectId) (f : Family) → Ascends ys → AllByRecursion (λ id. is_at_most start id.family ≡ true) ys
    → is_later_family ys f ≡ true → (listed : List ObjectId) → ys ≡ from_start start listed → length (from_start (At f) listed) < length ys
fewer_of start [] f h a e listed g = absurd (true_false (sym e))
fewer_of start (first ∷ rest) f h a e listed g =
    let parts = both (not (same_family first.family f)) (list_any (λ id. same_family id.family f) rest) e in
    let less : family_cmp first.family f ≡ Less = later_above first rest f (sorted_head position_cmp first rest h) parts.1 parts.0 in
    let p : ObjectId → Bool = λ id. is_at_most (At f) id.family in
    let out : p first ≡ false = ap is_le (family_total.antisymm f first.family) ∙ lt_from_turned (family_cmp first.family f) less in
    let same : from_start (At f) listed ≡ filter p rest =
    sym (filter_after p (λ id. is_at_most start id.family) (from_later start first.family f a.0 less) listed)
    ∙ ap (filter p) (sym g) ∙ ap (λ t. cond t (first ∷ filter p rest) (filter p rest)) out in
    let short : length (filter p rest) ≤ length rest = filter_shorter p rest in
    subst (λ l. length l < length (first ∷ rest)) (sym same) (omega arith)

pub chunk_progress : (limit : ℕ) (listed : List ObjectId) (start : Bound) (f : Family) → Ascends listed → (chunk_of limit listed start).to ≡ At f
    → length (from_start (At f) listed) < length (from_start start listed)
chunk_progress limit listed start f h e =
    fewer_of start (from_start start listed) f (from_ascends start listed h) (all_filtered (λ id. is_at_most start id.family) listed)
    (subst (λ b. is_candidate (from_start start listed) b ≡ true) e (chunk_selected limit listed start h).ends.candidate) listed refl

pub chunk_is_settled : (limit : ℕ) (listed : List ObjectId) (start : Bound) (range : FamilyRange) → Ascends listed → range ≡ chunk_of limit listed start
    → is_enough limit listed start ≡ true → IsSettled limit listed start range
chunk_is_settled limit listed start range h e f = settled limit listed start range h f (chunk_is_selected limit listed start range h e)

pub chunk_is_above : (limit : ℕ) (listed : List ObjectId) (start : Bound) (range : FamilyRange) → Ascends listed → range ≡ chunk_of limit listed start
    → is_upto Max start ≡ false → is_upto range.to start ≡ false
chunk_is_above limit listed start range h e m = subst (λ r. is_upto r.to start ≡ false) (sym e) (chunk_rises limit listed start h m)

pub ruleset chunks = (chunk_is_selected, chunk_is_settled, chunk_is_above)
