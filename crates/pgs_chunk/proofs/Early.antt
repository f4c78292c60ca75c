-- A listing may stop where more than the limit and more than one family are listed.
use Rattle.std.proofs.Common.{ℕ, zero, suc, ◌≡◌, inl, inr, Bool, true, false, not, ◌||◌, List, [], ◌∷◌, ◌++◌, drop, find, Option, Some, None, refl, sym, ap, ◌∙◌, subst}
use Rattle.std.specs.Option.{option_or}
use Rattle.std.specs.List.{list_any}
use Rattle.std.specs.Ordering.{is_eq, is_le}
use Rattle.std.proofs.lemmas.List.Elements.{filter-append}
use Rattle.std.proofs.lemmas.List.Folds.{find-append}
use Rattle.std.proofs.lemmas.List.Kept.{IsStrictlySortedBy-filter}
use Rattle.pgs_bytes.proofs.Facts.{both, true_false, true_or_false, some_none}
use Rattle.pgs_name.specs.Families.{same_family}
use Rattle.pgs_name.proofs.Families.{same_family_is}
use Rattle.pgs_name.specs.Families.{Family}
use Rattle.pgs_name.specs.declared.object_id.ObjectId.{ObjectId}
use Rattle.pgs_name.specs.Order.{family_cmp}
use Rattle.pgs_range.specs.Ranges.{is_at_most}
use Rattle.pgs_range.specs.declared.bound.Bound.{Bound}
use Rattle.pgs_range.specs.declared.bound.Bound.TheVariants.{Min, At, Max}
use Rattle.pgs_range.specs.declared.family_range.FamilyRange.{FamilyRange}
use Rattle.pgs_name.specs.Positions.{position_cmp}
use Rattle.pgs_range.specs.Ends.{is_upto}
use Rattle.pgs_name.specs.Total.{family_total}
use Rattle.pgs_chunk.specs.Positions.{in_one_family, Ascends}
use Rattle.pgs_chunk.specs.Selection.{from_start, fits, is_later_family, is_candidate, IsEnd, IsSelected, is_enough, IsSettled}
use Rattle.pgs_chunk.specs.Next.{next_position}
use Rattle.pgs_chunk.proofs.Families.{one_family_is}
use Rattle.pgs_chunk.proofs.Cuts.{squeezed, not_truth}
use Rattle.pgs_chunk.proofs.Ends.{ends_there, ends_nowhere}

-- ---- there is one end

-- a listed family is that of a position
listed_family : (f : Family) (xs : List ObjectId) → list_any (λ id. same_family id.family f) xs ≡ true → (id : ObjectId) × (id.family ≡ f)
listed_family f [] e = absurd (true_false (sym e))
listed_family f (x ∷ xs) e =
    elim (true_or_false (same_family x.family f)) [
      | inl same ↦ (x, same_family_is x.family f same)
      | inr other ↦ listed_family f xs (ap (λ b. b || list_any (λ id. same_family id.family f) xs) (sym other) ∙ e)
    ]

later_family : (f : Family) (xs : List ObjectId) → is_later_family xs f ≡ true → (id : ObjectId) × (id.family ≡ f)
later_family f [] e = absurd (true_false (sym e))
later_family f (first ∷ rest) e =
    listed_family f rest (both (not (same_family first.family f)) (list_any (λ id. same_family id.family f) rest) e).1

one_family : (f g : Family) (a b : ObjectId) → a.family ≡ f → b.family ≡ g → is_le (family_cmp f g) ≡ true → is_le (family_cmp g f) ≡ true → f ≡ g
one_family f g a b p q h k =
    let level : is_eq (family_cmp f g) ≡ true = squeezed (family_cmp f g) h (ap is_le (sym (family_total.antisymm g f)) ∙ k) in
    let same : in_one_family a b ≡ true = one_family_is a b ∙ (λ i. is_eq (family_cmp (p i) (q i))) ∙ level in
    sym p ∙ same_family_is a.family b.family same ∙ q

one_bound : (xs : List ObjectId) (a b : Bound) → is_candidate xs a ≡ true → is_candidate xs b ≡ true → is_upto a b ≡ true → is_upto b a ≡ true → a ≡ b
one_bound xs Min b p q h k = absurd (true_false (sym p))
one_bound xs (At f) Min p q h k = absurd (true_false (sym q))
one_bound xs (At f) (At g) p q h k =
    let a = later_family f xs p in
    let b = later_family g xs q in
    ap At (one_family f g a.0 b.0 a.1 b.1 h k)
one_bound xs (At f) Max p q h k = absurd (true_false (sym k))
one_bound xs Max Min p q h k = absurd (true_false (sym q))
one_bound xs Max (At g) p q h k = absurd (true_false (sym h))
one_bound xs Max Max p q h k = refl

-- a list of positions gives one end
pub one_end : (limit : ℕ) (xs : List ObjectId) (a b : Bound) → IsEnd limit xs a → IsEnd limit xs b → a ≡ b
one_end limit xs a b h k =
    one_bound xs a b h.candidate k.candidate (k.greatest a h.candidate h.fitting) (h.greatest b k.candidate k.fitting)

-- ---- what comes behind doesn't change it

drop_front : {X : Type 0} (n : ℕ) (xs ys : List X) → (drop n xs ≡ [] → ⊥) → drop n (xs ++ ys) ≡ drop n xs ++ ys
drop_front zero xs ys h = refl
drop_front (suc n) [] ys h = absurd (h refl)
drop_front (suc n) (x ∷ xs) ys h = drop_front n xs ys h

found_front : {X : Type 0} (p : X → Bool) (x : X) (xs ys : List X) → Some x ≡ find p xs → Some x ≡ find p (xs ++ ys)
found_front p x xs ys e = ap (λ r. option_or r (find p ys)) e ∙ sym (find-append p xs ys)

not_nothing : {X : Type 0} (p : X → Bool) (x : X) (xs : List X) → Some x ≡ find p xs → xs ≡ [] → ⊥
not_nothing p x xs e n = some_none x (e ∙ ap (find p) n)

next_stays : (limit : ℕ) (xs more : List ObjectId) (x : ObjectId) → Some x ≡ next_position limit xs → Some x ≡ next_position limit (xs ++ more)
next_stays limit [] more x e = absurd (some_none x e)
next_stays limit (first ∷ rest) more x e =
    found_front (λ id. not (in_one_family first id)) x (drop limit (first ∷ rest)) more e
    ∙ ap (find (λ id. not (in_one_family first id))) (sym (drop_front limit (first ∷ rest) more (not_nothing (λ id. not (in_one_family first id)) x (drop limit (first ∷ rest)) e)))

ends_early : (limit : ℕ) (xs more : List ObjectId) (end : Bound) → Ascends xs → Ascends (xs ++ more) → fits limit xs Max ≡ false → IsEnd limit xs end
    → (r : Option ObjectId) → r ≡ next_position limit xs → IsEnd limit (xs ++ more) end
ends_early limit xs more end h k f e None n = absurd (true_false (sym (ends_nowhere limit xs h n).fitting ∙ f))
ends_early limit xs more end h k f e (Some x) n =
    subst (IsEnd limit (xs ++ more)) (one_end limit xs (At x.family) end (ends_there limit xs x h n) e)
    (ends_there limit (xs ++ more) x k (next_stays limit xs more x n))

behind : (limit : ℕ) (listed more : List ObjectId) (start : Bound) (range : FamilyRange) → Ascends listed → Ascends (listed ++ more)
    → is_enough limit listed start ≡ true → IsSelected limit listed start range → IsSelected limit (listed ++ more) start range
behind limit listed more start range h k f s =
    let p : ObjectId → Bool = λ id. is_at_most start id.family in
    let counted : List ObjectId = from_start start listed in
    let both_lists : from_start start (listed ++ more) ≡ counted ++ from_start start more = filter-append p listed more in
    let over : fits limit counted Max ≡ false = not_truth (fits limit counted Max) f in
    record {
      begins = s.begins;
      ends =
          subst (λ l. IsEnd limit l range.to) (sym both_lists)
          (ends_early limit counted (from_start start more) range.to (IsStrictlySortedBy-filter position_cmp p listed h)
          (subst Ascends both_lists (IsStrictlySortedBy-filter position_cmp p (listed ++ more) k)) over s.ends (next_position limit counted) refl);
    }

pub settled : (limit : ℕ) (listed : List ObjectId) (start : Bound) (range : FamilyRange) → Ascends listed → is_enough limit listed start ≡ true
    → IsSelected limit listed start range → IsSettled limit listed start range
settled limit listed start range h f s = record { whatever = λ more k. behind limit listed more start range h k f s }
