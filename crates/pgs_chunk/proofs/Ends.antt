-- The first position that isn't of the first family, behind as many as the limit, is where a chunk ends.
use Rattle.std.proofs.Common.{ℕ, ◌≡◌, true, ◌&&◌, ◌||◌, nat_le, List, [], ◌∷◌, ◌++◌, length, Some, None, refl, sym, ap, ◌∙◌, arith}
use Rattle.std.specs.declared.cmp.Ordering.TheVariants.{Less}
use Rattle.std.specs.Option.{MatchOption}
use Rattle.std.specs.Ordering.{is_le}
use Rattle.std.proofs.lemmas.Map.Keys.{sorted_head, sorted_tail}
use Rattle.std.proofs.lemmas.Option.{MatchOption-at_none, MatchOption-at_some}
use Rattle.pgs_bytes.proofs.Facts.{joined, true_false}
use Rattle.pgs_name.specs.declared.object_id.ObjectId.{ObjectId}
use Rattle.pgs_name.specs.Order.{family_cmp}
use Rattle.pgs_name.proofs.Families.{family_is_same}
use Rattle.pgs_range.specs.declared.bound.Bound.{Bound}
use Rattle.pgs_range.specs.declared.bound.Bound.TheVariants.{Min, At, Max}
use Rattle.pgs_name.specs.Positions.{position_cmp}
use Rattle.pgs_range.specs.Ends.{is_upto}
use Rattle.pgs_name.specs.Total.{family_total}
use Rattle.pgs_chunk.specs.Positions.{Ascends, in_one_family}
use Rattle.pgs_chunk.specs.Selection.{below, of_one_family, fits, is_later_family, is_candidate, IsEnd}
use Rattle.pgs_chunk.specs.Next.{next_position}
use Rattle.pgs_chunk.proofs.Families.{family_of, one_family_is}
use Rattle.pgs_chunk.proofs.Lists.{all_weaker}
use Rattle.pgs_chunk.proofs.Starts.{family_upto}
use Rattle.pgs_chunk.proofs.Cuts as cuts

abbrev IsCut : ℕ → List ObjectId → ObjectId → Type 0
IsCut limit xs x = cuts.IsCut family_of family_cmp family_total in_one_family one_family_is limit xs x

abbrev Rises : List ObjectId → Type 0
Rises xs = cuts.Rises family_of family_cmp family_total in_one_family one_family_is xs

rises : (xs : List ObjectId) → Ascends xs → Rises xs
rises [] h = tt
rises (x ∷ xs) h = (
  all_weaker (λ y. position_cmp x y ≡ Less) (λ y. is_le (family_cmp x.family y.family) ≡ true) (λ y l. family_upto x y l) xs
      (sorted_head position_cmp x xs h),
  rises xs (sorted_tail position_cmp x xs h),
)

pub below_greatest : (xs : List ObjectId) → below Max xs ≡ xs
below_greatest [] = refl
below_greatest (x ∷ xs) = ap (λ l. x ∷ l) (below_greatest xs)

is_later : (limit : ℕ) (xs : List ObjectId) (x : ObjectId) → IsCut limit xs x → is_later_family xs x.family ≡ true
is_later limit xs x c =
    ap (λ l. is_later_family l x.family) c.begins ∙ cuts.cut_is_later family_of family_cmp family_total in_one_family one_family_is limit xs x c

greatest_at : (limit : ℕ) (xs : List ObjectId) (x : ObjectId) → Ascends xs → IsCut limit xs x → (other : Bound) → is_candidate xs other ≡ true → fits limit xs other ≡ true
    → is_upto other (At x.family) ≡ true
greatest_at limit xs x h c Min k f = refl
greatest_at limit xs x h c (At g) k f = cuts.upto_cut family_of family_cmp family_total in_one_family one_family_is limit xs x g (rises xs h) c f
greatest_at limit xs x h c Max k f =
    absurd (true_false (sym f ∙ ap (λ l. nat_le (length l) limit || of_one_family l) (below_greatest xs)
    ∙ cuts.whole_is_over family_of family_cmp family_total in_one_family one_family_is limit xs x c))

end_at : (limit : ℕ) (xs : List ObjectId) (x : ObjectId) → Ascends xs → IsCut limit xs x → IsEnd limit xs (At x.family)
end_at limit xs x h c = record {
  candidate = is_later limit xs x c;
  fitting = cuts.cut_fits family_of family_cmp family_total in_one_family one_family_is limit xs x (rises xs h) c;
  greatest = greatest_at limit xs x h c;
}

upto_greatest : (other : Bound) → is_upto other Max ≡ true
upto_greatest Min = refl
upto_greatest (At g) = refl
upto_greatest Max = refl

end_at_greatest : (limit : ℕ) (xs : List ObjectId) → (nat_le (length xs) limit || of_one_family xs) ≡ true → IsEnd limit xs Max
end_at_greatest limit xs f = record {
  candidate = refl;
  fitting = ap (λ l. nat_le (length l) limit || of_one_family l) (below_greatest xs) ∙ f;
  greatest = λ other k g. upto_greatest other;
}

next_is : (limit : ℕ) (xs : List ObjectId) → Ascends xs → MatchOption (next_position limit xs) ((nat_le (length xs) limit || of_one_family xs) ≡ true) (IsCut limit xs)
next_is limit [] h = cuts.next_cut family_of family_cmp family_total in_one_family one_family_is limit [] tt
next_is limit (x ∷ xs) h = cuts.next_cut family_of family_cmp family_total in_one_family one_family_is limit (x ∷ xs) (rises (x ∷ xs) h)

-- at its family, where there is such a position
pub ends_there : (limit : ℕ) (xs : List ObjectId) (x : ObjectId) → Ascends xs → Some x ≡ next_position limit xs → IsEnd limit xs (At x.family)
ends_there limit xs x h e = end_at limit xs x h (MatchOption-at_some ((nat_le (length xs) limit || of_one_family xs) ≡ true) (IsCut limit xs) x (sym e) (next_is limit xs h))

-- above all families, where there is none
pub ends_nowhere : (limit : ℕ) (xs : List ObjectId) → Ascends xs → None ≡ next_position limit xs → IsEnd limit xs Max
ends_nowhere limit xs h e = end_at_greatest limit xs (MatchOption-at_none ((nat_le (length xs) limit || of_one_family xs) ≡ true) (IsCut limit xs) (sym e) (next_is limit xs h))

pub ruleset ends = (ends_there, ends_nowhere)

-- all positions are of one family where the first and the last are
pub one_family_by_ends : (first : ObjectId) (mid : List ObjectId) (last : ObjectId) → Ascends (first ∷ mid ++ last ∷ [])
    → of_one_family (first ∷ mid ++ last ∷ []) ≡ in_one_family first last
one_family_by_ends first mid last h =
    cuts.one_by_ends family_of family_cmp family_total in_one_family one_family_is first mid last (rises (first ∷ mid ++ last ∷ []) h)

one_position : (id : ObjectId) → of_one_family (id ∷ []) ≡ true
one_position id = joined (in_one_family id id && true) true (joined (in_one_family id id) true (family_is_same id.family) refl) refl

pub one_alone : (first : ObjectId) (rest : List ObjectId) → length rest ≡ 0 → true ≡ of_one_family (first ∷ rest)
one_alone first [] e = sym (one_position first)
one_alone first (x ∷ rest) e = absurd (omega arith)

pub ruleset one_families = (one_family_by_ends, one_alone)
