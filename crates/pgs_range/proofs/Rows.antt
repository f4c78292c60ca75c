-- Ranges in a row hold each family between their ends once, and no other.
use Rattle.std.proofs.Common.{◌≡◌, ◌+◌, Bool, true, false, not, cond, ◌&&◌, ◌||◌, List, [], ◌∷◌, refl, sym, ap, ◌∙◌}
use Rattle.std.specs.Cmp.{tied_itself}
use Rattle.std.specs.Ordering.{is_le}
use Rattle.pgs_bytes.proofs.Facts.{true_false}
use Rattle.pgs_name.specs.Families.{Family}
use Rattle.pgs_range.specs.Ranges.{is_at_most, is_above, in_range}
use Rattle.pgs_range.specs.declared.bound.Bound.{Bound}
use Rattle.pgs_range.specs.declared.family_range.FamilyRange.{FamilyRange}
use Rattle.pgs_range.specs.Ends.{is_upto}
use Rattle.pgs_range.specs.Rows.{AreInRow, times_held}
use Rattle.pgs_range.proofs.Ends.{bound_total}
use Rattle.pgs_range.proofs.Tiles.{above_or_at_most, upto_chain, in_one_range, in_both_ranges}

-- the first end of a row isn't above the last
pub row_upto : (from : Bound) (ranges : List FamilyRange) (to : Bound) → AreInRow from ranges to → is_upto from to ≡ true
row_upto from [] to row = ap (λ b. is_upto from b) row ∙ ap is_le (tied_itself bound_total from)
row_upto from (range ∷ ranges) to row =
    ap (λ b. is_upto from b) (sym row.0) ∙ upto_chain from range.from range.to (row_upto from ranges range.from row.2) row.1

counted : (x y z : Bool) → x ≡ (y || z) → (y && z) ≡ false → cond z 1 0 + cond y 1 0 ≡ cond x 1 0
counted x true true p q = absurd (true_false q)
counted x true false p q = ap (λ t. cond t 1 0) (sym p)
counted x false true p q = ap (λ t. cond t 1 0) (sym p)
counted x false false p q = ap (λ t. cond t 1 0) (sym p)

not_itself : (p : Bool) → (p && not p) ≡ false
not_itself true = refl
not_itself false = refl

pub held_once : (from : Bound) (ranges : List FamilyRange) (to : Bound) (f : Family) → AreInRow from ranges to
    → times_held ranges f ≡ cond (is_at_most from f && is_above to f) 1 0
held_once from [] to f row =
    sym (ap (λ t. cond t 1 0) (ap (λ b. is_at_most from f && is_above b f) row ∙ ap (λ t. is_at_most from f && t) (above_or_at_most from f) ∙ not_itself (is_at_most from f)))
held_once from (range ∷ ranges) to f row =
    ap (λ n. cond (in_range range f) 1 0 + n) (held_once from ranges range.from f row.2)
    ∙ counted (is_at_most from f && is_above range.to f) (is_at_most from f && is_above range.from f) (in_range range f)
    (in_one_range from range.from range.to f (row_upto from ranges range.from row.2) row.1) (in_both_ranges from range.from range.to f)
    ∙ ap (λ b. cond (is_at_most from f && is_above b f) 1 0) row.0
