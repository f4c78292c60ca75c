-- The newest item of a family in a range, looked for from the end.
use Rattle.std.proofs.Common.{ℕ, ◌≡◌, ◌+◌, ◌<◌, true, false, cond, List, [], ◌∷◌, ◌++◌, length, take, get_or, reverse, sym, ap, ◌∙◌}
use Rattle.std.proofs.lemmas.List.{take_more, reverse-append}
use Rattle.pgs_medium.specs.declared.item.Item.{Item}
use Rattle.pgs_range.specs.Ranges.{in_range}
use Rattle.pgs_range.specs.declared.family_range.FamilyRange.{FamilyRange}
use Rattle.pgs_op_log.specs.Logs.{newest_in}

one_more : (items : List Item) (left at : ℕ) (item : Item) → left ≡ at + 1 → at < length items → item ≡ get_or items at item → reverse (take left items) ≡ item ∷ reverse (take at items)
one_more items left at item is within here =
    ap (λ n. reverse (take n items)) is
    ∙ ap reverse (take_more items at item within ∙ ap (λ x. take at items ++ x ∷ []) (sym here))
    ∙ reverse-append (take at items) (item ∷ [])

pub found_here : (range : FamilyRange) (items : List Item) (left at : ℕ) (item : Item) → left ≡ at + 1 → at < length items → item ≡ get_or items at item → in_range range item.family ≡ true → newest_in range (reverse (take left items)) ≡ item.number
found_here range items left at item is within here found =
    ap (newest_in range) (one_more items left at item is within here) ∙ ap (λ b. cond b item.number (newest_in range (reverse (take at items)))) found

pub found_below : (range : FamilyRange) (items : List Item) (left at : ℕ) (item : Item) → left ≡ at + 1 → at < length items → item ≡ get_or items at item → in_range range item.family ≡ false → newest_in range (reverse (take left items)) ≡ newest_in range (reverse (take at items))
found_below range items left at item is within here missed =
    ap (newest_in range) (one_more items left at item is within here) ∙ ap (λ b. cond b item.number (newest_in range (reverse (take at items)))) missed
