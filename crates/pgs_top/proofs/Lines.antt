-- The lines of what was done.
use Rattle.std.proofs.Common.{◌≡◌, ℕ, Bool, ◌+◌, ◌<◌, ◌≤◌, List, [], ◌∷◌, ◌++◌, length, get_or, drop, reverse, refl, sym, ap, ◌∙◌, append_assoc}
use Rattle.std.proofs.lemmas.List.{drop_more, drop_all, reverse-reverse}
use Rattle.pgs_done.specs.declared.done.Done.{Done}
use Rattle.pgs_top.specs.Output.{shown_line, lines}

-- one line more is written, where it is shown
pub lines_next : (lists : Bool) (text new : List ℕ) (done : List Done) (i : ℕ) (one : Done) → text ++ lines lists (drop i done) ≡ lines lists done → i < length done → one ≡ get_or done i one
    → new ≡ text ++ shown_line lists one → new ++ lines lists (drop (i + 1) done) ≡ lines lists done
lines_next lists text new done i one h within is e =
    ap (λ t. t ++ lines lists (drop (i + 1) done)) e
    ∙ append_assoc text (shown_line lists one) (lines lists (drop (i + 1) done))
    ∙ ap (λ rest. text ++ rest) (sym (ap (lines lists) (drop_more done i one within ∙ ap (λ x. x ∷ drop (i + 1) done) (sym is))))
    ∙ h

append_none : (xs : List ℕ) → xs ++ [] ≡ xs
append_none [] = refl
append_none (x ∷ xs) = ap (λ rest. x ∷ rest) (append_none xs)

pub lines_end : (lists : Bool) (text : List ℕ) (done : List Done) (i : ℕ) → text ++ lines lists (drop i done) ≡ lines lists done → length done ≤ i → text ≡ lines lists done
lines_end lists text done i h all = sym (append_none text) ∙ ap (λ rest. text ++ lines lists rest) (sym (drop_all i done all)) ∙ h

pub turned : (lists : Bool) (xs ys : List Done) → reverse xs ≡ ys → lines lists xs ≡ lines lists (reverse ys)
turned lists xs ys e = ap (lines lists) (sym (reverse-reverse xs) ∙ ap reverse e)
