-- A stride that passes the end has what is left.
use Rattle.std.proofs.Common.{ℕ, ◌≡◌, ◌≤◌, List, [], length, take, drop, sym, ap, ◌∙◌, subst}
use Rattle.std.proofs.Math.Seq.{drop-length}
use Rattle.std.proofs.lemmas.List.{take_all, drop_all}

pub stride_all : {A : Type 0} (count : ℕ) (xs : List A) → length xs ≤ count → xs ≡ take count xs
stride_all count xs h = sym (take_all count xs h)

pub behind_all : {A : Type 0} (from : ℕ) (xs : List A) → length xs ≤ from → drop (length xs) xs ≡ drop from xs
behind_all from xs h = drop-length xs ∙ sym (drop_all from xs h)

pub ruleset strides = (stride_all, behind_all)
