-- A page is gathered one pair after another.
use Rattle.std.proofs.Common.{ℕ, suc, ◌≡◌, ◌<◌, ◌≤◌, ◌+◌, nat_lt, Bool, true, false, List, [], ◌∷◌, ◌++◌, length, take, refl, sym, ap, ◌∙◌, arith}
use Rattle.std.proofs.lemmas.Bool.Decides.{nat_tests}
use Rattle.std.proofs.lemmas.List.{append-nil, length-append, take_all}
use Rattle.std.proofs.Math.Seq.{take-append_seam}
use Rattle.pgs_copy.specs.Pairs.{Pairs}
use Rattle.pgs_medium.specs.Reads.{PAGE_PAIRS, page_with}
use Rattle.pgs_medium.specs.declared.omap_page.OmapPage.{OmapPage}

abbrev page : List ℕ → Pairs → Bool → OmapPage
page header pairs more = record { header = header; pairs = pairs; more = more }

full : (n : ℕ) (made rest all : Pairs) → made ++ rest ≡ all → length made ≡ n → take n all ≡ made
full n made rest all e f = ap (take n) (sym e) ∙ (λ i. take (sym f i) (made ++ rest)) ∙ take-append_seam made rest

-- as many as a page has, and one more is there
pub page_full : (given header : List ℕ) (made left rest all : Pairs) (p : List ℕ × List ℕ) → made ++ left ≡ all → left ≡ p ∷ rest → PAGE_PAIRS ≤ length made → length made ≤ PAGE_PAIRS → header ≡ given
    → page header made true ≡ page_with given all
page_full given header made left rest all p so_far there least most same =
    let e : made ++ p ∷ rest ≡ all = ap (λ l. made ++ l) (sym there) ∙ so_far in
    let n : length made ≡ PAGE_PAIRS = omega arith in
    let long : length all ≡ length made + length (p ∷ rest) = sym (ap length e) ∙ length-append made (p ∷ rest) in
    let some : length (p ∷ rest) ≡ suc (length rest) = refl in
    let more : nat_lt PAGE_PAIRS (length all) ≡ true = grind (arith, nat_tests) in
    λ i. page (same i) (sym (full PAGE_PAIRS made (p ∷ rest) all e n) i) (sym more i)

-- all that are left
pub page_last : (given header : List ℕ) (made rest all : Pairs) → made ++ rest ≡ all → rest ≡ [] → length made ≤ PAGE_PAIRS → header ≡ given
    → page header made false ≡ page_with given all
page_last given header made rest all e none most same =
    let whole : all ≡ made = sym e ∙ ap (λ r. made ++ r) none ∙ append-nil made in
    let few : length all ≤ PAGE_PAIRS = let l = ap length whole in omega arith in
    let more : nat_lt PAGE_PAIRS (length all) ≡ false = grind (arith, nat_tests) in
    λ i. page (same i) (sym (take_all PAGE_PAIRS all few ∙ whole) i) (sym more i)

pub ruleset pages = (page_full, page_last)
