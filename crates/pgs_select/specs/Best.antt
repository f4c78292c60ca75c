-- Which of the judged copies is the best.
use Rattle.std.specs.Prelude.{ℕ, ◌≡◌, Bool, true, false, not, ◌&&◌, List, ◌∷◌, ◌++◌, length, Option, Some, None, position}
use Rattle.std.specs.List.{list_any, AllByRecursion}
use Rattle.std.specs.Ordering.{is_eq}
use Rattle.pgs_info.specs.declared.info.ObjectInfo.{ObjectInfo}
use Rattle.pgs_select.specs.Choice.{rank_cmp, is_below}
use Rattle.pgs_select.specs.Judging.{info_told}
use Rattle.pgs_select.specs.declared.judged.Judged.{Judged}

-- a copy is eligible and ranks above another
abbrev pub is_above : Judged → Judged → Bool
is_above copy other = other.eligible && is_below (info_told copy) (info_told other)

-- an eligible copy that no eligible one ranks above
abbrev pub is_best : List Judged → Judged → Bool
is_best all copy = copy.eligible && not (list_any (is_above copy) all)

-- the place of the first such copy
abbrev pub best_place : List Judged → Option ℕ
best_place all = position (is_best all) all

-- ---- in words

-- both infos are there, and neither ranks above the other
abbrev pub is_alike : Option ObjectInfo → Option ObjectInfo → Bool
is_alike None other = false
is_alike (Some a) None = false
is_alike (Some a) (Some b) = is_eq (rank_cmp a b)

-- no copy is eligible
abbrev pub IsNoneEligible : List Judged → Type 0
IsNoneEligible all = AllByRecursion (λ other. other.eligible ≡ false) all

-- The copy at a place is eligible, no eligible copy ranks above it, and no eligible copy before it ranks as it does.
pub record IsBest (all : List Judged) (place : ℕ) : Type 0 where
  pub front : List Judged
  pub best : Judged
  pub behind : List Judged
  pub whole : all ≡ front ++ best ∷ behind
  pub here : place ≡ length front
  pub eligible : best.eligible ≡ true
  pub none_above : AllByRecursion (λ other. other.eligible ≡ true → is_below (info_told best) (info_told other) ≡ false) all
  pub none_alike : AllByRecursion (λ other. other.eligible ≡ true → is_alike (info_told best) (info_told other) ≡ false) front
