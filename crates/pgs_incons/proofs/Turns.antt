-- What is of a range, one finding after another.
use Rattle.std.proofs.Common.{ℕ, ◌≡◌, ◌<◌, ◌≤◌, ◌+◌, Bool, true, false, cond, List, [], ◌∷◌, ◌++◌, length, drop, filter, sym, ap, ◌∙◌, subst}
use Rattle.std.proofs.Math.ListN.{get_or}
use Rattle.std.proofs.lemmas.List.{append_assoc, append-nil, drop_more, drop_all}
use Rattle.std.proofs.lemmas.List.Kept.{IsStrictlySortedBy-filter}
use Rattle.pgs_name.specs.Positions.{position_cmp}
use Rattle.pgs_name.specs.declared.object_id.ObjectId.{ObjectId}
use Rattle.pgs_range.specs.Ranges.{in_range}
use Rattle.pgs_range.specs.declared.family_range.FamilyRange.{FamilyRange}
use Rattle.pgs_find.specs.declared.snap_finding.SnapFinding.{SnapFinding}
use Rattle.pgs_incons.specs.Found.{Ascends, AreWithin, finding_id, snap_id, of_range}
use Rattle.pgs_incons.specs.declared.finding.Finding.{Finding}
use Rattle.pgs_incons.proofs.Lists.{all_kept}

module _ {A : Type 0} (id_of : A → ObjectId) (range : FamilyRange) where
  abbrev inside : A → Bool
  inside x = in_range range (id_of x).family

  -- what is left of a list, by its next one
  left : (b : Bool) (xs : List A) (at : ℕ) (d : A) → at < length xs → inside (get_or xs at d) ≡ b
      → of_range id_of range (drop at xs) ≡ cond b (get_or xs at d ∷ of_range id_of range (drop (at + 1) xs)) (of_range id_of range (drop (at + 1) xs))
  left b xs at d within e =
      ap (filter inside) (drop_more xs at d within)
      ∙ ap (λ t. cond t (get_or xs at d ∷ filter inside (drop (at + 1) xs)) (filter inside (drop (at + 1) xs))) e

  next : (xs : List A) (at : ℕ) (d copy : A) (made new all : List A) → at < length xs → inside (get_or xs at d) ≡ true → copy ≡ get_or xs at d → new ≡ made ++ copy ∷ []
      → made ++ of_range id_of range (drop at xs) ≡ all → new ++ of_range id_of range (drop (at + 1) xs) ≡ all
  next xs at d copy made new all within e same more so_far =
      let rest : List A = of_range id_of range (drop (at + 1) xs) in
      ap (λ l. l ++ rest) more ∙ append_assoc made (copy ∷ []) rest ∙ ap (λ x. made ++ x ∷ rest) same
      ∙ sym (ap (λ l. made ++ l) (left true xs at d within e)) ∙ so_far

  passed : (xs : List A) (at : ℕ) (d : A) (made all : List A) → at < length xs → inside (get_or xs at d) ≡ false
      → made ++ of_range id_of range (drop at xs) ≡ all → made ++ of_range id_of range (drop (at + 1) xs) ≡ all
  passed xs at d made all within e so_far = sym (ap (λ l. made ++ l) (left false xs at d within e)) ∙ so_far

  ended : (xs : List A) (at : ℕ) (made all : List A) → length xs ≤ at → made ++ of_range id_of range (drop at xs) ≡ all → made ≡ all
  ended xs at made all done so_far = sym (append-nil made) ∙ sym (ap (λ l. made ++ of_range id_of range l) (drop_all at xs done)) ∙ so_far

  up : (xs within : List A) → within ≡ of_range id_of range xs → Ascends id_of xs → Ascends id_of within
  up xs within e h = subst (Ascends id_of) (sym e) (IsStrictlySortedBy-filter (λ a b. position_cmp (id_of a) (id_of b)) inside xs h)

  are_within : (xs within : List A) → within ≡ of_range id_of range xs → AreWithin id_of range within
  are_within xs within e = subst (AreWithin id_of range) (sym e) (all_kept inside xs)

-- ---- of copies

pub found_next : (range : FamilyRange) (xs : List Finding) (at : ℕ) (d copy : Finding) (made new all : List Finding) → at < length xs
    → in_range range (get_or xs at d).id.family ≡ true → copy ≡ get_or xs at d → new ≡ made ++ copy ∷ []
    → made ++ of_range finding_id range (drop at xs) ≡ all → new ++ of_range finding_id range (drop (at + 1) xs) ≡ all
found_next range xs at d copy made new all = next finding_id range xs at d copy made new all

pub found_passed : (range : FamilyRange) (xs : List Finding) (at : ℕ) (d : Finding) (made all : List Finding) → at < length xs
    → in_range range (get_or xs at d).id.family ≡ false → made ++ of_range finding_id range (drop at xs) ≡ all
    → made ++ of_range finding_id range (drop (at + 1) xs) ≡ all
found_passed range xs at d made all = passed finding_id range xs at d made all

pub found_ended : (range : FamilyRange) (xs : List Finding) (at : ℕ) (made all : List Finding) → length xs ≤ at
    → made ++ of_range finding_id range (drop at xs) ≡ all → made ≡ all
found_ended range xs at made all = ended finding_id range xs at made all

pub found_up : (range : FamilyRange) (xs within : List Finding) → within ≡ of_range finding_id range xs → Ascends finding_id xs → Ascends finding_id within
found_up range xs within = up finding_id range xs within

pub found_within : (range : FamilyRange) (xs within : List Finding) → within ≡ of_range finding_id range xs → AreWithin finding_id range within
found_within range xs within = are_within finding_id range xs within

-- ---- of snapshots

pub snaps_next : (range : FamilyRange) (xs : List SnapFinding) (at : ℕ) (d copy : SnapFinding) (made new all : List SnapFinding) → at < length xs
    → in_range range (get_or xs at d).id.family ≡ true → copy ≡ get_or xs at d → new ≡ made ++ copy ∷ []
    → made ++ of_range snap_id range (drop at xs) ≡ all → new ++ of_range snap_id range (drop (at + 1) xs) ≡ all
snaps_next range xs at d copy made new all = next snap_id range xs at d copy made new all

pub snaps_passed : (range : FamilyRange) (xs : List SnapFinding) (at : ℕ) (d : SnapFinding) (made all : List SnapFinding) → at < length xs
    → in_range range (get_or xs at d).id.family ≡ false → made ++ of_range snap_id range (drop at xs) ≡ all
    → made ++ of_range snap_id range (drop (at + 1) xs) ≡ all
snaps_passed range xs at d made all = passed snap_id range xs at d made all

pub snaps_ended : (range : FamilyRange) (xs : List SnapFinding) (at : ℕ) (made all : List SnapFinding) → length xs ≤ at
    → made ++ of_range snap_id range (drop at xs) ≡ all → made ≡ all
snaps_ended range xs at made all = ended snap_id range xs at made all

pub snaps_up : (range : FamilyRange) (xs within : List SnapFinding) → within ≡ of_range snap_id range xs → Ascends snap_id xs → Ascends snap_id within
snaps_up range xs within = up snap_id range xs within

pub snaps_within : (range : FamilyRange) (xs within : List SnapFinding) → within ≡ of_range snap_id range xs → AreWithin snap_id range within
snaps_within range xs within = are_within snap_id range xs within

pub ruleset found_turns = (found_next, found_passed, found_ended)

pub ruleset snaps_turns = (snaps_next, snaps_passed, snaps_ended)

pub ruleset kept = (found_up, found_within, snaps_up, snaps_within)
