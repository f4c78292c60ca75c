-- The findings of a family are those by its own views, whatever stands behind it.
use Rattle.std.proofs.Common.{◌≡◌, ◌<◌, ◌+◌, inl, inr, true, false, List, [], ◌∷◌, ◌++◌, length, Option, sym, ap, ◌∙◌, subst, arith, append_assoc}
use Rattle.std.specs.List.{AllByRecursion, filter_map}
use Rattle.std.proofs.lemmas.List.{append-nil, length-append}
use Rattle.std.proofs.lemmas.List.Elements.{filter-append, filter_map-append}
use Rattle.pgs_bytes.proofs.Facts.{true_false, true_or_false}
use Rattle.pgs_name.specs.Families.{Family, same_family}
use Rattle.pgs_name.proofs.Families.{same_family_is, family_is_same}
use Rattle.pgs_find.specs.declared.snap_finding.SnapFinding.{SnapFinding}
use Rattle.pgs_snapcheck.specs.Check.{AreAscending, of_family, snap_finding, snap_findings}
use Rattle.pgs_snapcheck.specs.Runs.{is_beside, IsFirstRun}
use Rattle.pgs_snapcheck.specs.declared.view.View.{View}
use Rattle.pgs_snapcheck.proofs.Lists.{all_weaker, filter_all, filter_none, same_map}
use Rattle.pgs_snapcheck.proofs.Cuts.{ascends_behind}

abbrev finding_in : List View → View → Option SnapFinding
finding_in views view = snap_finding (of_family view.id.family views) view

-- of the first family's views there are just those in front
own : (first : View) (family behind : List View) → AllByRecursion (λ v. is_beside first v ≡ true) family → AllByRecursion (λ v. is_beside first v ≡ false) behind
    → (v : View) → is_beside first v ≡ true → of_family v.id.family (family ++ behind) ≡ family
own first family behind h k v e =
    ap (λ f. of_family f (family ++ behind)) (sym (same_family_is first.id.family v.id.family e))
    ∙ filter-append (is_beside first) family behind
    ∙ (λ i. filter_all (is_beside first) family h i ++ filter_none (is_beside first) behind k i)
    ∙ append-nil family

apart : (f g h : Family) → same_family f g ≡ true → same_family f h ≡ false → same_family h g ≡ false
apart f g h e d = elim (true_or_false (same_family h g)) [
  | inl same ↦
      let one : f ≡ h = same_family_is f g e ∙ sym (same_family_is h g same) in
      absurd (true_false (sym (family_is_same f) ∙ ap (same_family f) one ∙ d))
  | inr other ↦ other
]

-- of another family's there are just those behind
other : (first : View) (family behind : List View) → AllByRecursion (λ v. is_beside first v ≡ true) family
    → (v : View) → is_beside first v ≡ false → of_family v.id.family (family ++ behind) ≡ of_family v.id.family behind
other first family behind h v d =
    filter-append (is_beside v) family behind
    ∙ ap (λ l. l ++ of_family v.id.family behind)
    (filter_none (is_beside v) family (all_weaker (λ w. is_beside first w ≡ true) (λ w. is_beside v w ≡ false) (λ w e. apart first.id.family w.id.family v.id.family e d) family h))

-- what is found of all views is what is found of the first family's, and then what is found of the others
pub found_in_parts : (views family behind : List View) → IsFirstRun views family behind
    → snap_findings views ≡ filter_map (snap_finding family) family ++ snap_findings behind
found_in_parts views family behind run =
    ap snap_findings run.whole
    ∙ filter_map-append (finding_in (family ++ behind)) family behind
    ∙ (λ i. same_map (finding_in (family ++ behind)) (snap_finding family) family
    (all_weaker (λ v. is_beside run.first v ≡ true) (λ v. finding_in (family ++ behind) v ≡ snap_finding family v)
    (λ v e. ap (λ l. snap_finding l v) (own run.first family behind run.beside run.others v e)) family run.beside) i
    ++ same_map (finding_in (family ++ behind)) (finding_in behind) behind
    (all_weaker (λ v. is_beside run.first v ≡ false) (λ v. finding_in (family ++ behind) v ≡ finding_in behind v)
    (λ v d. ap (λ l. snap_finding l v) (other run.first family behind run.beside v d)) behind run.others) i)

-- ---- the turns of the check

pub up_behind : (views family behind : List View) → IsFirstRun views family behind → AreAscending views → AreAscending behind
up_behind views family behind run up = ascends_behind family behind (subst AreAscending run.whole up)

pub goes_on : (views family behind : List View) (found new all : List SnapFinding) → IsFirstRun views family behind → found ++ snap_findings views ≡ all
    → new ≡ found ++ filter_map (snap_finding family) family → new ++ snap_findings behind ≡ all
goes_on views family behind found new all run e n =
    ap (λ l. l ++ snap_findings behind) n
    ∙ append_assoc found (filter_map (snap_finding family) family) (snap_findings behind)
    ∙ ap (λ l. found ++ l) (sym (found_in_parts views family behind run))
    ∙ e

pub fewer : (views family behind : List View) → IsFirstRun views family behind → length behind < length views
fewer views family behind run =
    let whole : length views ≡ length family + length behind = ap length run.whole ∙ length-append family behind in
    let some : length family ≡ length (run.first ∷ run.more) = ap length run.begins in
    omega arith

pub ends : (views : List View) (found all : List SnapFinding) → found ++ snap_findings views ≡ all → views ≡ [] → found ≡ all
ends views found all e n = sym (append-nil found) ∙ ap (λ l. found ++ snap_findings l) (sym n) ∙ e

pub ruleset turns = (up_behind, goes_on, fewer, ends)
