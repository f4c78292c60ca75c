-- Edits of different parts on one snap: the bytes behind all of them, and the copy that they leave there.
use Rattle.std.proofs.Common.{ℕ, ◌≡◌, ◌==◌, ◌+◌, ◌^◌, Bool, true, false, not, ◌&&◌, List, [], ◌∷◌, Option, Some, refl, sym, ap, ◌∙◌, arith, subst}
use Rattle.std.specs.Prelude.{nat_lt}
use Rattle.std.specs.Bool.{then_some}
use Rattle.std.specs.List.{AllByRecursion}
use Rattle.std.proofs.lemmas.Bool.Decides.{nat_tests}
use Rattle.std.proofs.lemmas.List.Sums.{sum_by-cons}
use Rattle.pgs_bytes.proofs.Facts.{both, true_false, some_none}
use Rattle.pgs_name.specs.declared.object_id.TheConstants.{HEAD}
use Rattle.pgs_copy.specs.declared.obj_copy.ObjCopy.{ObjCopy}
use Rattle.pgs_copy.specs.declared.effect.Effect.{Effect}
use Rattle.pgs_copy.specs.declared.effect.Effect.TheVariants.{Clear, Clone, Remove, Install}
use Rattle.pgs_copy.specs.Copies.{copy_bytes, edited, affected, after_effect, after_effects}
use Rattle.pgs_copy.specs.InPlace.{is_edit}
use Rattle.pgs_copy.specs.Pairs.{IsInOrder}
use Rattle.pgs_copy.specs.Sizes.{fitting}
use Rattle.pgs_copy.proofs.Laws.{after_effect-here}
use Rattle.pgs_growth.specs.Parts.{is_of_one_part, is_beside, are_apart, snap_of, all_edited}
use Rattle.pgs_growth.specs.Amounts.{taken_by, added_by, taken, added, AreReady}
use Rattle.pgs_growth.specs.Growths.{IsGrown}
use Rattle.pgs_growth.proofs.PartLaws.{beside, ready, one_edit_ready}

not_false : (b : Bool) → not b ≡ true → b ≡ false
not_false true h = absurd (true_false (sym h))
not_false false h = refl

same_number : (a b : ℕ) → (a == b) ≡ true → b ≡ a
same_number a b h = grind (arith, nat_tests)

-- what it means that effects are apart, for the first and for all others
apart_first : (e : ℕ × Effect) (es : List (ℕ × Effect)) → are_apart (e ∷ es) ≡ true → (is_edit e.1 ≡ true) × (is_beside e es ≡ true) × (are_apart es ≡ true)
apart_first e es h =
    let rest = both (is_edit e.1 && is_beside e es) (are_apart es) h in
    let first = both (is_edit e.1) (is_beside e es) rest.0 in
    (first.0, first.1, rest.1)

-- ---- what an edit leaves to all that stand beside it

all_beside : (e : ℕ × Effect) (es : List (ℕ × Effect)) (c : ObjCopy) → is_beside e es ≡ true
    → (taken es (edited e.1 c) ≡ taken es c) × (added es (edited e.1 c) ≡ added es c) × (AreReady es c → AreReady es (edited e.1 c))
all_beside e [] c h = (refl, refl, λ r. r)
all_beside e (f ∷ fs) c h =
    let here = both (e.0 == f.0 && not (is_of_one_part e.1 f.1)) (is_beside e fs) h in
    let other = not_false (is_of_one_part e.1 f.1) (both (e.0 == f.0) (not (is_of_one_part e.1 f.1)) here.0).1 in
    let one = beside e.1 f.1 c other in
    let all = all_beside e fs c here.1 in
    let before = λ (d : ObjCopy). sum_by-cons (λ (x : ℕ × Effect). taken_by x.1 d) f fs in
    let behind = λ (d : ObjCopy). sum_by-cons (λ (x : ℕ × Effect). added_by x.1 d) f fs in (
      omega (arith, before c, before (edited e.1 c), one.0, all.0),
      omega (arith, behind c, behind (edited e.1 c), one.1, all.1),
      λ r. (one.2 r.0, all.2 r.1),
    )

pub all_ready : (es : List (ℕ × Effect)) (c : ObjCopy) → IsInOrder c.attrs → IsInOrder c.omap → AreReady es c
all_ready [] c attrs omap = tt
all_ready (e ∷ es) c attrs omap = (ready e.1 c attrs omap, all_ready es c attrs omap)

-- ---- the bytes behind all

pub all_edits_ready : (es : List (ℕ × Effect)) (c : ObjCopy) → are_apart es ≡ true → AreReady es c
    → copy_bytes (all_edited es c) + taken es c ≡ copy_bytes c + added es c
all_edits_ready [] c h r = refl
all_edits_ready (e ∷ es) c h r =
    let first = apart_first e es h in
    let all = all_beside e es c first.1 in
    let later = all_edits_ready es (edited e.1 c) first.2 (all.2 r.1) in
    let one = one_edit_ready e.1 c r.0 in
    omega (
      arith,
      later,
      one,
      all.0,
      all.1,
      sum_by-cons (λ (x : ℕ × Effect). taken_by x.1 c) e es,
      sum_by-cons (λ (x : ℕ × Effect). added_by x.1 c) e es,
    )

pub all_edits : (es : List (ℕ × Effect)) (c : ObjCopy) → are_apart es ≡ true → IsInOrder c.attrs → IsInOrder c.omap
    → copy_bytes (all_edited es c) + taken es c ≡ copy_bytes c + added es c
all_edits es c h attrs omap = all_edits_ready es c h (all_ready es c attrs omap)

-- ---- the copies of a family behind all

-- all are edits on this snap
abbrev pub AreEditsOn : ℕ → List (ℕ × Effect) → Type 0
AreEditsOn snap es = AllByRecursion (λ e. (e.0 ≡ snap) × (is_edit e.1 ≡ true)) es

edit_affects : (e : Effect) (head : Option ObjCopy) (c : ObjCopy) → is_edit e ≡ true → affected e head (Some c) ≡ Some (edited e c)
edit_affects Clear head c h = absurd (true_false (sym h))
edit_affects (Clone info) head c h = absurd (true_false (sym h))
edit_affects Remove head c h = absurd (true_false (sym h))
edit_affects (Install copy) head c h = absurd (true_false (sym h))
edit_affects _ head c h = refl

pub after_edits : (es : List (ℕ × Effect)) (copies : ℕ → Option ObjCopy) (snap : ℕ) (c : ObjCopy) → AreEditsOn snap es → copies snap ≡ Some c
    → after_effects es copies snap ≡ Some (all_edited es c)
after_edits [] copies snap c edits there = there
after_edits (e ∷ es) copies snap c edits there =
    let here = subst (λ s. after_effect e.0 e.1 copies s ≡ affected e.1 (copies HEAD) (copies s)) edits.0.0 (after_effect-here e.0 e.1 copies) in
    after_edits es (after_effect e.0 e.1 copies) snap (edited e.1 c) edits.1
    (here ∙ ap (affected e.1 (copies HEAD)) there ∙ edit_affects e.1 (copies HEAD) c edits.0.1)

others_on : (e : ℕ × Effect) (es : List (ℕ × Effect)) → is_beside e es ≡ true → are_apart es ≡ true → AreEditsOn e.0 es
others_on e [] h k = tt
others_on e (f ∷ fs) h k =
    let here = both (e.0 == f.0 && not (is_of_one_part e.1 f.1)) (is_beside e fs) h in
    let snap = both (e.0 == f.0) (not (is_of_one_part e.1 f.1)) here.0 in
    let first = apart_first f fs k in
    ((same_number e.0 f.0 snap.0, first.0), others_on e fs here.1 first.2)

-- effects that are apart are edits on the snap of the first
pub edits_on : (es : List (ℕ × Effect)) → are_apart es ≡ true → AreEditsOn (snap_of es) es
edits_on [] h = tt
edits_on (e ∷ es) h = let first = apart_first e es h in ((refl, first.0), others_on e es first.1 first.2)

snaps_on : (snap : ℕ) (es : List (ℕ × Effect)) → AreEditsOn snap es → AllByRecursion (λ e. e.0 ≡ snap) es
snaps_on snap [] h = tt
snaps_on snap (e ∷ es) h = (h.0.0, snaps_on snap es h.1)

-- ---- both sums

fitted : (n t : ℕ) → Some t ≡ fitting n → t ≡ n
fitted n t is = by (nat_lt n (2 ^ 64)) is
  where
    by : (b : Bool) → Some t ≡ then_some b n → t ≡ n
    by true e = cc
    by false e = absurd (some_none t e)

pub grown : (es : List (ℕ × Effect)) (c : ObjCopy) (t a : ℕ) → are_apart es ≡ true → AreReady es c → Some t ≡ fitting (taken es c) → Some a ≡ fitting (added es c)
    → IsGrown es c (record { taken = t; added = a })
grown es c t a h r takes adds =
    let on = edits_on es h in
    record {
      size = omega (arith, all_edits_ready es c h r, fitted (taken es c) t takes, fitted (added es c) a adds);
      on_one = snaps_on (snap_of es) es on;
      after = λ copies there. after_edits es copies (snap_of es) c on there;
    }
