-- Families that agree at the head and at the snaps of effects agree there behind the effects, since an effect reads no other copy.
use Rattle.std.proofs.Common.{ℕ, ◌≡◌, ◌<◌, ◌≤◌, ◌==◌, ◌+◌, Bool, true, false, cond, List, [], ◌∷◌, length, drop, get_or, Option, Some, None, refl, sym, ap, subst, ◌∙◌, arith}
use Rattle.std.specs.Prelude.{if◌then◌else◌}
use Rattle.std.specs.List.{AllByRecursion}
use Rattle.std.proofs.lemmas.Bool.Decides.{nat_tests}
use Rattle.std.proofs.lemmas.List.{drop_more, drop_all}
use Rattle.pgs_bytes.proofs.Facts.{none_some}
use Rattle.pgs_name.specs.declared.object_id.TheConstants.{HEAD}
use Rattle.pgs_copy.specs.Copies.{affected, after_effect, after_effects}
use Rattle.pgs_copy.specs.declared.effect.Effect.{Effect}
use Rattle.pgs_copy.specs.declared.obj_copy.ObjCopy.{ObjCopy}
use Rattle.pgs_op.specs.Held.{touched_bytes}

-- two families have the same copies at the snaps of effects
abbrev pub AgreeAt : (ℕ → Option ObjCopy) → (ℕ → Option ObjCopy) → List (ℕ × Effect) → Type 0
AgreeAt a b effects = AllByRecursion (λ e. a e.0 ≡ b e.0) effects

pub agree_everywhere : (a b : ℕ → Option ObjCopy) (effects : List (ℕ × Effect)) → ((q : ℕ) → a q ≡ b q) → AgreeAt a b effects
agree_everywhere a b [] same = tt
agree_everywhere a b (e ∷ es) same = (same e.0, agree_everywhere a b es same)

-- ---- behind effects

alike_behind : (snap : ℕ) (effect : Effect) (a b : ℕ → Option ObjCopy) (q : ℕ) → a HEAD ≡ b HEAD → a q ≡ b q → after_effect snap effect a q ≡ after_effect snap effect b q
alike_behind snap effect a b q head here = by (snap == q)
  where
    by : (t : Bool) → cond t (affected effect (a HEAD) (a q)) (a q) ≡ cond t (affected effect (b HEAD) (b q)) (b q)
    by true = rw (head, here) refl
    by false = here

alike_after : (effects : List (ℕ × Effect)) (a b : ℕ → Option ObjCopy) (q : ℕ) → a HEAD ≡ b HEAD → a q ≡ b q → after_effects effects a q ≡ after_effects effects b q
alike_after [] a b q head here = here
alike_after (e ∷ es) a b q head here =
    alike_after es (after_effect e.0 e.1 a) (after_effect e.0 e.1 b) q (alike_behind e.0 e.1 a b HEAD head head) (alike_behind e.0 e.1 a b q head here)

pub agree_after : (all effects : List (ℕ × Effect)) (a b : ℕ → Option ObjCopy) → a HEAD ≡ b HEAD → AgreeAt a b effects
    → AgreeAt (after_effects all a) (after_effects all b) effects
agree_after all [] a b head agree = tt
agree_after all (e ∷ es) a b head agree = (alike_after all a b e.0 head agree.0, agree_after all es a b head agree.1)

pub touched_alike : (effects : List (ℕ × Effect)) (a b : ℕ → Option ObjCopy) → AgreeAt a b effects → touched_bytes effects a ≡ touched_bytes effects b
touched_alike [] a b agree = refl
touched_alike (e ∷ es) a b agree = rw (agree.0, touched_alike es a b agree.1) refl

-- ---- cloning the copies in turn

-- what agrees where the clones do, and at the effects that are left, agrees at all effects
abbrev pub AreLeft : (ℕ → Option ObjCopy) → (ℕ → Option ObjCopy) → List (ℕ × Effect) → List (ℕ × Effect) → Type 0
AreLeft copies clones left effects =
    (other : ℕ → Option ObjCopy) → ((q : ℕ) → clones q ≡ copies q → other q ≡ copies q) → AgreeAt other copies left → AgreeAt other copies effects

-- the clones are copies, that of the head among them, and the effects that are left
pub record AreCloned (copies clones : ℕ → Option ObjCopy) (left effects : List (ℕ × Effect)) : Type 0 where
  pub head : clones HEAD ≡ copies HEAD
  pub part : (q : ℕ) (copy : ObjCopy) → clones q ≡ Some copy → copies q ≡ Some copy
  pub rest : AreLeft copies clones left effects

-- one more snap is that of the copies
abbrev pub IsAdded : (copies clones next : ℕ → Option ObjCopy) → ℕ → Type 0
IsAdded copies clones next snap = (q : ℕ) → next q ≡ (if snap == q then copies q else clones q)

added_part : (copies clones next : ℕ → Option ObjCopy) (snap : ℕ) → IsAdded copies clones next snap
    → ((q : ℕ) (copy : ObjCopy) → clones q ≡ Some copy → copies q ≡ Some copy) → (q : ℕ) (copy : ObjCopy) → next q ≡ Some copy → copies q ≡ Some copy
added_part copies clones next snap added part q copy is = by (snap == q) (sym (added q) ∙ is)
  where
    by : (t : Bool) → cond t (copies q) (clones q) ≡ Some copy → copies q ≡ Some copy
    by true e = e
    by false e = part q copy e

added_keeps : (copies clones next : ℕ → Option ObjCopy) (snap : ℕ) → IsAdded copies clones next snap → (q : ℕ) → clones q ≡ copies q → next q ≡ copies q
added_keeps copies clones next snap added q same = added q ∙ by (snap == q)
  where
    by : (t : Bool) → cond t (copies q) (clones q) ≡ copies q
    by true = refl
    by false = same

itself : (n : ℕ) → (n == n) ≡ true
itself n = grind (arith, nat_tests)

added_here : (copies clones next : ℕ → Option ObjCopy) (snap : ℕ) → IsAdded copies clones next snap → next snap ≡ copies snap
added_here copies clones next snap added = added snap ∙ ap (λ t. cond t (copies snap) (clones snap)) (itself snap)

-- the head is cloned first
pub cloning_begins : (copies next : ℕ → Option ObjCopy) (effects : List (ℕ × Effect)) → IsAdded copies (λ q. None) next HEAD → AreCloned copies next effects effects
cloning_begins copies next effects added = record {
  head = added_here copies (λ q. None) next HEAD added;
  part = added_part copies (λ q. None) next HEAD added (λ q copy e. absurd (none_some copy e));
  rest = λ other keeps agree. agree;
}

pub cloning_goes_on : (copies clones next : ℕ → Option ObjCopy) (effects : List (ℕ × Effect)) (i : ℕ) (e : ℕ × Effect) → AreCloned copies clones (drop i effects) effects
    → i < length effects → e ≡ get_or effects i e → IsAdded copies clones next e.0 → AreCloned copies next (drop (i + 1) effects) effects
cloning_goes_on copies clones next effects i e cloned below is added = record {
  head = added_keeps copies clones next e.0 added HEAD cloned.head;
  part = added_part copies clones next e.0 added cloned.part;
  rest = λ other keeps agree. cloned.rest other (λ q same. keeps q (added_keeps copies clones next e.0 added q same))
      (subst (AgreeAt other copies) (sym (drop_more effects i e below ∙ ap (λ x. x ∷ drop (i + 1) effects) (sym is))) (keeps e.0 (added_here copies clones next e.0 added), agree));
}

pub cloning_ends : (copies clones : ℕ → Option ObjCopy) (effects : List (ℕ × Effect)) (i : ℕ) → AreCloned copies clones (drop i effects) effects → length effects ≤ i
    → AgreeAt clones copies effects
cloning_ends copies clones effects i cloned end = cloned.rest clones (λ q same. same) (subst (AgreeAt clones copies) (sym (drop_all i effects end)) tt)
