-- What a store would hold after edits of one copy, told by what they take and add.
use Rattle.std.proofs.Common.{ℕ, ◌≡◌, ◌==◌, ◌+◌, ◌-◌, ◌||◌, Bool, true, cond, List, [], ◌∷◌, Option, Some, ap, ◌∙◌, zero-add, arith}
use Rattle.std.specs.List.{list_any, AllByRecursion}
use Rattle.std.proofs.lemmas.Bool.Decides.{nat_tests}
use Rattle.pgs_copy.specs.Copies.{copy_bytes, after_effects}
use Rattle.pgs_copy.specs.declared.effect.Effect.{Effect}
use Rattle.pgs_copy.specs.declared.obj_copy.ObjCopy.{ObjCopy}
use Rattle.pgs_growth.specs.Growths.{IsGrown}
use Rattle.pgs_growth.specs.Parts.{all_edited}
use Rattle.pgs_growth.specs.declared.growths.Growth.{Growth}
use Rattle.pgs_store.specs.Stores.{copy_size}
use Rattle.pgs_op.specs.Held.{touched_bytes, held_after}

same_snap : (a b snap : ℕ) → a ≡ snap → b ≡ snap → (b == a) ≡ true
same_snap a b snap p q = grind (arith, nat_tests)

-- a copy that the next effect is on too is counted there
counted_later : (t u : Bool) (n m : ℕ) → t ≡ true → cond (t || u) 0 n + m ≡ m
counted_later t u n m is = rw is (zero-add m)

-- of effects on one snap the copy there is counted once
pub touched_once : (e : ℕ × Effect) (es : List (ℕ × Effect)) (copies : ℕ → Option ObjCopy) (snap : ℕ) → AllByRecursion (λ x. x.0 ≡ snap) (e ∷ es)
    → touched_bytes (e ∷ es) copies ≡ copy_size (copies snap)
touched_once e [] copies snap on = omega (arith, ap (λ q. copy_size (copies q)) on.0)
touched_once e (f ∷ fs) copies snap on =
    counted_later (f.0 == e.0) (list_any (λ other. other.0 == e.0) fs) (copy_size (copies e.0)) (touched_bytes (f ∷ fs) copies) (same_snap e.0 f.0 snap on.0 on.1.0)
    ∙ touched_once f fs copies snap on.1

by_amounts : (held before after taken added : ℕ) → after + taken ≡ before + added → held + added - taken ≡ held + after - before
by_amounts held before after taken added same = omega (arith, same)

-- what is held grows by what edits add, and shrinks by what they take
pub held_grown : (held : ℕ) (e : ℕ × Effect) (es : List (ℕ × Effect)) (copies : ℕ → Option ObjCopy) (copy : ObjCopy) (growth : Growth)
    → copies e.0 ≡ Some copy → IsGrown (e ∷ es) copy growth → held + growth.added - growth.taken ≡ held_after held (e ∷ es) copies
unfolding held_after
held_grown held e es copies copy growth there grown =
    let before : touched_bytes (e ∷ es) copies ≡ copy_bytes copy = touched_once e es copies e.0 grown.on_one ∙ ap copy_size there in
    let next = after_effects (e ∷ es) copies in
    let after : touched_bytes (e ∷ es) next ≡ copy_bytes (all_edited (e ∷ es) copy) =
    touched_once e es next e.0 grown.on_one ∙ ap copy_size (grown.after copies there) in
    rw (before, after) (by_amounts held (copy_bytes copy) (copy_bytes (all_edited (e ∷ es) copy)) growth.taken growth.added grown.size)
