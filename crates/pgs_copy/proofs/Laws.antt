-- What effects and damage in turn come to, and what they leave alone.
use Rattle.std.proofs.Common.{◌≡◌, ◌≢◌, ℕ, ◌+◌, ◌<◌, List, [], ◌∷◌, ◌++◌, Option, length, drop, get_or, refl, ap, ◌∙◌, arith}
use Rattle.std.specs.List.{AllByRecursion}
use Rattle.std.proofs.lemmas.List.{drop_more}
use Rattle.std.proofs.lemmas.Grind.{common_steps}
use Rattle.pgs_copy.specs.declared.obj_copy.ObjCopy.{ObjCopy}
use Rattle.pgs_copy.specs.declared.effect.Effect.{Effect}
use Rattle.pgs_copy.specs.declared.damage.Damage.{Damage}
use Rattle.pgs_name.specs.declared.object_id.TheConstants.{HEAD}
use Rattle.pgs_copy.specs.Copies.{affected, after_effect, after_effects, damaged, after_damage, after_damages, flipped}

-- families with the same copies are one
pub same_copies : (f g : ℕ → Option ObjCopy) → ((q : ℕ) → f q ≡ g q) → f ≡ g
same_copies f g h = λ i q. h q i

pub after_effect-here : (snap : ℕ) (effect : Effect) (copies : ℕ → Option ObjCopy) → after_effect snap effect copies snap ≡ affected effect (copies HEAD) (copies snap)
after_effect-here snap effect copies = grind (arith, common_steps)

pub after_effect-other : (snap : ℕ) (effect : Effect) (copies : ℕ → Option ObjCopy) (q : ℕ) → snap ≢ q → after_effect snap effect copies q ≡ copies q
after_effect-other snap effect copies q apart = grind (arith, common_steps)

pub after_effects-append : (xs ys : List (ℕ × Effect)) (copies : ℕ → Option ObjCopy) → after_effects (xs ++ ys) copies ≡ after_effects ys (after_effects xs copies)
after_effects-append [] ys copies = refl
after_effects-append (x ∷ xs) ys copies = after_effects-append xs ys (after_effect x.0 x.1 copies)

pub after_effects-push : (xs : List (ℕ × Effect)) (x : ℕ × Effect) (copies : ℕ → Option ObjCopy) → after_effects (xs ++ x ∷ []) copies ≡ after_effect x.0 x.1 (after_effects xs copies)
after_effects-push xs x copies = after_effects-append xs (x ∷ []) copies

-- one more effect, the first of those that are left
pub after_effects-next : (es : List (ℕ × Effect)) (i : ℕ) (e : ℕ × Effect) (f g : ℕ → Option ObjCopy) → i < length es → e ≡ get_or es i e → ((q : ℕ) → g q ≡ after_effect e.0 e.1 f q) → after_effects (drop (i + 1) es) g ≡ after_effects (drop i es) f
after_effects-next es i e f g below is next =
    rw (drop_more es i e, ← is) (ap (after_effects (drop (i + 1) es)) (same_copies g (after_effect e.0 e.1 f) next))

-- a snap that no effect is on keeps its copy
pub after_effects-other : (es : List (ℕ × Effect)) (copies : ℕ → Option ObjCopy) (q : ℕ) → AllByRecursion (λ (e : ℕ × Effect). e.0 ≢ q) es → after_effects es copies q ≡ copies q
after_effects-other [] copies q apart = refl
after_effects-other (e ∷ es) copies q apart =
    after_effects-other es (after_effect e.0 e.1 copies) q apart.1 ∙ after_effect-other e.0 e.1 copies q apart.0

pub after_damage-here : (snap : ℕ) (damage : Damage) (copies : ℕ → Option ObjCopy) → after_damage snap damage copies snap ≡ damaged damage (copies snap)
after_damage-here snap damage copies = grind (arith, common_steps)

pub after_damage-other : (snap : ℕ) (damage : Damage) (copies : ℕ → Option ObjCopy) (q : ℕ) → snap ≢ q → after_damage snap damage copies q ≡ copies q
after_damage-other snap damage copies q apart = grind (arith, common_steps)

pub after_damages-append : (xs ys : List (ℕ × Damage)) (copies : ℕ → Option ObjCopy) → after_damages (xs ++ ys) copies ≡ after_damages ys (after_damages xs copies)
after_damages-append [] ys copies = refl
after_damages-append (x ∷ xs) ys copies = after_damages-append xs ys (after_damage x.0 x.1 copies)

pub after_damages-push : (xs : List (ℕ × Damage)) (x : ℕ × Damage) (copies : ℕ → Option ObjCopy) → after_damages (xs ++ x ∷ []) copies ≡ after_damage x.0 x.1 (after_damages xs copies)
after_damages-push xs x copies = after_damages-append xs (x ∷ []) copies

-- a snap that no damage is at keeps its copy
pub after_damages-other : (ds : List (ℕ × Damage)) (copies : ℕ → Option ObjCopy) (q : ℕ) → AllByRecursion (λ (d : ℕ × Damage). d.0 ≢ q) ds → after_damages ds copies q ≡ copies q
after_damages-other [] copies q apart = refl
after_damages-other (d ∷ ds) copies q apart =
    after_damages-other ds (after_damage d.0 d.1 copies) q apart.1 ∙ after_damage-other d.0 d.1 copies q apart.0

-- a flip keeps the length
pub length-flipped : (at xor : ℕ) (bytes : List ℕ) → length (flipped at xor bytes) ≡ length bytes
length-flipped at xor bytes = grind (arith, common_steps)
