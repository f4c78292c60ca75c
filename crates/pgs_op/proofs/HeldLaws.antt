-- What a store would hold, told by clones of the copies that effects are on and of the head.
use Rattle.std.proofs.Common.{ℕ, ◌≡◌, ◌+◌, ◌-◌, List, Option, refl, ap, ◌∙◌}
use Rattle.pgs_name.specs.declared.object_id.TheConstants.{HEAD}
use Rattle.pgs_copy.specs.Copies.{after_effects}
use Rattle.pgs_copy.specs.declared.effect.Effect.{Effect}
use Rattle.pgs_copy.specs.declared.obj_copy.ObjCopy.{ObjCopy}
use Rattle.pgs_copy.proofs.Laws.{same_copies}
use Rattle.pgs_op.specs.Held.{touched_bytes, held_after}
use Rattle.pgs_op.proofs.Touching.{AgreeAt, agree_after, touched_alike}

pub held_is : (held before after : ℕ) (effects : List (ℕ × Effect)) (copies mine next : ℕ → Option ObjCopy) → mine HEAD ≡ copies HEAD → AgreeAt mine copies effects
    → ((q : ℕ) → next q ≡ after_effects effects mine q) → before ≡ touched_bytes effects mine → after ≡ touched_bytes effects next
    → held + after - before ≡ held_after held effects copies
unfolding held_after
held_is held before after effects copies mine next head agree applied b a =
    let n : next ≡ after_effects effects mine = same_copies next (after_effects effects mine) applied in
    let p : before ≡ touched_bytes effects copies = b ∙ touched_alike effects mine copies agree in
    let q : after ≡ touched_bytes effects (after_effects effects copies) =
    a ∙ ap (touched_bytes effects) n ∙ touched_alike effects (after_effects effects mine) (after_effects effects copies) (agree_after effects effects mine copies head agree) in
    rw (p, q) refl
