-- What edits take and add, and what it says of the copy behind them.
use Rattle.std.specs.Prelude.{ℕ, ◌≡◌, ◌+◌, ◌^◌, ◌&&◌, nat_lt, List, Option, Some}
use Rattle.std.specs.Bool.{then_some}
use Rattle.std.specs.List.{AllByRecursion}
use Rattle.pgs_copy.specs.declared.obj_copy.ObjCopy.{ObjCopy}
use Rattle.pgs_copy.specs.declared.effect.Effect.{Effect}
use Rattle.pgs_copy.specs.Copies.{copy_bytes, after_effects}
use Rattle.pgs_growth.specs.declared.growths.Growth.{Growth}
use Rattle.pgs_growth.specs.Parts.{are_apart, all_edited, snap_of}
use Rattle.pgs_growth.specs.Amounts.{taken, added}

-- what effects take and add, where they are edits of different parts on one snap, and both sums fit in 64 bits
abbrev pub growth_of : List (ℕ × Effect) → ObjCopy → Option Growth
growth_of effects copy =
    then_some (are_apart effects && nat_lt (taken effects copy) (2 ^ 64) && nat_lt (added effects copy) (2 ^ 64))
    (record { taken = taken effects copy; added = added effects copy })

-- the copy's bytes, with what was taken, are those before the edits with what was added
pub record IsGrown (effects : List (ℕ × Effect)) (copy : ObjCopy) (growth : Growth) : Type 0 where
  pub size : copy_bytes (all_edited effects copy) + growth.taken ≡ copy_bytes copy + growth.added
  pub on_one : AllByRecursion (λ e. e.0 ≡ snap_of effects) effects
  pub after : (copies : ℕ → Option ObjCopy) → copies (snap_of effects) ≡ Some copy
      → after_effects effects copies (snap_of effects) ≡ Some (all_edited effects copy)
