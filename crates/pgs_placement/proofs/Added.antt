-- What a step of a group adds to the lines of what was done acknowledges no write of another group.
use Rattle.std.proofs.Common.{◌≡◌, ℕ, List, [], ◌∷◌, ◌++◌, refl, sym, ap, ◌∙◌, append_assoc}
use Rattle.std.specs.List.{AllByRecursion}
use Rattle.pgs_done.specs.declared.done.Done.{Done}
use Rattle.pgs_done.specs.declared.done.Done.TheVariants as dones

-- a line that tells of writes of no other group than the one of this number
abbrev pub IsOf : ℕ → Done → Type 0
IsOf number (dones.Collect group client serial answer) = group ≡ number
IsOf number done = Unit {0}

-- lines were added in front of the others, all of the group
pub record Adds (number : ℕ) (old new : List Done) : Type 0 where
  pub front : List Done
  pub is : new ≡ front ++ old
  pub own : AllByRecursion (IsOf number) front

pub adds_none : (number : ℕ) (lines : List Done) → Adds number lines lines
adds_none number lines = record { front = []; is = refl; own = tt }

pub adds_one : (number : ℕ) (line : Done) (lines : List Done) → IsOf number line → Adds number lines (line ∷ lines)
adds_one number line lines own = record { front = line ∷ []; is = refl; own = (own, tt) }

all_of : (number : ℕ) (front more : List Done) → AllByRecursion (IsOf number) front → AllByRecursion (IsOf number) more → AllByRecursion (IsOf number) (front ++ more)
all_of number [] more own all = all
all_of number (line ∷ front) more own all = (own.0, all_of number front more own.1 all)

pub adds_both : (number : ℕ) (a b c : List Done) → Adds number a b → Adds number b c → Adds number a c
adds_both number a b c g h = record {
  front = h.front ++ g.front;
  is = h.is ∙ ap (λ lines. h.front ++ lines) g.is ∙ sym (append_assoc h.front g.front a);
  own = all_of number h.front g.front h.own g.own;
}
