-- The group of a number in a list of groups.
use Rattle.std.proofs.Common.{◌≡◌, ℕ, zero, suc, ◌+◌, ◌<◌, ◌==◌, nat_lt, Bool, true, false, cond, not, List, [], ◌∷◌, ◌++◌, length, map, Some, None, get_or, set, refl, sym, ap, ◌∙◌, subst, arith}
use Rattle.std.specs.Prelude.{position}
use Rattle.std.specs.List.{position_or_len, AllByRecursion}
use Rattle.std.proofs.lemmas.Bool.Decides.{nat_tests}
use Rattle.pgs_bytes.proofs.Facts.{none_some, some_none, some_same}
use Rattle.pgs_placement.specs.State.{PlacementState}
use Rattle.pgs_world.specs.State.{GroupState, own, mades}
use Rattle.pgs_world.specs.Pool.{group_in, with_group, made_in, AreApart}

-- ---- where it is

abbrev pub is_of : ℕ → PlacementState → Bool
is_of number group = group.made.number == number

found : (n size at : ℕ) → cond (nat_lt n size) (Some n) None ≡ Some at → (n ≡ at) × (at < size)
found n size at e =
    let P : Bool → Type 0 = λ v. nat_lt n size ≡ v → cond v (Some n) None ≡ Some at → (n ≡ at) × (at < size) in
    (elim (nat_lt n size) as P [
      | true ↦ λ less some. let same : n ≡ at = some_same n at some in (same, subst (λ m. m < size) same (grind (arith, nat_tests, less)))
      | false ↦ λ over none. absurd (none_some at none)
    ]) refl e

not_found : (n size : ℕ) → cond (nat_lt n size) (Some n) None ≡ None → nat_lt n size ≡ false
not_found n size e =
    let P : Bool → Type 0 = λ v. cond v (Some n) None ≡ None → v ≡ false in
    (elim (nat_lt n size) as P [
      | true ↦ λ some. absurd (some_none n some)
      | false ↦ λ none. refl
    ]) e

one_on : (v : Bool) (n at : ℕ) → cond v (1 + n) 0 ≡ suc at → (v ≡ true) × (n ≡ at)
one_on true n at e = (refl, omega (arith, e))
one_on false n at e = absurd (omega (arith, e))

not_true : (v : Bool) → not v ≡ true → v ≡ false
not_true true e = cc
not_true false e = refl

none_on : (v : Bool) (n : ℕ) → cond v (1 + n) 0 ≡ 0 → v ≡ false
none_on true n e = absurd (omega (arith, e))
none_on false n e = refl

not_false : (v : Bool) → not v ≡ false → v ≡ true
not_false true e = refl
not_false false e = cc

-- the first group is the one, or it isn't and the place is among the others
here_so : (number : ℕ) (group : PlacementState) (groups : List PlacementState) → position_or_len (is_of number) (group ∷ groups) ≡ 0 → (group.made.number == number) ≡ true
here_so number group groups p = not_false (group.made.number == number) (none_on (not (group.made.number == number)) (position_or_len (is_of number) groups) p)

later_so : (number : ℕ) (group : PlacementState) (groups : List PlacementState) (at : ℕ) → position_or_len (is_of number) (group ∷ groups) ≡ suc at
    → ((group.made.number == number) ≡ false) × (position_or_len (is_of number) groups ≡ at)
later_so number group groups at p =
    let more = one_on (not (group.made.number == number)) (position_or_len (is_of number) groups) at p in
    (not_true (group.made.number == number) more.0, more.1)

found_at : (number : ℕ) (groups : List PlacementState) (at : ℕ) (d : PlacementState) → position_or_len (is_of number) groups ≡ at → at < length groups
    → group_in (map own groups) number ≡ Some (own (get_or groups at d))
found_at number [] at d p h = absurd (omega (arith, h))
found_at number (group ∷ groups) zero d p h = ap (λ v. cond v (Some (own group)) (group_in (map own groups) number)) (here_so number group groups p)
found_at number (group ∷ groups) (suc at) d p h =
    let more = later_so number group groups at p in
    ap (λ v. cond v (Some (own group)) (group_in (map own groups) number)) more.0
    ∙ found_at number groups at d more.1 (let size : suc at < suc (length groups) = h in omega (arith, size))

set_at : (number : ℕ) (groups : List PlacementState) (at : ℕ) (new : PlacementState) → position_or_len (is_of number) groups ≡ at → at < length groups
    → map own (set groups at new) ≡ with_group number (own new) (map own groups)
set_at number [] at new p h = absurd (omega (arith, h))
set_at number (group ∷ groups) zero new p h =
    sym (ap (λ v. cond v (own new ∷ map own groups) (own group ∷ with_group number (own new) (map own groups))) (here_so number group groups p))
set_at number (group ∷ groups) (suc at) new p h =
    let more = later_so number group groups at p in
    ap (λ rest. own group ∷ rest) (set_at number groups at new more.1 (let size : suc at < suc (length groups) = h in omega (arith, size)))
    ∙ sym (ap (λ v. cond v (own new ∷ map own groups) (own group ∷ with_group number (own new) (map own groups))) more.0)

-- ---- where none is

impossible : (n : ℕ) → nat_lt 0 (suc n) ≡ false → ⊥
impossible n h = grind (arith, nat_tests, h)

fewer : (a b : ℕ) → nat_lt (1 + a) (suc b) ≡ false → nat_lt a b ≡ false
fewer a b h = grind (arith, nat_tests, h)

nowhere : (number : ℕ) (groups : List PlacementState) → nat_lt (position_or_len (is_of number) groups) (length groups) ≡ false → group_in (map own groups) number ≡ None
nowhere number [] e = refl
nowhere number (group ∷ groups) e =
    let P : Bool → Type 0 = λ v. nat_lt (cond (not v) (1 + position_or_len (is_of number) groups) 0) (suc (length groups)) ≡ false
    → cond v (Some (own group)) (group_in (map own groups) number) ≡ None in
    (elim (group.made.number == number) as P [
      | true ↦ λ here. absurd (impossible (length groups) here)
      | false ↦ λ rest. nowhere number groups (fewer (position_or_len (is_of number) groups) (length groups) rest)
    ]) e

-- ---- the same of a place that was looked for

pub group_nowhere : (number : ℕ) (groups : List PlacementState) → position (is_of number) groups ≡ None → group_in (map own groups) number ≡ None
group_nowhere number groups e = nowhere number groups (not_found (position_or_len (is_of number) groups) (length groups) e)

pub group_at : (number : ℕ) (groups : List PlacementState) (at : ℕ) (d : PlacementState) → position (is_of number) groups ≡ Some at → group_in (map own groups) number ≡ Some (own (get_or groups at d))
group_at number groups at d e = let is = found (position_or_len (is_of number) groups) (length groups) at e in found_at number groups at d is.0 is.1

pub group_set : (number : ℕ) (groups : List PlacementState) (at : ℕ) (new : PlacementState) → position (is_of number) groups ≡ Some at
    → map own (set groups at new) ≡ with_group number (own new) (map own groups)
group_set number groups at new e = let is = found (position_or_len (is_of number) groups) (length groups) at e in set_at number groups at new is.0 is.1

pub own_more : (groups : List PlacementState) (new : PlacementState) → map own (groups ++ new ∷ []) ≡ map own groups ++ own new ∷ []
own_more [] new = refl
own_more (group ∷ groups) new = ap (λ rest. own group ∷ rest) (own_more groups new)

-- ---- what it was made with

numbered : (a b : ℕ) → (a == b) ≡ true → a ≡ b
numbered a b e = grind (arith, nat_tests, e)

-- the group of a number has it
pub group_numbered : (groups : List GroupState) (number : ℕ) (group : GroupState) → group_in groups number ≡ Some group → group.made.number ≡ number
group_numbered [] number group e = absurd (none_some group e)
group_numbered (first ∷ groups) number group e =
    let P : Bool → Type 0 = λ v. (first.made.number == number) ≡ v → cond v (Some first) (group_in groups number) ≡ Some group → group.made.number ≡ number in
    (elim (first.made.number == number) as P [
      | true ↦ λ here is. ap (λ g. g.made.number) (sym (some_same first group is)) ∙ numbered first.made.number number here
      | false ↦ λ other is. group_numbered groups number group is
    ]) refl e

pub group_made : (groups : List GroupState) (number : ℕ) (group : GroupState) → group_in groups number ≡ Some group → made_in (mades groups) number ≡ Some group.made
group_made [] number group e = absurd (none_some group e)
group_made (first ∷ groups) number group e =
    let P : Bool → Type 0 = λ v. cond v (Some first) (group_in groups number) ≡ Some group → cond v (Some first.made) (made_in (mades groups) number) ≡ Some group.made in
    (elim (first.made.number == number) as P [
      | true ↦ λ is. ap (λ g. Some g.made) (some_same first group is)
      | false ↦ λ is. group_made groups number group is
    ]) e

-- what groups were made with stays, where the group of a number is replaced by one that was made alike
pub mades_with : (groups : List GroupState) (number : ℕ) (group new : GroupState) → group_in groups number ≡ Some group → new.made ≡ group.made → mades (with_group number new groups) ≡ mades groups
mades_with [] number group new e same = refl
mades_with (first ∷ groups) number group new e same =
    let P : Bool → Type 0 = λ v. cond v (Some first) (group_in groups number) ≡ Some group → mades (cond v (new ∷ groups) (first ∷ with_group number new groups)) ≡ first.made ∷ mades groups in
    (elim (first.made.number == number) as P [
      | true ↦ λ is. ap (λ made. made ∷ mades groups) (same ∙ ap (λ g. g.made) (sym (some_same first group is)))
      | false ↦ λ is. ap (λ rest. first.made ∷ rest) (mades_with groups number group new is same)
    ]) e

-- ---- facts of all groups

-- of the group of a number
pub one_of : (P : GroupState → Type 0) (groups : List GroupState) (number : ℕ) (group : GroupState) → AllByRecursion P groups → group_in groups number ≡ Some group → P group
one_of P [] number group all e = absurd (none_some group e)
one_of P (first ∷ groups) number group all e =
    let Q : Bool → Type 0 = λ v. cond v (Some first) (group_in groups number) ≡ Some group → P group in
    (elim (first.made.number == number) as Q [
      | true ↦ λ is. subst P (some_same first group is) all.0
      | false ↦ λ is. one_of P groups number group all.1 is
    ]) e

apart_so : (a b : ℕ) → (a == b) ≡ false → (b ≡ a) → ⊥
apart_so a b e same = grind (arith, nat_tests, e, same)

-- groups of which none has a number
others : (P Q : GroupState → Type 0) (groups : List GroupState) (number : ℕ) → made_in (mades groups) number ≡ None
    → ((group : GroupState) → ((number ≡ group.made.number) → ⊥) → P group → Q group) → AllByRecursion P groups → AllByRecursion Q groups
others P Q [] number none more all = tt
others P Q (group ∷ groups) number none more all =
    let R : Bool → Type 0 = λ v. (group.made.number == number) ≡ v → cond v (Some group.made) (made_in (mades groups) number) ≡ None → Q group × AllByRecursion Q groups in
    (elim (group.made.number == number) as R [
      | true ↦ λ here some. absurd (some_none group.made some)
      | false ↦ λ other rest. (more group (apart_so group.made.number number other) all.0, others P Q groups number rest more all.1)
    ]) refl none

-- the group of a number is replaced, and what holds of the others becomes what is to hold
pub all_with : (P Q : GroupState → Type 0) (groups : List GroupState) (number : ℕ) (new : GroupState) → AreApart (mades groups) → Q new
    → ((group : GroupState) → ((number ≡ group.made.number) → ⊥) → P group → Q group) → AllByRecursion P groups → AllByRecursion Q (with_group number new groups)
all_with P Q [] number new apart now more all = tt
all_with P Q (group ∷ groups) number new apart now more all =
    let R : Bool → Type 0 = λ v. (group.made.number == number) ≡ v → AllByRecursion Q (cond v (new ∷ groups) (group ∷ with_group number new groups)) in
    (elim (group.made.number == number) as R [
      | true ↦ λ here. let is = numbered group.made.number number here in
          (now, others P Q groups number (subst (λ n. made_in (mades groups) n ≡ None) is apart.0) more all.1)
      | false ↦ λ other. (more group (apart_so group.made.number number other) all.0, all_with P Q groups number new apart.1 now more all.1)
    ]) refl
