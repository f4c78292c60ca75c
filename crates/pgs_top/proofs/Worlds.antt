-- What a script that was read asks of its pool's world.
use Rattle.std.proofs.Common.{◌≡◌, ℕ, ◌^◌, ◌%◌, ◌<◌, ◌≤◌, ◌==◌, ◌&&◌, cond, Bool, true, false, List, [], ◌∷◌, map, Option, Some, None, refl, sym, ap, ◌∙◌, subst, arith}
use Rattle.std.specs.Prelude.{nat_eq}
use Rattle.std.specs.List.{AllByRecursion, IsDistinct}
use Rattle.std.proofs.lemmas.Bool.Decides.{nat_tests}
use Rattle.std.proofs.lemmas.Nat.{mod_below, pow_pos}
use Rattle.pgs_bytes.proofs.Facts.{both, none_some, some_same}
use Rattle.pgs_words.specs.Forms.{has_some}
use Rattle.pgs_lines.specs.declared.basic.Basic.TheVariants as basics
use Rattle.pgs_lines.specs.declared.step.Step.{Step}
use Rattle.pgs_lines.specs.declared.step.Step.TheVariants as steps
use Rattle.pgs_order.specs.Order.{has, has_group, is_member, are_members, are_distinct, are_whole, group_of}
use Rattle.pgs_order.specs.Ordered.{IsPool, IsOsd, IsGroup, AreGroups, group_numbers, IsNamed as IsNamedIn, AreNamed as AreNamedIn, IsOrdered}
use Rattle.pgs_order.specs.declared.declarations.Declarations.{Declarations}
use Rattle.pgs_order.specs.declared.declarations.Group.{Group}
use Rattle.pgs_order.specs.declared.step_script.StepScript.{StepScript}
use Rattle.pgs_order.proofs.Found.{found, member_group, acting_found}
use Rattle.pgs_order.proofs.Keeps.{whole_has_below}
use Rattle.pgs_name.specs.Families.{Family}
use Rattle.pgs_name.specs.Order.{hash_of}
use Rattle.pgs_chunk.specs.declared.settings.Settings.{Settings}
use Rattle.pgs_history.specs.declared.made.Made.{Made}
use Rattle.pgs_placement.specs.Counts.{IsNamedStep as IsNamedMade}
use Rattle.pgs_placement.specs.Naming.{family_of}
use Rattle.pgs_placement.specs.Sound.{IsSound as IsSoundGroup}
use Rattle.pgs_world.specs.State.{GroupState, WorldState, lent, own, mades}
use Rattle.pgs_world.specs.Opening.{IsOpening}
use Rattle.pgs_world.specs.Pool.{made_in, number_of, AreApart}
use Rattle.pgs_world.specs.Named.{IsNamedBy, IsNamedStep, AreNamed}
use Rattle.pgs_world.specs.Sound.{IsSound, AreAcknowledged, AreInStep, AreOrderly}
use Rattle.pgs_top.specs.Histories.{made_of, opening_of, mades_of, IsFit, OfPool, OfWorld}
use Rattle.pgs_top.specs.Opening.{devices_of}
use Rattle.pgs_top.proofs.Openings.{devices_named, is_acting, members_have}

-- ---- the groups before the first step

abbrev made_all : Settings → Declarations → List Group → List Made
made_all settings declared groups = mades (map own (map (opening_of settings declared) groups))

each_opening : (settings : Settings) (declared : Declarations) (groups : List Group) → 1 ≤ settings.stride → AllByRecursion (λ group. IsGroup declared.bits declared.osds group) groups
    → AllByRecursion (λ group. IsOpening group) (map (opening_of settings declared) groups)
each_opening settings declared [] least all = tt
each_opening settings declared (group ∷ groups) least all = (
  record {
    devices = devices_of declared.fails group.group group.members;
    is = refl;
    named = devices_named declared.fails group.group group.members;
    acting = is_acting (made_of settings group) group.members (members_have group.members) all.0.distinct all.0.some;
    stride = least;
  },
  each_opening settings declared groups least all.1,
)

apart_so : (n m : ℕ) → nat_eq n m ≡ false → (m == n) ≡ false
apart_so n m e = grind (arith, nat_tests, e)

none_so : (settings : Settings) (declared : Declarations) (n : ℕ) (groups : List Group) → AllByRecursion (λ m. nat_eq n m ≡ false) (group_numbers groups) → made_in (made_all settings declared groups) n ≡ None
none_so settings declared n [] all = refl
none_so settings declared n (group ∷ groups) all =
    ap (λ v. cond v (Some (made_of settings group)) (made_in (made_all settings declared groups) n)) (apart_so n group.group all.0) ∙ none_so settings declared n groups all.1

all_apart : (settings : Settings) (declared : Declarations) (groups : List Group) → IsDistinct nat_eq (group_numbers groups) → AreApart (made_all settings declared groups)
unfolding IsDistinct
all_apart settings declared [] apart = tt
all_apart settings declared (group ∷ groups) apart = (none_so settings declared group.group groups apart.0, all_apart settings declared groups apart.1)

-- ---- the steps name what the pool has

-- the group of a number, as it is declared
made_found : (settings : Settings) (declared : Declarations) (groups : List Group) (number : ℕ) (group : Group) → group_of groups number ≡ Some group
    → made_in (made_all settings declared groups) number ≡ Some (made_of settings group)
made_found settings declared [] number group e = absurd (none_some group e)
made_found settings declared (first ∷ groups) number group e =
    let P : Bool → Type 0 = λ v. cond v (Some first) (group_of groups number) ≡ Some group
    → cond v (Some (made_of settings first)) (made_in (made_all settings declared groups) number) ≡ Some (made_of settings group) in
    (elim (first.group == number) as P [
      | true ↦ λ is. ap (λ g. Some (made_of settings g)) (some_same first group is)
      | false ↦ λ is. made_found settings declared groups number group is
    ]) e

-- the low bits of a hash
number_below : (bits hash : ℕ) → hash % 2 ^ bits < 2 ^ bits
number_below bits hash = mod_below hash (2 ^ bits) (pow_pos bits)

named_by : (made : Made) (given : Option Made) (step : Step) → given ≡ Some made → IsNamedMade made step → IsNamedBy given step
named_by made given step e is = subst (λ m. IsNamedBy m step) (sym e) is

module _ (settings : Settings) (declared : Declarations) (are : AreGroups declared.bits declared.osds declared.groups) where
  -- a step of a declared group that asks for nothing more
  of_group : (number : ℕ) (step : Step) → has_group declared.groups number ≡ true → ((made : Made) → made.number ≡ number → IsNamedMade made step) → IsNamedBy (made_in (mades_of settings declared) number) step
  of_group number step e is =
      let f = found declared.bits declared.osds declared.groups number are e in
      named_by (made_of settings f.group) (made_in (mades_of settings declared) number) step (made_found settings declared declared.groups number f.group f.is) (is (made_of settings f.group) f.numbered)

  -- and one of a member
  of_member : (number osd : ℕ) (step : Step) → is_member declared.groups number osd ≡ true → ((made : Made) → has made.members osd ≡ true → IsNamedMade made step)
      → IsNamedBy (made_in (mades_of settings declared) number) step
  of_member number osd step e is =
      let f = found declared.bits declared.osds declared.groups number are (member_group declared.groups number osd e) in
      named_by (made_of settings f.group) (made_in (mades_of settings declared) number) step (made_found settings declared declared.groups number f.group f.is)
      (is (made_of settings f.group) (sym (f.members osd) ∙ e))

  -- a write has a group
  of_write : (bits : ℕ) (family : Family) (step : Step) → declared.bits ≡ Some bits → are_whole declared ≡ true → ((made : Made) → IsNamedMade made step)
      → IsNamedBy (made_in (mades_of settings declared) (number_of bits family)) step
  of_write bits family step pool whole is =
      of_group (number_of bits family) step (whole_has_below declared bits (number_of bits family) pool are whole (number_below bits (hash_of family))) (λ made numbered. is made)

  step_named : (bits : ℕ) (step : Step) → declared.bits ≡ Some bits → are_whole declared ≡ true → IsNamedIn declared.groups step → IsNamedStep bits (mades_of settings declared) step
  step_named bits (steps.Basic (basics.Write client serial object context op)) pool whole is = of_write bits (family_of object) (steps.Basic (basics.Write client serial object context op)) pool whole (λ made. tt)
  step_named bits (steps.Basic (basics.Collect g client serial)) pool whole is = of_group g (steps.Basic (basics.Collect g client serial)) is.declared (λ made numbered. sym numbered)
  step_named bits (steps.Basic (basics.Pull g osd)) pool whole is = of_member g osd (steps.Basic (basics.Pull g osd)) is.declared (λ made there. there)
  step_named bits (steps.Basic (basics.Apply g osd)) pool whole is = of_member g osd (steps.Basic (basics.Apply g osd)) is.declared (λ made there. tt)
  step_named bits (steps.Basic (basics.Tell g osd)) pool whole is = of_member g osd (steps.Basic (basics.Tell g osd)) is.declared (λ made there. tt)
  step_named bits (steps.Basic (basics.Damage g osd object snap damage)) pool whole is = of_member g osd (steps.Basic (basics.Damage g osd object snap damage)) is.declared (λ made there. tt)
  step_named bits (steps.Basic (basics.Begin g kind)) pool whole is = of_group g (steps.Basic (basics.Begin g kind)) is.declared (λ made numbered. tt)
  step_named bits (steps.Basic (basics.Open g)) pool whole is = of_group g (steps.Basic (basics.Open g)) is.declared (λ made numbered. tt)
  step_named bits (steps.Basic (basics.Scan g osd)) pool whole is = of_member g osd (steps.Basic (basics.Scan g osd)) is.declared (λ made there. tt)
  step_named bits (steps.Basic (basics.Take g osd)) pool whole is = of_member g osd (steps.Basic (basics.Take g osd)) is.declared (λ made there. there)
  step_named bits (steps.Basic (basics.Close g)) pool whole is = of_group g (steps.Basic (basics.Close g)) is.declared (λ made numbered. tt)
  step_named bits (steps.Basic (basics.Interval g osds)) pool whole is =
      let a = both (has_group declared.groups g && are_members declared.groups g osds) (are_distinct osds) is.declared in
      let b = both (has_group declared.groups g) (are_members declared.groups g osds) a.0 in
      let f = found declared.bits declared.osds declared.groups g are b.0 in
      named_by (made_of settings f.group) (made_in (mades_of settings declared) g) (steps.Basic (basics.Interval g osds)) (made_found settings declared declared.groups g f.group f.is)
      (is_acting (made_of settings f.group) osds (acting_found declared.bits declared.osds declared.groups g f osds b.1) a.1 is.some)
  step_named bits (steps.Basic (basics.Claim g)) pool whole is = of_group g (steps.Basic (basics.Claim g)) is.declared (λ made numbered. tt)
  step_named bits (steps.Basic (basics.Release g osd)) pool whole is = of_member g osd (steps.Basic (basics.Release g osd)) is.declared (λ made there. tt)
  step_named bits (steps.Basic (basics.Job g kind rank moment)) pool whole is = tt
  step_named bits (steps.Basic (basics.Unjob g)) pool whole is = tt
  step_named bits (steps.Basic (basics.Pick moment)) pool whole is = tt
  step_named bits (steps.Settle g) pool whole is = of_group g (steps.Settle g) is.declared (λ made numbered. tt)
  step_named bits (steps.Sweep g kind) pool whole is = of_group g (steps.Sweep g kind) is.declared (λ made numbered. tt)
  step_named bits (steps.ListObj g) pool whole is = of_group g (steps.ListObj g) is.declared (λ made numbered. tt)
  step_named bits (steps.ListSnap g) pool whole is = of_group g (steps.ListSnap g) is.declared (λ made numbered. tt)

  each_named : (bits : ℕ) (script : List Step) → declared.bits ≡ Some bits → are_whole declared ≡ true → AreNamedIn declared.groups script → AreNamed bits (mades_of settings declared) script
  each_named bits [] pool whole all = tt
  each_named bits (step ∷ script) pool whole all = (step_named bits step pool whole all.0, each_named bits script pool whole all.1)

  all_named : (bits : ℕ) (script : List Step) → declared.bits ≡ Some bits → (has_some script ≡ true → are_whole declared ≡ true) → AreNamedIn declared.groups script
      → AreNamed bits (mades_of settings declared) script
  all_named bits [] pool whole all = tt
  all_named bits (step ∷ script) pool whole all = each_named bits (step ∷ script) pool (whole refl) all

-- ---- the pool

pool_fits : (settings : Settings) (s : StepScript) (bits : Option ℕ) → s.declared.bits ≡ bits → 1 ≤ settings.stride → IsOrdered s → OfPool (IsFit settings s.declared s.steps) bits
pool_fits settings s None e least is = tt
pool_fits settings s (Some bits) e least is = record {
  few = subst IsPool e is.declared.pool;
  groups = each_opening settings s.declared s.declared.groups least is.declared.groups.each;
  apart = all_apart settings s.declared s.declared.groups is.declared.groups.apart;
  named = all_named settings s.declared is.declared.groups bits s.steps e is.some is.named;
}

pub fits : (settings : Settings) (s : StepScript) (script : List Step) → script ≡ s.steps → 1 ≤ settings.stride → IsOrdered s → OfPool (IsFit settings s.declared script) s.declared.bits
fits settings s script e least is = subst (λ xs. OfPool (IsFit settings s.declared xs) s.declared.bits) (sym e) (pool_fits settings s s.declared.bits refl least is)

pub each_osd : (s : StepScript) → IsOrdered s → AllByRecursion (λ osd. IsOsd osd) s.declared.osds
each_osd s is = is.declared.osds.each

-- ---- what a sound world has

all_have : (P Q : GroupState → Type 0) (groups : List GroupState) → ((group : GroupState) → P group → Q group) → AllByRecursion P groups → AllByRecursion Q groups
all_have P Q [] more all = tt
all_have P Q (group ∷ groups) more all = (more group all.0, all_have P Q groups more all.1)

pub acknowledged : (world : Option WorldState) → OfWorld IsSound world → OfWorld AreAcknowledged world
acknowledged None sound = tt
acknowledged (Some w) sound = all_have (λ g. IsSoundGroup (lent w g)) _ w.groups (λ g s. s.steady.acknowledged) sound.each

pub in_step : (world : Option WorldState) → OfWorld IsSound world → OfWorld AreInStep world
in_step None sound = tt
in_step (Some w) sound = all_have (λ g. IsSoundGroup (lent w g)) _ w.groups (λ g s. s.steady.in_step) sound.each

pub orderly : (world : Option WorldState) → OfWorld IsSound world → OfWorld AreOrderly world
orderly None sound = tt
orderly (Some w) sound = all_have (λ g. IsSoundGroup (lent w g)) _ w.groups (λ g s. s.steady.orderly) sound.each
