-- A line that may stand leaves a script in order.
use Rattle.std.proofs.Common.{◌≡◌, ℕ, suc, ◌==◌, ◌^◌, ◌<◌, ◌≤◌, ◌&&◌, ◌||◌, Bool, true, false, not, List, [], ◌∷◌, ◌++◌, Option, Some, None, length, refl, sym, ◌∙◌, subst, arith}
use Rattle.std.specs.Prelude.{nat_lt, nat_le, is_none, is_some}
use Rattle.std.proofs.lemmas.Bool.Decides.{nat_tests}
use Rattle.pgs_bytes.proofs.Facts.{both, joined, true_false}
use Rattle.pgs_words.specs.Forms.{has_some}
use Rattle.pgs_words.specs.Fields.{number, positive}
use Rattle.pgs_lines.specs.Objects.{call, members_form}
use Rattle.pgs_lines.specs.Basics.{basic_said}
use Rattle.pgs_lines.specs.Steps.{step_said}
use Rattle.pgs_lines.specs.Lines.{line_said}
use Rattle.pgs_lines.specs.declared.call.Call.{Call}
use Rattle.pgs_lines.specs.declared.basic.Basic.{Basic}
use Rattle.pgs_lines.specs.declared.basic.Basic.TheVariants as basics
use Rattle.pgs_lines.specs.declared.step.Step.{Step}
use Rattle.pgs_lines.specs.declared.step.Step.TheVariants as steps
use Rattle.pgs_lines.specs.declared.line.Line.{Line}
use Rattle.pgs_lines.specs.declared.line.Line.TheVariants as lines
use Rattle.pgs_order.specs.Order.{nothing_said, has_osd, has_group, is_in, is_member, are_members, are_declared, are_distinct, is_of_pool, has_all, are_whole, acting_follows, basic_is_named, step_is_named, allows, passes, after, osd_follows, group_follows, fail_follows}
use Rattle.pgs_order.specs.Ordered.{IsOsd, AreOsds, IsGroup, AreGroups, IsFail, AreFails, basic_has_acting, has_acting, IsNamed, IsOrdered}
use Rattle.pgs_order.specs.declared.declarations.Osd.{Osd}
use Rattle.pgs_order.specs.declared.declarations.Group.{Group}
use Rattle.pgs_order.specs.declared.declarations.Fail.{Fail}
use Rattle.pgs_order.specs.declared.declarations.Declarations.{Declarations}
use Rattle.pgs_order.specs.declared.step_script.StepScript.{StepScript}
use Rattle.pgs_order.proofs.Lists.{longer, all_more, all_turned, any_more, all_passed, none_alike, apart_more, there, neither, same}

pub ordered_start : IsOrdered nothing_said
ordered_start = record {
  declared = record {
    pool = tt;
    osds = record { each = tt; apart = none_alike {A = Osd} (λ o. o.osd); few = omega arith };
    groups = record { each = tt; apart = none_alike {A = Group} (λ g. g.group) };
    fails = record { each = tt; few = omega arith };
  };
  named = tt;
  some = λ e. absurd (true_false (sym e));
  closed = λ e. absurd (true_false (sym e));
}

-- ---- what is named stays named

acting_more : (gs more : List Group) (group : ℕ) (acting : List ℕ) → acting_follows gs group acting ≡ true → acting_follows (gs ++ more) group acting ≡ true
acting_more gs more group acting e =
    let a = both (has_group gs group && are_members gs group acting) (are_distinct acting) e in
    let b = both (has_group gs group) (are_members gs group acting) a.0 in
    let members : are_members (gs ++ more) group acting ≡ true =
    all_passed (λ osd. is_member gs group osd) (λ osd. is_member (gs ++ more) group osd) (λ osd h. any_more (is_in group osd) gs more h) acting b.1 in
    joined (has_group (gs ++ more) group && are_members (gs ++ more) group acting) (are_distinct acting)
    (joined (has_group (gs ++ more) group) (are_members (gs ++ more) group acting) (any_more (λ g. g.group == group) gs more b.0) members) a.1

basic_named_more : (gs more : List Group) (b : Basic) → basic_is_named gs b ≡ true → basic_is_named (gs ++ more) b ≡ true
basic_named_more gs more (basics.Write client serial object context op) e = e
basic_named_more gs more (basics.Collect group client serial) e = any_more (λ g. g.group == group) gs more e
basic_named_more gs more (basics.Pull group osd) e = any_more (is_in group osd) gs more e
basic_named_more gs more (basics.Apply group osd) e = any_more (is_in group osd) gs more e
basic_named_more gs more (basics.Tell group osd) e = any_more (is_in group osd) gs more e
basic_named_more gs more (basics.Damage group osd object snap damage) e = any_more (is_in group osd) gs more e
basic_named_more gs more (basics.Begin group kind) e = any_more (λ g. g.group == group) gs more e
basic_named_more gs more (basics.Open group) e = any_more (λ g. g.group == group) gs more e
basic_named_more gs more (basics.Scan group osd) e = any_more (is_in group osd) gs more e
basic_named_more gs more (basics.Take group osd) e = any_more (is_in group osd) gs more e
basic_named_more gs more (basics.Close group) e = any_more (λ g. g.group == group) gs more e
basic_named_more gs more (basics.Interval group acting) e = acting_more gs more group acting e
basic_named_more gs more (basics.Claim group) e = any_more (λ g. g.group == group) gs more e
basic_named_more gs more (basics.Release group osd) e = any_more (is_in group osd) gs more e
basic_named_more gs more (basics.Job group kind rank moment) e = any_more (λ g. g.group == group) gs more e
basic_named_more gs more (basics.Unjob group) e = any_more (λ g. g.group == group) gs more e
basic_named_more gs more (basics.Pick moment) e = e

named_more : (gs more : List Group) (s : Step) → step_is_named gs s ≡ true → step_is_named (gs ++ more) s ≡ true
named_more gs more (steps.Basic b) e = basic_named_more gs more b e
named_more gs more (steps.Settle group) e = any_more (λ g. g.group == group) gs more e
named_more gs more (steps.Sweep group kind) e = any_more (λ g. g.group == group) gs more e
named_more gs more (steps.ListObj group) e = any_more (λ g. g.group == group) gs more e
named_more gs more (steps.ListSnap group) e = any_more (λ g. g.group == group) gs more e

-- the words of an interval name one OSD at least
basic_acting : (b : Basic) → (basic_said b).fits ≡ true → basic_has_acting b ≡ true
basic_acting (basics.Write client serial object context op) e = refl
basic_acting (basics.Collect group client serial) e = refl
basic_acting (basics.Pull group osd) e = refl
basic_acting (basics.Apply group osd) e = refl
basic_acting (basics.Tell group osd) e = refl
basic_acting (basics.Damage group osd object snap damage) e = refl
basic_acting (basics.Begin group kind) e = refl
basic_acting (basics.Open group) e = refl
basic_acting (basics.Scan group osd) e = refl
basic_acting (basics.Take group osd) e = refl
basic_acting (basics.Close group) e = refl
basic_acting (basics.Interval group acting) e = (both _ (has_some acting) (both (number.fits group) (members_form.fits acting) e).1).1
basic_acting (basics.Claim group) e = refl
basic_acting (basics.Release group osd) e = refl
basic_acting (basics.Job group kind rank moment) e = refl
basic_acting (basics.Unjob group) e = refl
basic_acting (basics.Pick moment) e = refl

step_acting : (s : Step) → (step_said s).fits ≡ true → has_acting s ≡ true
step_acting (steps.Basic b) e = basic_acting b e
step_acting (steps.Settle group) e = refl
step_acting (steps.Sweep group kind) e = refl
step_acting (steps.ListObj group) e = refl
step_acting (steps.ListSnap group) e = refl

-- ---- whole declarations

not_true : (a : Bool) → not a ≡ true → a ≡ false
not_true true e = sym e
not_true false e = refl

under : (n bound : ℕ) → nat_lt n bound ≡ true → n < bound
under n bound e = grind (arith, nat_tests)

-- where all groups are declared, each number of the pool is a group's
pub whole_has : (bits : Option ℕ) (osds : List Osd) (gs : List Group) (n : ℕ) → AreGroups bits osds gs → has_all bits (length gs) ≡ true
    → is_of_pool bits n ≡ true → has_group gs n ≡ true
whole_has None osds gs n are whole e = absurd (true_false (sym e))
whole_has (Some bits) osds gs n are whole e =
    there (λ g. g.group) gs (2 ^ bits) n are.apart
    (all_turned (λ g. IsGroup (Some bits) osds g) (λ g. g.group < 2 ^ bits) (λ g is. under g.group (2 ^ bits) is.of_pool) gs are.each)
    (same (length gs) (2 ^ bits) whole) (under n (2 ^ bits) e)

below : (n bound : ℕ) → n < bound → nat_lt n bound ≡ true
below n bound h = grind (arith, nat_tests)

-- the same of each number below 2^bits
pub whole_has_below : (declared : Declarations) (bits n : ℕ) → declared.bits ≡ Some bits → AreGroups declared.bits declared.osds declared.groups
    → are_whole declared ≡ true → n < 2 ^ bits → has_group declared.groups n ≡ true
whole_has_below declared bits n is are whole h =
    let of_pool : is_of_pool (Some bits) n ≡ true = below n (2 ^ bits) h in
    whole_has declared.bits declared.osds declared.groups n are whole (subst (λ b. is_of_pool b n ≡ true) (sym is) of_pool)

-- ---- a pool

pool_is : (bits : ℕ) → nat_lt 3 bits ≡ false → bits ≤ 3
pool_is bits e = grind (arith, nat_tests)

-- no group is declared before the pool is
pool_groups : (before now : Option ℕ) (osds : List Osd) (gs : List Group) → is_none before ≡ true → AreGroups before osds gs → AreGroups now osds gs
pool_groups None now osds [] e are = record { each = tt; apart = none_alike {A = Group} (λ g. g.group) }
pool_groups None now osds (g ∷ gs) e are = absurd (true_false (sym are.each.0.of_pool))
pool_groups (Some bits) now osds gs e are = absurd (true_false (sym e))

pool_step : (before : Option ℕ) (count : ℕ) → is_none before ≡ true → has_all before count ≡ true → ⊥
pool_step None count e h = true_false (sym h)
pool_step (Some bits) count e h = true_false (sym e)

-- ---- an OSD

osd_groups : (bits : Option ℕ) (osds now : List Osd) (gs : List Group) → (length gs == 0) ≡ true → AreGroups bits osds gs → AreGroups bits now gs
osd_groups bits osds now [] e are = record { each = tt; apart = none_alike {A = Group} (λ g. g.group) }
osd_groups bits osds now (g ∷ gs) e are = let e : (suc (length gs) == 0) ≡ true = e in let zero : suc (length gs) ≡ 0 = same (suc (length gs)) 0 e in absurd cc

is_osd : (osd slots count : ℕ) → nat_lt 0 slots ≡ true → (nat_lt 63 osd || nat_lt 8 slots || nat_le 16 count) ≡ false
    → (osd ≤ 63) × (slots ≤ 8) × (1 ≤ slots) × (suc count ≤ 16)
is_osd osd slots count some e =
    let a = neither (nat_lt 63 osd || nat_lt 8 slots) (nat_le 16 count) e in
    let b = neither (nat_lt 63 osd) (nat_lt 8 slots) a.0 in
    (few osd 63 b.0, few slots 8 b.1, one slots some, short count a.1)
  where
    few : (n most : ℕ) → nat_lt most n ≡ false → n ≤ most
    few n most e = grind (arith, nat_tests)

    one : (n : ℕ) → nat_lt 0 n ≡ true → 1 ≤ n
    one n e = grind (arith, nat_tests)

    short : (n : ℕ) → nat_le 16 n ≡ false → suc n ≤ 16
    short n e = grind (arith, nat_tests)

at_least_one : (n : ℕ) → positive.fits n ≡ true → nat_lt 0 n ≡ true
at_least_one n e = (both (number.fits n) (nat_lt 0 n) e).1

osds_more : (s : StepScript) (osd slots : ℕ) → (line_said (lines.Osd osd slots)).fits ≡ true → osd_follows s.declared osd ≡ true
    → (nat_lt 63 osd || nat_lt 8 slots || nat_le 16 (length s.declared.osds)) ≡ false → AreOsds s.declared.osds
    → AreOsds (s.declared.osds ++ record { osd = osd; slots = slots } ∷ [])
osds_more s osd slots fits e few are =
    let new : Osd = record { osd = osd; slots = slots } in
    let f = both (number.fits osd) (positive.fits slots) fits in
    let is = is_osd osd slots (length s.declared.osds) (at_least_one slots f.1) few in
    let new_is : not (has_osd s.declared.osds osd) ≡ true = (both (is_some s.declared.bits && (length s.declared.groups == 0)) (not (has_osd s.declared.osds osd)) e).1 in
    record {
      each = all_more (λ o. IsOsd o) s.declared.osds new are.each (record { number = is.0; some = is.2; few = is.1 });
      apart = apart_more (λ o. o.osd) s.declared.osds new are.apart (not_true (has_osd s.declared.osds osd) new_is);
      few = subst (λ n. n ≤ 16) (sym (longer s.declared.osds new)) is.3;
    }

-- ---- a group

few_of : (n : ℕ) → nat_lt 8 n ≡ false → n ≤ 8
few_of n e = grind (arith, nat_tests)

some_of : (n : ℕ) → nat_lt 0 n ≡ true → 1 ≤ n
some_of n e = grind (arith, nat_tests)

-- what a line of a group shows
record Follows (s : StepScript) (group : ℕ) (members : List ℕ) : Type 0 where
  of_pool : is_of_pool s.declared.bits group ≡ true
  new : has_group s.declared.groups group ≡ false
  declared : are_declared s.declared.osds members ≡ true
  distinct : are_distinct members ≡ true

follows : (s : StepScript) (group : ℕ) (members : List ℕ) → group_follows s.declared group members ≡ true → Follows s group members
follows s group members e =
    let a = both (is_of_pool s.declared.bits group && not (has_group s.declared.groups group) && are_declared s.declared.osds members) (are_distinct members) e in
    let b = both (is_of_pool s.declared.bits group && not (has_group s.declared.groups group)) (are_declared s.declared.osds members) a.0 in
    let c = both (is_of_pool s.declared.bits group) (not (has_group s.declared.groups group)) b.0 in
    record { of_pool = c.0; new = not_true (has_group s.declared.groups group) c.1; declared = b.1; distinct = a.1 }

groups_more : (s : StepScript) (group epoch : ℕ) (members : List ℕ) → (line_said (lines.Group group epoch members)).fits ≡ true
    → Follows s group members → nat_lt 8 (length members) ≡ false → AreGroups s.declared.bits s.declared.osds s.declared.groups
    → AreGroups s.declared.bits s.declared.osds (s.declared.groups ++ record { group = group; epoch = epoch; members = members } ∷ [])
groups_more s group epoch members fits f few are =
    let new : Group = record { group = group; epoch = epoch; members = members } in
    let a = both (number.fits group) (positive.fits epoch && members_form.fits members) fits in
    let b = both (positive.fits epoch) (members_form.fits members) a.1 in
    let is : IsGroup s.declared.bits s.declared.osds new = record {
      of_pool = f.of_pool;
      epoch = some_of epoch (at_least_one epoch b.0);
      declared = f.declared;
      distinct = f.distinct;
      some = (both _ (has_some members) b.1).1;
      few = few_of (length members) few;
    } in
    record {
      each = all_more (λ g. IsGroup s.declared.bits s.declared.osds g) s.declared.groups new are.each is;
      apart = apart_more (λ g. g.group) s.declared.groups new are.apart f.new;
    }

fails_stay : (gs more : List Group) (fs : List Fail) → AreFails gs fs → AreFails (gs ++ more) fs
fails_stay gs more fs are = record {
  each = all_turned (λ f. IsFail gs f) (λ f. IsFail (gs ++ more) f)
      (λ f is. record { member = any_more (is_in f.group f.osd) gs more is.member; number = is.number }) fs are.each;
  few = are.few;
}

-- ---- a call that fails

few_fails : (n : ℕ) → nat_le 1000 n ≡ false → suc n ≤ 1000
few_fails n e = grind (arith, nat_tests)

fails_more : (s : StepScript) (group osd : ℕ) (c : Call) (nth : ℕ) → (line_said (lines.Fail group osd c nth)).fits ≡ true
    → fail_follows s group osd ≡ true → nat_le 1000 (length s.declared.fails) ≡ false → AreFails s.declared.groups s.declared.fails
    → AreFails s.declared.groups (s.declared.fails ++ record { group = group; osd = osd; call = c; number = nth } ∷ [])
fails_more s group osd c nth fits e few are =
    let new : Fail = record { group = group; osd = osd; call = c; number = nth } in
    let a = both (number.fits group) (number.fits osd && (call.fits c && positive.fits nth)) fits in
    let b = both (number.fits osd) (call.fits c && positive.fits nth) a.1 in
    let d = both (call.fits c) (positive.fits nth) b.1 in
    let member = (both (are_whole s.declared && (length s.steps == 0)) (is_member s.declared.groups group osd) e).1 in
    record {
      each = all_more (λ f. IsFail s.declared.groups f) s.declared.fails new are.each (record { member = member; number = some_of nth (at_least_one nth d.1) });
      few = subst (λ n. n ≤ 1000) (sym (longer s.declared.fails new)) (few_fails (length s.declared.fails) few);
    }

-- ---- a line more

goes_on : (a : Bool) → a ≡ false → (P : Type 0) → a ≡ true → P
goes_on a e P h = absurd (true_false (sym h ∙ e))

pub ordered_after : (s : StepScript) (l : Line) → (line_said l).fits ≡ true → s.over ≡ false → allows s l ≡ true → passes s l ≡ false → IsOrdered s
    → IsOrdered (after s l)
ordered_after s (lines.Pool bits) fits on e few o = record {
  declared = record {
    pool = pool_is bits few;
    osds = o.declared.osds;
    groups = pool_groups s.declared.bits (Some bits) s.declared.osds s.declared.groups e o.declared.groups;
    fails = o.declared.fails;
  };
  named = o.named;
  some = λ h. absurd (pool_step s.declared.bits (length s.declared.groups) e (o.some h));
  closed = goes_on s.over on _;
}
ordered_after s (lines.Osd osd slots) fits on e few o = record {
  declared = record {
    pool = o.declared.pool;
    osds = osds_more s osd slots fits e few o.declared.osds;
    groups = osd_groups s.declared.bits s.declared.osds _ s.declared.groups
        (both (is_some s.declared.bits) (length s.declared.groups == 0) (both (is_some s.declared.bits && (length s.declared.groups == 0)) (not (has_osd s.declared.osds osd)) e).0).1
        o.declared.groups;
    fails = o.declared.fails;
  };
  named = o.named;
  some = o.some;
  closed = goes_on s.over on _;
}
ordered_after s (lines.Group group epoch members) fits on e few o =
    let f = follows s group members e in
    record {
      declared = record {
        pool = o.declared.pool;
        osds = o.declared.osds;
        groups = groups_more s group epoch members fits f few o.declared.groups;
        fails = fails_stay s.declared.groups _ s.declared.fails o.declared.fails;
      };
      named = all_turned (λ step. IsNamed s.declared.groups step) _
          (λ step h. record { declared = named_more s.declared.groups _ step h.declared; some = h.some }) s.steps o.named;
      some = λ h. absurd (true_false (sym (whole_has s.declared.bits s.declared.osds s.declared.groups group o.declared.groups (o.some h) f.of_pool) ∙ f.new));
      closed = goes_on s.over on _;
    }
ordered_after s (lines.Fail group osd c nth) fits on e few o = record {
  declared = record {
    pool = o.declared.pool;
    osds = o.declared.osds;
    groups = o.declared.groups;
    fails = fails_more s group osd c nth fits e few o.declared.fails;
  };
  named = o.named;
  some = o.some;
  closed = goes_on s.over on _;
}
ordered_after s (lines.Step step) fits on e few o =
    let h = both (are_whole s.declared) (step_is_named s.declared.groups step) e in
    record {
      declared = o.declared;
      named = all_more (λ step. IsNamed s.declared.groups step) s.steps step o.named (record { declared = h.1; some = step_acting step fits });
      some = λ x. h.0;
      closed = goes_on s.over on _;
    }
ordered_after s lines.End fits on e few o = record { declared = o.declared; named = o.named; some = o.some; closed = λ h. e }
