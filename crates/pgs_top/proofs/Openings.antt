-- What a group of a script in order begins with is as its world asks.
use Rattle.std.proofs.Common.{◌≡◌, ℕ, suc, zero, ◌<◌, ◌≤◌, ◌==◌, ◌&&◌, ◌||◌, Bool, true, false, not, List, [], ◌∷◌, length, get_or, map, refl, sym, ap, subst, arith}
use Rattle.std.specs.Prelude.{nat_le, is_some, slice_get, IsTrue}
use Rattle.std.specs.List.{list_all, AllByRecursion}
use Rattle.std.proofs.lemmas.Bool.Decides.{nat_tests}
use Rattle.pgs_bytes.proofs.Facts.{both, joined, true_false}
use Rattle.pgs_words.specs.Forms.{has_some}
use Rattle.pgs_order.specs.Order.{has, are_distinct}
use Rattle.pgs_order.specs.Ordered.{IsOsd}
use Rattle.pgs_order.specs.declared.declarations.Osd.{Osd}
use Rattle.pgs_order.specs.declared.declarations.Fail.{Fail}
use Rattle.pgs_order.specs.declared.declarations.Declarations.{Declarations}
use Rattle.pgs_lines.specs.declared.step.Step.{Step}
use Rattle.pgs_chunk.specs.declared.settings.Settings.{Settings}
use Rattle.pgs_slots.specs.declared.osd_slots.OsdSlots.{OsdSlots}
use Rattle.pgs_placement.specs.State.{PlacementState}
use Rattle.pgs_world.specs.State.{WorldState, own, mades}
use Rattle.pgs_world.specs.Opening.{IsOpening}
use Rattle.pgs_world.specs.Pool.{AreApart}
use Rattle.pgs_world.specs.Named.{AreNamed}
use Rattle.pgs_top.specs.Histories.{groups_of, mades_of, pool_opening}
use Rattle.pgs_slots.specs.Rows.{is_sized}
use Rattle.pgs_history.specs.Acting.{IsActing, AreMembers}
use Rattle.pgs_history.specs.declared.made.Made.{Made}
use Rattle.pgs_top.specs.Opening.{devices_of, slots_of, all_slots}

-- ---- devices

pub devices_named : (fails : List Fail) (group : ℕ) (osds : List ℕ) → map (λ device. device.osd) (devices_of fails group osds) ≡ osds
devices_named fails group [] = refl
devices_named fails group (osd ∷ osds) = ap (λ rest. osd ∷ rest) (devices_named fails group osds)

-- ---- slots

pub few_slots : (osds : List Osd) (i : ℕ) (none : Osd) → AllByRecursion (λ o. IsOsd o) osds → i < length osds → (get_or osds i none).slots ≤ 8
few_slots [] i none all within = let within : i < 0 = within in absurd (omega arith)
few_slots (osd ∷ osds) zero none all within = all.0.few
few_slots (osd ∷ osds) (suc i) none all within = few_slots osds i none all.1 (omega arith)

one_sized : (n : ℕ) → 1 ≤ n → n ≤ 8 → (nat_le 1 n && nat_le n 8) ≡ true
one_sized n some few = grind (arith, nat_tests)

pub slots_sized : (osds : List Osd) → AllByRecursion (λ o. IsOsd o) osds → IsTrue (list_all is_sized (all_slots osds))
slots_sized [] all = refl
slots_sized (osd ∷ osds) all = joined (is_sized (slots_of osd)) (list_all is_sized (all_slots osds)) (one_sized osd.slots all.0.some all.0.few) (slots_sized osds all.1)

-- ---- who acts

not_true : (a : Bool) → not a ≡ true → a ≡ false
not_true true e = sym e
not_true false e = refl

-- members that are all different
are_members : (members osds : List ℕ) → list_all (λ osd. has members osd) osds ≡ true → are_distinct osds ≡ true → AreMembers members osds
are_members members [] all apart = tt
are_members members (osd ∷ osds) all apart =
    let h = both (has members osd) (list_all (λ o. has members o) osds) all in
    let d = both (not (has osds osd)) (are_distinct osds) apart in
    (h.0, not_true (has osds osd) d.0, are_members members osds h.1 d.1)

first_some : (osds : List ℕ) → has_some osds ≡ true → is_some (slice_get osds 0) ≡ true
first_some [] e = absurd (true_false (sym e))
first_some (osd ∷ osds) e = refl

pub is_acting : (made : Made) (osds : List ℕ) → list_all (λ osd. has made.members osd) osds ≡ true → are_distinct osds ≡ true → has_some osds ≡ true → IsActing made osds
is_acting made osds all apart some = record { some = first_some osds some; members = are_members made.members osds all apart }

-- each of the members is one
itself : (n : ℕ) → (n == n) ≡ true
itself n = grind (arith, nat_tests)

first_has : (n : ℕ) (rest : Bool) → ((n == n) || rest) ≡ true
first_has n rest = rw (itself n) refl

later_has : (a b : Bool) → b ≡ true → (a || b) ≡ true
later_has true b e = refl
later_has false b e = e

all_have : (members osds : List ℕ) → ((n : ℕ) → has osds n ≡ true → has members n ≡ true) → list_all (λ osd. has members osd) osds ≡ true
all_have members [] turn = refl
all_have members (osd ∷ osds) turn =
    joined (has members osd) (list_all (λ o. has members o) osds) (turn osd (first_has osd (has osds osd)))
    (all_have members osds (λ n e. turn n (later_has (osd == n) (has osds n) e)))

pub members_have : (members : List ℕ) → list_all (λ osd. has members osd) members ≡ true
members_have members = all_have members members (λ n e. e)

-- ---- what a world is made with

-- the groups are the declared ones
pub opened_groups : (settings : Settings) (declared : Declarations) (groups : List PlacementState) → groups ≡ groups_of settings declared
    → AllByRecursion (λ group. IsOpening group) (groups_of settings declared) → AllByRecursion (λ group. IsOpening group) groups
opened_groups settings declared groups e all = subst (AllByRecursion (λ group. IsOpening group)) (sym e) all

pub opened_apart : (settings : Settings) (declared : Declarations) (groups : List PlacementState) → groups ≡ groups_of settings declared → AreApart (mades_of settings declared)
    → AreApart (mades (map own groups))
opened_apart settings declared groups e apart = subst (λ gs. AreApart (mades (map own gs))) (sym e) apart

pub opened_sized : (osds : List Osd) (slots : List OsdSlots) → slots ≡ all_slots osds → AllByRecursion (λ o. IsOsd o) osds → IsTrue (list_all is_sized slots)
opened_sized osds slots e all = subst (λ xs. IsTrue (list_all is_sized xs)) (sym e) (slots_sized osds all)

-- a world that was opened so names what it was made with
pub opening_named : (world : WorldState) (bits : ℕ) (settings : Settings) (declared : Declarations) (script : List Step) → world ≡ pool_opening bits settings declared
    → AreNamed bits (mades_of settings declared) script → AreNamed world.bits (mades world.groups) script
opening_named world bits settings declared script is named = subst (λ w. AreNamed w.bits (mades w.groups) script) (sym is) named

pub ruleset opens = (opened_groups, opened_apart, opened_sized)
