-- The group that a step of a script in order names.
use Rattle.std.proofs.Common.{◌≡◌, ℕ, cond, ◌==◌, ◌&&◌, ◌||◌, Bool, true, false, List, [], ◌∷◌, Option, Some, refl, sym, ◌∙◌, subst, inl, inr, arith}
use Rattle.std.specs.Prelude.{nat_eq}
use Rattle.std.specs.List.{list_any, list_all, AllByRecursion}
use Rattle.std.proofs.lemmas.Bool.Decides.{nat_tests}
use Rattle.pgs_bytes.proofs.Facts.{true_false, true_or_false}
use Rattle.pgs_order.specs.Order.{has, has_group, is_in, is_member, are_members, group_of}
use Rattle.pgs_order.specs.Ordered.{IsGroup, AreGroups, group_numbers}
use Rattle.pgs_order.specs.declared.declarations.Osd.{Osd}
use Rattle.pgs_order.specs.declared.declarations.Group.{Group}
use Rattle.pgs_order.proofs.Lists.{same, all_passed, first_apart, others_apart}

-- the one group of a number: it is right, and an OSD that is named beside its number is its member
pub record Found (bits : Option ℕ) (osds : List Osd) (groups : List Group) (number : ℕ) : Type 0 where
  pub group : Group
  pub is : group_of groups number ≡ Some group
  pub numbered : group.group ≡ number
  pub right : IsGroup bits osds group
  pub members : (osd : ℕ) → is_member groups number osd ≡ has group.members osd

-- no other group has the number
alone : (n m : ℕ) → (n == m) ≡ true → (k : ℕ) → nat_eq n k ≡ false → (k == m) ≡ false
alone n m e k h = grind (arith, nat_tests)

no_other : (n number osd : ℕ) (gs : List Group) → (n == number) ≡ true → AllByRecursion (λ m. nat_eq n m ≡ false) (group_numbers gs)
    → list_any (is_in number osd) gs ≡ false
no_other n number osd [] e all = refl
no_other n number osd (g ∷ gs) e all = rw (alone n number e g.group all.0) (no_other n number osd gs e all.1)

or_false : (a b : Bool) → b ≡ false → (a || b) ≡ a
or_false true b e = refl
or_false false b e = e

first_member : (test : Bool) (found rest : Bool) → test ≡ true → rest ≡ false → ((test && found) || rest) ≡ found
first_member true found rest e h = or_false found rest h
first_member false found rest e h = absurd (true_false (sym e))

later_member : (test : Bool) (found rest : Bool) → test ≡ false → ((test && found) || rest) ≡ rest
later_member true found rest e = absurd (true_false e)
later_member false found rest e = refl

first_of : (test : Bool) (g : Group) (rest : Option Group) → test ≡ true → cond test (Some g) rest ≡ Some g
first_of true g rest e = refl
first_of false g rest e = absurd (true_false (sym e))

later_of : (test : Bool) (g : Group) (rest : Option Group) → test ≡ false → cond test (Some g) rest ≡ rest
later_of true g rest e = absurd (true_false e)
later_of false g rest e = refl

pub found : (bits : Option ℕ) (osds : List Osd) (gs : List Group) (number : ℕ) → AreGroups bits osds gs → has_group gs number ≡ true
    → Found bits osds gs number
found bits osds [] number are e = absurd (true_false (sym e))
found bits osds (g ∷ gs) number are e = elim (true_or_false (g.group == number)) [
  | inl hit ↦ record {
    group = g;
    is = first_of (g.group == number) g (group_of gs number) hit;
    numbered = same g.group number hit;
    right = are.each.0;
    members = λ osd. first_member (g.group == number) (has g.members osd) (list_any (is_in number osd) gs) hit (no_other g.group number osd gs hit (first_apart (λ g. g.group) g gs are.apart));
  }
  | inr miss ↦
      let rest : has_group gs number ≡ true = subst (λ b. (b || has_group gs number) ≡ true) miss e in
      let f = found bits osds gs number (record { each = are.each.1; apart = others_apart (λ g. g.group) g gs are.apart }) rest in
      record {
        group = f.group;
        is = later_of (g.group == number) g (group_of gs number) miss ∙ f.is;
        numbered = f.numbered;
        right = f.right;
        members = λ osd. later_member (g.group == number) (has g.members osd) (list_any (is_in number osd) gs) miss ∙ f.members osd;
      }
]

-- a member's group is declared
pub member_group : (gs : List Group) (number osd : ℕ) → is_member gs number osd ≡ true → has_group gs number ≡ true
member_group [] number osd e = e
member_group (g ∷ gs) number osd e = one (g.group == number) (has g.members osd) (list_any (is_in number osd) gs) (has_group gs number) e (member_group gs number osd)
  where
    one : (a b c d : Bool) → ((a && b) || c) ≡ true → (c ≡ true → d ≡ true) → (a || d) ≡ true
    one true b c d e h = refl
    one false b c d e h = h e

-- members that are named beside the number are its members
pub acting_found : (bits : Option ℕ) (osds : List Osd) (gs : List Group) (number : ℕ) (f : Found bits osds gs number) (acting : List ℕ)
    → are_members gs number acting ≡ true → list_all (λ osd. has f.group.members osd) acting ≡ true
acting_found bits osds gs number f acting e =
    all_passed (λ osd. is_member gs number osd) (λ osd. has f.group.members osd) (λ osd h. sym (f.members osd) ∙ h) acting e
