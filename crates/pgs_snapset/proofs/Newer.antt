-- Either a snap is newer than a number, or none is.
use Rattle.std.proofs.Common.{◌≡◌, ℕ, Bool, true, false, cond, not, ◌&&◌, ◌||◌, List, [], ◌∷◌, Option, Some, None, Result, Ok, Err, refl, sym, subst, ◌∙◌, arith}
use Rattle.std.specs.Prelude.{nat_lt, nat_le, ◌↔◌, IsNone, IsTrue, IfOk}
use Rattle.std.specs.List.{list_any, list_all, filter}
use Rattle.std.proofs.lemmas.Bool.Decides.{nat_tests}
use Rattle.pgs_bytes.proofs.Facts.{true_false}
use Rattle.pgs_snapset.specs.declared.clone_facts.CloneFacts.{CloneFacts}
use Rattle.pgs_snapset.specs.declared.snapset.SnapSet.{SnapSet}
use Rattle.pgs_snapset.specs.Cloning.{clone_made}

older : (seq s : ℕ) → not (nat_lt seq s) ≡ nat_le s seq
older seq s = grind (arith, nat_tests)

one_way : (a b : Bool) → not (a || b) ≡ (not a && not b)
one_way true b = refl
one_way false b = refl

all_older : (seq : ℕ) (snaps : List ℕ) → not (list_any (λ s. nat_lt seq s) snaps) ≡ list_all (λ s. nat_le s seq) snaps
all_older seq [] = refl
all_older seq (s ∷ snaps) =
    one_way (nat_lt seq s) (list_any (λ t. nat_lt seq t) snaps)
    ∙ (λ i. older seq s i && all_older seq snaps i)

none_where : {A : Type 0} (test : Bool) (x : A) → IsNone (cond test (Some x) None) ↔ IsTrue (not test)
none_where true x = (λ h. absurd (true_false h), λ h. absurd (true_false (sym h)))
none_where false x = (λ h. refl, λ h. refl)

none_newer : (set : SnapSet) (seq : ℕ) (snaps : List ℕ) (size : ℕ) → IsNone (clone_made set seq snaps size) ↔ IsTrue (list_all (λ s. nat_le s set.seq) snaps)
none_newer set seq snaps size =
    subst (λ (t : Bool). IsNone (clone_made set seq snaps size) ↔ IsTrue t) (all_older set.seq snaps)
    (none_where (list_any (λ s. nat_lt set.seq s) snaps) (record { snap = seq; size = size; snaps = filter (λ s. nat_lt set.seq s) snaps }))

pub none_told : {E : Type 0} (set : SnapSet) (seq : ℕ) (snaps : List ℕ) (size : ℕ) (r : Result (Option CloneFacts) E) → IfOk r (λ made. made ≡ clone_made set seq snaps size)
    → IfOk r (λ made. IsNone made ↔ IsTrue (list_all (λ s. nat_le s set.seq) snaps))
none_told set seq snaps size (Ok made) e = subst (λ (o : Option CloneFacts). IsNone o ↔ IsTrue (list_all (λ s. nat_le s set.seq) snaps)) (sym e) (none_newer set seq snaps size)
none_told set seq snaps size (Err e) h = tt
