-- What a store holds after the copies of one family were put into it.
use Rattle.std.proofs.Common.{◌≡◌, ℕ, Bool, true, false, cond, Option, Some, refl, sym, ap, ◌∙◌}
use Rattle.std.specs.Prelude.{Result, Ok, Err, OnErr}
use Rattle.std.specs.Ordering.{is_eq, nat_cmp}
use Rattle.std.specs.BTreeMap.{BTreeMap, get as copy_of}
use Rattle.std.specs.BTreeMap.{get as map_of}
use Rattle.pgs_name.specs.Families.{Family, same_family}
use Rattle.pgs_name.specs.Order.{family_cmp}
use Rattle.pgs_name.specs.Total.{family_ties}
use Rattle.pgs_name.proofs.Families.{same_family_is}
use Rattle.pgs_copy.specs.declared.obj_copy.ObjCopy.{ObjCopy}
use Rattle.pgs_store.specs.Stores.{Stored}
use Rattle.pgs_store.specs.Kept.{in_map, copies_in}

in_map_cond : (v : Bool) (copies : BTreeMap ℕ ObjCopy) (m : Option (BTreeMap ℕ ObjCopy)) (q : ℕ)
    → in_map (cond v (Some copies) m) q ≡ cond v (copy_of nat_cmp copies q) (in_map m q)
in_map_cond true copies m q = refl
in_map_cond false copies m q = refl

-- a map in the place of the copies of a family: the order tells it from all others
pub in_map_put : (family f : Family) (copies : BTreeMap ℕ ObjCopy) (m n : Option (BTreeMap ℕ ObjCopy)) (q : ℕ)
    → n ≡ cond (is_eq (family_cmp family f)) (Some copies) m
    → in_map n q ≡ cond (same_family family f) (copy_of nat_cmp copies q) (in_map m q)
in_map_put family f copies m n q e =
    ap (λ k. in_map k q) e
    ∙ in_map_cond (is_eq (family_cmp family f)) copies m q
    ∙ ap (λ v. cond v (copy_of nat_cmp copies q) (in_map m q)) (sym (family_ties family f))

-- the copies of a family became those that a change made of what was there
pub put_seen : (m n : Stored) (family : Family) (copies before : ℕ → Option ObjCopy) (change : (ℕ → Option ObjCopy) → ℕ → Option ObjCopy)
    → ((f : Family) (q : ℕ) → n f q ≡ cond (same_family family f) (copies q) (m f q))
    → ((q : ℕ) → before q ≡ m family q)
    → ((q : ℕ) → copies q ≡ change before q)
    → (f : Family) (q : ℕ) → n f q ≡ cond (same_family family f) (change (m f) q) (m f q)
put_seen m n family copies before change put was is f q =
    let P : Bool → Type 0 = λ v. same_family family f ≡ v → cond v (copies q) (m f q) ≡ cond v (change (m f) q) (m f q) in
    put f q
    ∙ (elim (same_family family f) as P [
      | true ↦ λ same. is q ∙ (λ i. change (λ r. was r i) q) ∙ (λ i. change (m (same_family_is family f same i)) q)
      | false ↦ λ other. refl
    ]) refl

-- the same where a change was made of the copies where they lie
pub changed_seen : (m n : BTreeMap Family (BTreeMap ℕ ObjCopy)) (family : Family) (copies before : BTreeMap ℕ ObjCopy) (change : (ℕ → Option ObjCopy) → ℕ → Option ObjCopy)
    → map_of family_cmp m family ≡ Some before
    → ((f : Family) → map_of family_cmp n f ≡ cond (is_eq (family_cmp family f)) (Some copies) (map_of family_cmp m f))
    → ((q : ℕ) → copy_of nat_cmp copies q ≡ change (copy_of nat_cmp before) q)
    → (f : Family) (q : ℕ) → copies_in n f q ≡ cond (same_family family f) (change (copies_in m f) q) (copies_in m f q)
changed_seen m n family copies before change there put is f q =
    put_seen (copies_in m) (copies_in n) family (copy_of nat_cmp copies) (copy_of nat_cmp before) change
    (λ f q. in_map_put family f copies (map_of family_cmp m f) (map_of family_cmp n f) q (put f)) (λ q. ap (λ o. in_map o q) (sym there)) is f q

either_same : {A : Type 0} (b : Bool) (x : A) → cond b x x ≡ x
either_same true x = refl
either_same false x = refl

pub unchanged_seen : (m n : BTreeMap Family (BTreeMap ℕ ObjCopy)) (family : Family) (copies before : BTreeMap ℕ ObjCopy)
    → map_of family_cmp m family ≡ Some before
    → ((f : Family) → map_of family_cmp n f ≡ cond (is_eq (family_cmp family f)) (Some copies) (map_of family_cmp m f))
    → ((q : ℕ) → copy_of nat_cmp copies q ≡ copy_of nat_cmp before q)
    → (f : Family) (q : ℕ) → copies_in n f q ≡ copies_in m f q
unchanged_seen m n family copies before there put is f q =
    changed_seen m n family copies before (λ c. c) there put is f q ∙ either_same (same_family family f) (copies_in m f q)

-- what holds anyway holds after an error
pub on_err : {A E : Type 0} (r : Result A E) (P : Type 0) → P → OnErr r P
on_err (Ok x) P p = tt
on_err (Err e) P p = p
