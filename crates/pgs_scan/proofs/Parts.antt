-- Numbers of parts, and fronts of lists.
use Rattle.std.proofs.Common.{ℕ, suc, ◌+◌, ◌-◌, ◌*◌, ◌≡◌, ◌<◌, ◌≤◌, nat_lt, true, false, List, ◌++◌, length, take, drop, sym, ap, ◌∙◌, inl, inr, arith}
use Rattle.std.proofs.lemmas.Bool.{cases_lt}
use Rattle.std.proofs.lemmas.Bool.Decides.{nat_tests}
use Rattle.std.proofs.lemmas.List.{length-take, take_min, drop_min}
use Rattle.std.proofs.Math.Nat.{le-div_iff_mul-le}
use Rattle.std.proofs.Math.Seq.{take-add}
use Rattle.pgs_scan.specs.Reads.{parts}

-- tests that follow from each other are the same
pub same_tests : (a b c d : ℕ) → (a < b → c < d) → (c < d → a < b) → nat_lt a b ≡ nat_lt c d
same_tests a b c d there back = grind (arith, nat_tests)

pub is_below : (a b : ℕ) → a < b → nat_lt a b ≡ true
is_below a b h = grind (arith, nat_tests)

pub is_not_below : (a b : ℕ) → b ≤ a → nat_lt a b ≡ false
is_not_below a b h = grind (arith, nat_tests)

pub not_below_is : (a b : ℕ) → nat_lt a b ≡ false → b ≤ a
not_below_is a b h = grind (arith, nat_tests)

-- ---- parts of a size

-- a part is among all exactly where it begins before the end
pub part_begins : (size count k : ℕ) → 1 ≤ size → k < parts size count → k * size < count
part_begins size count k some h =
    let within : suc k * size ≤ count + (size - 1) = (le-div_iff_mul-le {k = size} {x = suc k} {y = count + (size - 1)} some).0 h in
    let more : suc k * size ≡ k * size + size = omega arith in
    omega arith

pub begins_part : (size count k : ℕ) → 1 ≤ size → k * size < count → k < parts size count
begins_part size count k some h =
    let more : suc k * size ≡ k * size + size = omega arith in
    let within : suc k * size ≤ count + (size - 1) = omega arith in
    (le-div_iff_mul-le {k = size} {x = suc k} {y = count + (size - 1)} some).1 within

-- all parts reach the end
pub parts_reach : (size count : ℕ) → 1 ≤ size → count ≤ parts size count * size
parts_reach size count some = elim (cases_lt (parts size count * size) count) [
  | inl h ↦ let more = begins_part size count (parts size count) some h in omega arith
  | inr h ↦ h
]

-- ---- fronts of a list

-- a front with what comes behind it
pub front_more : {A : Type 0} (n m : ℕ) (xs : List A) → take n xs ++ take m (drop (length (take n xs)) xs) ≡ take (n + m) xs
front_more n m xs =
    let long : drop (length (take n xs)) xs ≡ drop n xs = ap (λ l. drop l xs) (length-take n xs) ∙ drop_min n xs in
    ap (λ r. take n xs ++ take m r) long ∙ sym (take-add n m xs)

-- a front is one of its own length
pub front_itself : {A : Type 0} (n : ℕ) (xs : List A) → take n xs ≡ take (length (take n xs)) xs
front_itself n xs = sym (ap (λ l. take l xs) (length-take n xs) ∙ take_min n xs)

pub parts_more : (k size : ℕ) → k * size + size ≡ suc k * size
parts_more k size = omega arith
