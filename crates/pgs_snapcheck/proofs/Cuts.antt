-- Where views ascend, those of the first one's family stand in front.
use Rattle.std.proofs.Common.{ℕ, ◌≡◌, inl, inr, false, List, [], ◌∷◌, ◌++◌, length, take, drop, sym, ap, ◌∙◌, subst}
use Rattle.std.specs.declared.cmp.Ordering.TheVariants.{Less}
use Rattle.std.specs.List.{AllByRecursion, prefix_len, take_while}
use Rattle.std.specs.Ordering.{is_le}
use Rattle.std.specs.List.Sorted.{IsStrictlySortedBy}
use Rattle.std.proofs.lemmas.List.{take-append-drop}
use Rattle.std.proofs.lemmas.List.Folds.{length-prefix_len}
use Rattle.pgs_bytes.proofs.Facts.{true_false, true_or_false}
use Rattle.pgs_name.specs.Positions.{position_cmp}
use Rattle.pgs_name.proofs.Families.{family_is_same}
use Rattle.pgs_name.proofs.Ordered.{together}
use Rattle.pgs_snapcheck.specs.Check.{AreAscending}
use Rattle.pgs_snapcheck.specs.Runs.{is_beside, IsFirstRun}
use Rattle.pgs_snapcheck.specs.declared.view.View.{View}
use Rattle.pgs_snapcheck.proofs.Lists.{Stops, IsFront, is_front}

abbrev Below : View → View → Type 0
Below a b = position_cmp a.id b.id ≡ Less

-- behind one that isn't of a family, none is
later : (first y z : View) → Below first y → Below y z → is_beside first y ≡ false → is_beside first z ≡ false
later first y z a b d = elim (true_or_false (is_beside first z)) [
  | inl same ↦ absurd (true_false (sym (together first.id y.id z.id (ap is_le a) (ap is_le b) same) ∙ d))
  | inr apart ↦ apart
]

all_later : (first y : View) → Below first y → is_beside first y ≡ false → (zs : List View) → AllByRecursion (λ z. Below y z) zs
    → AllByRecursion (λ z. is_beside first z ≡ false) zs
all_later first y a d [] h = tt
all_later first y a d (z ∷ zs) h = (later first y z a h.0 d, all_later first y a d zs h.1)

all_back : (P : View → Type 0) (xs ys : List View) → AllByRecursion P (xs ++ ys) → AllByRecursion P ys
all_back P [] ys h = h
all_back P (x ∷ xs) ys h = all_back P xs ys h.1

pub ascends_behind : (xs ys : List View) → AreAscending (xs ++ ys) → AreAscending ys
unfolding IsStrictlySortedBy
ascends_behind [] ys h = h
ascends_behind (x ∷ xs) ys h = ascends_behind xs ys h.1

others_of : (first : View) (behind : List View) → AllByRecursion (λ z. Below first z) behind → AreAscending behind → Stops (is_beside first) behind
    → AllByRecursion (λ z. is_beside first z ≡ false) behind
unfolding IsStrictlySortedBy
others_of first [] h k d = tt
others_of first (y ∷ ys) h k d = (d, all_later first y h.0 d ys k.0)

run_by : (first : View) (more family behind : List View) → AreAscending (first ∷ more) → first ∷ more ≡ family ++ behind → IsFront (is_beside first) family behind
    → IsFirstRun (first ∷ more) family behind
unfolding IsStrictlySortedBy
run_by first more [] [] up e front = absurd (cc)
run_by first more [] (y ∷ behind) up e front =
    absurd (true_false (sym (family_is_same first.id.family) ∙ ap (λ v. is_beside first v) (let h : first ≡ y = cc in h) ∙ front.1))
run_by first more (x ∷ family) behind up e front =
    let head : x ≡ first = cc in
    let tail : more ≡ family ++ behind = cc in
    record {
      first = first;
      more = family;
      begins = ap (λ z. z ∷ family) head;
      whole = e;
      beside = front.0;
      others =
          others_of first behind (all_back (λ z. Below first z) family behind (subst (AllByRecursion (λ z. Below first z)) tail up.0))
          (ascends_behind family behind (subst AreAscending tail up.1)) front.1;
    }

-- the first and those behind it of its family
run_of : (first : View) (more : List View) → AreAscending (first ∷ more)
    → IsFirstRun (first ∷ more) (take (prefix_len (is_beside first) (first ∷ more)) (first ∷ more)) (drop (prefix_len (is_beside first) (first ∷ more)) (first ∷ more))
run_of first more up =
    let n : ℕ = prefix_len (is_beside first) (first ∷ more) in
    run_by first more (take n (first ∷ more)) (drop n (first ∷ more)) up (sym (take-append-drop n (first ∷ more))) (is_front (is_beside first) (first ∷ more))

run_at : (first : View) (more : List View) (n : ℕ) → AreAscending (first ∷ more) → n ≡ prefix_len (is_beside first) (first ∷ more)
    → IsFirstRun (first ∷ more) (take n (first ∷ more)) (drop n (first ∷ more))
run_at first more n up e = subst (λ k. IsFirstRun (first ∷ more) (take k (first ∷ more)) (drop k (first ∷ more))) (sym e) (run_of first more up)

-- views that are cut behind the first one's family
pub run_cut : (views family behind : List View) (first : View) (more : List View) (n : ℕ) → AreAscending views → views ≡ first ∷ more
    → n ≡ length (take_while (is_beside first) views) → family ≡ take n views → behind ≡ drop n views → IsFirstRun views family behind
run_cut views family behind first more n up e long front back =
    let count : n ≡ prefix_len (is_beside first) views = long ∙ length-prefix_len (is_beside first) views in
    let cut : IsFirstRun views (take n views) (drop n views) =
    subst (λ l. AreAscending l → n ≡ prefix_len (is_beside first) l → IsFirstRun l (take n l) (drop n l)) (sym e) (run_at first more n) up count in
    subst (λ l. IsFirstRun views l behind) (sym front) (subst (λ l. IsFirstRun views (take n views) l) (sym back) cut)
