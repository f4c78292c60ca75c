-- Sums of weights over lists whose elements stand once each.
use Rattle.std.proofs.Common.{◌≡◌, ℕ, ◌+◌, Bool, true, false, cond, ◌||◌, if◌then◌else◌, List, [], ◌∷◌, ◌++◌, refl, sym, ap, ◌∙◌, subst, arith, inl, inr}
use Rattle.std.specs.List.{list_any, sum_by}
use Rattle.std.proofs.lemmas.List.Sums.{sum_by-cons, sum_by_push}
use Rattle.std.proofs.lemmas.List.Folds.{list_any-append}
use Rattle.pgs_bytes.proofs.Facts.{true_or_false, true_false}

-- ---- elements, each once

-- an element stands in a list, by a test of what is the same
abbrev pub has : {A : Type 0} → (A → A → Bool) → List A → A → Bool
has same list a = list_any (same a) list

abbrev pub AreApart : {A : Type 0} → (A → A → Bool) → List A → Type 0
AreApart same [] = Unit {0}
AreApart same (a ∷ list) = (has same list a ≡ false) × AreApart same list

-- a list with one more at its end, unless it has it
abbrev pub with_one : {A : Type 0} → (A → A → Bool) → A → List A → List A
with_one same a list = if has same list a then list else list ++ a ∷ []

-- and with several
abbrev pub with_all : {A : Type 0} → (A → A → Bool) → List A → List A → List A
with_all same [] list = list
with_all same (k ∷ ks) list = with_one same k (with_all same ks list)

-- the weights of what stands in a list, each counted once
abbrev pub weighed : {A : Type 0} → (A → A → Bool) → (A → ℕ) → List A → ℕ
weighed same weight [] = 0
weighed same weight (k ∷ ks) = (if has same ks k then 0 else weight k) + weighed same weight ks

-- ---- tests

pub either_false : (a b : Bool) → (a || b) ≡ false → (a ≡ false) × (b ≡ false)
either_false true b e = absurd (true_false e)
either_false false b e = (refl, e)

neither : (a b : Bool) → a ≡ false → b ≡ false → (a || b) ≡ false
neither a b p q = cc

or_left : (a b : Bool) → a ≡ true → (a || b) ≡ true
or_left a b p = cc

or_right : (a b : Bool) → b ≡ true → (a || b) ≡ true
or_right true b q = refl
or_right false b q = q

-- ---- sums

-- a weight where its element is named, and where it isn't
abbrev within : Bool → ℕ → ℕ
within named n = cond named n 0

abbrev without : Bool → ℕ → ℕ
without named n = cond named 0 n

parted : (named : Bool) (n : ℕ) → n ≡ within named n + without named n
parted true n = omega arith
parted false n = omega arith

same_sums : {A : Type 0} (a b : A → ℕ) (list : List A) → ((x : A) → a x ≡ b x) → sum_by a list ≡ sum_by b list
same_sums {A} a b list h = let e : a ≡ b = λ i x. h x i in ap (λ w. sum_by w list) e

sum_of_both : {A : Type 0} (a b c : A → ℕ) (list : List A) → ((x : A) → c x ≡ a x + b x) → sum_by c list ≡ sum_by a list + sum_by b list
sum_of_both a b c [] h = refl
sum_of_both a b c (x ∷ xs) h =
    let p : sum_by a (x ∷ xs) ≡ a x + sum_by a xs = sum_by-cons a x xs in
    let q : sum_by b (x ∷ xs) ≡ b x + sum_by b xs = sum_by-cons b x xs in
    let r : sum_by c (x ∷ xs) ≡ c x + sum_by c xs = sum_by-cons c x xs in
    let here : c x ≡ a x + b x = h x in
    let rest : sum_by c xs ≡ sum_by a xs + sum_by b xs = sum_of_both a b c xs h in
    omega arith

no_sum : {A : Type 0} (list : List A) → sum_by (λ x. 0) list ≡ 0
no_sum [] = refl
no_sum (x ∷ xs) =
    let p : sum_by (λ y. 0) (x ∷ xs) ≡ 0 + sum_by (λ y. 0) xs = sum_by-cons (λ y. 0) x xs in
    let q : sum_by (λ y. 0) xs ≡ 0 = no_sum xs in
    omega arith

-- ---- with a test that is passed by the same alone

module _ {A : Type 0} (same : A → A → Bool) (same_is : (a b : A) → same a b ≡ true → a ≡ b) (is_same : (a : A) → same a a ≡ true) where
  pub turned : (a b : A) → same a b ≡ false → same b a ≡ false
  turned a b e =
      elim (true_or_false (same b a)) [
        | inl alike ↦ absurd (true_false (sym (subst (λ x. same a x ≡ true) (sym (same_is b a alike)) (is_same a)) ∙ e))
        | inr other ↦ other
      ]

  -- ---- lists with more

  has_last : (list : List A) (last other : A) → has same list other ≡ false → same other last ≡ false → has same (list ++ last ∷ []) other ≡ false
  has_last list last other p q =
      list_any-append (same other) list (last ∷ []) ∙ neither (has same list other) (has same (last ∷ []) other) p (neither (same other last) false q refl)

  apart_last : (list : List A) (last : A) → AreApart same list → has same list last ≡ false → AreApart same (list ++ last ∷ [])
  apart_last [] last apart new = (refl, tt)
  apart_last (a ∷ list) last apart new =
      let parts = either_false (same last a) (has same list last) new in
      (has_last list last a apart.0 (turned last a parts.0), apart_last list last apart.1 parts.1)

  apart_one : (list : List A) (last : A) → AreApart same list → AreApart same (with_one same last list)
  apart_one list last apart =
      let P : Bool → Type 0 = λ v. has same list last ≡ v → AreApart same (cond v list (list ++ last ∷ [])) in
      (elim (has same list last) as P [
        | true ↦ λ old. apart
        | false ↦ λ new. apart_last list last apart new
      ]) refl

  pub apart_all : (ks list : List A) → AreApart same list → AreApart same (with_all same ks list)
  apart_all [] list apart = apart
  apart_all (k ∷ ks) list apart = apart_one (with_all same ks list) k (apart_all ks list apart)

  has_one : (list : List A) (last other : A) → has same (with_one same last list) other ≡ false → (has same list other ≡ false) × (same other last ≡ false)
  has_one list last other e =
      let P : Bool → Type 0 = λ v. has same list last ≡ v → has same (cond v list (list ++ last ∷ [])) other ≡ false
      → (has same list other ≡ false) × (same other last ≡ false) in
      (elim (has same list last) as P [
        | true ↦ λ old none. (
          none,
          elim (true_or_false (same other last)) [
            | inl alike ↦ absurd (true_false (sym old ∙ ap (has same list) (sym (same_is other last alike)) ∙ none))
            | inr differs ↦ differs
          ],
        )
        | false ↦ λ new none.
            let parts = either_false (has same list other) (has same (last ∷ []) other) (sym (list_any-append (same other) list (last ∷ [])) ∙ none) in
            (parts.0, (either_false (same other last) false parts.1).0)
      ]) refl e

  -- what a list with more doesn't have, the list hasn't, and it isn't one of those that came
  pub has_all : (ks list : List A) (other : A) → has same (with_all same ks list) other ≡ false → (has same list other ≡ false) × (has same ks other ≡ false)
  has_all [] list other e = (e, refl)
  has_all (k ∷ ks) list other e =
      let one = has_one (with_all same ks list) k other e in
      let rest = has_all ks list other one.0 in
      (rest.0, neither (same other k) (has same ks other) one.1 rest.1)

  all_there : (ks list : List A) (a : A) → has same ks a ≡ true → has same (with_all same ks list) a ≡ true
  all_there ks list a e =
      elim (true_or_false (has same (with_all same ks list) a)) [
        | inl there ↦ there
        | inr none ↦ absurd (true_false (sym e ∙ (has_all ks list a none).1))
      ]

  -- ---- weights that differ at one element

  unchanged : (a b : A → ℕ) (k : A) → ((x : A) → same k x ≡ false → a x ≡ b x) → (list : List A) → has same list k ≡ false → sum_by a list ≡ sum_by b list
  unchanged a b k others [] e = refl
  unchanged a b k others (x ∷ xs) e =
      let parts = either_false (same k x) (has same xs k) e in
      let p : sum_by a (x ∷ xs) ≡ a x + sum_by a xs = sum_by-cons a x xs in
      let q : sum_by b (x ∷ xs) ≡ b x + sum_by b xs = sum_by-cons b x xs in
      let rest : sum_by a xs ≡ sum_by b xs = unchanged a b k others xs parts.1 in
      let here : a x ≡ b x = others x parts.0 in
      omega arith

  -- a weight that is more at one element alone, which had none
  one_more : (a b : A → ℕ) (k : A) → ((x : A) → same k x ≡ false → a x ≡ b x) → b k ≡ 0 → (list : List A) → AreApart same list → has same list k ≡ true
      → sum_by a list ≡ a k + sum_by b list
  one_more a b k others none [] apart e = absurd (true_false (sym e))
  one_more a b k others none (x ∷ xs) apart e =
      let p : sum_by a (x ∷ xs) ≡ a x + sum_by a xs = sum_by-cons a x xs in
      let q : sum_by b (x ∷ xs) ≡ b x + sum_by b xs = sum_by-cons b x xs in
      let P : Bool → Type 0 = λ v. same k x ≡ v → (v || has same xs k) ≡ true → sum_by a (x ∷ xs) ≡ a k + sum_by b (x ∷ xs) in
      (elim (same k x) as P [
        | true ↦ λ alike there.
            let is : k ≡ x = same_is k x alike in
            let rest : sum_by a xs ≡ sum_by b xs = unchanged a b k others xs (subst (λ y. has same xs y ≡ false) (sym is) apart.0) in
            let m : a k ≡ a x = ap a is in
            let n : b k ≡ b x = ap b is in
            omega arith
        | false ↦ λ other there.
            let rest : sum_by a xs ≡ a k + sum_by b xs = one_more a b k others none xs apart.1 there in
            let here : a x ≡ b x = others x other in
            omega arith
      ]) refl e

  -- ---- weights that differ at several

  -- the weight of what stands in ks, and of what doesn't
  abbrev inside : (A → ℕ) → List A → A → ℕ
  inside weight ks x = within (has same ks x) (weight x)

  abbrev outside : (A → ℕ) → List A → A → ℕ
  outside weight ks x = without (has same ks x) (weight x)

  again_inside : (weight : A → ℕ) (k : A) (ks : List A) → has same ks k ≡ true → (x : A) → inside weight (k ∷ ks) x ≡ inside weight ks x
  again_inside weight k ks again x =
      let P : Bool → Type 0 = λ v. same x k ≡ v → within (v || has same ks x) (weight x) ≡ within (has same ks x) (weight x) in
      (elim (same x k) as P [
        | true ↦ λ alike. ap (λ v. within v (weight x)) (sym (ap (has same ks) (same_is x k alike) ∙ again))
        | false ↦ λ other. refl
      ]) refl

  -- what stands in ks weighs in the list what it weighs in ks
  inside_sum : (weight : A → ℕ) (ks list : List A) → AreApart same list → ((x : A) → has same ks x ≡ true → has same list x ≡ true)
      → sum_by (inside weight ks) list ≡ weighed same weight ks
  inside_sum weight [] list apart there = no_sum list
  inside_sum weight (k ∷ ks) list apart there =
      let rest : sum_by (inside weight ks) list ≡ weighed same weight ks = inside_sum weight ks list apart (λ x e. there x (or_right (same x k) (has same ks x) e)) in
      let P : Bool → Type 0 = λ v. has same ks k ≡ v → sum_by (inside weight (k ∷ ks)) list ≡ cond v 0 (weight k) + weighed same weight ks in
      (elim (has same ks k) as P [
        | true ↦ λ again.
            let p : sum_by (inside weight (k ∷ ks)) list ≡ sum_by (inside weight ks) list =
            same_sums (inside weight (k ∷ ks)) (inside weight ks) list (again_inside weight k ks again) in
            omega arith
        | false ↦ λ new.
            let none : inside weight ks k ≡ 0 = ap (λ v. within v (weight k)) new in
            let here : inside weight (k ∷ ks) k ≡ weight k = ap (λ v. within (v || has same ks k) (weight k)) (is_same k) in
            let p : sum_by (inside weight (k ∷ ks)) list ≡ inside weight (k ∷ ks) k + sum_by (inside weight ks) list =
            one_more (inside weight (k ∷ ks)) (inside weight ks) k (λ x other. ap (λ v. within (v || has same ks x) (weight x)) (turned k x other)) none list apart
            (there k (or_left (same k k) (has same ks k) (is_same k))) in
            omega arith
      ]) refl

  -- elements that weigh nothing add nothing
  sum_all : (weight : A → ℕ) (ks list : List A) → ((x : A) → has same list x ≡ false → weight x ≡ 0) → sum_by weight (with_all same ks list) ≡ sum_by weight list
  sum_all weight [] list none = refl
  sum_all weight (k ∷ ks) list none =
      let more : List A = with_all same ks list in
      let rest : sum_by weight more ≡ sum_by weight list = sum_all weight ks list none in
      let P : Bool → Type 0 = λ v. has same more k ≡ v → sum_by weight (cond v more (more ++ k ∷ [])) ≡ sum_by weight list in
      (elim (has same more k) as P [
        | true ↦ λ old. rest
        | false ↦ λ new.
            let p : sum_by weight (more ++ k ∷ []) ≡ sum_by weight more + weight k = sum_by_push weight more k in
            let z : weight k ≡ 0 = none k (has_all ks list k new).0 in
            omega arith
      ]) refl

  same_outside : (old new : A → ℕ) (ks : List A) → ((x : A) → has same ks x ≡ false → new x ≡ old x) → (x : A) → outside new ks x ≡ outside old ks x
  same_outside old new ks others x =
      let P : Bool → Type 0 = λ v. has same ks x ≡ v → without v (new x) ≡ without v (old x) in
      (elim (has same ks x) as P [
        | true ↦ λ named. refl
        | false ↦ λ other. others x other
      ]) refl

  -- The weights of a list with more, where what the list hasn't weighed nothing before, and what isn't in ks weighs what it weighed.
  pub weighed_anew : (old new : A → ℕ) (ks list : List A) → AreApart same list → ((x : A) → has same list x ≡ false → old x ≡ 0)
      → ((x : A) → has same ks x ≡ false → new x ≡ old x)
      → sum_by new (with_all same ks list) + weighed same old ks ≡ sum_by old list + weighed same new ks
  weighed_anew old new ks list apart none others =
      let more : List A = with_all same ks list in
      let each : AreApart same more = apart_all ks list apart in
      let a : sum_by old more ≡ sum_by (inside old ks) more + sum_by (outside old ks) more =
      sum_of_both (inside old ks) (outside old ks) old more (λ x. parted (has same ks x) (old x)) in
      let b : sum_by new more ≡ sum_by (inside new ks) more + sum_by (outside new ks) more =
      sum_of_both (inside new ks) (outside new ks) new more (λ x. parted (has same ks x) (new x)) in
      let c : sum_by (inside old ks) more ≡ weighed same old ks = inside_sum old ks more each (all_there ks list) in
      let d : sum_by (inside new ks) more ≡ weighed same new ks = inside_sum new ks more each (all_there ks list) in
      let e : sum_by (outside new ks) more ≡ sum_by (outside old ks) more = same_sums (outside new ks) (outside old ks) more (same_outside old new ks others) in
      let f : sum_by old more ≡ sum_by old list = sum_all old ks list none in
      omega arith
