-- Reading fields alike one after another, as a loop does.
use Rattle.std.proofs.Common.{◌≡◌, ℕ, suc, ◌-◌, ◌+◌, ◌≤◌, ◌<◌, List, [], ◌∷◌, ◌++◌, Result, Ok, Err, refl, sym, ap, ◌∙◌, append_assoc, append-nil, arith}
use Rattle.pgs_codec.specs.Reading.{Rest, Refusal, ◌>>=◌}
use Rattle.pgs_codec.specs.Fields.{Field, read_all}
use Rattle.pgs_codec.specs.Answers.{Fails}
use Rattle.pgs_codec.specs.declared.field_error.FieldError.{FieldError}
use Rattle.pgs_codec.specs.declared.field_error.FieldError.TheVariants as errors

-- what was read before, and what is still read
abbrev pub with_front : {A : Type 0} → List A → Result (List A × Rest) Refusal → Result (List A × Rest) Refusal
with_front front read = read >>= λ x. Ok (front ++ x.0, x.1)

regroup : {A : Type 0} (front : List A) (x : A) (read : Result (List A × Rest) Refusal) → with_front front (read >>= λ xs. Ok (x ∷ xs.0, xs.1)) ≡ with_front (front ++ x ∷ []) read
regroup {A} front x (Ok xs) = ap (λ (all : List A). Ok (all, xs.1)) (simp append_assoc)
regroup front x (Err e) = refl

-- one more is read
pub goes_on : {A : Type 0} (a : Field A) (front : List A) (count i : ℕ) (rest : Rest) (x : A) (after : Rest) (total : Result (List A × Rest) Refusal) → i < count
    → a.read rest ≡ Ok (x, after) → with_front front (read_all a (count - i) rest) ≡ total → with_front (front ++ x ∷ []) (read_all a (count - (i + 1)) after) ≡ total
unfolding read_all
goes_on a front count i rest x after total lt h so_far =
    let k : count - i ≡ suc (count - (i + 1)) = omega arith in
    let one : with_front front (read_all a (count - i) rest) ≡ with_front (front ++ x ∷ []) (read_all a (count - (i + 1)) after) = rw (k, h) (regroup front x (read_all a (count - (i + 1)) after)) in
    sym one ∙ so_far

-- one is refused
pub stops : {A : Type 0} (a : Field A) (e : FieldError) (front : List A) (count i : ℕ) (rest : Rest) (total : Result (List A × Rest) Refusal) → i < count
    → Fails e (a.read rest) → with_front front (read_all a (count - i) rest) ≡ total → Fails e total
unfolding read_all
stops a errors.Memory front count i rest total lt h so_far = tt
stops a (errors.Short at) front count i rest total lt h so_far =
    let k : count - i ≡ suc (count - (i + 1)) = omega arith in
    sym so_far ∙ rw (k, h) refl
stops a (errors.Bad at) front count i rest total lt h so_far =
    let k : count - i ≡ suc (count - (i + 1)) = omega arith in
    sym so_far ∙ rw (k, h) refl

-- all were read
pub ends : {A : Type 0} (a : Field A) (front : List A) (count i : ℕ) (rest : Rest) (total : Result (List A × Rest) Refusal) → count ≤ i
    → with_front front (read_all a (count - i) rest) ≡ total → total ≡ Ok (front, rest)
unfolding read_all
ends {A} a front count i rest total le so_far =
    let k : count - i ≡ 0 = omega arith in
    sym so_far ∙ rw k (ap (λ (all : List A). Ok (all, rest)) (append-nil front))
