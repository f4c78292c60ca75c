-- The laws of fields in a row.
use Rattle.std.proofs.Common.{◌≡◌, ℕ, zero, suc, ◌+◌, ◌-◌, ◌<◌, ◌≤◌, ◌&&◌, Bool, true, false, get_or, take, drop, drop-cons, add-one, List, [], ◌∷◌, ◌++◌, length, length-append, Option, Some, None, Result, Ok, Err, refl, sym, ap, subst, ◌∙◌, append_assoc, append-nil, arith}
use Rattle.std.specs.List.{flat_map, list_all}
use Rattle.std.proofs.Math.Seq.{take-suc}
use Rattle.std.proofs.Math.ListN.{drop_of_length-le}
use Rattle.std.specs.Prelude.{slice_get}
use Rattle.pgs_bytes.proofs.Facts.{both, joined}
use Rattle.pgs_codec.specs.Reading.{Rest, Refusal, ◌>>=◌}
use Rattle.pgs_codec.specs.Fields.{Field, u32, such, AreBytes, IsRead, IsSpelling}
use Rattle.pgs_codec.proofs.Laws.{at, u32_laws, such_laws}
use Rattle.pgs_codec.proofs.Steps.{ok_same, step_of, bytes_behind}
use Rattle.pgs_codec.specs.Answers.{Fails}
use Rattle.pgs_codec.specs.declared.field_error.FieldError.{FieldError}
use Rattle.pgs_codec.specs.declared.field_error.FieldError.TheVariants as errors
use Rattle.pgs_codec.proofs.Loop.{with_front}
use Rattle.pgs_map_encoding.specs.Chains.{chain_fits, read_chain, chained, last_of}

-- how one is spelled doesn't depend on the one before it
abbrev pub AreAlike : {A : Type 0} → (A → List ℕ) → (Option A → Field A) → Type 0
AreAlike {A} spell next = (last : Option A) (x : A) → (next last).spell x ≡ spell x

-- one that was read behind another
pub record AreRead {A : Type 0} (spell : A → List ℕ) (next : Option A → Field A) (last : Option A) (n : ℕ) (rest : Rest) (x : List A × Rest) : Type 0 where
  pub bytes : rest.left ≡ flat_map spell x.0 ++ x.1.left
  pub place : x.1.place ≡ rest.place + length (flat_map spell x.0)
  pub many : length x.0 ≡ n
  pub fit : chain_fits next last x.0 ≡ true

chain_again : {A : Type 0} (spell : A → List ℕ) (next : Option A → Field A) → ((last : Option A) → IsSpelling (next last)) → AreAlike spell next → (last : Option A) (xs : List A) (place : ℕ) (more : List ℕ) → chain_fits next last xs ≡ true
    → read_chain next last (length xs) (at place (flat_map spell xs ++ more)) ≡ Ok (xs, at (place + length (flat_map spell xs)) more)
unfolding read_chain
chain_again spell next la alike last [] place more e = ap (λ (n : ℕ). Ok ([], at n more)) (omega arith)
chain_again {A} spell next la alike last (x ∷ xs) place more e =
    let h = both ((next last).fits x) (chain_fits next (Some x) xs) e in
    let s : List ℕ = (next last).spell x in
    let t : List ℕ = flat_map spell xs in
    let same : spell x ++ t ≡ s ++ t = ap (λ (w : List ℕ). w ++ t) (sym (alike last x)) in
    let first : (next last).read (at place (s ++ (t ++ more))) ≡ Ok (x, at (place + length s) (t ++ more)) = (la last).again x place (t ++ more) h.0 in
    let then : read_chain next (Some x) (length xs) (at (place + length s) (t ++ more)) ≡ Ok (xs, at ((place + length s) + length t) more) = chain_again spell next la alike (Some x) xs (place + length s) more h.1 in
    let long : (place + length s) + length t ≡ place + length (spell x ++ t) = omega (arith, length-append s t, ap length same) in
    ap (λ (w : List ℕ). read_chain next last (suc (length xs)) (at place w)) (ap (λ (w : List ℕ). w ++ more) same ∙ append_assoc s t more)
    ∙ rw (first, then) (ap (λ (n : ℕ). Ok (x ∷ xs, at n more)) long)

chain_found : {A : Type 0} (spell : A → List ℕ) (next : Option A → Field A) → ((last : Option A) → IsSpelling (next last)) → AreAlike spell next → (last : Option A) (n : ℕ) (rest : Rest) (x : List A × Rest) → AreBytes rest.left
    → read_chain next last n rest ≡ Ok x → AreRead spell next last n rest x
unfolding read_chain
chain_found {A} spell next la alike last zero rest x bytes e =
    subst (λ (y : List A × Rest). AreRead spell next last 0 rest y) (ok_same ([], rest) x e) (record { bytes = refl; place = omega arith; many = refl; fit = refl })
chain_found {A} spell next la alike last (suc n) rest x bytes e =
    let s = step_of ((next last).read rest) (λ y. read_chain next (Some y.0) n y.1 >>= λ ys. Ok (y.0 ∷ ys.0, ys.1)) x e in
    let t = step_of (read_chain next (Some s.value.0) n s.value.1) (λ ys. Ok (s.value.0 ∷ ys.0, ys.1)) x s.then in
    let f = (la last).found rest s.value bytes s.is in
    let g = chain_found spell next la alike (Some s.value.0) n s.value.1 t.value (bytes_behind ((next last).spell s.value.0) s.value.1.left (subst AreBytes f.bytes bytes)) t.is in
    let u : List ℕ = (next last).spell s.value.0 in
    let v : List ℕ = flat_map spell t.value.0 in
    let same : u ++ v ≡ spell s.value.0 ++ v = ap (λ (w : List ℕ). w ++ v) (alike last s.value.0) in
    subst (λ (y : List A × Rest). AreRead spell next last (suc n) rest y) (ok_same (s.value.0 ∷ t.value.0, t.value.1) x t.then) (record {
      bytes = f.bytes ∙ ap (λ (w : List ℕ). u ++ w) g.bytes ∙ sym (append_assoc u v t.value.1.left) ∙ ap (λ (w : List ℕ). w ++ t.value.1.left) same;
      place = omega (arith, f.place, g.place, length-append u v, ap length same);
      many = ap suc g.many;
      fit = joined _ _ f.fits g.fit;
    })

pub chained_laws : {A : Type 0} (test : ℕ → Bool) (spell : A → List ℕ) (next : Option A → Field A) → ((last : Option A) → IsSpelling (next last)) → AreAlike spell next → IsSpelling (chained test spell next)
chained_laws {A} test spell next la alike = record { again = again; found = found }
  where
    again : (xs : List A) (place : ℕ) (more : List ℕ) → (chained test spell next).fits xs ≡ true
        → (chained test spell next).read (at place ((chained test spell next).spell xs ++ more)) ≡ Ok (xs, at (place + length ((chained test spell next).spell xs)) more)
    again xs place more e =
        let h = both ((such test u32).fits (length xs)) (chain_fits next None xs) e in
        let s : List ℕ = u32.spell (length xs) in
        let t : List ℕ = flat_map spell xs in
        ap (λ (w : List ℕ). (chained test spell next).read (at place w)) (append_assoc s t more)
        ∙ rw ((such_laws test u32 u32_laws).again (length xs) place (t ++ more) h.0, chain_again spell next la alike None xs (place + length s) more h.1)
        (ap (λ (n : ℕ). Ok (xs, at n more)) (omega (arith, length-append s t)))

    found : (rest : Rest) (x : List A × Rest) → AreBytes rest.left → (chained test spell next).read rest ≡ Ok x → IsRead (chained test spell next) rest x
    found rest x bytes e =
        let s = step_of ((such test u32).read rest) (λ n. read_chain next None n.0 n.1) x e in
        let f = (such_laws test u32 u32_laws).found rest s.value bytes s.is in
        let g = chain_found spell next la alike None s.value.0 s.value.1 x (bytes_behind (u32.spell s.value.0) s.value.1.left (subst AreBytes f.bytes bytes)) s.then in
        let u : List ℕ = u32.spell s.value.0 in
        let v : List ℕ = flat_map spell x.0 in
        let many : u ≡ u32.spell (length x.0) = ap (λ (n : ℕ). u32.spell n) (sym g.many) in
        let place : x.1.place ≡ rest.place + length (u ++ v) = omega (arith, f.place, g.place, length-append u v) in
        record {
          bytes = f.bytes ∙ ap (λ (w : List ℕ). u ++ w) g.bytes ∙ sym (append_assoc u v x.1.left) ∙ ap (λ (w : List ℕ). (w ++ v) ++ x.1.left) many;
          place = place ∙ ap (λ (w : List ℕ). rest.place + length (w ++ v)) many;
          fits = joined _ _ (ap (λ (n : ℕ). (such test u32).fits n) g.many ∙ f.fits) g.fit;
        }

-- ---- reading in a row, as a loop does

at_end : {A : Type 0} (xs : List A) (x : A) → slice_get (xs ++ x ∷ []) (length xs) ≡ Some x
at_end [] x = refl
at_end (y ∷ xs) x = at_end xs x

last_put : {A : Type 0} (xs : List A) (x : A) → last_of (xs ++ x ∷ []) ≡ Some x
last_put {A} xs x =
    let end : length (xs ++ x ∷ []) - 1 ≡ length xs = omega (arith, length-append xs (x ∷ [])) in
    ap (λ (i : ℕ). slice_get (xs ++ x ∷ []) i) end ∙ at_end xs x

regroup : {A : Type 0} (front : List A) (x : A) (read : Result (List A × Rest) Refusal) → with_front front (read >>= λ xs. Ok (x ∷ xs.0, xs.1)) ≡ with_front (front ++ x ∷ []) read
regroup {A} front x (Ok xs) = ap (λ (all : List A). Ok (all, xs.1)) (simp append_assoc)
regroup front x (Err e) = refl

-- one more is read
pub goes_on : {A : Type 0} (next : Option A → Field A) (front : List A) (count i : ℕ) (rest : Rest) (x : A) (after : Rest) (total : Result (List A × Rest) Refusal) → i < count
    → (next (last_of front)).read rest ≡ Ok (x, after) → with_front front (read_chain next (last_of front) (count - i) rest) ≡ total
    → with_front (front ++ x ∷ []) (read_chain next (last_of (front ++ x ∷ [])) (count - (i + 1)) after) ≡ total
unfolding read_chain
goes_on {A} next front count i rest x after total lt h so_far =
    let k : count - i ≡ suc (count - (i + 1)) = omega arith in
    let one : with_front front (read_chain next (last_of front) (count - i) rest) ≡ with_front (front ++ x ∷ []) (read_chain next (Some x) (count - (i + 1)) after) = rw (k, h) (regroup front x (read_chain next (Some x) (count - (i + 1)) after)) in
    ap (λ (last : Option A). with_front (front ++ x ∷ []) (read_chain next last (count - (i + 1)) after)) (last_put front x) ∙ sym one ∙ so_far

-- one is refused
pub stops : {A : Type 0} (next : Option A → Field A) (e : FieldError) (front : List A) (count i : ℕ) (rest : Rest) (total : Result (List A × Rest) Refusal) → i < count
    → Fails e ((next (last_of front)).read rest) → with_front front (read_chain next (last_of front) (count - i) rest) ≡ total → Fails e total
unfolding read_chain
stops next errors.Memory front count i rest total lt h so_far = tt
stops next (errors.Short at) front count i rest total lt h so_far =
    let k : count - i ≡ suc (count - (i + 1)) = omega arith in
    sym so_far ∙ rw (k, h) refl
stops next (errors.Bad at) front count i rest total lt h so_far =
    let k : count - i ≡ suc (count - (i + 1)) = omega arith in
    sym so_far ∙ rw (k, h) refl

-- all were read
pub ends : {A : Type 0} (next : Option A → Field A) (front : List A) (count i : ℕ) (rest : Rest) (total : Result (List A × Rest) Refusal) → count ≤ i
    → with_front front (read_chain next (last_of front) (count - i) rest) ≡ total → total ≡ Ok (front, rest)
unfolding read_chain
ends {A} next front count i rest total le so_far =
    let k : count - i ≡ 0 = omega arith in
    sym so_far ∙ rw k (ap (λ (all : List A). Ok (all, rest)) (append-nil front))

-- ---- tests of a list, as a loop makes them

-- one doesn't pass
pub one_fails : {A : Type 0} (test : A → Bool) (s t : List A) (x : A) (total : Bool) → s ≡ x ∷ t → test x ≡ false → list_all test s ≡ total → total ≡ false
one_fails test s t x total is e h = sym h ∙ ap (list_all test) is ∙ ap (λ b. b && list_all test t) e

-- one passes
pub one_passes : {A : Type 0} (test : A → Bool) (s t : List A) (x : A) (total : Bool) → s ≡ x ∷ t → test x ≡ true → list_all test s ≡ total → list_all test t ≡ total
one_passes test s t x total is e h = sym (ap (list_all test) is ∙ ap (λ b. b && list_all test t) e) ∙ h

-- none is left
pub none_left : {A : Type 0} (test : A → Bool) (s : List A) (total : Bool) → s ≡ [] → list_all test s ≡ total → total ≡ true
none_left test s total is h = sym h ∙ ap (list_all test) is

-- the same in a row
at_place : {A : Type 0} (xs : List A) (i : ℕ) (x : A) → i < length xs → x ≡ get_or xs i x → drop i xs ≡ x ∷ drop (i + 1) xs
at_place {A} xs i x lt is = rw add-one (drop-cons xs i x lt ∙ ap (λ (y : A). y ∷ drop (suc i) xs) (sym is))

last_taken : {A : Type 0} (xs : List A) (i : ℕ) (x : A) → i < length xs → x ≡ get_or xs i x → last_of (take (i + 1) xs) ≡ Some x
last_taken {A} xs i x lt is =
    let front : take (suc i) xs ≡ take i xs ++ get_or xs i x ∷ [] = take-suc xs i x lt in
    rw add-one (ap last_of (front ∙ ap (λ (y : A). take i xs ++ y ∷ []) (sym is)) ∙ last_put (take i xs) x)

pub follow_stops : {A : Type 0} (next : Option A → Field A) (xs : List A) (i : ℕ) (x : A) (total : Bool) → i < length xs → x ≡ get_or xs i x → (next (last_of (take i xs))).fits x ≡ false
    → chain_fits next (last_of (take i xs)) (drop i xs) ≡ total → total ≡ false
follow_stops next xs i x total lt is e h =
    sym h ∙ ap (chain_fits next (last_of (take i xs))) (at_place xs i x lt is) ∙ ap (λ b. b && chain_fits next (Some x) (drop (i + 1) xs)) e

pub follow_on : {A : Type 0} (next : Option A → Field A) (xs : List A) (i : ℕ) (x : A) (total : Bool) → i < length xs → x ≡ get_or xs i x → (next (last_of (take i xs))).fits x ≡ true
    → chain_fits next (last_of (take i xs)) (drop i xs) ≡ total → chain_fits next (last_of (take (i + 1) xs)) (drop (i + 1) xs) ≡ total
follow_on next xs i x total lt is e h =
    ap (λ last. chain_fits next last (drop (i + 1) xs)) (last_taken xs i x lt is)
    ∙ sym (ap (chain_fits next (last_of (take i xs))) (at_place xs i x lt is) ∙ ap (λ b. b && chain_fits next (Some x) (drop (i + 1) xs)) e) ∙ h

pub follow_ends : {A : Type 0} (next : Option A → Field A) (xs : List A) (i : ℕ) (total : Bool) → length xs ≤ i → chain_fits next (last_of (take i xs)) (drop i xs) ≡ total → total ≡ true
follow_ends next xs i total le h = sym h ∙ ap (chain_fits next (last_of (take i xs))) (drop_of_length-le xs le)
