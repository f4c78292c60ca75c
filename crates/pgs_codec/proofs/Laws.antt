-- The laws of each field and each way to make fields of others.
use Rattle.std.proofs.Common.{◌==◌, ◌≡◌, ℕ, zero, suc, ◌+◌, ◌^◌, ◌<◌, ◌≤◌, ◌&&◌, Bool, true, false, cond, ltb, List, [], ◌∷◌, ◌++◌, length, take, drop, Option, Some, None, Ok, Err, refl, sym, ap, subst, ◌∙◌, append_assoc, arith, inl, inr}
use Rattle.std.specs.Prelude.{nat_lt, nat_le}
use Rattle.std.specs.Int.{Width, w32, w64, byte_len, from_le_bytes, to_le_bytes}
use Rattle.std.proofs.lemmas.Bool.{eqb-true, cases_lt, ltb-false, le-ltb}
use Rattle.std.proofs.lemmas.Bool.Decides.{nat_tests}
use Rattle.std.proofs.lemmas.List.{take_at, drop_at, take-append-drop, length-append, length-take, get_or-take, get_or_past}
use Rattle.std.proofs.lemmas.Nat.{le_bytes_4, le_bytes_8, from_le_bytes-to_le_bytes_4, from_le_bytes-to_le_bytes_8}
use Rattle.pgs_bytes.proofs.Facts.{both, joined, true_false}
use Rattle.pgs_codec.specs.Reading.{Rest, Cut, Wrong, behind, ◌>>=◌}
use Rattle.pgs_codec.specs.Fields.{Field, number, u32, u64, u8, read_byte, such, followed, seen, fixed, text, spelled_text, where_so, all_fit, all_spelled, read_all, counted, AreBytes, IsRead, IsSpelling}
use Rattle.pgs_codec.proofs.Steps.{ok_same, err_ok, step_of, passed, not_refused, lets_through, bytes_behind}

-- a text at a place
abbrev pub at : ℕ → List ℕ → Rest
at place left = record { place = place; left = left }

-- ---- numbers

bytes_taken : (n : ℕ) (bytes : List ℕ) → AreBytes bytes → AreBytes (take n bytes)
bytes_taken n bytes h i =
    elim (cases_lt i n) [
      | inl lt ↦ rw (get_or-take n bytes i 0 lt) (h i)
      | inr le ↦ rw (get_or_past (take n bytes) i 0 (omega (arith, length-take n bytes))) (omega arith)
    ]

-- a width whose bytes and numbers below a bound are inverse
pub record IsWide (w : Width) (bound : ℕ) : Type 0 where
  pub len : (n : ℕ) → length (to_le_bytes w n) ≡ byte_len w
  pub back : (bytes : List ℕ) → length bytes ≡ byte_len w → AreBytes bytes → to_le_bytes w (from_le_bytes w bytes) ≡ bytes
  pub again : (n : ℕ) → n < bound → from_le_bytes w (to_le_bytes w n) ≡ n
  pub below : (bytes : List ℕ) → AreBytes bytes → from_le_bytes w bytes < bound

wide32 : IsWide w32 (2 ^ 32)
wide32 = record {
  len = λ n. refl;
  back = λ bytes len fits. le_bytes_4 bytes _ len fits refl;
  again = λ n lt. from_le_bytes-to_le_bytes_4 n lt;
  below = λ bytes fits. omega (arith, fits 0, fits 1, fits 2, fits 3);
}

wide64 : IsWide w64 (2 ^ 64)
wide64 = record {
  len = λ n. refl;
  back = λ bytes len fits. le_bytes_8 bytes _ len fits refl;
  again = λ n lt. from_le_bytes-to_le_bytes_8 n lt;
  below = λ bytes fits. omega (arith, fits 0, fits 1, fits 2, fits 3, fits 4, fits 5, fits 6, fits 7);
}

is_below : (n bound : ℕ) → n < bound → nat_lt n bound ≡ true
is_below n bound h = grind (arith, nat_tests)

below_is : (n bound : ℕ) → nat_lt n bound ≡ true → n < bound
below_is n bound h = grind (arith, nat_tests)

upto_is : (n bound : ℕ) → nat_le n bound ≡ true → n ≤ bound
upto_is n bound h = grind (arith, nat_tests)

number_again : (w : Width) (bound : ℕ) → IsWide w bound → (n place : ℕ) (more : List ℕ) → nat_lt n bound ≡ true
    → (number w bound).read (at place (to_le_bytes w n ++ more)) ≡ Ok (n, at (place + length (to_le_bytes w n)) more)
number_again w bound wide n place more fits =
    let len = wide.len n in
    let long : ltb (length (to_le_bytes w n ++ more)) (byte_len w) ≡ false = le-ltb _ _ (omega (arith, length-append (to_le_bytes w n) more)) in
    rw (long, take_at (to_le_bytes w n) more (byte_len w) len, drop_at (to_le_bytes w n) more (byte_len w) len, wide.again n (below_is n bound fits)) (ap (λ (k : ℕ). Ok (n, at (place + k) more)) (sym len))

number_found : (w : Width) (bound : ℕ) → IsWide w bound → (rest : Rest) (x : ℕ × Rest) → AreBytes rest.left
    → (number w bound).read rest ≡ Ok x → IsRead (number w bound) rest x
number_found w bound wide rest x bytes e =
    let front : List ℕ = take (byte_len w) rest.left in
    let g = not_refused (ltb (length rest.left) (byte_len w)) (Cut rest.place) (from_le_bytes w front, behind (byte_len w) rest) x e in
    let long : byte_len w ≤ length rest.left = ltb-false _ _ g.0 in
    let len : length front ≡ byte_len w = omega (arith, length-take (byte_len w) rest.left) in
    let taken : AreBytes front = bytes_taken (byte_len w) rest.left bytes in
    let spelled : to_le_bytes w (from_le_bytes w front) ≡ front = wide.back front len taken in
    subst (λ (y : ℕ × Rest). IsRead (number w bound) rest y) g.1 (record {
      bytes = rw spelled (sym (take-append-drop (byte_len w) rest.left));
      place = ap (λ (n : ℕ). rest.place + n) (sym (wide.len (from_le_bytes w front)));
      fits = is_below _ _ (wide.below front taken);
    })

number_laws : (w : Width) (bound : ℕ) → IsWide w bound → IsSpelling (number w bound)
number_laws w bound wide = record { again = λ n place more fits. number_again w bound wide n place more fits; found = number_found w bound wide }

pub u32_laws : IsSpelling u32
u32_laws = number_laws w32 (2 ^ 32) wide32

pub u64_laws : IsSpelling u64
u64_laws = number_laws w64 (2 ^ 64) wide64

byte_found : (place : ℕ) (left : List ℕ) (x : ℕ × Rest) → AreBytes left → read_byte place left ≡ Ok x → IsRead u8 (at place left) x
byte_found place [] x bytes e = absurd (err_ok (Cut place) x e)
byte_found place (b ∷ left) x bytes e =
    subst (λ (y : ℕ × Rest). IsRead u8 (at place (b ∷ left)) y) (ok_same (b, at (place + 1) left) x e)
    (record { bytes = refl; place = refl; fits = is_below b 256 (bytes 0) })

pub u8_laws : IsSpelling u8
u8_laws = record { again = λ n place more fits. refl; found = λ rest x bytes e. byte_found rest.place rest.left x bytes e }

-- ---- fields of fields

pub such_laws : {A : Type 0} (test : A → Bool) (a : Field A) → IsSpelling a → IsSpelling (such test a)
such_laws {A} test a la = record { again = again; found = found }
  where
    again : (x : A) (place : ℕ) (more : List ℕ) → (a.fits x && test x) ≡ true → (such test a).read (at place (a.spell x ++ more)) ≡ Ok (x, at (place + length (a.spell x)) more)
    again x place more e =
        let h = both (a.fits x) (test x) e in
        rw (la.again x place more h.0) (lets_through (test x) (Wrong place) (x, at (place + length (a.spell x)) more) h.1)

    found : (rest : Rest) (x : A × Rest) → AreBytes rest.left → (such test a).read rest ≡ Ok x → IsRead (such test a) rest x
    found rest x bytes e =
        let s = step_of (a.read rest) (λ y. cond (test y.0) (Ok y) (Err (Wrong rest.place))) x e in
        let p = passed (test s.value.0) (Wrong rest.place) s.value x s.then in
        let f = la.found rest s.value bytes s.is in
        subst (λ (y : A × Rest). IsRead (such test a) rest y) p.1 (record { bytes = f.bytes; place = f.place; fits = joined _ _ f.fits p.0 })

pub followed_laws : {A B : Type 0} (a : Field A) (b : A → Field B) → IsSpelling a → ((x : A) → IsSpelling (b x)) → IsSpelling (followed a b)
followed_laws {A} {B} a b la lb = record { again = again; found = found }
  where
    again : (x : A × B) (place : ℕ) (more : List ℕ) → (a.fits x.0 && (b x.0).fits x.1) ≡ true
        → (followed a b).read (at place ((a.spell x.0 ++ (b x.0).spell x.1) ++ more)) ≡ Ok (x, at (place + length (a.spell x.0 ++ (b x.0).spell x.1)) more)
    again x place more e =
        let h = both (a.fits x.0) ((b x.0).fits x.1) e in
        let s : List ℕ = a.spell x.0 in
        let t : List ℕ = (b x.0).spell x.1 in
        let long : (place + length s) + length t ≡ place + length (s ++ t) = omega (arith, length-append s t) in
        ap (λ (w : List ℕ). (followed a b).read (at place w)) (append_assoc s t more)
        ∙ rw (la.again x.0 place (t ++ more) h.0, (lb x.0).again x.1 (place + length s) more h.1) (ap (λ (n : ℕ). Ok (x, at n more)) long)

    found : (rest : Rest) (x : (A × B) × Rest) → AreBytes rest.left → (followed a b).read rest ≡ Ok x → IsRead (followed a b) rest x
    found rest x bytes e =
        let s = step_of (a.read rest) (λ y. (b y.0).read y.1 >>= λ z. Ok ((y.0, z.0), z.1)) x e in
        let t = step_of ((b s.value.0).read s.value.1) (λ z. Ok ((s.value.0, z.0), z.1)) x s.then in
        let f = la.found rest s.value bytes s.is in
        let g = (lb s.value.0).found s.value.1 t.value (bytes_behind (a.spell s.value.0) s.value.1.left (subst AreBytes f.bytes bytes)) t.is in
        let u : List ℕ = a.spell s.value.0 in
        let v : List ℕ = (b s.value.0).spell t.value.0 in
        subst (λ (y : (A × B) × Rest). IsRead (followed a b) rest y) (ok_same ((s.value.0, t.value.0), t.value.1) x t.then) (record {
          bytes = f.bytes ∙ ap (λ (w : List ℕ). u ++ w) g.bytes ∙ sym (append_assoc u v t.value.1.left);
          place = omega (arith, f.place, g.place, length-append u v);
          fits = joined _ _ f.fits g.fits;
        })

pub seen_laws : {A B : Type 0} (to : A → B) (from : B → A) (test : B → Bool) (a : Field A) → IsSpelling a
    → ((x : A) → a.fits x ≡ true → (from (to x) ≡ x) × (test (to x) ≡ true))
    → ((y : B) → a.fits (from y) ≡ true → test y ≡ true → to (from y) ≡ y)
    → IsSpelling (seen to from test a)
seen_laws {A} {B} to from test a la back forth = record { again = again; found = found }
  where
    again : (y : B) (place : ℕ) (more : List ℕ) → (a.fits (from y) && test y) ≡ true
        → (seen to from test a).read (at place (a.spell (from y) ++ more)) ≡ Ok (y, at (place + length (a.spell (from y))) more)
    again y place more e =
        let h = both (a.fits (from y)) (test y) e in
        rw (la.again (from y) place more h.0) (ap (λ (z : B). Ok (z, at (place + length (a.spell (from y))) more)) (forth y h.0 h.1))

    found : (rest : Rest) (x : B × Rest) → AreBytes rest.left → (seen to from test a).read rest ≡ Ok x → IsRead (seen to from test a) rest x
    found rest x bytes e =
        let s = step_of (a.read rest) (λ y. Ok (to y.0, y.1)) x e in
        let f = la.found rest s.value bytes s.is in
        let inverse = back s.value.0 f.fits in
        subst (λ (y : B × Rest). IsRead (seen to from test a) rest y) (ok_same (to s.value.0, s.value.1) x s.then) (record {
          bytes = f.bytes ∙ ap (λ (z : A). a.spell z ++ s.value.1.left) (sym inverse.0);
          place = f.place ∙ ap (λ (z : A). rest.place + length (a.spell z)) (sym inverse.0);
          fits = joined _ _ (ap a.fits inverse.0 ∙ f.fits) inverse.1;
        })

pub fixed_laws : (value : ℕ) → IsSpelling (fixed value)
fixed_laws value =
    seen_laws (λ b. tt) (λ x. value) (λ x. true) (such (λ b. b == value) u8) (such_laws (λ b. b == value) u8 u8_laws)
    (λ b fits. (sym (eqb-true b value (both (nat_lt b 256) (b == value) fits).1), refl)) (λ y fits test. refl)

-- ---- strings of bytes

text_again : (most : ℕ) (w : List ℕ) (place : ℕ) (more : List ℕ) → (text most).fits w ≡ true
    → (text most).read (at place (spelled_text w ++ more)) ≡ Ok (w, at (place + length (spelled_text w)) more)
text_again most w place more e =
    let h = both (nat_lt (length w) (2 ^ 32)) (nat_le (length w) most) e in
    let front : List ℕ = u32.spell (length w) in
    let long : ltb (length (w ++ more)) (length w) ≡ false = le-ltb _ _ (omega (arith, length-append w more)) in
    let n = (such_laws (λ n. nat_le n most) u32 u32_laws).again (length w) place (w ++ more) (joined _ _ h.0 h.1) in
    ap (λ (v : List ℕ). (text most).read (at place v)) (append_assoc front w more)
    ∙ rw (n, long, take_at w more (length w) refl, drop_at w more (length w) refl) (ap (λ (p : ℕ). Ok (w, at p more)) (omega (arith, length-append front w)))

text_found : (most : ℕ) (rest : Rest) (x : List ℕ × Rest) → AreBytes rest.left → (text most).read rest ≡ Ok x → IsRead (text most) rest x
text_found most rest x bytes e =
    let s = step_of ((such (λ n. nat_le n most) u32).read rest) (λ n. cond (ltb (length n.1.left) n.0) (Err (Cut rest.place)) (Ok (take n.0 n.1.left, behind n.0 n.1))) x e in
    let n : ℕ = s.value.0 in
    let after : Rest = s.value.1 in
    let f = (such_laws (λ n. nat_le n most) u32 u32_laws).found rest s.value bytes s.is in
    let within = both (nat_lt n (2 ^ 32)) (nat_le n most) f.fits in
    let g = not_refused (ltb (length after.left) n) (Cut rest.place) (take n after.left, behind n after) x s.then in
    let long : n ≤ length after.left = ltb-false _ _ g.0 in
    let len : length (take n after.left) ≡ n = omega (arith, length-take n after.left) in
    let whole : rest.left ≡ u32.spell n ++ (take n after.left ++ drop n after.left) = f.bytes ∙ ap (λ (v : List ℕ). u32.spell n ++ v) (sym (take-append-drop n after.left)) in
    let spelled : u32.spell n ++ take n after.left ≡ spelled_text (take n after.left) = ap (λ (k : ℕ). u32.spell k ++ take n after.left) (sym len) in
    let place : after.place + n ≡ rest.place + length (u32.spell n ++ take n after.left) = omega (arith, f.place, len, length-append (u32.spell n) (take n after.left)) in
    subst (λ (y : List ℕ × Rest). IsRead (text most) rest y) g.1 (record {
      bytes = whole ∙ sym (append_assoc (u32.spell n) (take n after.left) (drop n after.left)) ∙ ap (λ (v : List ℕ). v ++ drop n after.left) spelled;
      place = place ∙ ap (λ (v : List ℕ). rest.place + length v) spelled;
      fits = ap (λ (k : ℕ). nat_lt k (2 ^ 32) && nat_le k most) len ∙ f.fits;
    })

pub text_laws : (most : ℕ) → IsSpelling (text most)
text_laws most = record { again = λ w place more fits. text_again most w place more fits; found = λ rest x bytes e. text_found most rest x bytes e }

-- ---- fields that may be there, and many fields

pub where_laws : {A : Type 0} (there : Bool) (a : Field A) → IsSpelling a → IsSpelling (where_so there a)
where_laws {A} true a la = record { again = again; found = found }
  where
    again : (o : Option A) (place : ℕ) (more : List ℕ) → (where_so true a).fits o ≡ true → (where_so true a).read (at place ((where_so true a).spell o ++ more)) ≡ Ok (o, at (place + length ((where_so true a).spell o)) more)
    again (Some x) place more e = rw (la.again x place more e) refl
    again None place more e = absurd (true_false (sym e))

    found : (rest : Rest) (x : Option A × Rest) → AreBytes rest.left → (where_so true a).read rest ≡ Ok x → IsRead (where_so true a) rest x
    found rest x bytes e =
        let s = step_of (a.read rest) (λ y. Ok (Some y.0, y.1)) x e in
        let f = la.found rest s.value bytes s.is in
        subst (λ (y : Option A × Rest). IsRead (where_so true a) rest y) (ok_same (Some s.value.0, s.value.1) x s.then) (record { bytes = f.bytes; place = f.place; fits = f.fits })
where_laws {A} false a la = record { again = again; found = found }
  where
    again : (o : Option A) (place : ℕ) (more : List ℕ) → (where_so false a).fits o ≡ true → (where_so false a).read (at place ((where_so false a).spell o ++ more)) ≡ Ok (o, at (place + length ((where_so false a).spell o)) more)
    again None place more e = ap (λ (n : ℕ). Ok (None, at n more)) (omega arith)
    again (Some x) place more e = absurd (true_false (sym e))

    found : (rest : Rest) (x : Option A × Rest) → AreBytes rest.left → (where_so false a).read rest ≡ Ok x → IsRead (where_so false a) rest x
    found rest x bytes e =
        subst (λ (y : Option A × Rest). IsRead (where_so false a) rest y) (ok_same (None, rest) x e) (record { bytes = refl; place = omega arith; fits = refl })

all_again : {A : Type 0} (a : Field A) → IsSpelling a → (xs : List A) (place : ℕ) (more : List ℕ) → all_fit a xs ≡ true
    → read_all a (length xs) (at place (all_spelled a xs ++ more)) ≡ Ok (xs, at (place + length (all_spelled a xs)) more)
unfolding read_all
all_again a la [] place more e = ap (λ (n : ℕ). Ok ([], at n more)) (omega arith)
all_again {A} a la (x ∷ xs) place more e =
    let h = both (a.fits x) (all_fit a xs) e in
    let s : List ℕ = a.spell x in
    let t : List ℕ = all_spelled a xs in
    ap (λ (w : List ℕ). read_all a (suc (length xs)) (at place w)) (append_assoc s t more)
    ∙ rw (la.again x place (t ++ more) h.0, all_again a la xs (place + length s) more h.1)
    (ap (λ (n : ℕ). Ok (x ∷ xs, at n more)) (omega (arith, length-append s t)))

-- what was read, item by item
pub record AreRead {A : Type 0} (a : Field A) (n : ℕ) (rest : Rest) (x : List A × Rest) : Type 0 where
  pub bytes : rest.left ≡ all_spelled a x.0 ++ x.1.left
  pub place : x.1.place ≡ rest.place + length (all_spelled a x.0)
  pub fit : all_fit a x.0 ≡ true
  pub many : length x.0 ≡ n

all_found : {A : Type 0} (a : Field A) → IsSpelling a → (n : ℕ) (rest : Rest) (x : List A × Rest) → AreBytes rest.left → read_all a n rest ≡ Ok x → AreRead a n rest x
unfolding read_all
all_found {A} a la zero rest x bytes e =
    subst (λ (y : List A × Rest). AreRead a 0 rest y) (ok_same ([], rest) x e) (record { bytes = refl; place = omega arith; fit = refl; many = refl })
all_found {A} a la (suc n) rest x bytes e =
    let s = step_of (a.read rest) (λ y. read_all a n y.1 >>= λ ys. Ok (y.0 ∷ ys.0, ys.1)) x e in
    let t = step_of (read_all a n s.value.1) (λ ys. Ok (s.value.0 ∷ ys.0, ys.1)) x s.then in
    let f = la.found rest s.value bytes s.is in
    let u : List ℕ = a.spell s.value.0 in
    let g = all_found a la n s.value.1 t.value (bytes_behind u s.value.1.left (subst AreBytes f.bytes bytes)) t.is in
    let v : List ℕ = all_spelled a t.value.0 in
    subst (λ (y : List A × Rest). AreRead a (suc n) rest y) (ok_same (s.value.0 ∷ t.value.0, t.value.1) x t.then) (record {
      bytes = f.bytes ∙ ap (λ (w : List ℕ). u ++ w) g.bytes ∙ sym (append_assoc u v t.value.1.left);
      place = omega (arith, f.place, g.place, length-append u v);
      fit = joined _ _ f.fits g.fit;
      many = ap suc g.many;
    })

pub counted_laws : {A : Type 0} (a : Field A) → IsSpelling a → IsSpelling (counted a)
counted_laws {A} a la = record { again = again; found = found }
  where
    again : (xs : List A) (place : ℕ) (more : List ℕ) → (u32.fits (length xs) && all_fit a xs) ≡ true
        → (counted a).read (at place ((u32.spell (length xs) ++ all_spelled a xs) ++ more)) ≡ Ok (xs, at (place + length (u32.spell (length xs) ++ all_spelled a xs)) more)
    again xs place more e =
        let h = both (u32.fits (length xs)) (all_fit a xs) e in
        let s : List ℕ = u32.spell (length xs) in
        let t : List ℕ = all_spelled a xs in
        ap (λ (w : List ℕ). (counted a).read (at place w)) (append_assoc s t more)
        ∙ rw (u32_laws.again (length xs) place (t ++ more) h.0) (all_again a la xs (place + length s) more h.1 ∙ ap (λ (n : ℕ). Ok (xs, at n more)) (omega (arith, length-append s t)))

    found : (rest : Rest) (x : List A × Rest) → AreBytes rest.left → (counted a).read rest ≡ Ok x → IsRead (counted a) rest x
    found rest x bytes e =
        let s = step_of (u32.read rest) (λ n. read_all a n.0 n.1) x e in
        let f = u32_laws.found rest s.value bytes s.is in
        let g = all_found a la s.value.0 s.value.1 x (bytes_behind (u32.spell s.value.0) s.value.1.left (subst AreBytes f.bytes bytes)) s.then in
        let u : List ℕ = u32.spell s.value.0 in
        let v : List ℕ = all_spelled a x.0 in
        let many : u ≡ u32.spell (length x.0) = ap (λ (n : ℕ). u32.spell n) (sym g.many) in
        let place : x.1.place ≡ rest.place + length (u ++ v) = omega (arith, f.place, g.place, length-append u v) in
        record {
          bytes = f.bytes ∙ ap (λ (w : List ℕ). u ++ w) g.bytes ∙ sym (append_assoc u v x.1.left) ∙ ap (λ (w : List ℕ). (w ++ v) ++ x.1.left) many;
          place = place ∙ ap (λ (w : List ℕ). rest.place + length (w ++ v)) many;
          fits = joined _ _ (ap (λ (n : ℕ). nat_lt n (2 ^ 32)) g.many ∙ f.fits) g.fit;
        }
