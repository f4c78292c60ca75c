-- The laws of forms that are made of fields.
use Rattle.std.proofs.Common.{◌≡◌, ℕ, ◌==◌, ◌&&◌, Bool, true, false, List, [], ◌∷◌, ◌++◌, Option, Some, refl, sym, ◌∙◌, ap, subst, inl, inr, eq-eqb}
use Rattle.std.specs.Prelude.{option_map}
use Rattle.std.specs.List.{list_all, join_with_byte}
use Rattle.std.proofs.lemmas.Bool.Decides.{eqb_tells}
use Rattle.std.proofs.lemmas.List.Splits.{join_with_byte-slice_split, slice_split-cons_yes, slice_split-cons_no}
use Rattle.pgs_bytes.proofs.Facts.{none_some, both, joined, true_false, some_same}
use Rattle.pgs_words.specs.Forms.{◌>>=◌, Field, Form, when, same_text, parts_of, taken, none_left, fixed, nothing, field, last, word_then, has_some, each, all_fit, all_spelled, all_read, parts, such, such_form, seen, seen_field, itself, fronted, after_front}
use Rattle.pgs_words.proofs.Laws.{FieldLaws, FormLaws, all_keep, Step, step_of, mapped_of, when_some, when_true, same_is, is_same, list_all_weaker, list_all_append}

-- ---- taking the first part

pub record Taken {A : Type 0} (read : List ℕ → Option A) (ws : List (List ℕ)) (x : A) (rest : List (List ℕ)) : Type 0 where
  pub word : List ℕ
  pub whole : ws ≡ word ∷ rest
  pub is : read word ≡ Some x

pub taken_of : {A : Type 0} (read : List ℕ → Option A) (ws : List (List ℕ)) (x : A) (rest : List (List ℕ)) → taken read ws ≡ Some (x, rest) → Taken read ws x rest
taken_of read [] x rest e = absurd (none_some (x, rest) e)
taken_of read (w ∷ ws) x rest e =
    let s : Step (read w) (λ v. Some (v, ws)) (x, rest) = step_of (read w) (λ v. Some (v, ws)) (x, rest) e in
    let same : (s.value, ws) ≡ (x, rest) = some_same (s.value, ws) (x, rest) s.then in
    record { word = w; whole = λ i. w ∷ (same i).1; is = s.is ∙ (λ i. Some (same i).0) }

none_left_is : (ws : List (List ℕ)) (x : Unit {0}) → none_left ws ≡ Some x → ws ≡ []
none_left_is [] x e = refl
none_left_is (w ∷ ws) x e = absurd (none_some x e)

-- ---- the combinators

pub weaker : {A : Type 0} (p q : ℕ → Bool) (f : Field A) → ((b : ℕ) → p b ≡ true → q b ≡ true) → FieldLaws p f → FieldLaws q f
weaker p q f h laws = record {
  again = laws.again;
  found = laws.found;
  keeps = λ x e. list_all_weaker p q h (f.spell x) (laws.keeps x e);
}

pub nothing_laws : (p : ℕ → Bool) → FormLaws p nothing
nothing_laws p = record {
  again = λ x e. refl;
  found = λ ws x e. (none_left_is ws x e, refl);
  keeps = λ x e. refl;
}

pub field_laws : {A B : Type 0} (p : ℕ → Bool) (a : Field A) (b : Form B) → FieldLaws p a → FormLaws p b → FormLaws p (field a b)
field_laws {A} {B} p a b la lb = record { again = again; found = found; keeps = keeps }
  where
    again : (x : A × B) → (a.fits x.0 && b.fits x.1) ≡ true → (field a b).read (a.spell x.0 ∷ b.spell x.1) ≡ Some x
    again x e =
        let h : (a.fits x.0 ≡ true) × (b.fits x.1 ≡ true) = both (a.fits x.0) (b.fits x.1) e in
        rw (la.again x.0 h.0, lb.again x.1 h.1) refl

    found : (ws : List (List ℕ)) (x : A × B) → (field a b).read ws ≡ Some x → (ws ≡ a.spell x.0 ∷ b.spell x.1) × ((a.fits x.0 && b.fits x.1) ≡ true)
    found ws x e =
        let s = step_of (taken a.read ws) (λ first. b.read first.1 >>= λ others. Some (first.0, others)) x e in
        let t = step_of (b.read s.value.1) (λ others. Some (s.value.0, others)) x s.then in
        let w = taken_of a.read ws s.value.0 s.value.1 s.is in
        let fa = la.found w.word s.value.0 w.is in
        let fb = lb.found s.value.1 t.value t.is in
        let P : A × B → Type 0 = λ y. (ws ≡ a.spell y.0 ∷ b.spell y.1) × ((a.fits y.0 && b.fits y.1) ≡ true) in
        subst P (some_same (s.value.0, t.value) x t.then) (w.whole ∙ (λ i. fa.0 i ∷ fb.0 i), joined (a.fits s.value.0) (b.fits t.value) fa.1 fb.1)

    keeps : (x : A × B) → (a.fits x.0 && b.fits x.1) ≡ true → all_keep p (a.spell x.0 ∷ b.spell x.1) ≡ true
    keeps x e =
        let h : (a.fits x.0 ≡ true) × (b.fits x.1 ≡ true) = both (a.fits x.0) (b.fits x.1) e in
        joined _ _ (la.keeps x.0 h.0) (lb.keeps x.1 h.1)

pub last_laws : {A : Type 0} (p : ℕ → Bool) (a : Field A) → FieldLaws p a → FormLaws p (last a)
last_laws {A} p a la = record { again = again; found = found; keeps = λ x e. joined _ true (la.keeps x e) refl }
  where
    again : (x : A) → a.fits x ≡ true → (last a).read (a.spell x ∷ []) ≡ Some x
    again x e = rw (la.again x e) refl

    found : (ws : List (List ℕ)) (x : A) → (last a).read ws ≡ Some x → (ws ≡ a.spell x ∷ []) × (a.fits x ≡ true)
    found ws x e =
        let s = step_of (taken a.read ws) (λ first. none_left first.1 >>= λ none. Some first.0) x e in
        let t = step_of (none_left s.value.1) (λ none. Some s.value.0) x s.then in
        let w = taken_of a.read ws s.value.0 s.value.1 s.is in
        let fa = la.found w.word s.value.0 w.is in
        let rest = none_left_is s.value.1 t.value t.is in
        let P : A → Type 0 = λ y. (ws ≡ a.spell y ∷ []) × (a.fits y ≡ true) in
        subst P (some_same s.value.0 x t.then) (w.whole ∙ (λ i. fa.0 i ∷ rest i), fa.1)

pub fixed_is : (word w : List ℕ) (x : Unit {0}) → fixed word w ≡ Some x → w ≡ word
fixed_is word w x e = same_is w word (when_some (same_text w word) tt x e).1

pub word_then_laws : {B : Type 0} (p : ℕ → Bool) (word : List ℕ) (b : Form B) → list_all p word ≡ true → FormLaws p b → FormLaws p (word_then word b)
word_then_laws {B} p word b kept lb = record { again = again; found = found; keeps = λ x e. joined _ _ kept (lb.keeps x e) }
  where
    again : (x : B) → b.fits x ≡ true → (word_then word b).read (word ∷ b.spell x) ≡ Some x
    again x e = rw (is_same word) (lb.again x e)

    found : (ws : List (List ℕ)) (x : B) → (word_then word b).read ws ≡ Some x → (ws ≡ word ∷ b.spell x) × (b.fits x ≡ true)
    found ws x e =
        let s = step_of (taken (fixed word) ws) (λ first. b.read first.1) x e in
        let w = taken_of (fixed word) ws s.value.0 s.value.1 s.is in
        let fb = lb.found s.value.1 x s.then in
        let same = fixed_is word w.word s.value.0 w.is in
        (w.whole ∙ (λ i. same i ∷ fb.0 i), fb.1)

pub each_laws : {A : Type 0} (p : ℕ → Bool) (a : Field A) → FieldLaws p a → FormLaws p (each a)
each_laws {A} p a la = record { again = again; found = found; keeps = keeps }
  where
    again : (xs : List A) → all_fit a xs ≡ true → all_read a.read (all_spelled a xs) ≡ Some xs
    again [] e = refl
    again (x ∷ xs) e =
        let h : (a.fits x ≡ true) × (all_fit a xs ≡ true) = both (a.fits x) (all_fit a xs) e in
        rw (la.again x h.0, again xs h.1) refl

    found : (ws : List (List ℕ)) (xs : List A) → all_read a.read ws ≡ Some xs → (ws ≡ all_spelled a xs) × (all_fit a xs ≡ true)
    found [] xs e =
        let P : List A → Type 0 = λ ys. ([] ≡ all_spelled a ys) × (all_fit a ys ≡ true) in
        subst P (some_same [] xs e) (refl, refl)
    found (w ∷ ws) xs e =
        let s = step_of (a.read w) (λ x. all_read a.read ws >>= λ ys. Some (x ∷ ys)) xs e in
        let t = step_of (all_read a.read ws) (λ ys. Some (s.value ∷ ys)) xs s.then in
        let fa = la.found w s.value s.is in
        let rest = found ws t.value t.is in
        let P : List A → Type 0 = λ ys. (w ∷ ws ≡ all_spelled a ys) × (all_fit a ys ≡ true) in
        subst P (some_same (s.value ∷ t.value) xs t.then) ((λ i. fa.0 i ∷ rest.0 i), joined (a.fits s.value) (all_fit a t.value) fa.1 rest.1)

    keeps : (xs : List A) → all_fit a xs ≡ true → all_keep p (all_spelled a xs) ≡ true
    keeps [] e = refl
    keeps (x ∷ xs) e =
        let h : (a.fits x ≡ true) × (all_fit a xs ≡ true) = both (a.fits x) (all_fit a xs) e in
        joined _ _ (la.keeps x h.0) (keeps xs h.1)

pub such_laws : {A : Type 0} (p : ℕ → Bool) (test : A → Bool) (a : Field A) → FieldLaws p a → FieldLaws p (such test a)
such_laws {A} p test a la = record { again = again; found = found; keeps = λ x e. la.keeps x (both (a.fits x) (test x) e).0 }
  where
    again : (x : A) → (a.fits x && test x) ≡ true → (such test a).read (a.spell x) ≡ Some x
    again x e =
        let h : (a.fits x ≡ true) × (test x ≡ true) = both (a.fits x) (test x) e in
        rw (la.again x h.0, h.1) refl

    found : (w : List ℕ) (x : A) → (such test a).read w ≡ Some x → (w ≡ a.spell x) × ((a.fits x && test x) ≡ true)
    found w x e =
        let s = step_of (a.read w) (λ v. when (test v) v) x e in
        let passed = when_some (test s.value) s.value x s.then in
        let fa = la.found w s.value s.is in
        let P : A → Type 0 = λ y. (w ≡ a.spell y) × ((a.fits y && test y) ≡ true) in
        subst P passed.0 (fa.0, joined (a.fits s.value) (test s.value) fa.1 passed.1)

pub such_form_laws : {A : Type 0} (p : ℕ → Bool) (test : A → Bool) (f : Form A) → FormLaws p f → FormLaws p (such_form test f)
such_form_laws {A} p test f lf = record { again = again; found = found; keeps = λ x e. lf.keeps x (both (f.fits x) (test x) e).0 }
  where
    again : (x : A) → (f.fits x && test x) ≡ true → (such_form test f).read (f.spell x) ≡ Some x
    again x e =
        let h : (f.fits x ≡ true) × (test x ≡ true) = both (f.fits x) (test x) e in
        rw (lf.again x h.0, h.1) refl

    found : (ws : List (List ℕ)) (x : A) → (such_form test f).read ws ≡ Some x → (ws ≡ f.spell x) × ((f.fits x && test x) ≡ true)
    found ws x e =
        let s = step_of (f.read ws) (λ v. when (test v) v) x e in
        let passed = when_some (test s.value) s.value x s.then in
        let ff = lf.found ws s.value s.is in
        let P : A → Type 0 = λ y. (ws ≡ f.spell y) × ((f.fits y && test y) ≡ true) in
        subst P passed.0 (ff.0, joined (f.fits s.value) (test s.value) ff.1 passed.1)

pub itself_laws : (p : ℕ → Bool) (test : List ℕ → Bool) → ((w : List ℕ) → test w ≡ true → list_all p w ≡ true) → FieldLaws p (itself test)
itself_laws p test h = record {
  again = λ w e. when_true (test w) w e;
  found = λ v w e. let passed = when_some (test v) v w e in (passed.0, subst (λ u. test u ≡ true) passed.0 passed.1);
  keeps = h;
}

pub seen_laws : {A B : Type 0} (p : ℕ → Bool) (to : A → B) (from : B → A) (f : Form A) → FormLaws p f → ((x : B) → to (from x) ≡ x) → ((x : A) → from (to x) ≡ x) → FormLaws p (seen to from f)
seen_laws {A} {B} p to from f lf back forth = record { again = again; found = found; keeps = λ x e. lf.keeps (from x) e }
  where
    again : (x : B) → f.fits (from x) ≡ true → option_map to (f.read (f.spell (from x))) ≡ Some x
    again x e = rw (lf.again (from x) e) (ap Some (back x))

    found : (ws : List (List ℕ)) (x : B) → option_map to (f.read ws) ≡ Some x → (ws ≡ f.spell (from x)) × (f.fits (from x) ≡ true)
    found ws x e =
        let m = mapped_of to (f.read ws) x e in
        let ff = lf.found ws m.value m.is in
        let P : A → Type 0 = λ y. (ws ≡ f.spell y) × (f.fits y ≡ true) in
        subst P (sym (forth m.value) ∙ ap from m.maps) ff

pub seen_field_laws : {A B : Type 0} (p : ℕ → Bool) (to : A → B) (from : B → A) (f : Field A) → FieldLaws p f → ((x : B) → to (from x) ≡ x) → ((x : A) → from (to x) ≡ x) → FieldLaws p (seen_field to from f)
seen_field_laws {A} {B} p to from f lf back forth = record { again = again; found = found; keeps = λ x e. lf.keeps (from x) e }
  where
    again : (x : B) → f.fits (from x) ≡ true → option_map to (f.read (f.spell (from x))) ≡ Some x
    again x e = rw (lf.again (from x) e) (ap Some (back x))

    found : (w : List ℕ) (x : B) → option_map to (f.read w) ≡ Some x → (w ≡ f.spell (from x)) × (f.fits (from x) ≡ true)
    found w x e =
        let m = mapped_of to (f.read w) x e in
        let ff = lf.found w m.value m.is in
        let P : A → Type 0 = λ y. (w ≡ f.spell y) × (f.fits y ≡ true) in
        subst P (sym (forth m.value) ∙ ap from m.maps) ff

-- ---- behind a front

pub after_itself : (front text : List ℕ) → after_front front (front ++ text) ≡ Some text
unfolding after_front
after_itself [] text = refl
after_itself (c ∷ front) text = rw (eq-eqb c c refl) (after_itself front text)

pub after_is : (front text rest : List ℕ) → after_front front text ≡ Some rest → text ≡ front ++ rest
unfolding after_front
after_is [] text rest e = some_same text rest e
after_is (c ∷ front) [] rest e = absurd (none_some rest e)
after_is (c ∷ front) (b ∷ text) rest e = elim (eqb_tells b c) [
  | inl hit ↦ (λ i. hit.1 i ∷ after_is front text rest (rw hit.0 at e) i)
  | inr miss ↦ absurd (none_some rest (rw miss.0 at e))
]

pub fronted_laws : {A : Type 0} (p : ℕ → Bool) (front : List ℕ) (a : Field A) → list_all p front ≡ true → FieldLaws p a → FieldLaws p (fronted front a)
fronted_laws {A} p front a kept la = record { again = again; found = found; keeps = λ x e. list_all_append p front (a.spell x) kept (la.keeps x e) }
  where
    again : (x : A) → a.fits x ≡ true → (after_front front (front ++ a.spell x) >>= a.read) ≡ Some x
    again x e = rw (after_itself front (a.spell x)) (la.again x e)

    found : (w : List ℕ) (x : A) → (after_front front w >>= a.read) ≡ Some x → (w ≡ front ++ a.spell x) × (a.fits x ≡ true)
    found w x e =
        let s = step_of (after_front front w) a.read x e in
        let fa = la.found s.value x s.then in
        (after_is front w s.value s.is ∙ ap (λ r. front ++ r) fa.0, fa.1)

-- ---- parts with bytes between them

module _ (p : ℕ → Bool) (byte : ℕ) (apart : (b : ℕ) → p b ≡ true → (b == byte) ≡ false) where
  split_last : (w : List ℕ) → list_all p w ≡ true → parts_of byte w ≡ w ∷ []
  split_last [] e = refl
  split_last (b ∷ w) e =
      let h : (p b ≡ true) × (list_all p w ≡ true) = both (p b) (list_all p w) e in
      rw (slice_split-cons_no (λ c. c == byte) b w (apart b h.0), split_last w h.1) refl

  split_first : (w rest : List ℕ) → list_all p w ≡ true → parts_of byte (w ++ byte ∷ rest) ≡ w ∷ parts_of byte rest
  split_first [] rest e = rw (slice_split-cons_yes (λ c. c == byte) byte rest (eq-eqb byte byte refl)) refl
  split_first (b ∷ w) rest e =
      let h : (p b ≡ true) × (list_all p w ≡ true) = both (p b) (list_all p w) e in
      rw (slice_split-cons_no (λ c. c == byte) b (w ++ byte ∷ rest) (apart b h.0), split_first w rest h.1) refl

  -- what was joined splits into what it was made of
  pub split_joined : (ws : List (List ℕ)) → has_some ws ≡ true → all_keep p ws ≡ true → parts_of byte (join_with_byte byte ws) ≡ ws
  split_joined [] some e = absurd (true_false (sym some))
  split_joined (w ∷ []) some e = split_last w (both (list_all p w) true e).0
  split_joined (w ∷ v ∷ ws) some e =
      let h : (list_all p w ≡ true) × (all_keep p (v ∷ ws) ≡ true) = both (list_all p w) (all_keep p (v ∷ ws)) e in
      split_first w (join_with_byte byte (v ∷ ws)) h.0 ∙ ap (λ r. w ∷ r) (split_joined (v ∷ ws) refl h.1)

joined_keeps : (p q : ℕ → Bool) (byte : ℕ) → ((b : ℕ) → p b ≡ true → q b ≡ true) → q byte ≡ true → (ws : List (List ℕ)) → all_keep p ws ≡ true → list_all q (join_with_byte byte ws) ≡ true
joined_keeps p q byte h kept [] e = refl
joined_keeps p q byte h kept (w ∷ []) e = list_all_weaker p q h w (both (list_all p w) true e).0
joined_keeps p q byte h kept (w ∷ v ∷ ws) e =
    let parts : (list_all p w ≡ true) × (all_keep p (v ∷ ws) ≡ true) = both (list_all p w) (all_keep p (v ∷ ws)) e in
    list_all_append q w (byte ∷ join_with_byte byte (v ∷ ws)) (list_all_weaker p q h w parts.0) (joined (q byte) _ kept (joined_keeps p q byte h kept (v ∷ ws) parts.1))

pub parts_laws : {A : Type 0} (p q : ℕ → Bool) (byte : ℕ) (f : Form A) → FormLaws p f
    → ((b : ℕ) → p b ≡ true → (b == byte) ≡ false) → ((b : ℕ) → p b ≡ true → q b ≡ true) → q byte ≡ true
    → ((x : A) → f.fits x ≡ true → has_some (f.spell x) ≡ true) → FieldLaws q (parts byte f)
parts_laws {A} p q byte f lf apart h kept some = record {
  again = λ x e. ap f.read (split_joined p byte apart (f.spell x) (some x e) (lf.keeps x e)) ∙ lf.again x e;
  found = λ w x e. let ff = lf.found (parts_of byte w) x e in (sym (join_with_byte-slice_split byte w) ∙ ap (join_with_byte byte) ff.0, ff.1);
  keeps = λ x e. joined_keeps p q byte h kept (f.spell x) (lf.keeps x e);
}
