-- The laws of kinds that are one text, each told by its front.
use Rattle.std.proofs.Common.{◌≡◌, ℕ, Bool, true, List, [], ◌∷◌, ◌++◌, Option, Some, None, refl, sym, ◌∙◌, ap, subst, ◌⊎◌, inl, inr}
use Rattle.std.specs.Prelude.{option_map}
use Rattle.std.specs.List.{list_all, AllByRecursion}
use Rattle.pgs_bytes.proofs.Facts.{none_some}
use Rattle.pgs_words.specs.Forms.{Field, Front, front, read_or, by_fronts, Writing, written, fronts, after_front}
use Rattle.pgs_words.proofs.Laws.{FieldLaws, mapped_of, list_all_append}
use Rattle.pgs_words.proofs.FormLaws.{after_is}

-- the value has this text, which is read again
pub record IsWriting {A : Type 0} (p : ℕ → Bool) (read : List ℕ → Option A) (s : Writing) (x : A) : Type 0 where
  pub again : s.fits ≡ true → read s.text ≡ Some x
  pub keeps : s.fits ≡ true → list_all p s.text ≡ true

pub front_of : {A B : Type 0} (p : ℕ → Bool) (read : List ℕ → Option A) (begin : List ℕ) (f : Field B) (make : B → A)
    → FieldLaws p f → ((w : List ℕ) → read (begin ++ w) ≡ option_map make (f.read w)) → list_all p begin ≡ true
    → (y : B) → IsWriting p read (written begin f y) (make y)
front_of p read begin f make lf at kept y = record {
  again = λ e. at (f.spell y) ∙ ap (option_map make) (lf.again y e);
  keeps = λ e. list_all_append p begin (f.spell y) kept (lf.keeps y e);
}

abbrev pub IsWritten : {A : Type 0} → (A → Writing) → List ℕ → A → Type 0
IsWritten writing w x = (w ≡ (writing x).text) × ((writing x).fits ≡ true)

abbrev pub FrontFinds : {A : Type 0} → (A → Writing) → Front A → Type 0
FrontFinds {A} writing r = (w : List ℕ) (x : A) → r.read w ≡ Some x → IsWritten writing (r.front ++ w) x

pub front_finds : {A B : Type 0} (p : ℕ → Bool) (writing : A → Writing) (begin : List ℕ) (f : Field B) (make : B → A)
    → FieldLaws p f → ((y : B) → written begin f y ≡ writing (make y)) → FrontFinds writing (front begin f make)
front_finds {A} {B} p writing begin f make lf same w x e =
    let m = mapped_of make (f.read w) x e in
    let ff = lf.found w m.value m.is in
    subst (λ y. IsWritten writing (begin ++ w) y) m.maps
    (subst (λ s. (begin ++ w ≡ s.text) × (s.fits ≡ true)) (same m.value) (ap (λ v. begin ++ v) ff.0, ff.1))

-- which side a reading took
pub record Took {A : Type 0} (o : Option (List ℕ)) (read : List ℕ → Option A) (x : A) : Type 0 where
  pub rest : List ℕ
  pub is : o ≡ Some rest
  pub then : read rest ≡ Some x

took : {A : Type 0} (o : Option (List ℕ)) (read : List ℕ → Option A) (other : Option A) (x : A) → read_or o read other ≡ Some x → Took o read x ⊎ (other ≡ Some x)
took None read other x e = inr e
took (Some rest) read other x e = inl (record { rest = rest; is = refl; then = e })

pub by_fronts_finds : {A : Type 0} (writing : A → Writing) (rows : List (Front A)) → AllByRecursion (FrontFinds writing) rows
    → (w : List ℕ) (x : A) → by_fronts rows w ≡ Some x → IsWritten writing w x
by_fronts_finds writing [] each w x e = absurd (none_some x e)
by_fronts_finds writing (r ∷ rows) each w x e =
    elim (took (after_front r.front w) r.read (by_fronts rows w) x e) [
      | inl hit ↦ subst (λ v. IsWritten writing v x) (sym (after_is r.front w hit.rest hit.is)) (each.0 hit.rest x hit.then)
      | inr miss ↦ by_fronts_finds writing rows each.1 w x miss
    ]

pub fronts_laws : {A : Type 0} (p : ℕ → Bool) (writing : A → Writing) (read : List ℕ → Option A)
    → ((x : A) → IsWriting p read (writing x) x) → ((w : List ℕ) (x : A) → read w ≡ Some x → IsWritten writing w x) → FieldLaws p (fronts writing read)
fronts_laws p writing read each finds = record {
  again = λ x e. (each x).again e;
  found = finds;
  keeps = λ x e. (each x).keeps e;
}
