-- The laws of sums of kinds, each told by its first word.
use Rattle.std.proofs.Common.{◌≡◌, ℕ, Bool, true, List, [], ◌∷◌, Option, Some, refl, sym, ◌∙◌, ap, subst, inl, inr}
use Rattle.std.specs.Prelude.{option_map}
use Rattle.std.specs.List.{list_all, AllByRecursion}
use Rattle.pgs_bytes.proofs.Facts.{none_some, some_same, joined, chosen}
use Rattle.pgs_words.specs.Forms.{Form, same_text, Row, row, by_rows, no_row, read_rows, Spelling, said, kinds, look_up, keyword}
use Rattle.pgs_words.proofs.Laws.{FieldLaws, FormLaws, all_keep, mapped_of, same_is}

-- ---- what is spelled is read

-- the value has these parts, which are read again
pub record IsKind {A : Type 0} (p : ℕ → Bool) (read : List ℕ → List (List ℕ) → Option A) (s : Spelling) (x : A) : Type 0 where
  pub again : s.fits ≡ true → read_rows read s.words ≡ Some x
  pub keeps : s.fits ≡ true → all_keep p s.words ≡ true

pub kind_of : {A B : Type 0} (p : ℕ → Bool) (read : List ℕ → List (List ℕ) → Option A) (word : List ℕ) (f : Form B) (make : B → A)
    → FormLaws p f → ((ws : List (List ℕ)) → read word ws ≡ option_map make (f.read ws)) → list_all p word ≡ true
    → (y : B) → IsKind p read (said word f y) (make y)
kind_of p read word f make lf at kept y = record {
  again = λ e. at (f.spell y) ∙ ap (option_map make) (lf.again y e);
  keeps = λ e. joined _ _ kept (lf.keeps y e);
}

-- ---- what is read was spelled so

abbrev pub IsSpelled : {A : Type 0} → (A → Spelling) → List (List ℕ) → A → Type 0
IsSpelled spelling ws x = (ws ≡ (spelling x).words) × ((spelling x).fits ≡ true)

abbrev pub FindsSpelled : {A : Type 0} → (A → Spelling) → (List ℕ → List (List ℕ) → Option A) → Type 0
FindsSpelled {A} spelling read = (word : List ℕ) (ws : List (List ℕ)) (x : A) → read word ws ≡ Some x → IsSpelled spelling (word ∷ ws) x

abbrev pub RowFinds : {A : Type 0} → (A → Spelling) → Row A → Type 0
RowFinds {A} spelling r = (ws : List (List ℕ)) (x : A) → r.read ws ≡ Some x → IsSpelled spelling (r.word ∷ ws) x

pub row_finds : {A B : Type 0} (p : ℕ → Bool) (spelling : A → Spelling) (word : List ℕ) (f : Form B) (make : B → A)
    → FormLaws p f → ((y : B) → said word f y ≡ spelling (make y)) → RowFinds spelling (row word f make)
row_finds {A} {B} p spelling word f make lf same ws x e =
    let m = mapped_of make (f.read ws) x e in
    let ff = lf.found ws m.value m.is in
    subst (λ y. IsSpelled spelling (word ∷ ws) y) m.maps
    (subst (λ s. (word ∷ ws ≡ s.words) × (s.fits ≡ true)) (same m.value) ((λ i. word ∷ ff.0 i), ff.1))

pub no_row_finds : {A : Type 0} (spelling : A → Spelling) → FindsSpelled spelling no_row
no_row_finds spelling word ws x e = absurd (none_some x e)

pub by_rows_finds : {A : Type 0} (spelling : A → Spelling) (rows : List (Row A)) (other : List ℕ → List (List ℕ) → Option A)
    → AllByRecursion (RowFinds spelling) rows → FindsSpelled spelling other → FindsSpelled spelling (by_rows rows other)
by_rows_finds spelling [] other each rest word ws x e = rest word ws x e
by_rows_finds spelling (r ∷ rows) other each rest word ws x e =
    elim (chosen (same_text word r.word) (r.read ws) (by_rows rows other word ws) (Some x) e) [
      | inl hit ↦ subst (λ w. IsSpelled spelling (w ∷ ws) x) (sym (same_is word r.word hit.0)) (each.0 ws x hit.1)
      | inr miss ↦ by_rows_finds spelling rows other each.1 rest word ws x miss.1
    ]

read_rows_finds : {A : Type 0} (spelling : A → Spelling) (read : List ℕ → List (List ℕ) → Option A) → FindsSpelled spelling read
    → (ws : List (List ℕ)) (x : A) → read_rows read ws ≡ Some x → IsSpelled spelling ws x
read_rows_finds spelling read finds [] x e = absurd (none_some x e)
read_rows_finds spelling read finds (w ∷ ws) x e = finds w ws x e

pub kinds_laws : {A : Type 0} (p : ℕ → Bool) (spelling : A → Spelling) (read : List ℕ → List (List ℕ) → Option A)
    → ((x : A) → IsKind p read (spelling x) x) → FindsSpelled spelling read → FormLaws p (kinds spelling read)
kinds_laws p spelling read each finds = record {
  again = λ x e. (each x).again e;
  found = read_rows_finds spelling read finds;
  keeps = λ x e. (each x).keeps e;
}

-- ---- some words for some values

pub look_up_finds : {A : Type 0} (spelled : A → List ℕ) (rows : List (List ℕ × A)) → AllByRecursion (λ r. r.0 ≡ spelled r.1) rows
    → (w : List ℕ) (x : A) → look_up rows w ≡ Some x → w ≡ spelled x
look_up_finds spelled [] each w x e = absurd (none_some x e)
look_up_finds spelled (r ∷ rows) each w x e =
    elim (chosen (same_text w r.0) (Some r.1) (look_up rows w) (Some x) e) [
      | inl hit ↦ same_is w r.0 hit.0 ∙ each.0 ∙ ap spelled (some_same r.1 x hit.1)
      | inr miss ↦ look_up_finds spelled rows each.1 w x miss.1
    ]

pub keyword_laws : {A : Type 0} (p : ℕ → Bool) (spelled : A → List ℕ) (rows : List (List ℕ × A)) → AllByRecursion (λ r. r.0 ≡ spelled r.1) rows
    → ((x : A) → look_up rows (spelled x) ≡ Some x) → ((x : A) → list_all p (spelled x) ≡ true) → FieldLaws p (keyword spelled rows)
keyword_laws p spelled rows each again keeps = record {
  again = λ x e. again x;
  found = λ w x e. (look_up_finds spelled rows each w x e, refl);
  keeps = λ x e. keeps x;
}
