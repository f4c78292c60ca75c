-- The laws of words that stand for no value, and of lists that may be missing.
use Rattle.std.proofs.Common.{◌≡◌, ℕ, Bool, true, false, List, [], ◌∷◌, Option, Some, None, refl, sym, ◌∙◌, ap, subst, inl, inr}
use Rattle.std.specs.Prelude.{option_map}
use Rattle.std.specs.List.{list_all}
use Rattle.pgs_bytes.proofs.Facts.{none_some, some_same, true_false, true_or_false, chosen}
use Rattle.pgs_words.specs.Forms.{Field, same_text, last}
use Rattle.pgs_words.proofs.Laws.{FieldLaws, FormLaws, all_keep, mapped_of, same_is, is_same}
use Rattle.pgs_words.proofs.FormLaws.{last_laws}
use Rattle.pgs_lines.specs.Choices.{some_fits, some_spelled, some_read, word_or, listed_fits, listed_spelled, listed_read, list_or_none}

-- no value has the word
pub word_or_laws : {A : Type 0} (p : ℕ → Bool) (word : List ℕ) (a : Field A) → list_all p word ≡ true → a.read word ≡ None → FieldLaws p a → FieldLaws p (word_or word a)
word_or_laws {A} p word a kept none la = record { again = again; found = found; keeps = keeps }
  where
    apart : (w : List ℕ) (x : A) → a.read w ≡ Some x → same_text w word ≡ false
    apart w x e = elim (true_or_false (same_text w word)) [
      | inl hit ↦ absurd (none_some x (sym none ∙ ap a.read (sym (same_is w word hit)) ∙ e))
      | inr miss ↦ miss
    ]

    again : (x : Option A) → some_fits a x ≡ true → some_read word a (some_spelled word a x) ≡ Some x
    again None e = rw (is_same word) refl
    again (Some x) e =
        let read : a.read (a.spell x) ≡ Some x = la.again x e in
        rw (apart (a.spell x) x read, read) refl

    found : (w : List ℕ) (x : Option A) → some_read word a w ≡ Some x → (w ≡ some_spelled word a x) × (some_fits a x ≡ true)
    found w x e =
        let P : Option A → Type 0 = λ y. (w ≡ some_spelled word a y) × (some_fits a y ≡ true) in
        elim (chosen (same_text w word) (Some None) (option_map (λ y. Some y) (a.read w)) (Some x) e) [
          | inl hit ↦ subst P (some_same None x hit.1) (same_is w word hit.0, refl)
          | inr miss ↦ let m = mapped_of (λ y. Some y) (a.read w) x miss.1 in subst P m.maps (la.found w m.value m.is)
        ]

    keeps : (x : Option A) → some_fits a x ≡ true → list_all p (some_spelled word a x) ≡ true
    keeps None e = kept
    keeps (Some x) e = la.keeps x e

pub list_or_none_laws : {A : Type 0} (p : ℕ → Bool) (a : Field (List A)) → a.fits [] ≡ false → FieldLaws p a → FormLaws p (list_or_none a)
list_or_none_laws {A} p a empty la = record { again = again; found = found; keeps = keeps }
  where
    laws : FormLaws p (last a)
    laws = last_laws p a la

    again : (xs : List A) → listed_fits a xs ≡ true → listed_read a (listed_spelled a xs) ≡ Some xs
    again [] e = refl
    again (x ∷ xs) e = laws.again (x ∷ xs) e

    some : (ws : List (List ℕ)) (xs : List A) → ws ≡ a.spell xs ∷ [] → a.fits xs ≡ true → (ws ≡ listed_spelled a xs) × (listed_fits a xs ≡ true)
    some ws [] s e = absurd (true_false (sym e ∙ empty))
    some ws (x ∷ xs) s e = (s, e)

    found : (ws : List (List ℕ)) (xs : List A) → listed_read a ws ≡ Some xs → (ws ≡ listed_spelled a xs) × (listed_fits a xs ≡ true)
    found [] xs e =
        let P : List A → Type 0 = λ ys. ([] ≡ listed_spelled a ys) × (listed_fits a ys ≡ true) in
        subst P (some_same [] xs e) (refl, refl)
    found (w ∷ ws) xs e = let f = laws.found (w ∷ ws) xs e in some (w ∷ ws) xs f.0 f.1

    keeps : (xs : List A) → listed_fits a xs ≡ true → all_keep p (listed_spelled a xs) ≡ true
    keeps [] e = refl
    keeps (x ∷ xs) e = laws.keeps (x ∷ xs) e
