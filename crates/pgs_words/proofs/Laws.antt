-- What makes a field or a form a spelling: what is spelled is read, and what is read was spelled so.
use Rattle.std.proofs.Common.{◌≡◌, ℕ, Bool, true, false, List, [], ◌∷◌, ◌++◌, Option, Some, None, refl, sym}
use Rattle.std.specs.Prelude.{option_map}
use Rattle.std.specs.List.{list_all}
use Rattle.std.specs.Cmp.Lexicographic.{bytes_decides}
use Rattle.pgs_bytes.proofs.Facts.{none_some, both, joined, true_false}
use Rattle.pgs_words.specs.Forms.{◌>>=◌, Field, Form, when, same_text}

-- each byte of each part passes a test
abbrev pub all_keep : (ℕ → Bool) → List (List ℕ) → Bool
all_keep p words = list_all (λ w. list_all p w) words

-- The laws of a field whose spellings have only bytes that pass a test.
pub record FieldLaws {A : Type 0} (p : ℕ → Bool) (f : Field A) : Type 0 where
  pub again : (x : A) → f.fits x ≡ true → f.read (f.spell x) ≡ Some x
  pub found : (w : List ℕ) (x : A) → f.read w ≡ Some x → (w ≡ f.spell x) × (f.fits x ≡ true)
  pub keeps : (x : A) → f.fits x ≡ true → list_all p (f.spell x) ≡ true

-- The same of a form.
pub record FormLaws {A : Type 0} (p : ℕ → Bool) (f : Form A) : Type 0 where
  pub again : (x : A) → f.fits x ≡ true → f.read (f.spell x) ≡ Some x
  pub found : (ws : List (List ℕ)) (x : A) → f.read ws ≡ Some x → (ws ≡ f.spell x) × (f.fits x ≡ true)
  pub keeps : (x : A) → f.fits x ≡ true → all_keep p (f.spell x) ≡ true

-- ---- steps that may fail

-- what a step that went well answered
pub record Step {A B : Type 0} (o : Option A) (f : A → Option B) (y : B) : Type 0 where
  pub value : A
  pub is : o ≡ Some value
  pub then : f value ≡ Some y

pub step_of : {A B : Type 0} (o : Option A) (f : A → Option B) (y : B) → (o >>= f) ≡ Some y → Step o f y
step_of None f y e = absurd (none_some y e)
step_of (Some x) f y e = record { value = x; is = refl; then = e }

pub record Mapped {A B : Type 0} (f : A → B) (o : Option A) (y : B) : Type 0 where
  pub value : A
  pub is : o ≡ Some value
  pub maps : f value ≡ y

pub mapped_of : {A B : Type 0} (f : A → B) (o : Option A) (y : B) → option_map f o ≡ Some y → Mapped f o y
mapped_of f None y e = absurd (none_some y e)
mapped_of f (Some x) y e = record { value = x; is = refl; maps = cc }

pub when_some : {A : Type 0} (test : Bool) (x y : A) → when test x ≡ Some y → (x ≡ y) × (test ≡ true)
when_some true x y e = (cc, refl)
when_some false x y e = absurd (none_some y e)

pub when_true : {A : Type 0} (test : Bool) (x : A) → test ≡ true → when test x ≡ Some x
when_true true x e = refl
when_true false x e = absurd (true_false (sym e))

-- ---- texts that are the same

pub same_is : (a b : List ℕ) → same_text a b ≡ true → a ≡ b
same_is a b e = (bytes_decides a b).0 e

pub is_same : (a : List ℕ) → same_text a a ≡ true
is_same a = (bytes_decides a a).1 refl

-- ---- tests of all bytes

pub list_all_weaker : (p q : ℕ → Bool) → ((b : ℕ) → p b ≡ true → q b ≡ true) → (w : List ℕ) → list_all p w ≡ true → list_all q w ≡ true
list_all_weaker p q h [] e = refl
list_all_weaker p q h (b ∷ w) e =
    let parts : (p b ≡ true) × (list_all p w ≡ true) = both (p b) (list_all p w) e in
    joined (q b) (list_all q w) (h b parts.0) (list_all_weaker p q h w parts.1)

pub list_all_append : (p : ℕ → Bool) (v w : List ℕ) → list_all p v ≡ true → list_all p w ≡ true → list_all p (v ++ w) ≡ true
list_all_append p [] w e f = f
list_all_append p (b ∷ v) w e f =
    let parts : (p b ≡ true) × (list_all p v ≡ true) = both (p b) (list_all p v) e in
    joined (p b) (list_all p (v ++ w)) parts.0 (list_all_append p v w parts.1 f)
