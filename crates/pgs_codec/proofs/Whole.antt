-- A whole text is the spelling of what it is read as, and of nothing else.
use Rattle.std.proofs.Common.{◌≡◌, ℕ, ◌==◌, true, List, [], ◌++◌, length, Result, Ok, Err, sym, ap, ◌∙◌, append-nil}
use Rattle.std.proofs.lemmas.Bool.{eqb-true}
use Rattle.std.proofs.lemmas.List.{nil_from_length}
use Rattle.pgs_codec.specs.Reading.{Rest, Refusal, unread, ended, place_of}
use Rattle.pgs_codec.specs.Fields.{Field, AreBytes, IsSpelling, read_whole}
use Rattle.pgs_codec.proofs.Steps.{ok_same, err_ok, passed}

-- what is spelled is read
pub whole_again : {A : Type 0} (a : Field A) → IsSpelling a → (x : A) → a.fits x ≡ true → read_whole a (a.spell x) ≡ Ok x
whole_again {A} a la x fits =
    ap (λ (w : List ℕ). read_whole a w) (sym (append-nil (a.spell x)))
    ∙ ap ended (la.again x 0 [] fits)

pub record Ended {A : Type 0} (r : Result (A × Rest) Refusal) (x : A) : Type 0 where
  pub rest : Rest
  pub is : r ≡ Ok (x, rest)
  pub none : rest.left ≡ []

ended_is : {A : Type 0} (r : Result (A × Rest) Refusal) (x : A) → ended r ≡ Ok x → Ended r x
ended_is (Ok y) x e =
    let p = passed (length y.1.left == 0) y.1.place y.0 x e in
    record { rest = y.1; is = ap (λ z. Ok (z, y.1)) p.1; none = nil_from_length y.1.left (eqb-true _ _ p.0) }
ended_is (Err d) x e = absurd (err_ok (place_of d) x e)

-- what is read was spelled so
pub whole_found : {A : Type 0} (a : Field A) → IsSpelling a → (text : List ℕ) (x : A) → AreBytes text → read_whole a text ≡ Ok x → (text ≡ a.spell x) × (a.fits x ≡ true)
whole_found {A} a la text x bytes e =
    let end = ended_is (a.read (unread text)) x e in
    let f = la.found (unread text) (x, end.rest) bytes end.is in
    (f.bytes ∙ ap (λ (w : List ℕ). a.spell x ++ w) end.none ∙ append-nil (a.spell x), f.fits)

-- no two values share a spelling
pub one_value : {A : Type 0} (a : Field A) → IsSpelling a → (x y : A) → a.fits x ≡ true → a.fits y ≡ true → a.spell x ≡ a.spell y → x ≡ y
one_value a la x y p q e = ok_same x y (sym (whole_again a la x p) ∙ ap (λ (w : List ℕ). read_whole a w) e ∙ whole_again a la y q)
