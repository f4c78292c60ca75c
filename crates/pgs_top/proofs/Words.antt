-- One word.
use Rattle.std.proofs.Common.{◌≡◌, ◌≢◌, ℕ, ◌≤◌, ◌<◌, Bool, true, false, List, [], ◌∷◌, length, map, get_or, sym, ◌∙◌, ap, arith}
use Rattle.std.specs.Bool.{MatchBool}
use Rattle.pgs_bytes.specs.Texts.{same_text}
use Rattle.pgs_bytes.proofs.Facts.{heads, true_false}
use Rattle.pgs_words.proofs.Laws.{same_is, is_same}

pub one_word : {X : Type 0} (f : X → List ℕ) (xs : List X) (x : X) → 1 ≤ length xs → length xs < 2 → x ≡ get_or xs 0 x → map f xs ≡ f x ∷ []
one_word f [] x low high is = absurd (omega arith)
one_word f (y ∷ []) x low high is = ap (λ z. f z ∷ []) (sym is)
one_word f (y ∷ z ∷ xs) x low high is = absurd (omega arith)

pub word_cases : (test : Bool) (word wanted : List ℕ) → test ≡ same_text word wanted → MatchBool test (word ∷ [] ≡ wanted ∷ []) (word ∷ [] ≢ wanted ∷ [])
word_cases true word wanted e = ap (λ w. w ∷ []) (same_is word wanted (sym e))
word_cases false word wanted e = λ same. true_false (sym (is_same wanted) ∙ ap (λ w. same_text w wanted) (sym (heads word wanted [] [] same)) ∙ sym e)
