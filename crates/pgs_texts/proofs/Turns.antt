-- The verdict on the lines of a text, one line after another.
use Rattle.std.proofs.Common.{◌≡◌, ℕ, ◌+◌, true, List, [], ◌∷◌, refl, sym, ◌∙◌, ap, subst}
use Rattle.std.specs.Prelude.{Result, Ok, Err}
use Rattle.pgs_bytes.proofs.Facts.{true_false}
use Rattle.pgs_words.specs.Forms.{parts_of, has_some}
use Rattle.pgs_words.proofs.Cuts.{parts_some}
use Rattle.pgs_texts.specs.Grammar.{Grammar}
use Rattle.pgs_texts.specs.Verdict.{◌>>=◌, Judges, accepted, finished, verdict}
use Rattle.pgs_texts.specs.declared.script_error.ScriptError.{ScriptError}
use Rattle.pgs_texts.specs.declared.script_error.ScriptError.TheVariants.{BadLine, Limit, Memory}

module _ {S L : Type 0} (g : Grammar S L) where
  -- a line that isn't the last part
  pub verdict_cons : (n : ℕ) (s : S) (text : List ℕ) (rest : List (List ℕ)) → has_some rest ≡ true
      → verdict g n s (text ∷ rest) ≡ (accepted g n s text >>= λ t. verdict g (n + 1) t rest)
  unfolding verdict
  verdict_cons n s text [] e = absurd (true_false (sym e))
  verdict_cons n s text (next ∷ rest) e = refl

  onward : (n : ℕ) (s : S) (line rest more : List ℕ) → parts_of 10 rest ≡ line ∷ parts_of 10 more
      → verdict g n s (parts_of 10 rest) ≡ (accepted g n s line >>= λ t. verdict g (n + 1) t (parts_of 10 more))
  onward n s line rest more parts = ap (verdict g n s) parts ∙ verdict_cons n s line (parts_of 10 more) (parts_some 10 more)

  -- a line that is accepted
  pub judge_goes : (n : ℕ) (s t : S) (line rest more : List ℕ) (due : Result S ScriptError) → verdict g n s (parts_of 10 rest) ≡ due
      → parts_of 10 rest ≡ line ∷ parts_of 10 more → Judges (Ok t) (accepted g n s line) → verdict g (n + 1) t (parts_of 10 more) ≡ due
  judge_goes n s t line rest more due e parts ok =
      sym (ap (λ r. r >>= λ t. verdict g (n + 1) t (parts_of 10 more)) ok) ∙ sym (onward n s line rest more parts) ∙ e

  -- a line that isn't
  pub judge_stops : (n : ℕ) (s : S) (line rest more : List ℕ) (due : Result S ScriptError) (e : ScriptError) → verdict g n s (parts_of 10 rest) ≡ due
      → parts_of 10 rest ≡ line ∷ parts_of 10 more → Judges {S = S} (Err e) (accepted g n s line) → Judges {S = S} (Err e) due
  judge_stops n s line rest more due (BadLine m) e parts bad = sym e ∙ onward n s line rest more parts ∙ ap (λ r. r >>= λ t. verdict g (n + 1) t (parts_of 10 more)) bad
  judge_stops n s line rest more due (Limit m) e parts bad = sym e ∙ onward n s line rest more parts ∙ ap (λ r. r >>= λ t. verdict g (n + 1) t (parts_of 10 more)) bad
  judge_stops n s line rest more due Memory e parts bad = tt

  -- the last part
  pub judge_ends : (n : ℕ) (s : S) (rest : List ℕ) (due r : Result S ScriptError) → verdict g n s (parts_of 10 rest) ≡ due
      → parts_of 10 rest ≡ rest ∷ [] → Judges r (finished g n s rest) → Judges r due
  unfolding verdict
  judge_ends n s rest due r e parts last = subst (Judges r) (sym (ap (verdict g n s) parts) ∙ e) last
