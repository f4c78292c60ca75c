-- The verdict on a text is what the grammar says of it, and the grammar says one thing alone.
use Rattle.std.proofs.Common.{◌≡◌, ℕ, suc, ◌+◌, ◌==◌, ◌&&◌, Bool, true, false, cond, not, List, [], ◌∷◌, ◌++◌, Option, Some, None, length, map, refl, sym, ◌∙◌, ap, subst, arith, inl, inr, add-zero}
use Rattle.std.specs.Prelude.{Result, Ok, Err}
use Rattle.std.proofs.lemmas.Bool.Decides.{nat_tests}
use Rattle.pgs_bytes.proofs.Facts.{none_some, some_same, both, joined, true_false, true_or_false}
use Rattle.pgs_words.specs.Forms.{parts_of, has_some}
use Rattle.pgs_words.proofs.Cuts.{parts_some}
use Rattle.pgs_words.proofs.Laws.{FieldLaws}
use Rattle.pgs_texts.specs.Grammar.{Grammar}
use Rattle.pgs_texts.specs.Text.{Said, Passed, Says, said_text, may_stand, passes_limit, said_after, Goes, after_all, Reads, IsOutside, TooMuch, IsTooMuch, Stops, IsVerdict}
use Rattle.pgs_texts.specs.Verdict.{◌>>=◌, Judges, judged, accepted, finished, verdict}
use Rattle.pgs_texts.proofs.Turns.{verdict_cons}
use Rattle.pgs_texts.specs.declared.script_error.ScriptError.{ScriptError}
use Rattle.pgs_texts.specs.declared.script_error.ScriptError.TheVariants.{BadLine, Limit, Memory}

-- The laws of a grammar: its lines are spelled and read, and none of them is passed over.
pub record GrammarLaws {S L : Type 0} (p : ℕ → Bool) (g : Grammar S L) : Type 0 where
  pub lines : FieldLaws p g.line
  pub not_passed : (l : L) → g.line.fits l ≡ true → g.passed (g.line.spell l) ≡ false

not_true : (a : Bool) → not a ≡ true → a ≡ false
not_true true e = sym e
not_true false e = refl

take_then : {A : Type 0} (test : Bool) (x y : A) → test ≡ true → cond test x y ≡ x
take_then true x y e = refl
take_then false x y e = absurd (true_false (sym e))

take_else : {A : Type 0} (test : Bool) (x y : A) → test ≡ false → cond test x y ≡ y
take_else true x y e = absurd (true_false e)
take_else false x y e = refl

suc_not_zero : (n : ℕ) → (suc n == 0) ≡ false
suc_not_zero n = grind (arith, nat_tests)

no_bytes : (text : List ℕ) → (length text == 0) ≡ true → text ≡ []
no_bytes [] e = refl
no_bytes (b ∷ bs) e = absurd (true_false (sym e ∙ suc_not_zero (length bs)))

module _ {S L : Type 0} (p : ℕ → Bool) (g : Grammar S L) (k : GrammarLaws p g) where
  -- ---- one line, from the grammar to the verdict

  judged_ok : (n : ℕ) (s : S) (l : L) → g.allows s l ≡ true → g.passes s l ≡ false → judged g n s (Some l) ≡ Ok (g.after s l)
  unfolding judged
  judged_ok n s l a b = take_then (g.allows s l) _ _ a ∙ take_else (g.passes s l) _ _ b

  judged_limit : (n : ℕ) (s : S) (l : L) → g.allows s l ≡ true → g.passes s l ≡ true → judged g n s (Some l) ≡ Err (Limit n)
  unfolding judged
  judged_limit n s l a b = take_then (g.allows s l) _ _ a ∙ take_then (g.passes s l) _ _ b

  line_accepted : (n : ℕ) (s : S) (l : L) → g.over s ≡ false → g.line.fits l ≡ true → accepted g n s (g.line.spell l) ≡ judged g n s (Some l)
  unfolding accepted
  line_accepted n s l over fits =
      take_else (g.over s) _ _ over ∙ take_else (g.passed (g.line.spell l)) _ _ (k.not_passed l fits) ∙ ap (judged g n s) (k.lines.again l fits)

  -- where the line may stand, what is in its favour
  pub record Stands (s : S) (l : L) : Type 0 where
    pub over : g.over s ≡ false
    pub fits : g.line.fits l ≡ true
    pub allowed : g.allows s l ≡ true

  stands_of : (s : S) (l : L) → may_stand g s (Says l) ≡ true → Stands s l
  stands_of s l e =
      let a = both (not (g.over s)) (g.line.fits l && g.allows s l) e in
      let b = both (g.line.fits l) (g.allows s l) a.1 in
      record { over = not_true (g.over s) a.0; fits = b.0; allowed = b.1 }

  here_ok : (n : ℕ) (s : S) (x : Said L) → may_stand g s x ≡ true → passes_limit g s x ≡ false → accepted g n s (said_text g x) ≡ Ok (said_after g s x)
  unfolding accepted
  here_ok n s (Passed text) e f =
      let a = both (not (g.over s)) (g.passed text) e in
      take_else (g.over s) _ _ (not_true (g.over s) a.0) ∙ take_then (g.passed text) _ _ a.1
  here_ok n s (Says l) e f =
      let a = stands_of s l e in
      line_accepted n s l a.over a.fits ∙ judged_ok n s l a.allowed f

  here_limit : (n : ℕ) (s : S) (x : Said L) → may_stand g s x ≡ true → passes_limit g s x ≡ true → accepted g n s (said_text g x) ≡ Err (Limit n)
  here_limit n s (Passed text) e f = absurd (true_false (sym f))
  here_limit n s (Says l) e f =
      let a = stands_of s l e in
      line_accepted n s l a.over a.fits ∙ judged_limit n s l a.allowed f

  -- ---- one line, from the verdict to the grammar

  -- why a line is as it is: it says something and no limit is passed; or it passes one; or nothing says it
  pub data Case (n : ℕ) (s : S) (text : List ℕ) : Type 0 where
    Good : (x : Said L) → may_stand g s x ≡ true → passes_limit g s x ≡ false → text ≡ said_text g x → Case n s text
    Much : TooMuch g s text → Case n s text
    Outside : ((x : Said L) → may_stand g s x ≡ true → text ≡ said_text g x → ⊥) → accepted g n s text ≡ Err (BadLine n) → Case n s text

  case_of : (n : ℕ) (s : S) (text : List ℕ) → Case n s text
  unfolding accepted judged
  case_of n s text = elim (true_or_false (g.over s)) [ inl e ↦ when_over e | inr e ↦ elim (true_or_false (g.passed text)) [ inl f ↦ when_passed e f | inr f ↦ by_line e f (g.line.read text) refl ] ]
    where
      when_over : g.over s ≡ true → Case n s text
      when_over e = Outside (none e) (take_then (g.over s) _ _ e)
        where
          none : g.over s ≡ true → (x : Said L) → may_stand g s x ≡ true → text ≡ said_text g x → ⊥
          none e (Passed t) h is = true_false (sym e ∙ not_true (g.over s) (both (not (g.over s)) (g.passed t) h).0)
          none e (Says l) h is = true_false (sym e ∙ (stands_of s l h).over)

      when_passed : g.over s ≡ false → g.passed text ≡ true → Case n s text
      when_passed e f = Good (Passed text) (joined (not (g.over s)) (g.passed text) (ap not e) f) refl refl

      by_line : g.over s ≡ false → g.passed text ≡ false → (o : Option L) → g.line.read text ≡ o → Case n s text
      by_line e f None r = Outside none (take_else (g.over s) _ _ e ∙ take_else (g.passed text) _ _ f ∙ ap (judged g n s) r)
        where
          none : (x : Said L) → may_stand g s x ≡ true → text ≡ said_text g x → ⊥
          none (Passed t) h is = true_false (sym (both (not (g.over s)) (g.passed t) h).1 ∙ ap g.passed (sym is) ∙ f)
          none (Says l) h is = none_some l (sym r ∙ ap g.line.read is ∙ k.lines.again l (stands_of s l h).fits)
      by_line e f (Some l) r = elim (true_or_false (g.allows s l)) [ inl a ↦ allowed a | inr a ↦ Outside (none a) (take_else (g.over s) _ _ e ∙ take_else (g.passed text) _ _ f ∙ ap (judged g n s) r ∙ take_else (g.allows s l) _ _ a) ]
        where
          spelled : (text ≡ g.line.spell l) × (g.line.fits l ≡ true)
          spelled = k.lines.found text l r

          allowed : g.allows s l ≡ true → Case n s text
          allowed a =
              let stands : may_stand g s (Says l) ≡ true = joined (not (g.over s)) _ (ap not e) (joined (g.line.fits l) (g.allows s l) spelled.1 a) in
              elim (true_or_false (g.passes s l)) [
                | inl m ↦ Much (record { line = Says l; stands = stands; spelled = spelled.0; much = m })
                | inr m ↦ Good (Says l) stands m spelled.0
              ]

          none : g.allows s l ≡ false → (x : Said L) → may_stand g s x ≡ true → text ≡ said_text g x → ⊥
          none a (Passed t) h is = true_false (sym (both (not (g.over s)) (g.passed t) h).1 ∙ ap g.passed (sym is) ∙ f)
          none a (Says m) h is =
              let same : l ≡ m = some_same l m (sym r ∙ ap g.line.read is ∙ k.lines.again m (stands_of s m h).fits) in
              true_false (sym (stands_of s m h).allowed ∙ ap (g.allows s) (sym same) ∙ a)

  here_bad : (n : ℕ) (s : S) (text : List ℕ) → ((x : Said L) → may_stand g s x ≡ true → text ≡ said_text g x → ⊥) → accepted g n s text ≡ Err (BadLine n)
  here_bad n s text none = by (case_of n s text)
    where
      by : Case n s text → accepted g n s text ≡ Err (BadLine n)
      by (Good x a b c) = absurd (none x a c)
      by (Much t) = absurd (none t.line t.stands t.spelled)
      by (Outside others e) = e

  -- ---- all lines, from the grammar to the verdict

  some_behind : (xs : List (Said L)) (tail : List (List ℕ)) → has_some tail ≡ true → has_some (map (said_text g) xs ++ tail) ≡ true
  some_behind [] tail e = e
  some_behind (x ∷ xs) tail e = refl

  verdict_said : (n : ℕ) (s : S) (xs : List (Said L)) (tail : List (List ℕ)) → has_some tail ≡ true → Goes g s xs
      → verdict g n s (map (said_text g) xs ++ tail) ≡ verdict g (n + length xs) (after_all g s xs) tail
  verdict_said n s [] tail some goes = ap (λ m. verdict g m s tail) (sym (add-zero n))
  verdict_said n s (x ∷ xs) tail some goes =
      let count : n + 1 + length xs ≡ n + suc (length xs) = omega arith in
      verdict_cons g n s (said_text g x) (map (said_text g) xs ++ tail) (some_behind xs tail some)
      ∙ ap (λ r. r >>= λ t. verdict g (n + 1) t (map (said_text g) xs ++ tail)) (here_ok n s x goes.0 goes.1)
      ∙ verdict_said (n + 1) (said_after g s x) xs tail some goes.2
      ∙ ap (λ m. verdict g m (after_all g (said_after g s x) xs) tail) count

  abbrev no_length : ℕ
  no_length = length {A = ℕ} []

  finished_ok : (n : ℕ) (s : S) → g.over s ≡ true → finished g n s [] ≡ Ok s
  unfolding finished
  finished_ok n s e = take_then (g.over s && no_length == 0) _ _ (joined (g.over s) true e refl)

  finished_bad : (n : ℕ) (s : S) (text : List ℕ) → (g.over s ≡ true → text ≡ [] → ⊥) → finished g n s text ≡ Err (BadLine n)
  unfolding finished
  finished_bad n s [] h = take_else (g.over s && no_length == 0) _ _ (never (g.over s) (λ e. h e refl))
    where
      never : (test : Bool) → (test ≡ true → ⊥) → (test && true) ≡ false
      never true h = absurd (h refl)
      never false h = refl
  finished_bad n s (b ∷ bs) h = take_else (g.over s && length (b ∷ bs) == 0) _ _ (never (g.over s) (suc_not_zero (length bs)))
    where
      never : (test : Bool) → (suc (length bs) == 0) ≡ false → (test && (suc (length bs) == 0)) ≡ false
      never true e = e
      never false e = refl

  only_ok : (n : ℕ) (s : S) (lines : List (List ℕ)) (script : S) → Reads g s lines script → verdict g n s lines ≡ Ok script
  unfolding verdict
  only_ok n s lines script r =
      ap (verdict g n s) r.whole
      ∙ verdict_said n s r.said ([] ∷ []) refl r.goes
      ∙ finished_ok (n + length r.said) (after_all g s r.said) (ap g.over r.all ∙ r.over)
      ∙ ap Ok r.all

  bad_here : (n : ℕ) (s : S) (here : List ℕ) (rest : List (List ℕ)) → IsOutside g s here rest → verdict g n s (here ∷ rest) ≡ Err (BadLine n)
  unfolding verdict
  bad_here n s here [] why = finished_bad n s here why
  bad_here n s here (next ∷ rest) why = ap (λ r. r >>= λ t. verdict g (n + 1) t (next ∷ rest)) (here_bad n s here why)

  limit_here : (n : ℕ) (s : S) (here : List ℕ) (rest : List (List ℕ)) → IsTooMuch g s here rest → verdict g n s (here ∷ rest) ≡ Err (Limit n)
  unfolding verdict
  limit_here n s here [] why = absurd why
  limit_here n s here (next ∷ rest) why =
      ap (λ r. r >>= λ t. verdict g (n + 1) t (next ∷ rest)) (ap (accepted g n s) why.spelled ∙ here_limit n s why.line why.stands why.much)

  only_bad : (n : ℕ) (s : S) (lines : List (List ℕ)) (m : ℕ) → Stops g n s lines m (IsOutside g) → verdict g n s lines ≡ Err (BadLine m)
  only_bad n s lines m r =
      ap (verdict g n s) r.whole
      ∙ verdict_said n s r.said (r.here ∷ r.rest) refl r.goes
      ∙ bad_here (n + length r.said) (after_all g s r.said) r.here r.rest r.why
      ∙ ap (λ v. Err (BadLine v)) (sym r.number)

  only_limit : (n : ℕ) (s : S) (lines : List (List ℕ)) (m : ℕ) → Stops g n s lines m (IsTooMuch g) → verdict g n s lines ≡ Err (Limit m)
  only_limit n s lines m r =
      ap (verdict g n s) r.whole
      ∙ verdict_said n s r.said (r.here ∷ r.rest) refl r.goes
      ∙ limit_here (n + length r.said) (after_all g s r.said) r.here r.rest r.why
      ∙ ap (λ v. Err (Limit v)) (sym r.number)

  -- the verdict is what the grammar says, and the grammar says nothing else
  pub only : (text : List ℕ) (r : Result S ScriptError) → IsVerdict g text r → Judges r (verdict g 1 g.start (parts_of 10 text))
  only text (Ok script) h = only_ok 1 g.start (parts_of 10 text) script h
  only text (Err (BadLine m)) h = only_bad 1 g.start (parts_of 10 text) m h
  only text (Err (Limit m)) h = only_limit 1 g.start (parts_of 10 text) m h
  only text (Err Memory) h = tt

  -- ---- all lines, from the verdict to the grammar

  -- what a verdict on lines says
  abbrev pub Means : ℕ → S → List (List ℕ) → Result S ScriptError → Type 0
  Means n s lines (Ok script) = Reads g s lines script
  Means n s lines (Err (BadLine m)) = Stops g n s lines m (IsOutside g)
  Means n s lines (Err (Limit m)) = Stops g n s lines m (IsTooMuch g)
  Means n s lines (Err Memory) = ⊥

  one_more : (n m k : ℕ) → m ≡ n + 1 + k → m ≡ n + suc k
  one_more n m k e = omega arith

  -- a line that goes on, and then what the other lines mean
  means_on : (n : ℕ) (s : S) (x : Said L) (lines : List (List ℕ)) (r : Result S ScriptError) → may_stand g s x ≡ true → passes_limit g s x ≡ false
      → Means (n + 1) (said_after g s x) lines r → Means n s (said_text g x ∷ lines) r
  means_on n s x lines (Ok script) a b h =
      record { said = x ∷ h.said; goes = (a, b, h.goes); whole = ap (λ ls. said_text g x ∷ ls) h.whole; all = h.all; over = h.over }
  means_on n s x lines (Err (BadLine m)) a b h =
      record { said = x ∷ h.said; goes = (a, b, h.goes); here = h.here; rest = h.rest; whole = ap (λ ls. said_text g x ∷ ls) h.whole; number = one_more n m (length h.said) h.number; why = h.why }
  means_on n s x lines (Err (Limit m)) a b h =
      record { said = x ∷ h.said; goes = (a, b, h.goes); here = h.here; rest = h.rest; whole = ap (λ ls. said_text g x ∷ ls) h.whole; number = one_more n m (length h.said) h.number; why = h.why }
  means_on n s x lines (Err Memory) a b h = h

  last_means : (n : ℕ) (s : S) (text : List ℕ) → Means n s (text ∷ []) (finished g n s text)
  unfolding finished
  last_means n s text = elim (true_or_false (g.over s && length text == 0)) [ inl e ↦ ends e | inr e ↦ stops e ]
    where
      ends : (g.over s && length text == 0) ≡ true → Means n s (text ∷ []) (finished g n s text)
      ends e =
          let parts = both (g.over s) (length text == 0) e in
          let reads : Reads g s (text ∷ []) s = record { said = []; goes = tt; whole = ap (λ t. t ∷ []) (no_bytes text parts.1); all = refl; over = parts.0 } in
          subst (Means n s (text ∷ [])) (sym (take_then (g.over s && length text == 0) (Ok s) (Err (BadLine n)) e)) reads

      stops : (g.over s && length text == 0) ≡ false → Means n s (text ∷ []) (finished g n s text)
      stops e =
          let why : g.over s ≡ true → text ≡ [] → ⊥ = λ a b. true_false (sym (joined (g.over s) (length text == 0) a (ap (λ t. length t == 0) b)) ∙ e) in
          let here : Stops g n s (text ∷ []) n (IsOutside g) = record { said = []; goes = tt; here = text; rest = []; whole = refl; number = sym (add-zero n); why = why } in
          subst (Means n s (text ∷ [])) (sym (take_else (g.over s && length text == 0) (Ok s) (Err (BadLine n)) e)) here

  pub means : (n : ℕ) (s : S) (lines : List (List ℕ)) → has_some lines ≡ true → Means n s lines (verdict g n s lines)
  unfolding verdict
  means n s [] some = absurd (true_false (sym some))
  means n s (text ∷ []) some = last_means n s text
  means n s (text ∷ next ∷ rest) some = by (λ t. means (n + 1) t (next ∷ rest) refl) (case_of n s text)
    where
      by : ((t : S) → Means (n + 1) t (next ∷ rest) (verdict g (n + 1) t (next ∷ rest))) → Case n s text
          → Means n s (text ∷ next ∷ rest) (accepted g n s text >>= λ t. verdict g (n + 1) t (next ∷ rest))
      by later (Good x a b c) =
          let head : accepted g n s text ≡ Ok (said_after g s x) = ap (accepted g n s) c ∙ here_ok n s x a b in
          let from : Means n s (said_text g x ∷ next ∷ rest) (verdict g (n + 1) (said_after g s x) (next ∷ rest)) = means_on n s x (next ∷ rest) _ a b (later (said_after g s x)) in
          subst (λ r. Means n s (text ∷ next ∷ rest) (r >>= λ t. verdict g (n + 1) t (next ∷ rest))) (sym head)
          (subst (λ w. Means n s (w ∷ next ∷ rest) (verdict g (n + 1) (said_after g s x) (next ∷ rest))) (sym c) from)
      by later (Much t) =
          let head : accepted g n s text ≡ Err (Limit n) = ap (accepted g n s) t.spelled ∙ here_limit n s t.line t.stands t.much in
          let here : Stops g n s (text ∷ next ∷ rest) n (IsTooMuch g) = record { said = []; goes = tt; here = text; rest = next ∷ rest; whole = refl; number = sym (add-zero n); why = t } in
          subst (λ r. Means n s (text ∷ next ∷ rest) (r >>= λ t. verdict g (n + 1) t (next ∷ rest))) (sym head) here
      by later (Outside none e) =
          let here : Stops g n s (text ∷ next ∷ rest) n (IsOutside g) = record { said = []; goes = tt; here = text; rest = next ∷ rest; whole = refl; number = sym (add-zero n); why = none } in
          subst (λ r. Means n s (text ∷ next ∷ rest) (r >>= λ t. verdict g (n + 1) t (next ∷ rest))) (sym e) here

  means_verdict : (text : List ℕ) (r : Result S ScriptError) → Means 1 g.start (parts_of 10 text) r → IsVerdict g text r
  means_verdict text (Ok script) h = h
  means_verdict text (Err (BadLine m)) h = h
  means_verdict text (Err (Limit m)) h = h
  means_verdict text (Err Memory) h = absurd h

  -- what the verdict says of a text
  pub is : (text : List ℕ) → IsVerdict g text (verdict g 1 g.start (parts_of 10 text))
  is text = means_verdict text _ (means 1 g.start (parts_of 10 text) (parts_some 10 text))

  -- an answer that is the verdict, unless memory ran out, is what the grammar says
  pub judged_verdict : (text : List ℕ) (r : Result S ScriptError) → Judges r (verdict g 1 g.start (parts_of 10 text)) → IsVerdict g text r
  judged_verdict text (Ok script) e = subst (IsVerdict g text) e (is text)
  judged_verdict text (Err (BadLine m)) e = subst (IsVerdict g text) e (is text)
  judged_verdict text (Err (Limit m)) e = subst (IsVerdict g text) e (is text)
  judged_verdict text (Err Memory) e = tt

  -- an answer that is the verdict, unless memory ran out, is the one that the grammar says
  pub only_due : (text : List ℕ) (r due : Result S ScriptError) → Judges r (verdict g 1 g.start (parts_of 10 text)) → IsVerdict g text due
      → (due ≡ Err Memory → ⊥) → Judges r due
  only_due text r (Ok script) e h some = subst (Judges r) (only_ok 1 g.start (parts_of 10 text) script h) e
  only_due text r (Err (BadLine m)) e h some = subst (Judges r) (only_bad 1 g.start (parts_of 10 text) m h) e
  only_due text r (Err (Limit m)) e h some = subst (Judges r) (only_limit 1 g.start (parts_of 10 text) m h) e
  only_due text r (Err Memory) e h some = absurd (some refl)
