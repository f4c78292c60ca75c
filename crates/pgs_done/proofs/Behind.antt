-- Words as they are appended to a text.
use Rattle.std.proofs.Common.{◌≡◌, ℕ, true, false, List, [], ◌∷◌, ◌++◌, refl, sym, ◌∙◌, ap, append_assoc, append-nil}
use Rattle.std.specs.Prelude.{codes}
use Rattle.std.specs.List.{join_with_byte}
use Rattle.pgs_bytes.proofs.Facts.{true_false}
use Rattle.pgs_words.specs.Forms.{has_some}
use Rattle.pgs_done.specs.Words.{behind, begins}
use Rattle.pgs_done.specs.Done.{step_words, answer_part, done_line}
use Rattle.pgs_done.specs.declared.done.Done.{Done}
use Rattle.pgs_done.specs.declared.done.Done.TheVariants as dones

pub ruleset joins = (append_assoc, append-nil)

join_begins : (w : List ℕ) (ws : List (List ℕ)) → join_with_byte 32 (w ∷ ws) ≡ w ++ behind ws
join_begins w [] = sym (append-nil w)
join_begins w (v ∷ ws) = ap (λ r. w ++ 32 ∷ r) (join_begins v ws)

pub behind_more : (ws vs : List (List ℕ)) → behind (ws ++ vs) ≡ behind ws ++ behind vs
behind_more [] vs = refl
behind_more (w ∷ ws) vs = ap (λ r. 32 ∷ w ++ r) (behind_more ws vs) ∙ ap (λ r. 32 ∷ r) (sym (append_assoc w (behind ws) (behind vs)))

-- words behind words
pub ruleset spreads = (append_assoc, append-nil, behind_more)

join_more : (ws vs : List (List ℕ)) → has_some ws ≡ true → join_with_byte 32 (ws ++ vs) ≡ begins ws ++ behind vs
join_more [] vs e = absurd (true_false (sym e))
join_more (w ∷ ws) vs e = join_begins w (ws ++ vs) ∙ ap (λ r. w ++ r) (behind_more ws vs) ∙ sym (append_assoc w (behind ws) (behind vs))

step_some : (d : Done) → has_some (step_words d) ≡ true
step_some (dones.Write client serial object context op answer) = refl
step_some (dones.Admit client serial answer) = refl
step_some (dones.Collect group client serial answer) = refl
step_some (dones.Pull group osd before now asked) = refl
step_some (dones.Apply group osd answer) = refl
step_some (dones.Tell group osd applied) = refl
step_some (dones.Damage group osd object snap damage answer) = refl
step_some (dones.Begin group kind answer) = refl
step_some (dones.Open group answer) = refl
step_some (dones.Scan group osd answer) = refl
step_some (dones.Take group osd answer) = refl
step_some (dones.Close group answer) = refl
step_some (dones.Interval group acting answer) = refl
step_some (dones.Claim group answer) = refl
step_some (dones.Release group osd answer) = refl
step_some (dones.Job group kind rank moment answer) = refl
step_some (dones.Unjob group answer) = refl
step_some (dones.Pick moment answer) = refl
step_some (dones.Listed text) = refl

-- the line of what was done, as it is appended
pub printed : (d : Done) (out : List ℕ) → ((out ++ begins (step_words d)) ++ behind (answer_part d)) ++ 10 ∷ [] ≡ out ++ done_line d
printed d out =
    let whole : join_with_byte 32 (step_words d ++ answer_part d) ≡ begins (step_words d) ++ behind (answer_part d) = join_more (step_words d) (answer_part d) (step_some d) in
    rw whole (simp append_assoc)
