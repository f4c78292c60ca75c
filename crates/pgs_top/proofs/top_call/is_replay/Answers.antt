use Rattle.std.proofs.Common.{◌≡◌, ◌≢◌, List, ℕ, sym, subst, ◌∙◌}
use Rattle.std.specs.Bool.{MatchBool}
use Rattle.std.specs.Prelude.{string_bytes}
use Rattle.pgs_bytes.specs.Texts.{same_text}
use Rattle.pgs_top.specs.Ends.{replay_words}
use Rattle.pgs_top.proofs.Words.{one_word, word_cases}
use Rattle.pgs_top.proofs.top_call.is_replay.Goals as goal

pub returns : goal.returns
returns c =
    subst (λ (ws : List (List ℕ)). MatchBool c.eq.result (ws ≡ replay_words) (ws ≢ replay_words))
    (sym (one_word string_bytes c.args.words.now c.word-item.result c.in-len1.len_at_least c.in-len1.len_below c.word-item.is))
    (word_cases c.eq.result (string_bytes c.word-item.result) _ (c.eq.ensures ∙ (λ i. same_text (c.as_bytes.ensures.value i) (c.as_slice.ensures i))))
