-- A context's word as it is appended.
use Rattle.std.proofs.Common.{◌≡◌, ℕ, List, [], ◌∷◌, ◌++◌, sym, ap, append_assoc, append-nil}
use Rattle.std.specs.List.{join_with_byte}
use Rattle.std.specs.Fmt.{decimal}
use Rattle.pgs_words.specs.Forms.{all_spelled}
use Rattle.pgs_words.specs.Fields.{number}
use Rattle.pgs_lines.specs.Contexts.{given, given_of}
use Rattle.pgs_done.specs.Contexts.{marked}
use Rattle.pgs_done.specs.Words.{behind}

commas : (s : ℕ) (ss : List ℕ) → join_with_byte 44 (decimal s ∷ all_spelled number ss) ≡ decimal s ++ marked 44 ss
commas s [] = sym (append-nil (decimal s))
commas s (t ∷ ss) = ap (λ r. decimal s ++ 44 ∷ r) (commas t ss)

given_marked : (seq : ℕ) (snaps : List ℕ) → given.spell (given_of (seq, snaps)) ≡ decimal seq ++ marked 58 snaps
given_marked seq [] = sym (append-nil (decimal seq))
given_marked seq (s ∷ ss) = ap (λ r. decimal seq ++ 58 ∷ r) (commas s ss)

pub given_printed : (out : List ℕ) (seq : ℕ) (snaps : List ℕ) → (out ++ behind (decimal seq ∷ [])) ++ marked 58 snaps ≡ out ++ behind (given.spell (record { seq = seq; snaps = snaps }) ∷ [])
given_printed out seq snaps = rw (given_marked seq snaps) (simp (append_assoc, append-nil))
