-- Digests of texts that are taken in piece by piece.
use Rattle.std.proofs.Common.{ℕ, ◌≡◌, List, [], ◌∷◌, ◌++◌, sym, ap, ◌∙◌}
use Rattle.pgs_crc.specs.Digest.{crc_from}
use Rattle.pgs_crc.proofs.Steps.{crc_from-append}
use Rattle.pgs_copy.specs.Pairs.{Pairs}
use Rattle.pgs_map.specs.Digests.{behind_length, pairs_text}

-- two pieces one after the other
pub two_taken : (old between new : ℕ) (a b : List ℕ) → between ≡ crc_from old a → new ≡ crc_from between b → new ≡ crc_from old (a ++ b)
two_taken old between new a b one two = two ∙ ap (λ c. crc_from c b) one ∙ sym (crc_from-append old a b)

-- a key and its value, in front of the others
pub pair_taken : (old between new whole : ℕ) (key value : List ℕ) (s t : Pairs) → s ≡ (key, value) ∷ t
    → between ≡ crc_from old (behind_length key) → new ≡ crc_from between (behind_length value) → crc_from old (pairs_text s) ≡ whole → crc_from new (pairs_text t) ≡ whole
pair_taken old between new whole key value s t is one two holds =
    let text = behind_length key ++ behind_length value in
    ap (λ c. crc_from c (pairs_text t)) (two_taken old between new (behind_length key) (behind_length value) one two)
    ∙ sym (crc_from-append old text (pairs_text t)) ∙ sym (ap (λ l. crc_from old (pairs_text l)) is) ∙ holds

-- no pair is left
pub none_taken : (now whole : ℕ) (s : Pairs) → s ≡ [] → crc_from now (pairs_text s) ≡ whole → now ≡ whole
none_taken now whole s is holds = sym (ap (λ l. crc_from now (pairs_text l)) is) ∙ holds
