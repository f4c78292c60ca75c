-- The scrubs that hold slots, as they are appended.
use Rattle.std.proofs.Common.{◌≡◌, ℕ, List, [], ◌∷◌, ◌++◌, refl, sym, ap, append-nil}
use Rattle.pgs_done.specs.Scrubs.{scrub_word}
use Rattle.pgs_done.specs.Plans.{holders_marked, holder_words}
use Rattle.pgs_done.specs.Words.{behind}
use Rattle.pgs_done.specs.declared.holder.Holder.{Holder}

pub holders_printed : (out : List ℕ) (holders : List Holder) → out ++ holders_marked 32 holders ≡ out ++ behind (holder_words holders)
holders_printed out [] = refl
holders_printed out (h ∷ hs) = ap (λ r. out ++ 32 ∷ r) (sym (append-nil (scrub_word h.group h.serial ++ holders_marked 44 hs)))
