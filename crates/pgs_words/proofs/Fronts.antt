-- What stands behind a front.
use Rattle.std.proofs.Common.{◌≡◌, ℕ, ◌<◌, ◌≤◌, ◌==◌, ◌&&◌, Bool, true, false, cond, List, [], ◌∷◌, length, take, drop, refl, arith}
use Rattle.std.specs.Prelude.{None}
use Rattle.pgs_words.specs.Forms.{after_front, same_text, when}

-- a front that is longer than the text
pub after_short : (front text : List ℕ) → length text < length front → after_front front text ≡ None
unfolding after_front
after_short [] text h = absurd (omega arith)
after_short (c ∷ front) [] h = refl
after_short (c ∷ front) (b ∷ text) h = one (b == c) (after_short front text (omega arith))
  where
    one : (test : Bool) → after_front front text ≡ None → cond test (after_front front text) None ≡ None
    one true e = e
    one false e = refl

-- one that isn't
pub after_long : (front text : List ℕ) → length front ≤ length text → after_front front text ≡ when (same_text (take (length front) text) front) (drop (length front) text)
unfolding after_front
after_long [] text h = refl
after_long (c ∷ front) [] h = absurd (omega arith)
after_long (c ∷ front) (b ∷ text) h = one (b == c) (after_long front text (omega arith))
  where
    one : (test : Bool) → after_front front text ≡ when (same_text (take (length front) text) front) (drop (length front) text)
        → cond test (after_front front text) None ≡ when (test && same_text (take (length front) text) front) (drop (length front) text)
    one true e = e
    one false e = refl

pub ruleset fronts = (after_short, after_long)
