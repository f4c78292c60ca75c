-- What stands in a piece, and what several calls make of it.
use Rattle.std.proofs.Common.{◌≡◌, ℕ, ◌+◌, ◌-◌, ◌≤◌, List, ◌++◌, length, take, drop, Option, arith, sym, ap, subst, length-append, length-drop, take-append-drop}
use Rattle.std.proofs.lemmas.List.{take_all, take_at, drop-drop, length-take-le, length-take}
use Rattle.std.proofs.Math.Seq.{take-add}
use Rattle.std.proofs.KnownBytes.{Appends-trans, Consumes-trans}
use Rattle.std.specs.Io.KnownBytes.{Appends, Consumes}
use Rattle.pgs_edge.specs.Reading.{TakesAtMost}

-- the rest of a list from a place, as a slice has it
pub rest_at : (xs : List ℕ) (at : ℕ) → take (length xs - at) (drop at xs) ≡ drop at xs
rest_at xs at = take_all _ _ (omega (arith, length-drop at xs))

-- what two calls take, one after the other, is a longer front
pub appends_front : (a b c : Option (List ℕ)) (m n : ℕ) (xs : List ℕ) → Appends a b (take m xs) → Appends b c (take n (take (length xs - m) (drop m xs)))
    → Appends a c (take (m + n) xs)
appends_front a b c m n xs first second =
    let next : Appends b c (take n (drop m xs)) = subst (λ l. Appends b c (take n l)) (rest_at xs m) second in
    subst (Appends a c) (sym (take-add m n xs)) (Appends-trans a b c _ _ first next)

-- a piece got the first of the bytes from a place on, and the others are left
pub given_front : (text behind : List ℕ) (at n : ℕ) → n ≤ length text - at
    → drop at text ≡ take n (take n (take (length text - at) (drop at text)) ++ behind) ++ drop (at + n) text
given_front text behind at n fits =
    let front : take n (take (length text - at) (drop at text)) ≡ take n (drop at text) = ap (take n) (rest_at text at) in
    let whole : length (take n (drop at text)) ≡ n = length-take-le n (drop at text) (omega (arith, length-drop at text)) in
    rw (front, take_at _ behind n whole, ← drop-drop n at text) (sym (take-append-drop n (drop at text)))

-- what was taken in several calls and then in one more is a front
pub takes_more : (a b c : Option (List ℕ)) (text piece : List ℕ) (count most : ℕ) → Consumes a b text → Consumes b c (take count piece) → length text + length piece ≤ most
    → TakesAtMost a c most
takes_more a b c text piece count most first second fits =
    (text ++ take count piece, Consumes-trans a b c _ _ first second, omega (arith, length-append text (take count piece), length-take count piece))
