-- A list whose parts are turned about.
use Rattle.std.proofs.Common.{ℕ, ◌≡◌, ◌≤◌, ◌+◌, ◌-◌, List, ◌++◌, length, take, drop, sym, ap, ◌∙◌, arith, append_assoc}
use Rattle.std.proofs.lemmas.List.{take-append-drop, length-append, length-take-le, length-drop, take-take, drop-drop}
use Rattle.std.proofs.Math.Seq.{take-append_seam, drop-append_seam}

seam_take : {X : Type 0} (n : ℕ) (l xs ys : List X) → l ≡ xs ++ ys → n ≡ length xs → take n l ≡ xs
seam_take n l xs ys e c = (λ i. take (c i) (e i)) ∙ take-append_seam xs ys

seam_drop : {X : Type 0} (n : ℕ) (l xs ys : List X) → l ≡ xs ++ ys → n ≡ length xs → drop n l ≡ ys
seam_drop n l xs ys e c = (λ i. drop (c i) (e i)) ∙ drop-append_seam xs ys

-- the second part of three put behind the third
turned : {X : Type 0} (from count : ℕ) (l xs ys zs : List X) → l ≡ xs ++ (ys ++ zs) → from ≡ length xs → count ≡ length ys
    → take from l ++ (drop count (drop from l) ++ take count (drop from l)) ≡ xs ++ (zs ++ ys)
turned from count l xs ys zs e f c =
    let behind : drop from l ≡ ys ++ zs = seam_drop from l xs (ys ++ zs) e f in
    λ i. seam_take from l xs (ys ++ zs) e f i ++ (seam_drop count (drop from l) ys zs behind c i ++ seam_take count (drop from l) ys zs behind c i)

-- four parts: the second is turned to the end and cut off, and then the third
parts_moved : {X : Type 0} (from to all left : ℕ) (l one two three : List X) (xs ms ts ns : List X) → l ≡ xs ++ (ms ++ (ts ++ ns)) → from ≡ length xs
    → to ≡ from + length ms → all ≡ to + length ts → one ≡ take from l ++ (drop (to - from) (drop from l) ++ take (to - from) (drop from l))
    → left ≡ length one - (to - from) → two ≡ take left one → three ≡ take from two ++ (drop (all - to) (drop from two) ++ take (all - to) (drop from two))
    → three ≡ take from l ++ (drop all l ++ drop to (take all l))
parts_moved from to all left l one two three xs ms ts ns e f t a o k w h =
    let gone : to - from ≡ length ms = omega arith in
    let rest : all - to ≡ length ts = omega arith in
    let first : one ≡ xs ++ ((ts ++ ns) ++ ms) = o ∙ turned from (to - from) l xs ms (ts ++ ns) e f gone in
    let first_in_two : one ≡ (xs ++ (ts ++ ns)) ++ ms = first ∙ sym (append_assoc xs (ts ++ ns) ms) in
    let long : length one ≡ length (xs ++ (ts ++ ns)) + length ms = ap length first_in_two ∙ length-append (xs ++ (ts ++ ns)) ms in
    let left_is : left ≡ length (xs ++ (ts ++ ns)) = omega arith in
    let second : two ≡ xs ++ (ts ++ ns) = w ∙ seam_take left one (xs ++ (ts ++ ns)) ms first_in_two left_is in
    let third : three ≡ xs ++ (ns ++ ts) = h ∙ turned from (all - to) two xs ts ns second f rest in
    let upto : l ≡ (xs ++ ms) ++ (ts ++ ns) = e ∙ sym (append_assoc xs ms (ts ++ ns)) in
    let whole : l ≡ ((xs ++ ms) ++ ts) ++ ns = upto ∙ sym (append_assoc (xs ++ ms) ts ns) in
    let front_long : length (xs ++ ms) ≡ length xs + length ms = length-append xs ms in
    let count : to ≡ length (xs ++ ms) = omega arith in
    let whole_long : length ((xs ++ ms) ++ ts) ≡ length (xs ++ ms) + length ts = length-append (xs ++ ms) ts in
    let all_is : all ≡ length ((xs ++ ms) ++ ts) = omega arith in
    let was : take all l ≡ (xs ++ ms) ++ ts = seam_take all l ((xs ++ ms) ++ ts) ns whole all_is in
    third
    ∙ sym (λ i. seam_take from l xs (ms ++ (ts ++ ns)) e f i
    ++ (seam_drop all l ((xs ++ ms) ++ ts) ns whole all_is i ++ seam_drop to (take all l) (xs ++ ms) ts was count i))

-- any list has such parts
pub moved : {X : Type 0} (from to all left : ℕ) (l one two three : List X) → from ≤ to → to ≤ all → all ≤ length l
    → one ≡ take from l ++ (drop (to - from) (drop from l) ++ take (to - from) (drop from l)) → left ≡ length one - (to - from) → two ≡ take left one
    → three ≡ take from two ++ (drop (all - to) (drop from two) ++ take (all - to) (drop from two))
    → three ≡ take from l ++ (drop all l ++ drop to (take all l))
moved from to all left l one two three p q r o k w h =
    let d = drop from l in
    let b = drop (to - from) d in
    let xs = take from l in
    let ms = take (to - from) d in
    let ts = take (all - to) b in
    let ns = drop (all - to) b in
    let e : l ≡ xs ++ (ms ++ (ts ++ ns)) =
    sym (ap (λ y. xs ++ (ms ++ y)) (take-append-drop (all - to) b) ∙ ap (λ y. xs ++ y) (take-append-drop (to - from) d) ∙ take-append-drop from l) in
    let d_long : length d ≡ length l - from = length-drop from l in
    let b_long : length b ≡ length d - (to - from) = length-drop (to - from) d in
    let xs_long : length xs ≡ from = length-take-le from l (omega arith) in
    let ms_long : length ms ≡ to - from = length-take-le (to - from) d (omega arith) in
    let ts_long : length ts ≡ all - to = length-take-le (all - to) b (omega arith) in
    parts_moved from to all left l one two three xs ms ts ns e (sym xs_long) (omega arith) (omega arith) o k w h

-- what stands within a cut swapped with as much behind the cut list, which is cut off
pub exchanged : {X : Type 0} (from to all : ℕ) (l two three : List X) → from ≤ to → to ≤ all → all ≤ length l → length l ≡ all + (to - from)
    → two ≡ (take from (take all l) ++ (drop all l ++ drop (to - from) (drop from (take all l)))) ++ take (to - from) (drop from (take all l))
    → three ≡ take all two → three ≡ take from l ++ (drop all l ++ drop to (take all l))
exchanged from to all l two three p q r s t e =
    let f = take all l in
    let gone = to - from in
    let rest = drop gone (drop from f) in
    let made = take from f ++ (drop all l ++ rest) in
    let f_long : length f ≡ all = length-take-le all l r in
    let front_long : length (take from f) ≡ from = length-take-le from f (omega arith) in
    let back_long : length (drop all l) ≡ length l - all = length-drop all l in
    let from_long : length (drop from f) ≡ length f - from = length-drop from f in
    let rest_long : length rest ≡ length (drop from f) - gone = length-drop gone (drop from f) in
    let tail_long : length (drop all l ++ rest) ≡ length (drop all l) + length rest = length-append (drop all l) rest in
    let made_long : length made ≡ length (take from f) + length (drop all l ++ rest) = length-append (take from f) (drop all l ++ rest) in
    let whole : all ≡ length made = omega arith in
    let front : take from f ≡ take from l = take-take from all l (omega arith) in
    let upto : from + gone ≡ to = omega arith in
    let back : rest ≡ drop to f = drop-drop gone from f ∙ ap (λ n. drop n f) upto in
    e ∙ seam_take all two made (take gone (drop from f)) t whole ∙ (λ i. front i ++ (drop all l ++ back i))
