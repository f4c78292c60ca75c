-- The turns of loops over what is listed.
use Rattle.std.proofs.Common.{◌≡◌, ℕ, ◌+◌, ◌<◌, ◌≤◌, Bool, true, false, List, [], ◌∷◌, ◌++◌, length, drop, get_or, map, append_assoc, refl, sym, ap, arith, ◌∙◌, cond, Vec, Global}
use Rattle.serde_json.proofs.Views.{view-Array}
use Rattle.std.proofs.lemmas.List.{drop_more, drop_all, map-append, length-map}
use Rattle.std.specs.List.{filter}
use Rattle.serde_json.specs.Data.{Data, string, array}
use Rattle.serde_json.specs.View.{view, items_of}
use Rattle.serde_json.specs.declared.value.Value.{Value, Array}
use Rattle.pgs_list_json.specs.Members.{word_where}

nothing_more : {A : Type 0} (xs : List A) → xs ++ [] ≡ xs
nothing_more [] = refl
nothing_more (x ∷ xs) = ap (λ ys. x ∷ ys) (nothing_more xs)

-- one more at the end of what is made, and one less of what is left
moved : {A : Type 0} (made new left rest all more : List A) → new ≡ made ++ more → left ≡ more ++ rest → made ++ left ≡ all → new ++ rest ≡ all
moved made new left rest all more e f h = ap (λ ys. ys ++ rest) e ∙ append_assoc made more rest ∙ sym (ap (λ ys. made ++ ys) f) ∙ h

ended : {A : Type 0} (made left all : List A) → left ≡ [] → made ++ left ≡ all → made ≡ all
ended made left all e h = sym (nothing_more made) ∙ sym (ap (λ ys. made ++ ys) e) ∙ h

-- ---- a value for each element

pub value_next : {A : Type 0} (item_of : A → Data) (xs : List A) (at : ℕ) (d : A) (made new : List Value) (value : Value) (all : List Data)
    → at < length xs → new ≡ made ++ value ∷ [] → view value ≡ item_of (get_or xs at d)
    → map view made ++ map item_of (drop at xs) ≡ all → map view new ++ map item_of (drop (at + 1) xs) ≡ all
value_next item_of xs at d made new value all within e is h =
    moved (map view made) (map view new) (map item_of (drop at xs)) (map item_of (drop (at + 1) xs)) all (item_of (get_or xs at d) ∷ [])
    (ap (map view) e ∙ map-append view made (value ∷ []) ∙ ap (λ x. map view made ++ x ∷ []) is)
    (ap (map item_of) (drop_more xs at d within)) h

pub value_end : {A : Type 0} (item_of : A → Data) (xs : List A) (at : ℕ) (made : Vec Value Global) (all : List Data)
    → length xs ≤ at → map view made.items ++ map item_of (drop at xs) ≡ all → view (Array made) ≡ array (items_of all)
value_end item_of xs at made all done h =
    view-Array made ∙ ap (λ ds. array (items_of ds)) (ended (map view made.items) (map item_of (drop at xs)) all (ap (map item_of) (drop_all at xs done)) h)

-- ---- a word for each name that holds

-- the words of the names that pass a test, of the rows of a table
abbrev pub words_left : {R N : Type 0} → (R → N) → (N → Bool) → (N → List ℕ) → List R → List Data
words_left name_of test word rows = map (λ name. string (word name)) (filter test (map name_of rows))

word_first : {N : Type 0} (test : N → Bool) (word : N → List ℕ) (name : N) (names : List N)
    → map (λ n. string (word n)) (filter test (name ∷ names)) ≡ word_where (test name) (word name) ++ map (λ n. string (word n)) (filter test names)
word_first test word name names =
    let P : Bool → Type 0 = λ b. map (λ n. string (word n)) (cond b (name ∷ filter test names) (filter test names)) ≡ word_where b (word name) ++ map (λ n. string (word n)) (filter test names) in
    elim (test name) as P [ true ↦ refl | false ↦ refl ]

counted : {R N : Type 0} (name_of : R → N) (rows : List R) (names : List N) → map name_of rows ≡ names → length rows ≡ length names
counted name_of rows names e = sym (length-map rows name_of) ∙ ap length e

pub word_next : {R N : Type 0} (name_of : R → N) (test : N → Bool) (word : N → List ℕ) (rows : List R) (names : List N) (at : ℕ) (d : R) (made new : List Value) (all : List Data) (so : Bool) (text : List ℕ)
    → map name_of rows ≡ names → at < length names → so ≡ test (name_of (get_or rows at d)) → text ≡ word (name_of (get_or rows at d)) → map view new ≡ map view made ++ word_where so text
    → map view made ++ words_left name_of test word (drop at rows) ≡ all → map view new ++ words_left name_of test word (drop (at + 1) rows) ≡ all
word_next name_of test word rows names at d made new all so text listed below holds says e h =
    let within : at < length rows = let n = counted name_of rows names listed in omega arith in
    let name = name_of (get_or rows at d) in
    moved (map view made) (map view new) (words_left name_of test word (drop at rows)) (words_left name_of test word (drop (at + 1) rows)) all (word_where (test name) (word name))
    (e ∙ ap (λ b. map view made ++ word_where b text) holds ∙ ap (λ t. map view made ++ word_where (test name) t) says) (ap (words_left name_of test word) (drop_more rows at d within) ∙ word_first test word name (map name_of (drop (at + 1) rows))) h

pub word_end : {R N : Type 0} (name_of : R → N) (test : N → Bool) (word : N → List ℕ) (rows : List R) (names : List N) (at : ℕ) (made : Vec Value Global) (all : List Data)
    → map name_of rows ≡ names → length names ≤ at → map view made.items ++ words_left name_of test word (drop at rows) ≡ all → view (Array made) ≡ array (items_of all)
word_end name_of test word rows names at made all listed over h =
    let done : length rows ≤ at = let n = counted name_of rows names listed in omega arith in
    view-Array made ∙ ap (λ ds. array (items_of ds)) (ended (map view made.items) (words_left name_of test word (drop at rows)) all (ap (words_left name_of test word) (drop_all at rows done)) h)
