-- A name is refused exactly where its parts leave their bounds.
use Rattle.std.proofs.Common.{ℕ, ◌≡◌, ◌+◌, Bool, true, false, not, cond, ◌&&◌, List, [], ◌∷◌, length, refl, sym, ap, ◌∙◌, arith}
use Rattle.std.specs.Prelude.{Option, Some, None, nat_le, nat_lt, ◌==◌, option_map}
use Rattle.std.specs.Bool.{then_some}
use Rattle.std.specs.List.{position, position_from, list_all}
use Rattle.std.specs.Option.{is_none, option_or}
use Rattle.std.proofs.lemmas.Bool.Decides.{nat_tests}
use Rattle.std.proofs.lemmas.Iterator.Adapters.{position_from-zero}
use Rattle.pgs_bytes.proofs.Facts.{both, joined, none_some, true_false}
use Rattle.pgs_name.specs.Bounds.{plain_byte, is_plain, is_dash, is_word, is_name, is_snap, is_named}
use Rattle.pgs_name.specs.Refusal.{bytes_refusal, word_refusal, name_refusal, snap_refusal, refusal_of}
use Rattle.pgs_name.specs.declared.part.Part.{Part}
use Rattle.pgs_name.specs.declared.part.Part.TheVariants.{Space, Key, Name}
use Rattle.pgs_name.specs.declared.name_error.NameError.{NameError}
use Rattle.pgs_name.specs.declared.name_error.NameError.TheVariants.{NameTooLong, BadName, BadSnap}

is_none-option_or : {A : Type 0} (a b : Option A) → is_none (option_or a b) ≡ (is_none a && is_none b)
is_none-option_or None b = refl
is_none-option_or (Some x) b = refl

is_none-then_some : {A : Type 0} (t : Bool) (x : A) → is_none (then_some t x) ≡ not t
is_none-then_some true x = refl
is_none-then_some false x = refl

is_none-option_map : {A B : Type 0} (f : A → B) (a : Option A) → is_none (option_map f a) ≡ is_none a
is_none-option_map f None = refl
is_none-option_map f (Some x) = refl

none_from : {A : Type 0} (a : Option A) → is_none a ≡ true → a ≡ None
none_from None e = refl
none_from (Some x) e = cc

-- no byte fails the test exactly where all pass
is_none-position_from : (t : ℕ → Bool) (i : ℕ) (w : List ℕ) → is_none (position_from (λ b. not (t b)) i w) ≡ list_all t w
is_none-position_from t i [] = refl
is_none-position_from t i (x ∷ w) =
    elim (t x) as (λ v. is_none (cond (not v) (Some i) (position_from (λ b. not (t b)) (i + 1) w)) ≡ (v && list_all t w)) [
      | true ↦ is_none-position_from t (i + 1) w
      | false ↦ refl
    ]

is_none-position : (t : ℕ → Bool) (w : List ℕ) → is_none (position (λ b. not (t b)) w) ≡ list_all t w
is_none-position t w = ap is_none (position_from-zero (λ b. not (t b)) w) ∙ is_none-position_from t 0 w

not-nat_lt : (a b : ℕ) → not (nat_lt a b) ≡ nat_le b a
not-nat_lt a b = grind (arith, nat_tests)

is_none-cond : {A : Type 0} (t : Bool) (x : A) (a : Option A) → is_none (cond t (Some x) a) ≡ (not t && is_none a)
is_none-cond true x a = refl
is_none-cond false x a = refl

both_same : (a b c d : Bool) → a ≡ b → c ≡ d → (a && c) ≡ (b && d)
both_same a b c d p q = cc

not-not : (a : Bool) → not (not a) ≡ a
not-not true = refl
not-not false = refl

grouped : (a b c d : Bool) → (a && (b && (c && d))) ≡ (a && b && c && d)
grouped true true c d = refl
grouped true false c d = refl
grouped false b c d = refl

turned : (a b c : Bool) → (a && b && c) ≡ (c && a && b)
turned true true true = refl
turned true true false = refl
turned true false true = refl
turned true false false = refl
turned false b true = refl
turned false b false = refl

not-zero : (n : ℕ) → not (n == 0) ≡ nat_le 1 n
not-zero n = grind (arith, nat_tests)

is_none-bytes : (part : Part) (most : ℕ) (w : List ℕ) → is_none (bytes_refusal part most w) ≡ (nat_le (length w) most && is_plain w)
is_none-bytes part most w =
    let found : Option ℕ = position (λ b. not (plain_byte b)) w in
    is_none-cond (nat_lt most (length w)) (NameTooLong part) (option_map (λ at. BadName part at) found)
    ∙ both_same _ _ _ _ (not-nat_lt most (length w)) (is_none-option_map (λ at. BadName part at) found ∙ is_none-position plain_byte w)

is_none-word : (part : Part) (most : ℕ) (w : List ℕ) → is_none (word_refusal part most w) ≡ is_word most w
is_none-word part most w =
    is_none-option_or (bytes_refusal part most w) (then_some (is_dash w) (BadName part 0))
    ∙ both_same _ _ _ _ (is_none-bytes part most w) (is_none-then_some (is_dash w) (BadName part 0))

is_none-name : (w : List ℕ) → is_none (name_refusal w) ≡ is_name w
is_none-name w =
    is_none-option_or (bytes_refusal Name 255 w) (then_some (length w == 0) (BadName Name 0))
    ∙ both_same _ _ _ _ (is_none-bytes Name 255 w) (is_none-then_some (length w == 0) (BadName Name 0) ∙ not-zero (length w))
    ∙ turned (nat_le (length w) 255) (is_plain w) (nat_le 1 (length w))

is_none-snap : (snap : ℕ) → is_none (snap_refusal snap) ≡ is_snap snap
is_none-snap snap = is_none-then_some (not (is_snap snap)) BadSnap ∙ not-not (is_snap snap)

pub is_none-refusal_of : (space key name : List ℕ) (snap : ℕ) → is_none (refusal_of space key name snap) ≡ is_named space key name snap
unfolding refusal_of
is_none-refusal_of space key name snap =
    is_none-option_or (word_refusal Space 64 space) (option_or (word_refusal Key 255 key) (option_or (name_refusal name) (snap_refusal snap)))
    ∙ both_same _ _ _ _ (is_none-word Space 64 space)
    (is_none-option_or (word_refusal Key 255 key) (option_or (name_refusal name) (snap_refusal snap))
    ∙ both_same _ _ _ _ (is_none-word Key 255 key)
    (is_none-option_or (name_refusal name) (snap_refusal snap) ∙ both_same _ _ _ _ (is_none-name name) (is_none-snap snap)))
    ∙ grouped (is_word 64 space) (is_word 255 key) (is_name name) (is_snap snap)

-- parts within their bounds are not refused
pub no_refusal : (space key name : List ℕ) (snap : ℕ) → is_named space key name snap ≡ true → refusal_of space key name snap ≡ None
no_refusal space key name snap within = none_from (refusal_of space key name snap) (is_none-refusal_of space key name snap ∙ within)

-- what is not refused is within its bounds
pub within_bounds : (space key name : List ℕ) (snap : ℕ) → refusal_of space key name snap ≡ None → is_named space key name snap ≡ true
within_bounds space key name snap e = sym (is_none-refusal_of space key name snap) ∙ ap is_none e

-- parts within their bounds have no refusal
pub not_refused : (space key name : List ℕ) (snap : ℕ) (e : NameError) → refusal_of space key name snap ≡ Some e → is_named space key name snap ≡ true → ⊥
not_refused space key name snap e refused within = none_some e (sym (no_refusal space key name snap within) ∙ refused)

-- parts that are each within their bounds
pub named : (space key name : List ℕ) (snap : ℕ) → is_word 64 space ≡ true → is_word 255 key ≡ true → is_name name ≡ true → is_snap snap ≡ true → is_named space key name snap ≡ true
named space key name snap s k n t =
    joined (is_word 64 space && is_word 255 key && is_name name) (is_snap snap)
    (joined (is_word 64 space && is_word 255 key) (is_name name) (joined (is_word 64 space) (is_word 255 key) s k) n) t
