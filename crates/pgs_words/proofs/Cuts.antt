-- The first part of a text.
use Rattle.std.proofs.Common.{◌≡◌, ℕ, zero, suc, ◌+◌, ◌<◌, ◌≤◌, ◌==◌, inl, inr, Bool, true, false, cond, List, [], ◌∷◌, length, get_or, take, drop, refl, eq-eqb, arith, add-one}
use Rattle.std.proofs.lemmas.Bool.Decides.{eqb_tells}
use Rattle.std.proofs.lemmas.List.Sums.{count_by-le-length}
use Rattle.std.proofs.lemmas.List.Splits.{slice_split-cons_yes, slice_split-cons_no, length-slice_split}
use Rattle.std.specs.List.{onto_first, count_by}
use Rattle.pgs_words.specs.Forms.{parts_of, none_left, has_some}
use Rattle.std.specs.Prelude.{None}

onto_none : (b : ℕ) (parts : List (List ℕ)) → none_left (onto_first b parts) ≡ None
onto_none b [] = refl
onto_none b (part ∷ parts) = refl

cond_none : (test : Bool) (b : ℕ) (parts : List (List ℕ)) → none_left (cond test ([] ∷ parts) (onto_first b parts)) ≡ None
cond_none true b parts = refl
cond_none false b parts = onto_none b parts

-- a text has at least one part
pub never_none : (byte : ℕ) (text : List ℕ) → none_left (parts_of byte text) ≡ None
never_none byte [] = refl
never_none byte (b ∷ bs) = cond_none (b == byte) b (parts_of byte bs)

differs : (a b : ℕ) → (a ≡ b → ⊥) → (a == b) ≡ false
differs a b h = elim (eqb_tells a b) [ inl p ↦ absurd (h p.1) | inr p ↦ p.0 ]

onto_some : (b : ℕ) (parts : List (List ℕ)) → has_some (onto_first b parts) ≡ true
onto_some b [] = refl
onto_some b (part ∷ parts) = refl

cond_some : (test : Bool) (b : ℕ) (parts : List (List ℕ)) → has_some (cond test ([] ∷ parts) (onto_first b parts)) ≡ true
cond_some true b parts = refl
cond_some false b parts = onto_some b parts

pub parts_some : (byte : ℕ) (text : List ℕ) → has_some (parts_of byte text) ≡ true
parts_some byte [] = refl
parts_some byte (b ∷ bs) = cond_some (b == byte) b (parts_of byte bs)

-- and at most one more than it has bytes
pub parts_few : (byte : ℕ) (text : List ℕ) → length (parts_of byte text) ≤ length text + 1
parts_few byte text =
    let count : length (parts_of byte text) ≡ count_by (λ b. b == byte) text + 1 = length-slice_split (λ b. b == byte) text in
    let most : count_by (λ b. b == byte) text ≤ length text = count_by-le-length (λ b. b == byte) text in
    omega arith

-- the byte stands first at i
pub cut_here : (byte : ℕ) (text : List ℕ) (i : ℕ) → i < length text → ((k : ℕ) → k < i → get_or text k 0 ≡ byte → ⊥) → get_or text i 0 ≡ byte
    → parts_of byte text ≡ take i text ∷ parts_of byte (drop (i + 1) text)
cut_here byte [] i h before here = absurd (omega arith)
cut_here byte (b ∷ bs) zero h before here = rw (slice_split-cons_yes (λ c. c == byte) b bs (eq-eqb b byte here)) refl
cut_here byte (b ∷ bs) (suc i) h before here =
    let rest : parts_of byte bs ≡ take i bs ∷ parts_of byte (drop (i + 1) bs) = cut_here byte bs i (omega arith) (λ k lt. before (suc k) (omega arith)) here in
    let no : (b == byte) ≡ false = differs b byte (before 0 (omega arith)) in
    rw (slice_split-cons_no (λ c. c == byte) b bs no, rest, add-one, add-one) refl

-- the byte stands nowhere
pub cut_nowhere : (byte : ℕ) (text : List ℕ) → ((k : ℕ) → k < length text → get_or text k 0 ≡ byte → ⊥) → parts_of byte text ≡ text ∷ []
cut_nowhere byte [] h = refl
cut_nowhere byte (b ∷ bs) h =
    let rest : parts_of byte bs ≡ bs ∷ [] = cut_nowhere byte bs (λ k lt. h (suc k) (omega arith)) in
    let no : (b == byte) ≡ false = differs b byte (h 0 (omega arith)) in
    rw (slice_split-cons_no (λ c. c == byte) b bs no, rest) refl

pub ruleset cuts = (cut_here, cut_nowhere)
