-- A listing is the first of its positions, and a chunk that it gives is that of all positions.
use Rattle.std.proofs.Common.{ℕ, suc, ◌≡◌, ◌≤◌, ◌<◌, ◌⊎◌, inl, inr, Bool, true, false, cond, not, ◌&&◌, ◌||◌, nat_le, nat_lt, List, [], ◌∷◌, ◌++◌, length, take, refl, sym, ap, ◌∙◌, subst, arith}
use Rattle.std.specs.declared.cmp.Ordering.TheVariants.{Less}
use Rattle.std.specs.List.{AllByRecursion}
use Rattle.std.proofs.lemmas.Bool.Decides.{nat_tests}
use Rattle.std.proofs.lemmas.List.{append-nil, append_assoc, take-append-le}
use Rattle.std.proofs.Math.Seq.{take-append_seam}
use Rattle.std.specs.List.Sorted.{IsStrictlySortedBy}
use Rattle.pgs_bytes.proofs.Facts.{true_false, true_or_false}
use Rattle.pgs_name.specs.Positions.{position_cmp}
use Rattle.pgs_name.specs.declared.object_id.ObjectId.{ObjectId}
use Rattle.pgs_range.specs.Ranges.{is_at_most}
use Rattle.pgs_range.specs.declared.bound.Bound.{Bound}
use Rattle.pgs_range.specs.declared.bound.Bound.TheVariants.{Max}
use Rattle.pgs_chunk.specs.Positions.{Ascends}
use Rattle.pgs_chunk.specs.Selection.{from_start, of_one_family, fits, is_enough, IsSelected}
use Rattle.pgs_chunk.specs.Chunk.{bound_at, chunk_of}
use Rattle.pgs_chunk.specs.Next.{next_position}
use Rattle.pgs_chunk.specs.Listings.{is_full, listed_on, listing, IsListing}
use Rattle.pgs_chunk.proofs.Lists.{all_front, all_filtered, filter_all}
use Rattle.pgs_chunk.proofs.Ends.{below_greatest}
use Rattle.pgs_chunk.proofs.Early.{one_end, settled}
use Rattle.pgs_chunk.proofs.Chunks.{from_ascends, chunk_selected}

-- ---- it is the first of its positions

fewer_or_all : (count long : ℕ) → count < suc long → (count < long) ⊎ (count ≡ long)
fewer_or_all count long h = elim (true_or_false (nat_lt count long)) [
  | inl e ↦ inl (grind (arith, nat_tests))
  | inr e ↦ inr (grind (arith, nat_tests))
]

pub one_longer : {X : Type 0} (xs : List X) (x : X) → length (xs ++ x ∷ []) ≡ suc (length xs)
one_longer [] x = refl
one_longer (y ∷ xs) x = ap suc (one_longer xs x)

fewer_of_more : (limit : ℕ) (listed : List ObjectId) (id : ObjectId) → is_full limit listed ≡ false
    → ((count : ℕ) → count < length listed → is_full limit (take count listed) ≡ false)
    → (count : ℕ) → count < length (listed ++ id ∷ []) → is_full limit (take count (listed ++ id ∷ [])) ≡ false
fewer_of_more limit listed id f k count c =
    elim (fewer_or_all count (length listed) (subst (λ n. count < n) (one_longer listed id) c)) [
      | inl less ↦
          let h : count ≤ length listed = omega arith in
          ap (is_full limit) (take-append-le count listed (id ∷ []) h) ∙ k count less
      | inr all ↦ ap (λ n. is_full limit (take n (listed ++ id ∷ []))) all ∙ ap (is_full limit) (take-append_seam listed (id ∷ [])) ∙ f
    ]

one_on : (limit : ℕ) (listed : List ObjectId) (id : ObjectId) (rest : List ObjectId) → ((count : ℕ) → count < length listed → is_full limit (take count listed) ≡ false)
    → IsListing limit (listed ++ id ∷ rest) (listed_on limit (listed ++ id ∷ []) rest) ⊎ (is_full limit listed ≡ true) → (full : Bool) → is_full limit listed ≡ full
    → IsListing limit (listed ++ id ∷ rest) (cond full listed (listed_on limit (listed ++ id ∷ []) rest))
one_on limit listed id rest k more true e = record { rest = id ∷ rest; whole = refl; ended = λ f. absurd (true_false (sym e ∙ f)); least = k }
one_on limit listed id rest k (inl more) false e = more
one_on limit listed id rest k (inr full) false e = absurd (true_false (sym full ∙ e))

on_listing : (limit : ℕ) (listed positions : List ObjectId) → ((count : ℕ) → count < length listed → is_full limit (take count listed) ≡ false)
    → IsListing limit (listed ++ positions) (listed_on limit listed positions)
on_listing limit listed [] k = record { rest = []; whole = refl; ended = λ f. refl; least = k }
on_listing limit listed (id ∷ rest) k =
    one_on limit listed id rest k
    (elim (true_or_false (is_full limit listed)) as (λ _. IsListing limit (listed ++ id ∷ rest) (listed_on limit (listed ++ id ∷ []) rest) ⊎ (is_full limit listed ≡ true)) [
      | inl full ↦ inr full
      | inr f ↦ inl (subst (λ l. IsListing limit l (listed_on limit (listed ++ id ∷ []) rest)) (append_assoc listed (id ∷ []) rest)
          (on_listing limit (listed ++ id ∷ []) rest (fewer_of_more limit listed id f k)))
    ]) (is_full limit listed) refl

none_fewer : (limit count : ℕ) → count < length {A = ObjectId} [] → is_full limit (take count []) ≡ false
none_fewer limit count h = absurd (omega arith)

pub is_listing : (limit : ℕ) (start : Bound) (positions : List ObjectId) → IsListing limit (from_start start positions) (listing limit start positions)
is_listing limit start positions = on_listing limit [] (from_start start positions) (none_fewer limit)

-- ---- its chunk is that of all positions

pub front_ascends : (xs ys : List ObjectId) → Ascends (xs ++ ys) → Ascends xs
unfolding IsStrictlySortedBy
front_ascends [] ys h = tt
front_ascends (x ∷ xs) ys h = (all_front (λ y. position_cmp x y ≡ Less) xs ys h.0, front_ascends xs ys h.1)

neither : (limit long : ℕ) (one : Bool) → not (nat_le long limit || one) ≡ (nat_lt limit long && not one)
neither limit long one = grind (arith, nat_tests)

full_is_enough : (limit : ℕ) (listed : List ObjectId) (start : Bound) → from_start start listed ≡ listed → is_full limit listed ≡ true → is_enough limit listed start ≡ true
full_is_enough limit listed start e f =
    ap (λ l. not (fits limit l Max)) e ∙ ap (λ l. not (nat_le (length l) limit || of_one_family l)) (below_greatest listed)
    ∙ neither limit (length listed) (of_one_family listed) ∙ f

all_from : (start : Bound) (listed : List ObjectId) → AllByRecursion (λ id. is_at_most start id.family ≡ true) listed → from_start start listed ≡ listed
all_from start listed h = filter_all (λ id. is_at_most start id.family) listed h

early_by : (limit : ℕ) (start : Bound) (all listed : List ObjectId) → Ascends all → AllByRecursion (λ id. is_at_most start id.family ≡ true) all
    → IsListing limit all listed → chunk_of limit listed start ≡ chunk_of limit all start
early_by limit start all listed h a is =
    elim (true_or_false (is_full limit listed)) [
      | inr f ↦ ap (λ l. chunk_of limit l start) (sym (is.whole ∙ ap (λ r. listed ++ r) (is.ended f) ∙ append-nil listed))
      | inl f ↦
          let up : Ascends (listed ++ is.rest) = subst Ascends is.whole h in
          let front : Ascends listed = front_ascends listed is.rest up in
          let of : AllByRecursion (λ id. is_at_most start id.family ≡ true) listed =
          all_front (λ id. is_at_most start id.family ≡ true) listed is.rest (subst (AllByRecursion (λ id. is_at_most start id.family ≡ true)) is.whole a) in
          let enough : is_enough limit listed start ≡ true = full_is_enough limit listed start (all_from start listed of) f in
          let stays : IsSelected limit (listed ++ is.rest) start (chunk_of limit listed start) =
          (settled limit listed start (chunk_of limit listed start) front enough (chunk_selected limit listed start front)).whatever is.rest up in
          let stays_of_all : IsSelected limit all start (chunk_of limit listed start) = subst (λ l. IsSelected limit l start (chunk_of limit listed start)) (sym is.whole) stays in
          let end : (chunk_of limit listed start).to ≡ (chunk_of limit all start).to =
          one_end limit (from_start start all) (chunk_of limit listed start).to (chunk_of limit all start).to stays_of_all.ends (chunk_selected limit all start h).ends in
          (λ i. record { from = start; to = end i })
    ]

-- a chunk is given by what is from its start on
chunk_of_from : (limit : ℕ) (start : Bound) (positions all : List ObjectId) → from_start start all ≡ from_start start positions
    → chunk_of limit all start ≡ chunk_of limit positions start
chunk_of_from limit start positions all e = λ i. record { from = start; to = bound_at (next_position limit (e i)) }

pub chunk_early : (limit : ℕ) (start : Bound) (positions : List ObjectId) → Ascends positions
    → chunk_of limit (listing limit start positions) start ≡ chunk_of limit positions start
chunk_early limit start positions h =
    let all : List ObjectId = from_start start positions in
    let a : AllByRecursion (λ id. is_at_most start id.family ≡ true) all = all_filtered (λ id. is_at_most start id.family) positions in
    early_by limit start all (listing limit start positions) (from_ascends start positions h) a (is_listing limit start positions)
    ∙ chunk_of_from limit start positions all (all_from start all a)
