-- The bytes of positions are summed one by one.
use Rattle.std.proofs.Common.{ℕ, ◌≡◌, ◌<◌, ◌+◌, Bool, true, cond, List, [], ◌∷◌, length, filter, Option, Some, None, refl, sym, ap, ◌∙◌, subst, arith}
use Rattle.std.proofs.lemmas.List.Sums.{sum_by-cons}
use Rattle.pgs_name.specs.declared.object_id.ObjectId.{ObjectId}
use Rattle.pgs_range.specs.Listed.{is_ahead, IsNext}
use Rattle.pgs_range.specs.declared.bound.Bound.TheVariants.{Min, Max}
use Rattle.pgs_range.specs.declared.cursor.Cursor.{Cursor}
use Rattle.pgs_range.specs.declared.cursor.Cursor.TheVariants.{At, After}
use Rattle.pgs_chunk.proofs.Members.{next_none, next_some}
use Rattle.pgs_store.specs.Stores.{Stored, is_stored, copy_size}
use Rattle.pgs_shard_history.specs.Positions.{positions}
use Rattle.pgs_shard_history.specs.Stores.{stored_by}
use Rattle.pgs_shard_history.specs.Held.{bytes_at, held}
use Rattle.pgs_shard_history.specs.declared.event.Event.{Event}
use Rattle.pgs_shard.proofs.Listings.{ahead}
use Rattle.pgs_shard_history.proofs.Positions.{are_positions}

-- what was summed so far, and what is still ahead
abbrev pub IsSummed : List Event → ℕ → Cursor → Type 0
IsSummed past so_far cursor = so_far + bytes_at (stored_by past) (ahead past cursor) ≡ held past

all_kept : {X : Type 0} (test : X → Bool) → ((x : X) → test x ≡ true) → (xs : List X) → filter test xs ≡ xs
all_kept test f [] = refl
all_kept test f (x ∷ xs) = ap (λ b. cond b (x ∷ filter test xs) (filter test xs)) (f x) ∙ ap (λ l. x ∷ l) (all_kept test f xs)

pub begins : (past : List Event) → IsSummed past 0 (At Min)
begins past =
    let same : bytes_at (stored_by past) (ahead past (At Min)) ≡ held past = ap (bytes_at (stored_by past)) (all_kept (is_ahead (At Min) Max) (λ id. refl) (positions past)) in
    omega (arith, same)

next_of : (past : List Event) (stored : Stored) (cursor : Cursor) (next : Option ObjectId) → stored ≡ stored_by past → IsNext (is_stored stored) cursor Max next
    → IsNext (is_stored (stored_by past)) cursor Max next
next_of past stored cursor next same is = subst (λ s. IsNext (is_stored s) cursor Max next) same is

one_ahead : (past : List Event) (stored : Stored) (cursor : Cursor) (id : ObjectId) → stored ≡ stored_by past → IsNext (is_stored stored) cursor Max (Some id)
    → ahead past cursor ≡ id ∷ ahead past (After id)
one_ahead past stored cursor id same is = next_some (is_stored (stored_by past)) cursor Max (positions past) id (are_positions past) (next_of past stored cursor (Some id) same is)

pub one_summed : (past : List Event) (stored : Stored) (so_far size now : ℕ) (cursor : Cursor) (id : ObjectId) → stored ≡ stored_by past → IsSummed past so_far cursor
    → IsNext (is_stored stored) cursor Max (Some id) → size ≡ copy_size (stored id.family id.snap) → now ≡ so_far + size → IsSummed past now (After id)
one_summed past stored so_far size now cursor id same is next sized more =
    let one : bytes_at (stored_by past) (ahead past cursor) ≡ copy_size (stored_by past id.family id.snap) + bytes_at (stored_by past) (ahead past (After id)) =
    ap (bytes_at (stored_by past)) (one_ahead past stored cursor id same next) ∙ sum_by-cons (λ o. copy_size (stored_by past o.family o.snap)) id (ahead past (After id)) in
    let sized_so : size ≡ copy_size (stored_by past id.family id.snap) = sized ∙ ap (λ (s : Stored). copy_size (s id.family id.snap)) same in
    omega (arith, is, one, sized_so, more)

pub all_summed : (past : List Event) (stored : Stored) (so_far : ℕ) (cursor : Cursor) → stored ≡ stored_by past → IsSummed past so_far cursor
    → IsNext (is_stored stored) cursor Max None → so_far ≡ held past
all_summed past stored so_far cursor same is next =
    let none : bytes_at (stored_by past) (ahead past cursor) ≡ 0 =
    ap (bytes_at (stored_by past)) (next_none (is_stored (stored_by past)) cursor Max (positions past) (are_positions past) (next_of past stored cursor None same next)) in
    omega (arith, is, none)

pub fewer : (past : List Event) (stored : Stored) (cursor : Cursor) (id : ObjectId) → stored ≡ stored_by past → IsNext (is_stored stored) cursor Max (Some id)
    → length (ahead past (After id)) < length (ahead past cursor)
fewer past stored cursor id same is = subst (λ l. length (ahead past (After id)) < length l) (sym (one_ahead past stored cursor id same is)) (omega arith)

pub ruleset turns = (begins, one_summed, all_summed, fewer)
