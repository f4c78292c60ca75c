-- An entry is found by looking at the one in the middle, and then before it or behind it.
use Rattle.std.proofs.Common.{ℕ, ◌≡◌, ◌<◌, Bool, false, cond, List, [], ◌∷◌, ◌++◌, length, take, drop, Option, Some, None, refl, sym, ap, ◌∙◌, subst, arith}
use Rattle.std.specs.declared.cmp.Ordering.{Ordering}
use Rattle.std.specs.declared.cmp.Ordering.TheVariants.{Less, Equal, Greater}
use Rattle.std.specs.Ordering.{is_eq, ordering_reverse}
use Rattle.std.specs.Cmp.{alike_right}
use Rattle.std.specs.Option.{option_or}
use Rattle.std.specs.List.{AllByRecursion}
use Rattle.std.specs.List.Sorted.{IsStrictlySortedBy}
use Rattle.std.proofs.lemmas.List.{take-append-drop}
use Rattle.std.proofs.lemmas.List.Folds.{find-append}
use Rattle.pgs_name.specs.Positions.{position_cmp, same_position}
use Rattle.pgs_name.specs.declared.object_id.ObjectId.{ObjectId}
use Rattle.pgs_name.proofs.Ordered.{position_total, position_same}
use Rattle.pgs_map.specs.Entries.{entry_at, AreAscending}
use Rattle.pgs_map.specs.declared.entry.Entry.{Entry}

abbrev IsBelow : Entry → Entry → Type 0
IsBelow a b = position_cmp a.id b.id ≡ Less

-- every entry of a front stands before the middle, and the middle before all behind it
pub record IsParted (front : List Entry) (middle : Entry) (behind : List Entry) : Type 0 where
  pub front_up : AreAscending front
  pub behind_up : AreAscending behind
  pub before : AllByRecursion (λ e. IsBelow e middle) front
  pub after : AllByRecursion (λ e. IsBelow middle e) behind

all_front : (P : Entry → Type 0) (front : List Entry) (middle : Entry) (behind : List Entry) → AllByRecursion P (front ++ middle ∷ behind)
    → AllByRecursion P front × P middle
all_front P [] middle behind h = (tt, h.0)
all_front P (e ∷ front) middle behind h =
    let more = all_front P front middle behind h.1 in
    ((h.0, more.0), more.1)

pub parted : (front : List Entry) (middle : Entry) (behind : List Entry) → AreAscending (front ++ middle ∷ behind) → IsParted front middle behind
unfolding IsStrictlySortedBy
parted [] middle behind h = record { front_up = tt; behind_up = h.1; before = tt; after = h.0 }
parted (e ∷ front) middle behind h =
    let more = parted front middle behind h.1 in
    let firsts = all_front (λ x. IsBelow e x) front middle behind h.0 in
    record {
      front_up = (firsts.0, more.front_up);
      behind_up = more.behind_up;
      before = (firsts.1, more.before);
      after = more.after;
    }

apart : (id : ObjectId) (e : Entry) (r : Ordering) → position_cmp id e.id ≡ r → is_eq r ≡ false → same_position id e.id ≡ false
apart id e r h n = sym (position_same id e.id) ∙ ap is_eq h ∙ n

passed : {X : Type 0} (p : X → Bool) (x : X) (r : Option X) → p x ≡ false → cond (p x) (Some x) r ≡ r
passed p x r e = ap (λ b. cond b (Some x) r) e

-- an entry that stands before all of a list is none of them
none_after : (id : ObjectId) (entries : List Entry) → AllByRecursion (λ e. position_cmp id e.id ≡ Less) entries → entry_at id entries ≡ None
none_after id [] h = refl
none_after id (e ∷ entries) h =
    passed (λ x. same_position id x.id) e (entry_at id entries) (apart id e Less h.0 refl) ∙ none_after id entries h.1

none_before : (id : ObjectId) (entries : List Entry) → AllByRecursion (λ e. position_cmp e.id id ≡ Less) entries → entry_at id entries ≡ None
none_before id [] h = refl
none_before id (e ∷ entries) h =
    passed (λ x. same_position id x.id) e (entry_at id entries) (apart id e Greater (position_total.antisymm id e.id ∙ ap ordering_reverse h.0) refl)
    ∙ none_before id entries h.1

all_to : (P Q : Entry → Type 0) → ((e : Entry) → P e → Q e) → (entries : List Entry) → AllByRecursion P entries → AllByRecursion Q entries
all_to P Q f [] h = tt
all_to P Q f (e ∷ entries) h = (f e h.0, all_to P Q f entries h.1)

nothing_more : {X : Type 0} (r : Option X) → option_or r None ≡ r
nothing_more None = refl
nothing_more (Some x) = refl

in_whole : (id : ObjectId) (front : List Entry) (middle : Entry) (behind : List Entry)
    → entry_at id (front ++ middle ∷ behind) ≡ option_or (entry_at id front) (entry_at id (middle ∷ behind))
in_whole id front middle behind = find-append (λ e. same_position id e.id) front (middle ∷ behind)

in_front : (id : ObjectId) (front : List Entry) (middle : Entry) (behind : List Entry) → IsParted front middle behind → position_cmp id middle.id ≡ Less
    → entry_at id (front ++ middle ∷ behind) ≡ entry_at id front
in_front id front middle behind h l =
    let none : entry_at id (middle ∷ behind) ≡ None =
    none_after id (middle ∷ behind) (l, all_to (λ e. IsBelow middle e) (λ e. position_cmp id e.id ≡ Less) (λ e k. position_total.trans id middle.id e.id l k) behind h.after) in
    in_whole id front middle behind ∙ ap (option_or (entry_at id front)) none ∙ nothing_more (entry_at id front)

in_behind : (id : ObjectId) (front : List Entry) (middle : Entry) (behind : List Entry) → IsParted front middle behind → position_cmp id middle.id ≡ Greater
    → entry_at id (front ++ middle ∷ behind) ≡ entry_at id behind
in_behind id front middle behind h g =
    let l : position_cmp middle.id id ≡ Less = position_total.antisymm middle.id id ∙ ap ordering_reverse g in
    let none : entry_at id front ≡ None =
    none_before id front (all_to (λ e. IsBelow e middle) (λ e. position_cmp e.id id ≡ Less) (λ e k. position_total.trans e.id middle.id id k l) front h.before) in
    in_whole id front middle behind ∙ ap (λ r. option_or r (entry_at id (middle ∷ behind))) none
    ∙ passed (λ x. same_position id x.id) middle (entry_at id behind) (apart id middle Greater g refl)

in_middle : (id : ObjectId) (front : List Entry) (middle : Entry) (behind : List Entry) → IsParted front middle behind → position_cmp id middle.id ≡ Equal
    → entry_at id (front ++ middle ∷ behind) ≡ Some middle
in_middle id front middle behind h q =
    let none : entry_at id front ≡ None =
    none_before id front (all_to (λ e. IsBelow e middle) (λ e. position_cmp e.id id ≡ Less) (λ e k. alike_right position_total id middle.id e.id q ∙ k) front h.before) in
    in_whole id front middle behind ∙ ap (λ r. option_or r (entry_at id (middle ∷ behind))) none
    ∙ ap (λ b. cond b (Some middle) (entry_at id behind)) (sym (position_same id middle.id) ∙ ap is_eq q)

-- ---- the turns of the search

-- what is left is all that matters
abbrev pub IsLeft : ObjectId → List Entry → List Entry → Type 0
IsLeft id entries rest = AreAscending entries → AreAscending rest × (entry_at id rest ≡ entry_at id entries)

pub starts : (id : ObjectId) (entries : List Entry) → IsLeft id entries entries
starts id entries = λ h. (h, refl)

pub goes_before : (id : ObjectId) (entries rest front : List Entry) (middle : Entry) (behind : List Entry) → IsLeft id entries rest → rest ≡ front ++ middle ∷ behind
    → Less ≡ position_cmp id middle.id → IsLeft id entries front
goes_before id entries rest front middle behind left e l = λ h.
    let parts = parted front middle behind (subst AreAscending e (left h).0) in
    (parts.front_up, sym (in_front id front middle behind parts (sym l)) ∙ ap (entry_at id) (sym e) ∙ (left h).1)

pub goes_behind : (id : ObjectId) (entries rest front : List Entry) (middle : Entry) (behind : List Entry) → IsLeft id entries rest → rest ≡ front ++ middle ∷ behind
    → Greater ≡ position_cmp id middle.id → IsLeft id entries behind
goes_behind id entries rest front middle behind left e g = λ h.
    let parts = parted front middle behind (subst AreAscending e (left h).0) in
    (parts.behind_up, sym (in_behind id front middle behind parts (sym g)) ∙ ap (entry_at id) (sym e) ∙ (left h).1)

pub stops : (id : ObjectId) (entries rest front : List Entry) (middle : Entry) (behind : List Entry) → IsLeft id entries rest → rest ≡ front ++ middle ∷ behind
    → Equal ≡ position_cmp id middle.id → AreAscending entries → Some middle ≡ entry_at id entries
stops id entries rest front middle behind left e q h =
    let parts = parted front middle behind (subst AreAscending e (left h).0) in
    sym (in_middle id front middle behind parts (sym q)) ∙ ap (entry_at id) (sym e) ∙ (left h).1

pub ends : (id : ObjectId) (entries rest : List Entry) → IsLeft id entries rest → rest ≡ [] → AreAscending entries → None ≡ entry_at id entries
ends id entries rest left e h = ap (entry_at id) (sym e) ∙ (left h).1

front_shorter : (front : List Entry) (middle : Entry) (behind : List Entry) → length front < length (front ++ middle ∷ behind)
front_shorter [] middle behind = omega arith
front_shorter (e ∷ front) middle behind = let h : length front < length (front ++ middle ∷ behind) = front_shorter front middle behind in omega arith

behind_shorter : (front : List Entry) (middle : Entry) (behind : List Entry) → length behind < length (front ++ middle ∷ behind)
behind_shorter [] middle behind = omega arith
behind_shorter (e ∷ front) middle behind = let h : length behind < length (front ++ middle ∷ behind) = behind_shorter front middle behind in omega arith

pub fewer_before : (rest front : List Entry) (middle : Entry) (behind : List Entry) → rest ≡ front ++ middle ∷ behind → length front < length rest
fewer_before rest front middle behind e = subst (λ l. length front < length l) (sym e) (front_shorter front middle behind)

pub fewer_behind : (rest front : List Entry) (middle : Entry) (behind : List Entry) → rest ≡ front ++ middle ∷ behind → length behind < length rest
fewer_behind rest front middle behind e = subst (λ l. length behind < length l) (sym e) (behind_shorter front middle behind)

pub ruleset turns = (starts, goes_before, goes_behind, stops, ends, fewer_before, fewer_behind)

-- ---- halves

pub halved : (n : ℕ) (entries : List Entry) (middle : Entry) (behind : List Entry) → drop n entries ≡ middle ∷ behind → entries ≡ take n entries ++ middle ∷ behind
halved n entries middle behind e = sym (take-append-drop n entries) ∙ ap (λ l. take n entries ++ l) e
