-- Requests that are parked, and that none is parked twice.
use Rattle.std.proofs.Common.{◌≡◌, ◌≢◌, suc, ◌<◌, nat_eq, Bool, true, false, List, [], ◌∷◌, ◌++◌, length, sym, subst, ◌∙◌, arith}
use Rattle.std.specs.Prelude.{◌↔◌, IsTrue, Option, Some, None}
use Rattle.std.specs.Option.{option_to_list}
use Rattle.std.specs.List.{Any}
use Rattle.std.proofs.lemmas.Bool.Decides.{nat_tests}
use Rattle.std.proofs.lemmas.List.{length_push}
use Rattle.std.proofs.lemmas.List.Folds.{Any-from_list_any, list_any-from_Any, list_any_at}
use Rattle.std.proofs.lemmas.List.Quantifiers.{all_pairs_push}
use Rattle.pgs_bytes.proofs.Facts.{both, joined, true_false}
use Rattle.pgs_request.specs.declared.req_id.ReqId.{ReqId}
use Rattle.pgs_op.specs.declared.write.Write.{Write}
use Rattle.pgs_gate.specs.declared.limits.TheConstants.{MOST_PARKED}
use Rattle.pgs_gate.specs.Waits.{same_id, is_parked, AreDistinct, IsKept}

-- ---- ids

same_id_is : (a b : ReqId) → same_id a b ≡ true → a ≡ b
same_id_is a b e =
    let parts = both (nat_eq a.client b.client) (nat_eq a.serial b.serial) e in
    let client : a.client ≡ b.client = grind (arith, nat_tests, parts.0) in
    let serial : a.serial ≡ b.serial = grind (arith, nat_tests, parts.1) in
    λ i. record { client = client i; serial = serial i }

same_id_itself : (a : ReqId) → same_id a a ≡ true
same_id_itself a =
    let client : nat_eq a.client a.client ≡ true = grind (arith, nat_tests) in
    let serial : nat_eq a.serial a.serial ≡ true = grind (arith, nat_tests) in
    joined (nat_eq a.client a.client) (nat_eq a.serial a.serial) client serial

same_id_from : (a b : ReqId) → a ≡ b → same_id a b ≡ true
same_id_from a b e = subst (λ x. same_id a x ≡ true) e (same_id_itself a)

-- ---- what is parked

-- a request is parked exactly where one of the writes has its id
pub parked_is : (told : Bool) (writes : List Write) (id : ReqId) → told ≡ is_parked writes id → IsTrue told ↔ Any (λ write. write.id ≡ id) writes
parked_is told writes id e = (
  λ yes. let found = Any-from_list_any (λ write. same_id write.id id) writes (sym e ∙ yes) in (found.0, found.1, found.2, found.3, same_id_is _ _ found.4),
  λ found. e ∙ list_any-from_Any (λ write. same_id write.id id) writes (found.0, found.1, found.2, found.3, same_id_from _ _ found.4),
)

-- ---- none is parked twice

distinct_rest : (write : Write) (writes : List Write) → AreDistinct (write ∷ writes) → AreDistinct writes
distinct_rest write writes distinct = λ i j d before within. distinct (suc i) (suc j) d (omega arith) (omega arith)

distinct_behind : (writes : List Write) (write : Write) → AreDistinct writes → is_parked writes write.id ≡ false → AreDistinct (writes ++ write ∷ [])
distinct_behind writes write distinct fresh =
    all_pairs_push (λ earlier later. earlier.id ≢ later.id) writes write distinct
    (λ k d within same.
    true_false (sym (list_any_at (λ other. same_id other.id write.id) writes k d within (same_id_from _ _ same)) ∙ fresh))

-- ---- what is kept

pub kept_behind : (writes : List Write) (write : Write) → IsKept writes → length writes < MOST_PARKED → is_parked writes write.id ≡ false → IsKept (writes ++ write ∷ [])
kept_behind writes write kept room fresh = record {
  within = rw (length_push writes write) (omega arith);
  distinct = distinct_behind writes write kept.distinct fresh;
}

kept_tail : (write : Write) (writes : List Write) → IsKept (write ∷ writes) → IsKept writes
kept_tail write writes kept = record { within = omega arith; distinct = distinct_rest write writes kept.distinct }

pub kept_rest : (first : Option Write) (old new : List Write) → IsKept old → old ≡ option_to_list first ++ new → IsKept new
kept_rest None old new kept e = subst IsKept e kept
kept_rest (Some first) old new kept e = kept_tail first new (subst IsKept e kept)
