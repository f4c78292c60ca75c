-- Writes that wait, whose requests stand neither in the log nor twice.
use Rattle.std.proofs.Common.{◌≡◌, ℕ, nat_eq, Bool, true, false, cond, ◌&&◌, ◌||◌, List, [], ◌∷◌, ◌++◌, Some, None, refl, sym, ap, ◌∙◌, subst, arith}
use Rattle.std.proofs.lemmas.Bool.Decides.{nat_tests}
use Rattle.std.proofs.lemmas.List.Folds.{list_any-append}
use Rattle.pgs_bytes.proofs.Facts.{joined}
use Rattle.pgs_request.specs.declared.req_id.ReqId.{ReqId}
use Rattle.pgs_request.specs.declared.version.Version.{Version}
use Rattle.pgs_op.specs.declared.write.Write.{Write}
use Rattle.pgs_op_log.specs.Logs.{same_id, version_in}
use Rattle.pgs_gate.specs.Waits.{is_parked}
use Rattle.pgs_history.specs.Parked.{put_last, without, AreNew}
use Rattle.pgs_history.proofs.Weighed.{either_false}

same_number : (a b : ℕ) → nat_eq a b ≡ nat_eq b a
same_number a b = grind (arith, nat_tests)

pub id_turned : (a b : ReqId) → same_id a b ≡ same_id b a
id_turned a b = λ i. same_number a.client b.client i && same_number a.serial b.serial i

pub id_itself : (a : ReqId) → same_id a a ≡ true
id_itself a = joined (nat_eq a.client a.client) (nat_eq a.serial a.serial) (grind (arith, nat_tests)) (grind (arith, nat_tests))

-- one request more in the log, of which no write waits
pub new_logged : (ids : List (ReqId × Version)) (writes : List Write) (id : ReqId) (version : Version) → AreNew ids writes → is_parked writes id ≡ false
    → AreNew ((id, version) ∷ ids) writes
new_logged ids [] id version new apart = tt
new_logged ids (write ∷ writes) id version new apart =
    let parts = either_false (same_id write.id id) (is_parked writes id) apart in (
      ap (λ t. cond t (Some version) (version_in ids write.id)) (id_turned id write.id ∙ parts.0) ∙ new.0,
      new.1,
      new_logged ids writes id version new.2 parts.1,
    )

-- one write more behind the others
pub new_behind : (ids : List (ReqId × Version)) (writes : List Write) (write : Write) → AreNew ids writes → version_in ids write.id ≡ None → is_parked writes write.id ≡ false
    → AreNew ids (writes ++ write ∷ [])
new_behind ids [] write new unlogged apart = (unlogged, refl, tt)
new_behind ids (other ∷ writes) write new unlogged apart =
    let parts = either_false (same_id other.id write.id) (is_parked writes write.id) apart in (
      new.0,
      list_any-append (λ w. same_id w.id other.id) writes (write ∷ [])
          ∙ ap (λ t. t || (same_id write.id other.id || false)) new.1
          ∙ ap (λ t. t || false) (id_turned write.id other.id ∙ parts.0),
      new_behind ids writes write new.2 unlogged parts.1,
    )

pub new_last : (ids : List (ReqId × Version)) (writes : List Write) (write : Write) → AreNew ids writes → version_in ids write.id ≡ None → AreNew ids (put_last write writes)
new_last ids writes write new unlogged =
    let P : Bool → Type 0 = λ v. is_parked writes write.id ≡ v → AreNew ids (cond v writes (writes ++ write ∷ [])) in
    (elim (is_parked writes write.id) as P [
      | true ↦ λ old. new
      | false ↦ λ apart. new_behind ids writes write new unlogged apart
    ]) refl

-- the first write is the first of its id
pub without_first : (write : Write) (rest : List Write) → without write.id (write ∷ rest) ≡ rest
without_first write rest = ap (λ t. cond t rest (write ∷ without write.id rest)) (id_itself write.id)

-- the first write doesn't wait any more
pub new_rest : (ids : List (ReqId × Version)) (writes rest : List Write) (write : Write) → writes ≡ write ∷ rest → AreNew ids writes → AreNew ids (without write.id writes)
new_rest ids writes rest write whole new = subst (AreNew ids) (sym (ap (without write.id) whole ∙ without_first write rest)) (subst (AreNew ids) whole new).2

-- and is in the log
pub new_admitted : (ids : List (ReqId × Version)) (writes rest : List Write) (write : Write) (version : Version) → writes ≡ write ∷ rest → AreNew ids writes
    → AreNew ((write.id, version) ∷ ids) (without write.id writes)
new_admitted ids writes rest write version whole new =
    let h = subst (AreNew ids) whole new in
    subst (AreNew ((write.id, version) ∷ ids)) (sym (ap (without write.id) whole ∙ without_first write rest)) (new_logged ids rest write.id version h.2 h.1)

-- a write that waits first is in no log
pub first_new : (ids : List (ReqId × Version)) (writes rest : List Write) (write : Write) → writes ≡ write ∷ rest → AreNew ids writes → version_in ids write.id ≡ None
first_new ids writes rest write whole new = (subst (AreNew ids) whole new).0
