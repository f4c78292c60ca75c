-- The ids and numbers of a legal log.
use Rattle.std.proofs.Common.{◌≡◌, ℕ, suc, ◌+◌, ◌≤◌, ◌==◌, nat_eq, max, Bool, true, false, cond, List, [], ◌∷◌, length, Some, None, refl, sym, ap, ◌∙◌, subst, arith}
use Rattle.std.proofs.lemmas.Bool.Decides.{nat_tests}
use Rattle.std.proofs.lemmas.List.Sums.{sum_by-cons}
use Rattle.pgs_bytes.proofs.Facts.{none_some, some_same, both}
use Rattle.pgs_request.specs.declared.req_id.ReqId.{ReqId}
use Rattle.pgs_request.specs.declared.version.Version.{Version}
use Rattle.pgs_history.specs.Log.{log, ids}
use Rattle.pgs_op_log.specs.Logs.{same_id, version_in, AreNumbered}
use Rattle.pgs_history.specs.Members.{pulled}
use Rattle.pgs_history.specs.Scrubs.{open_chunk}
use Rattle.pgs_history.specs.Parked.{parked, without, AreNew}
use Rattle.pgs_op.specs.declared.write.Write.{Write}
use Rattle.pgs_history.specs.Legal.{IsLegal}
use Rattle.pgs_history.specs.Facts.{AreDistinct, times}
use Rattle.pgs_history.specs.declared.write_answer.WriteAnswer.TheVariants.{Declined, Parked, QueueFull, Accepted}
use Rattle.pgs_history.specs.declared.event.Event.{Event}
use Rattle.pgs_history.specs.declared.event.Event.TheVariants.{Submit, Admit, Collect, Pull, Tell, Begin, Reserve, Open, Take, Close, Fault, Interval}
use Rattle.pgs_history.specs.declared.made.Made.{Made}
use Rattle.pgs_history.proofs.Answered.{accepted_is, admitted_is, parked_is, IsFirst, first_is, apart_is}
use Rattle.pgs_history.proofs.New.{new_logged, new_last, new_rest, new_admitted, first_new}

-- ---- numbers

pub numbered : (made : Made) (past : List Event) → IsLegal made past → AreNumbered (log past)
numbered made [] legal = tt
numbered made (Submit write (Accepted version preempts) ∷ past) legal = (ap (λ v. v.number) (sym (accepted_is made past write version preempts legal.1).next), numbered made past legal.2)
numbered made (Submit write (Declined why) ∷ past) legal = numbered made past legal.2
numbered made (Submit write (Parked range) ∷ past) legal = numbered made past legal.2
numbered made (Submit write (QueueFull count) ∷ past) legal = numbered made past legal.2
numbered made (Admit write (Accepted version preempts) ∷ past) legal = (ap (λ v. v.number) (sym (admitted_is made past write version preempts legal.1.1).next), numbered made past legal.2)
numbered made (Admit write (Declined why) ∷ past) legal = numbered made past legal.2
numbered made (Admit write (Parked range) ∷ past) legal = numbered made past legal.2
numbered made (Admit write (QueueFull count) ∷ past) legal = numbered made past legal.2
numbered made (Collect id version ∷ past) legal = numbered made past legal.2
numbered made (Pull osd from to asked ∷ past) legal = numbered made past legal.2
numbered made (Tell osd applied ∷ past) legal = numbered made past legal.2
numbered made (Begin kind answer ∷ past) legal = numbered made past legal.2
numbered made (Open serial listed answer ∷ past) legal = numbered made past legal.2
numbered made (Take place map answer ∷ past) legal = numbered made past legal.2
numbered made (Close chunk answer ∷ past) legal = numbered made past legal.2
numbered made (Reserve serial osd denied answer ∷ past) legal = numbered made past legal.2
numbered made (Fault serial number osd count answer ∷ past) legal = numbered made past legal.2
numbered made (Interval osds answer ∷ past) legal = numbered made past legal.2

-- ---- ids

pub same_id_is : (a b : ReqId) → same_id a b ≡ true → a ≡ b
same_id_is a b e =
    let parts = both (nat_eq a.client b.client) (nat_eq a.serial b.serial) e in
    let client : a.client ≡ b.client = grind (arith, nat_tests, parts.0) in
    let serial : a.serial ≡ b.serial = grind (arith, nat_tests, parts.1) in
    λ i. record { client = client i; serial = serial i }

-- The ids of the log differ from each other and from those of the writes that wait, which differ from each other.
pub record IsApart (past : List Event) : Type 0 where
  pub logged : AreDistinct (ids past)
  pub waits : AreNew (ids past) (parked past)

same_apart : (past new : List Event) → ids new ≡ ids past → parked new ≡ parked past → IsApart past → IsApart new
same_apart past new i p h = record {
  logged = subst AreDistinct (sym i) h.logged;
  waits = subst (λ writes. AreNew (ids new) writes) (sym p) (subst (λ list. AreNew list (parked past)) (sym i) h.waits);
}

taken_up : (past : List Event) (write : Write) → IsFirst (open_chunk past) (parked past) write → IsApart past
    → AreDistinct (ids past) × AreNew (ids past) (without write.id (parked past))
taken_up past write first h = (h.logged, new_rest (ids past) (parked past) first.rest write first.whole h.waits)

accepted_apart : (past : List Event) (write : Write) (version : Version) → IsFirst (open_chunk past) (parked past) write → IsApart past
    → AreDistinct ((write.id, version) ∷ ids past) × AreNew ((write.id, version) ∷ ids past) (without write.id (parked past))
accepted_apart past write version first h = (
  (first_new (ids past) (parked past) first.rest write first.whole h.waits, h.logged),
  new_admitted (ids past) (parked past) first.rest write version first.whole h.waits,
)

pub apart : (made : Made) (past : List Event) → IsLegal made past → IsApart past
apart made [] legal = record { logged = tt; waits = tt }
apart made (Submit write (Accepted version preempts) ∷ past) legal =
    let h = apart made past legal.2 in
    let a = accepted_is made past write version preempts legal.1 in
    record {
      logged = (a.new, h.logged);
      waits = new_logged (ids past) (parked past) write.id version h.waits (apart_is (open_chunk past) (parked past) write.id a.apart legal.0);
    }
apart made (Submit write (Declined why) ∷ past) legal = same_apart past (Submit write (Declined why) ∷ past) refl refl (apart made past legal.2)
apart made (Submit write (Parked range) ∷ past) legal =
    let h = apart made past legal.2 in
    record { logged = h.logged; waits = new_last (ids past) (parked past) write h.waits (parked_is made past write range legal.1).0 }
apart made (Submit write (QueueFull count) ∷ past) legal = same_apart past (Submit write (QueueFull count) ∷ past) refl refl (apart made past legal.2)
apart made (Admit write (Accepted version preempts) ∷ past) legal =
    let h = accepted_apart past write version (first_is (open_chunk past) (parked past) write legal.1.0) (apart made past legal.2) in
    record { logged = h.0; waits = h.1 }
apart made (Admit write (Declined why) ∷ past) legal =
    let h = taken_up past write (first_is (open_chunk past) (parked past) write legal.1.0) (apart made past legal.2) in
    record { logged = h.0; waits = h.1 }
apart made (Admit write (Parked range) ∷ past) legal =
    let h = taken_up past write (first_is (open_chunk past) (parked past) write legal.1.0) (apart made past legal.2) in
    record { logged = h.0; waits = h.1 }
apart made (Admit write (QueueFull count) ∷ past) legal =
    let h = taken_up past write (first_is (open_chunk past) (parked past) write legal.1.0) (apart made past legal.2) in
    record { logged = h.0; waits = h.1 }
apart made (Collect id version ∷ past) legal = same_apart past (Collect id version ∷ past) refl refl (apart made past legal.2)
apart made (Pull osd from to asked ∷ past) legal = same_apart past (Pull osd from to asked ∷ past) refl refl (apart made past legal.2)
apart made (Tell osd applied ∷ past) legal = same_apart past (Tell osd applied ∷ past) refl refl (apart made past legal.2)
apart made (Begin kind answer ∷ past) legal = same_apart past (Begin kind answer ∷ past) refl refl (apart made past legal.2)
apart made (Open serial listed answer ∷ past) legal = same_apart past (Open serial listed answer ∷ past) refl refl (apart made past legal.2)
apart made (Take place map answer ∷ past) legal = same_apart past (Take place map answer ∷ past) refl refl (apart made past legal.2)
apart made (Close chunk answer ∷ past) legal = same_apart past (Close chunk answer ∷ past) refl refl (apart made past legal.2)
apart made (Reserve serial osd denied answer ∷ past) legal = same_apart past (Reserve serial osd denied answer ∷ past) refl refl (apart made past legal.2)
apart made (Fault serial number osd count answer ∷ past) legal = same_apart past (Fault serial number osd count answer ∷ past) refl refl (apart made past legal.2)
apart made (Interval osds answer ∷ past) legal = same_apart past (Interval osds answer ∷ past) refl refl (apart made past legal.2)

pub distinct : (made : Made) (past : List Event) → IsLegal made past → AreDistinct (ids past)
distinct made past legal = (apart made past legal).logged

pub waits_apart : (made : Made) (past : List Event) → IsLegal made past → AreNew (ids past) (parked past)
waits_apart made past legal = (apart made past legal).waits

pub as_many : (past : List Event) → length (ids past) ≡ length (log past)
as_many [] = refl
as_many (Submit write (Accepted version preempts) ∷ past) = ap suc (as_many past)
as_many (Submit write (Declined why) ∷ past) = as_many past
as_many (Submit write (Parked range) ∷ past) = as_many past
as_many (Submit write (QueueFull count) ∷ past) = as_many past
as_many (Admit write (Accepted version preempts) ∷ past) = ap suc (as_many past)
as_many (Admit write (Declined why) ∷ past) = as_many past
as_many (Admit write (Parked range) ∷ past) = as_many past
as_many (Admit write (QueueFull count) ∷ past) = as_many past
as_many (Collect id version ∷ past) = as_many past
as_many (Pull osd from to asked ∷ past) = as_many past
as_many (Tell osd applied ∷ past) = as_many past
as_many (Begin kind answer ∷ past) = as_many past
as_many (Open serial listed answer ∷ past) = as_many past
as_many (Take place map answer ∷ past) = as_many past
as_many (Close chunk answer ∷ past) = as_many past
as_many (Reserve serial osd denied answer ∷ past) = as_many past
as_many (Fault serial number osd count answer ∷ past) = as_many past
as_many (Interval osds answer ∷ past) = as_many past

times-cons : (entry : ReqId × Version) (entries : List (ReqId × Version)) (id : ReqId)
    → times (entry ∷ entries) id ≡ cond (same_id entry.0 id) 1 0 + times entries id
times-cons entry entries id = sum_by-cons (λ e. cond (same_id e.0 id) 1 0) entry entries

pub never : (entries : List (ReqId × Version)) (id : ReqId) → version_in entries id ≡ None → times entries id ≡ 0
never [] id e = refl
never (entry ∷ entries) id e =
    let P : Bool → Type 0 = λ v. cond v (Some entry.1) (version_in entries id) ≡ None → cond v 1 0 + times entries id ≡ 0 in
    times-cons entry entries id ∙ (elim (same_id entry.0 id) as P [
      | true ↦ λ found. absurd (none_some entry.1 (sym found))
      | false ↦ λ rest. let none : times entries id ≡ 0 = never entries id rest in omega arith
    ]) e

-- an id that is found stands once among distinct ones
pub once : (entries : List (ReqId × Version)) (id : ReqId) (version : Version) → AreDistinct entries → version_in entries id ≡ Some version → times entries id ≡ 1
once [] id version apart e = absurd (none_some version e)
once (entry ∷ entries) id version apart e =
    let P : Bool → Type 0 = λ v. same_id entry.0 id ≡ v → cond v (Some entry.1) (version_in entries id) ≡ Some version → cond v 1 0 + times entries id ≡ 1 in
    times-cons entry entries id ∙ (elim (same_id entry.0 id) as P [
      | true ↦ λ same found.
          let none : times entries id ≡ 0 = never entries id (ap (version_in entries) (sym (same_id_is entry.0 id same)) ∙ apart.0) in
          omega arith
      | false ↦ λ other rest. let one : times entries id ≡ 1 = once entries id version apart.1 rest in omega arith
    ]) refl e

within_more : (past : List Event) (put id : ReqId) (v version : Version) → length (log past) + 1 ≡ v.number
    → (version_in (ids past) id ≡ Some version → version.number ≤ length (log past))
    → cond (same_id put id) (Some v) (version_in (ids past) id) ≡ Some version → version.number ≤ suc (length (log past))
within_more past put id v version next before e =
    let P : Bool → Type 0 = λ t. cond t (Some v) (version_in (ids past) id) ≡ Some version → version.number ≤ suc (length (log past)) in
    (elim (same_id put id) as P [
      | true ↦ λ found. let same : v.number ≡ version.number = ap (λ w. w.number) (some_same v version found) in omega arith
      | false ↦ λ rest. let less : version.number ≤ length (log past) = before rest in omega arith
    ]) e

-- a version that is found is that of an item of the log
pub version_within : (made : Made) (past : List Event) (id : ReqId) (version : Version) → IsLegal made past → version_in (ids past) id ≡ Some version
    → version.number ≤ length (log past)
version_within made [] id version legal e = absurd (none_some version e)
version_within made (Submit write (Accepted v preempts) ∷ past) id version legal e =
    within_more past write.id id v version (ap (λ w. w.number) (accepted_is made past write v preempts legal.1).next) (λ rest. version_within made past id version legal.2 rest) e
version_within made (Submit write (Declined why) ∷ past) id version legal e = version_within made past id version legal.2 e
version_within made (Submit write (Parked range) ∷ past) id version legal e = version_within made past id version legal.2 e
version_within made (Submit write (QueueFull count) ∷ past) id version legal e = version_within made past id version legal.2 e
version_within made (Admit write (Accepted v preempts) ∷ past) id version legal e =
    within_more past write.id id v version (ap (λ w. w.number) (admitted_is made past write v preempts legal.1.1).next) (λ rest. version_within made past id version legal.2 rest) e
version_within made (Admit write (Declined why) ∷ past) id version legal e = version_within made past id version legal.2 e
version_within made (Admit write (Parked range) ∷ past) id version legal e = version_within made past id version legal.2 e
version_within made (Admit write (QueueFull count) ∷ past) id version legal e = version_within made past id version legal.2 e
version_within made (Collect other w ∷ past) id version legal e = version_within made past id version legal.2 e
version_within made (Pull osd from to asked ∷ past) id version legal e = version_within made past id version legal.2 e
version_within made (Tell osd applied ∷ past) id version legal e = version_within made past id version legal.2 e
version_within made (Begin kind answer ∷ past) id version legal e = version_within made past id version legal.2 e
version_within made (Open serial listed answer ∷ past) id version legal e = version_within made past id version legal.2 e
version_within made (Take place map answer ∷ past) id version legal e = version_within made past id version legal.2 e
version_within made (Close chunk answer ∷ past) id version legal e = version_within made past id version legal.2 e
version_within made (Reserve serial osd denied answer ∷ past) id version legal e = version_within made past id version legal.2 e
version_within made (Fault serial number osd count answer ∷ past) id version legal e = version_within made past id version legal.2 e
version_within made (Interval osds answer ∷ past) id version legal e = version_within made past id version legal.2 e

-- ---- pulls

max_within : (a b n : ℕ) → a ≤ n → b ≤ n → max a b ≤ n
max_within a b n p q = omega arith

pub pulled_within : (made : Made) (past : List Event) (osd : ℕ) → IsLegal made past → pulled past osd ≤ length (log past)
pulled_within made [] osd legal = omega arith
pulled_within made (Submit write (Accepted version preempts) ∷ past) osd legal = let rest : pulled past osd ≤ length (log past) = pulled_within made past osd legal.2 in omega arith
pulled_within made (Submit write (Declined why) ∷ past) osd legal = pulled_within made past osd legal.2
pulled_within made (Submit write (Parked range) ∷ past) osd legal = pulled_within made past osd legal.2
pulled_within made (Submit write (QueueFull count) ∷ past) osd legal = pulled_within made past osd legal.2
pulled_within made (Admit write (Accepted version preempts) ∷ past) osd legal = let rest : pulled past osd ≤ length (log past) = pulled_within made past osd legal.2 in omega arith
pulled_within made (Admit write (Declined why) ∷ past) osd legal = pulled_within made past osd legal.2
pulled_within made (Admit write (Parked range) ∷ past) osd legal = pulled_within made past osd legal.2
pulled_within made (Admit write (QueueFull count) ∷ past) osd legal = pulled_within made past osd legal.2
pulled_within made (Collect id version ∷ past) osd legal = pulled_within made past osd legal.2
pulled_within made (Pull other from to asked ∷ past) osd legal =
    let rest : pulled past osd ≤ length (log past) = pulled_within made past osd legal.2 in
    let last : to ≡ length (log past) = legal.1.ends in
    let P : Bool → Type 0 = λ t. cond t (max (pulled past osd) to) (pulled past osd) ≤ length (log past) in
    (elim (other == osd) as P [
      | true ↦ max_within (pulled past osd) to (length (log past)) rest (omega arith)
      | false ↦ rest
    ])
pulled_within made (Tell other applied ∷ past) osd legal = pulled_within made past osd legal.2
pulled_within made (Begin kind answer ∷ past) osd legal = pulled_within made past osd legal.2
pulled_within made (Open serial listed answer ∷ past) osd legal = pulled_within made past osd legal.2
pulled_within made (Take place map answer ∷ past) osd legal = pulled_within made past osd legal.2
pulled_within made (Close chunk answer ∷ past) osd legal = pulled_within made past osd legal.2
pulled_within made (Reserve serial other denied answer ∷ past) osd legal = pulled_within made past osd legal.2
pulled_within made (Fault serial number other count answer ∷ past) osd legal = pulled_within made past osd legal.2
pulled_within made (Interval osds answer ∷ past) osd legal = pulled_within made past osd legal.2
