-- The first step of reading a copy.
use Rattle.std.proofs.Common.{ℕ, ◌≡◌, true, false, length, Option, Some, None, Result, Ok, Err, refl, sym, subst}
use Rattle.std.specs.Prelude.{is_some}
use Rattle.pgs_bytes.proofs.Facts.{true_false, some_same}
use Rattle.pgs_name.specs.Families.{Family}
use Rattle.pgs_copy.specs.Copies.{empty_copy}
use Rattle.pgs_copy.specs.Pairs.{Pairs}
use Rattle.pgs_copy.specs.declared.obj_copy.ObjCopy.{ObjCopy}
use Rattle.pgs_medium.specs.Device.{Device}
use Rattle.pgs_medium.specs.Reads.{size_of, attrs_of}
use Rattle.pgs_medium.specs.declared.call_kind.CallKind.{CallKind}
use Rattle.pgs_medium.specs.declared.call_kind.CallKind.TheVariants as kinds
use Rattle.pgs_scan.specs.Reads.{Read}
use Rattle.pgs_scan.specs.Steps.{begun}
use Rattle.pgs_scan.specs.Calls.{IsOnlyRead, AreCalled, IsStatFailure, IsBegun}
use Rattle.pgs_scan.specs.Asked.{IsAnswer}
use Rattle.pgs_scan.specs.Taken.{first_read}
use Rattle.pgs_scan.proofs.Calls.{unchanged, called_only, in_turn}

-- a call leaves the copies
pub answer_only : {A : Type 0} (kind : CallKind) (expected : Option A) (old new : Device) (value : Option A) → IsAnswer kind expected old value new → IsOnlyRead old new
answer_only kind expected old new (Some value) h = called_only kind false old new h.0
answer_only kind expected old new None h = called_only kind true old new h

pub still_there : {A : Type 0} (kind : CallKind) (expected : Option A) (old new : Device) (value : Option A) (f : Family) (q : ℕ) → is_some (old.stored f q) ≡ true
    → IsAnswer kind expected old value new → is_some (new.stored f q) ≡ true
still_there kind expected old new value f q there h = subst (λ s. is_some (s f q) ≡ true) (sym (answer_only kind expected old new value h).stored) there

-- both calls, one after the other
both_told : {E : Type 0} (copy : Option ObjCopy) (old between new : Device) (size : Option ℕ) (attrs : Option Pairs) (answer : Result (Option Read) E)
    → is_some copy ≡ true → answer ≡ Ok (first_read size attrs) → IsAnswer kinds.Stat (size_of copy) old size between → IsAnswer kinds.Attrs (attrs_of copy) between attrs new
    → IsBegun copy old answer new
both_told {E} None old between new size attrs answer there e p q = absurd (true_false (sym there))
both_told {E} (Some copy) old between new (Some size) (Some attrs) answer there e p q =
    let long : size ≡ length copy.bytes = some_same size (length copy.bytes) p.1 in
    let same : attrs ≡ copy.attrs = some_same attrs copy.attrs q.1 in
    let calls : AreCalled false false old new = record { between = between; first = p.0; second = q.0 } in
    let read : Read = record { size = size; copy = record empty_copy { attrs = attrs } } in
    let is : read ≡ begun copy = λ i. record { size = long i; copy = record empty_copy { attrs = same i } } in
    subst (λ a. IsBegun {E = E} (Some copy) old a new) (sym e) (calls, is)
both_told {E} (Some copy) old between new (Some size) None answer there e p q =
    let failure : IsStatFailure old new = record { stat = false; attrs = true; some = refl; calls = record { between = between; first = p.0; second = q } } in
    subst (λ a. IsBegun {E = E} (Some copy) old a new) (sym e) failure
both_told {E} (Some copy) old between new None (Some attrs) answer there e p q =
    let failure : IsStatFailure old new = record { stat = true; attrs = false; some = refl; calls = record { between = between; first = p; second = q.0 } } in
    subst (λ a. IsBegun {E = E} (Some copy) old a new) (sym e) failure
both_told {E} (Some copy) old between new None None answer there e p q =
    let failure : IsStatFailure old new = record { stat = true; attrs = true; some = refl; calls = record { between = between; first = p; second = q } } in
    subst (λ a. IsBegun {E = E} (Some copy) old a new) (sym e) failure

pub begins : {E : Type 0} (old between new : Device) (f : Family) (q : ℕ) (size : Option ℕ) (attrs : Option Pairs) (answer : Result (Option Read) E)
    → is_some (old.stored f q) ≡ true → answer ≡ Ok (first_read size attrs) → IsAnswer kinds.Stat (size_of (old.stored f q)) old size between
    → IsAnswer kinds.Attrs (attrs_of (between.stored f q)) between attrs new → IsBegun (old.stored f q) old answer new
begins old between new f q size attrs answer there e first second =
    let kept = (answer_only kinds.Stat (size_of (old.stored f q)) old between size first).stored in
    both_told (old.stored f q) old between new size attrs answer there e first (subst (λ s. IsAnswer kinds.Attrs (attrs_of (s f q)) between attrs new) kept second)

-- without memory
no_memory : {E : Type 0} (copy : Option ObjCopy) (old new : Device) (answer : Result (Option Read) E) (e : E) → is_some copy ≡ true → answer ≡ Err e → IsOnlyRead old new
    → IsBegun copy old answer new
no_memory {E} None old new answer e there is h = absurd (true_false (sym there))
no_memory {E} (Some copy) old new answer e there is h = subst (λ a. IsBegun {E = E} (Some copy) old a new) (sym is) h

-- at the first call
pub first_untold : {E : Type 0} (copy : Option ObjCopy) (old new : Device) (answer : Result (Option Read) E) (e : E) → is_some copy ≡ true → answer ≡ Err e → new ≡ old
    → IsBegun copy old answer new
first_untold copy old new answer e there is same = no_memory copy old new answer e there is (unchanged old new same)

-- at the second
pub second_untold : {E : Type 0} (copy : Option ObjCopy) (old between new : Device) (size : Option ℕ) (answer : Result (Option Read) E) (e : E) → is_some copy ≡ true → answer ≡ Err e
    → IsAnswer kinds.Stat (size_of copy) old size between → new ≡ between → IsBegun copy old answer new
second_untold copy old between new size answer e there is first same =
    no_memory copy old new answer e there is (in_turn old between new (answer_only kinds.Stat (size_of copy) old between size first) (unchanged between new same))

pub ruleset beginning = (still_there, begins, first_untold, second_untold)
