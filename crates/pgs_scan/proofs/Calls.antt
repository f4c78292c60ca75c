-- What calls of a device leave as it is.
use Rattle.std.proofs.Common.{ℕ, ◌≡◌, ◌≤◌, Bool, true, false, ◌||◌, [], Option, Some, None, Result, Ok, Err, refl, sym, ap, subst, ◌∙◌, arith}
use Rattle.std.specs.Prelude.{IfSome}
use Rattle.pgs_bytes.proofs.Facts.{true_false}
use Rattle.pgs_cause.specs.Count.{Rose}
use Rattle.pgs_cause.proofs.Counts.{rose_after, rose_before}
use Rattle.pgs_copy.specs.declared.obj_copy.ObjCopy.{ObjCopy}
use Rattle.pgs_medium.specs.Calls.{one_more, is_named}
use Rattle.pgs_medium.specs.Device.{Device, answered, not_answered, calls_of, IsFailed, IsTold}
use Rattle.pgs_medium.specs.declared.call_kind.CallKind.{CallKind}
use Rattle.pgs_medium.specs.declared.call_kind.CallKind.TheVariants as kinds
use Rattle.pgs_scan.specs.Reads.{Read}
use Rattle.pgs_scan.specs.Calls.{IsOnlyRead, IsCalled, AreCalled, IsStatFailure, IsBegun, kind_of, IsReadOn, IsReadOnAt}
use Rattle.pgs_scan.specs.declared.reading_step.ReadingStep.{ReadingStep}
use Rattle.pgs_scan.specs.declared.reading_step.ReadingStep.TheVariants as steps

same_count : (n : ℕ) → n ≤ n
same_count n = omega arith

pub unchanged : (old new : Device) → new ≡ old → IsOnlyRead old new
unchanged old new e = record {
  stored = ap (λ d. d.stored) e;
  failing = ap (λ d. d.failing) e;
  faults = subst (λ d. old.faults ≤ d.faults) (sym e) (same_count old.faults);
}

pub in_turn : (old between new : Device) → IsOnlyRead old between → IsOnlyRead between new → IsOnlyRead old new
in_turn old between new p q = record {
  stored = q.stored ∙ p.stored;
  failing = q.failing ∙ p.failing;
  faults = let a = p.faults in let b = q.faults in omega arith;
}

answer_keeps : (kind : CallKind) (old : Device) → IsOnlyRead old (answered kind old)
answer_keeps kinds.Write old = record { stored = refl; failing = refl; faults = same_count old.faults }
answer_keeps kinds.List old = record { stored = refl; failing = refl; faults = same_count old.faults }
answer_keeps kinds.Stat old = record { stored = refl; failing = refl; faults = same_count old.faults }
answer_keeps kinds.Attrs old = record { stored = refl; failing = refl; faults = same_count old.faults }
answer_keeps kinds.Read old = record { stored = refl; failing = refl; faults = same_count old.faults }
answer_keeps kinds.Omap old = record { stored = refl; failing = refl; faults = same_count old.faults }

failure_keeps : (kind : CallKind) (faults : ℕ) (old : Device) → old.faults ≤ faults → IsOnlyRead old (not_answered kind faults old)
failure_keeps kinds.Write faults old h = record { stored = refl; failing = refl; faults = h }
failure_keeps kinds.List faults old h = record { stored = refl; failing = refl; faults = h }
failure_keeps kinds.Stat faults old h = record { stored = refl; failing = refl; faults = h }
failure_keeps kinds.Attrs faults old h = record { stored = refl; failing = refl; faults = h }
failure_keeps kinds.Read faults old h = record { stored = refl; failing = refl; faults = h }
failure_keeps kinds.Omap faults old h = record { stored = refl; failing = refl; faults = h }

answered_only : (kind : CallKind) (old new : Device) → new ≡ answered kind old → IsOnlyRead old new
answered_only kind old new e = subst (IsOnlyRead old) (sym e) (answer_keeps kind old)

failed_only : (kind : CallKind) (old new : Device) → IsFailed kind old new → IsOnlyRead old new
failed_only kind old new h = subst (IsOnlyRead old) (sym h.0) (failure_keeps kind new.faults old h.1.kept)

-- a call changes no copy
pub called_only : (kind : CallKind) (failed : Bool) (old new : Device) → IsCalled kind failed old new → IsOnlyRead old new
called_only kind true old new h = failed_only kind old new h
called_only kind false old new h = answered_only kind old new h.0

-- nor does a step
both_only : (stat attrs : Bool) (old new : Device) → AreCalled stat attrs old new → IsOnlyRead old new
both_only stat attrs old new h =
    in_turn old h.between new (called_only kinds.Stat stat old h.between h.first) (called_only kinds.Attrs attrs h.between new h.second)

pub begun_kept : {E : Type 0} (copy : Option ObjCopy) (old new : Device) (answer : Result (Option Read) E) → IsBegun copy old answer new → IsOnlyRead old new
begun_kept None old new answer h = absurd h
begun_kept (Some copy) old new (Ok (Some read)) h = both_only false false old new h.0
begun_kept (Some copy) old new (Ok None) h = both_only h.stat h.attrs old new h.calls
begun_kept (Some copy) old new (Err e) h = h

pub kept_store : {E : Type 0} (stride : ℕ) (copy : Option ObjCopy) (old new : Device) (before after : Read) (answer : Result ReadingStep E)
    → IsReadOnAt stride copy old before answer new after → IsOnlyRead old new
kept_store stride None old new before after answer h = absurd h
kept_store stride (Some copy) old new before after (Ok steps.More) h = called_only (kind_of before) false old new h.0
kept_store stride (Some copy) old new before after (Ok steps.Whole) h = called_only (kind_of before) false old new h.0
kept_store stride (Some copy) old new before after (Ok steps.Failed) h = failed_only (kind_of before) old new h.0
kept_store stride (Some copy) old new before after (Err e) h = h.0

-- ---- where the device failed, its count of faults rose

both_rose : (stat attrs : Bool) (old new : Device) → stat || attrs ≡ true → AreCalled stat attrs old new → Rose old.faults new.faults
both_rose true attrs old new some h =
    rose_before old.faults h.between.faults new.faults h.first.1 (called_only kinds.Attrs attrs h.between new h.second).faults
both_rose false true old new some h =
    rose_after old.faults h.between.faults new.faults (called_only kinds.Stat false old h.between h.first).faults h.second.1
both_rose false false old new some h = absurd (true_false (sym some))

pub begun_rose : {E : Type 0} (copy : Option ObjCopy) (old new : Device) (answer : Result (Option Read) E) → answer ≡ Ok None → IsBegun copy old answer new
    → Rose old.faults new.faults
begun_rose {E} None old new answer none h = absurd h
begun_rose {E} (Some copy) old new answer none h =
    let failed : IsStatFailure old new = subst (λ a. IsBegun {E = E} (Some copy) old a new) none h in
    both_rose failed.stat failed.attrs old new failed.some failed.calls

pub failed_rose : {E : Type 0} (stride : ℕ) (copy : Option ObjCopy) (old new : Device) (before after : Read) (answer : Result ReadingStep E) → answer ≡ Ok steps.Failed
    → IsReadOnAt stride copy old before answer new after → Rose old.faults new.faults
failed_rose {E} stride None old new before after answer failed h = absurd h
failed_rose {E} stride (Some copy) old new before after answer failed h = (subst (λ a. IsReadOn {E = E} stride copy old before a new after) failed h).0.1

-- ---- a device of which no call is to fail doesn't

told_none : (kind : CallKind) (device : Device) → device.failing ≡ Some [] → IsTold kind device true → ⊥
told_none kind device none told =
    let never : false ≡ true = subst (λ f. IfSome f (λ calls. is_named kind (one_more (calls_of kind device).made) calls ≡ true)) none told in
    true_false (sym never)

both_fine : (stat attrs : Bool) (old new : Device) → old.failing ≡ Some [] → stat || attrs ≡ true → AreCalled stat attrs old new → ⊥
both_fine true attrs old new none some h = told_none kinds.Stat old none h.first.2
both_fine false true old new none some h =
    told_none kinds.Attrs h.between ((called_only kinds.Stat false old h.between h.first).failing ∙ none) h.second.2
both_fine false false old new none some h = true_false (sym some)

pub begins_without_failure : {E : Type 0} (copy : Option ObjCopy) (old new : Device) (answer : Result (Option Read) E) → old.failing ≡ Some [] → answer ≡ Ok None
    → IsBegun copy old answer new → ⊥
begins_without_failure {E} None old new answer fine none h = h
begins_without_failure {E} (Some copy) old new answer fine none h =
    let failed : IsStatFailure old new = subst (λ a. IsBegun {E = E} (Some copy) old a new) none h in
    both_fine failed.stat failed.attrs old new fine failed.some failed.calls

pub none_fails : {E : Type 0} (stride : ℕ) (copy : Option ObjCopy) (old new : Device) (before after : Read) (answer : Result ReadingStep E) → old.failing ≡ Some [] → answer ≡ Ok steps.Failed
    → IsReadOnAt stride copy old before answer new after → ⊥
none_fails {E} stride None old new before after answer fine failed h = h
none_fails {E} stride (Some copy) old new before after answer fine failed h =
    told_none (kind_of before) old fine (subst (λ a. IsReadOn {E = E} stride copy old before a new after) failed h).0.2
