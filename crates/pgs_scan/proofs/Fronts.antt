-- What was read stays a front of the copy.
use Rattle.std.proofs.Common.{ℕ, ◌+◌, ◌≡◌, true, false, cond, List, ◌++◌, length, take, drop, Option, Some, None, Result, Ok, Err, refl, sym, ap, subst, ◌∙◌}
use Rattle.std.specs.Prelude.{IfOk, IfSome}
use Rattle.std.proofs.Math.Seq.{take-add}
use Rattle.pgs_name.specs.Families.{Family}
use Rattle.pgs_copy.specs.declared.obj_copy.ObjCopy.{ObjCopy}
use Rattle.pgs_medium.specs.Device.{Device}
use Rattle.pgs_medium.specs.Reads.{PAGE_PAIRS}
use Rattle.pgs_scan.specs.Reads.{Read}
use Rattle.pgs_scan.specs.Steps.{begun, has_data_left, with_stride, with_page, read_on, IsFront, IsFrontAt}
use Rattle.pgs_scan.specs.Calls.{IsBegun, IsReadOnAt}
use Rattle.pgs_scan.specs.declared.reading_step.ReadingStep.{ReadingStep}
use Rattle.pgs_scan.specs.declared.reading_step.ReadingStep.TheVariants as steps
use Rattle.pgs_scan.proofs.Calls.{kept_store, begun_kept}
use Rattle.pgs_scan.proofs.Parts.{front_itself}

-- a front with some of what comes behind it
grown : {A : Type 0} (m : ℕ) (front xs : List A) → front ≡ take (length front) xs
    → front ++ take m (drop (length front) xs) ≡ take (length (front ++ take m (drop (length front) xs))) xs
grown m front xs h =
    let n = length front in
    let e : front ++ take m (drop n xs) ≡ take (n + m) xs = ap (λ l. l ++ take m (drop n xs)) h ∙ sym (take-add n m xs) in
    e ∙ front_itself (n + m) xs ∙ ap (λ l. take (length l) xs) (sym e)

begun_front : (copy : ObjCopy) → IsFront copy (begun copy)
begun_front copy = record { size = refl; attrs = refl; bytes = refl; omap = refl }

stride_front : (stride : ℕ) (copy : ObjCopy) (read : Read) → IsFront copy read → IsFront copy (with_stride stride copy read)
stride_front stride copy read h = record { size = h.size; attrs = h.attrs; bytes = grown stride read.copy.bytes copy.bytes h.bytes; omap = h.omap }

page_front : (copy : ObjCopy) (read : Read) → IsFront copy read → IsFront copy (with_page copy read)
page_front copy read h = record { size = h.size; attrs = h.attrs; bytes = h.bytes; omap = grown PAGE_PAIRS read.copy.omap copy.omap h.omap }

step_front : (stride : ℕ) (copy : ObjCopy) (read : Read) → IsFront copy read → IsFront copy (read_on stride copy read)
step_front stride copy read h =
    elim (has_data_left read) as (λ b. IsFront copy (cond b (with_stride stride copy read) (with_page copy read))) [
      | true ↦ stride_front stride copy read h
      | false ↦ page_front copy read h
    ]

read_front : {E : Type 0} (stride : ℕ) (copy : Option ObjCopy) (old new : Device) (before after : Read) (answer : Result ReadingStep E)
    → IsFrontAt copy before → IsReadOnAt stride copy old before answer new after → IsFrontAt copy after
read_front stride None old new before after answer front h = absurd front
read_front stride (Some copy) old new before after (Ok steps.More) front h = subst (IsFront copy) (sym h.2) (step_front stride copy before front)
read_front stride (Some copy) old new before after (Ok steps.Whole) front h = subst (IsFront copy) (sym h.2) (step_front stride copy before front)
read_front stride (Some copy) old new before after (Ok steps.Failed) front h = subst (IsFront copy) (sym h.1) front
read_front stride (Some copy) old new before after (Err e) front h = subst (IsFront copy) (sym h.1) front

first_front : {E : Type 0} (copy : Option ObjCopy) (old new : Device) (answer : Result (Option Read) E) → IsBegun copy old answer new
    → IfOk answer (λ begun. IfSome begun (λ read. IsFrontAt copy read))
first_front None old new answer h = absurd h
first_front (Some copy) old new (Ok (Some read)) h = subst (IsFront copy) (sym h.1) (begun_front copy)
first_front (Some copy) old new (Ok None) h = tt
first_front (Some copy) old new (Err e) h = tt

-- behind the first step, on the device as it then is
pub front_begun : {E : Type 0} (old new : Device) (f : Family) (q : ℕ) (answer : Result (Option Read) E) → IsBegun (old.stored f q) old answer new
    → IfOk answer (λ begun. IfSome begun (λ read. IsFrontAt (new.stored f q) read))
front_begun old new f q answer h =
    subst (λ s. IfOk answer (λ begun. IfSome begun (λ read. IsFrontAt (s f q) read))) (sym (begun_kept (old.stored f q) old new answer h).stored)
    (first_front (old.stored f q) old new answer h)

-- and behind a further one
pub front_kept : {E : Type 0} (stride : ℕ) (old new : Device) (f : Family) (q : ℕ) (before after : Read) (answer : Result ReadingStep E) → IsFrontAt (old.stored f q) before
    → IsReadOnAt stride (old.stored f q) old before answer new after → IsFrontAt (new.stored f q) after
front_kept stride old new f q before after answer front h =
    subst (λ s. IsFrontAt (s f q) after) (sym (kept_store stride (old.stored f q) old new before after answer h).stored)
    (read_front stride (old.stored f q) old new before after answer front h)
