-- A further step of reading a copy.
use Rattle.std.proofs.Common.{ℕ, ◌≡◌, Bool, true, false, cond, nat_lt, List, ◌++◌, length, take, drop, Option, Some, None, Result, Ok, Err, refl, sym, ap, subst, ◌∙◌}
use Rattle.std.specs.Prelude.{is_some, IfSome}
use Rattle.std.proofs.lemmas.List.{length-drop}
use Rattle.pgs_bytes.proofs.Facts.{some_same}
use Rattle.pgs_copy.specs.Pairs.{IsInOrder}
use Rattle.pgs_copy.specs.declared.obj_copy.ObjCopy.{ObjCopy}
use Rattle.pgs_medium.specs.Device.{Device, IsFailed}
use Rattle.pgs_medium.specs.Reads.{PAGE_PAIRS, bytes_of, page_of, page_behind, page_with, behind_key}
use Rattle.pgs_medium.specs.declared.call_kind.CallKind.TheVariants as kinds
use Rattle.pgs_medium.specs.declared.omap_page.OmapPage.{OmapPage}
use Rattle.pgs_scan.specs.Reads.{Read}
use Rattle.pgs_scan.specs.Steps.{has_data_left, leaves_more, read_on, IsFront, IsFrontAt}
use Rattle.pgs_scan.specs.Calls.{IsCalled, kind_of, IsReadOn, IsReadOnAt}
use Rattle.pgs_scan.specs.Asked.{IsAnswer, last_key}
use Rattle.pgs_scan.specs.Taken.{step_of, with_bytes, with_pairs, IsStrideTaken, IsPageTaken}
use Rattle.pgs_scan.specs.declared.reading_step.ReadingStep.{ReadingStep}
use Rattle.pgs_scan.proofs.Calls.{unchanged, called_only}
use Rattle.pgs_scan.proofs.Keys.{behind_taken, page_in_order}
use Rattle.pgs_scan.proofs.Steps.{by_stride, by_page, more_by_stride, more_by_page}

-- what is a front is so of a copy that is there
pub front_there : (copy : Option ObjCopy) (read : Read) → IsFrontAt copy read → is_some copy ≡ true
front_there None read h = absurd h
front_there (Some copy) read h = refl

-- without memory for the call
pub not_asked : {E : Type 0} (stride : ℕ) (copy : Option ObjCopy) (old new : Device) (before after : Read) (answer : Result ReadingStep E) (e : E)
    → IsFrontAt copy before → answer ≡ Err e → new ≡ old → after ≡ before → IsReadOnAt stride copy old before answer new after
not_asked {E} stride None old new before after answer e front is same kept = absurd front
not_asked {E} stride (Some copy) old new before after answer e front is same kept =
    subst (λ a. IsReadOn {E = E} stride copy old before a new after) (sym is) (unchanged old new same, kept)

-- ---- strides

data_kind : (read : Read) → has_data_left read ≡ true → kinds.Read ≡ kind_of read
data_kind read left = ap (λ b. cond b kinds.Read kinds.Omap) (sym left)

pub stride_taken : {E : Type 0} (stride : ℕ) (copy : Option ObjCopy) (old new : Device) (before after : Read) (bytes : Option (List ℕ)) (answer : Result ReadingStep E)
    → has_data_left before ≡ true → IsFrontAt copy before → IsAnswer kinds.Read (bytes_of (length before.copy.bytes) stride copy) old bytes new → IsStrideTaken bytes before answer after
    → IsReadOnAt stride copy old before answer new after
stride_taken {E} stride None old new before after bytes answer left front told taken = absurd front
stride_taken {E} stride (Some copy) old new before after None answer left front told taken =
    subst (λ a. IsReadOn {E = E} stride copy old before a new after) (sym taken.0) (subst (λ k. IsFailed k old new) (data_kind before left) told, taken.1)
stride_taken {E} stride (Some copy) old new before after (Some bytes) (Ok step) left front told taken =
    let stride_is : bytes ≡ take stride (drop (length before.copy.bytes) copy.bytes) = some_same bytes (take stride (drop (length before.copy.bytes) copy.bytes)) told.1 in
    let called = subst (λ k. IsCalled k false old new) (data_kind before left) told.0 in
    let is : after ≡ read_on stride copy before = taken.1 ∙ ap (λ b. with_bytes b before) stride_is ∙ sym (by_stride stride copy before left) in
    subst (λ s. IsReadOn {E = E} stride copy old before (Ok s) new after) (sym taken.0) (called, more_by_stride copy before left, is)
stride_taken {E} stride (Some copy) old new before after (Some bytes) (Err e) left front told taken = (called_only kinds.Read false old new told.0, taken)

-- ---- pages

page_kind : (read : Read) → has_data_left read ≡ false → kinds.Omap ≡ kind_of read
page_kind read none = ap (λ b. cond b kinds.Read kinds.Omap) (sym none)

-- a page is the next of the pairs that are left
page_is : (copy : ObjCopy) (before : Read) (page : OmapPage) → IsFront copy before → IsInOrder copy.omap → Some page ≡ Some (page_behind (last_key before.copy.omap) copy)
    → page ≡ page_with copy.header (drop (length before.copy.omap) copy.omap)
page_is copy before page front order told =
    let n = length before.copy.omap in
    let left : behind_key (last_key before.copy.omap) copy.omap ≡ drop n copy.omap = ap (λ o. behind_key (last_key o) copy.omap) front.omap ∙ behind_taken n copy.omap order in
    some_same page (page_behind (last_key before.copy.omap) copy) told ∙ ap (page_with copy.header) left

pub page_ready : (copy : Option ObjCopy) (old new : Device) (before : Read) (page : Option OmapPage) → IsFrontAt copy before
    → IsAnswer kinds.Omap (page_of (last_key before.copy.omap) copy) old page new → IfSome page (λ _. IfSome copy (λ c. IsInOrder c.omap))
    → IfSome page (λ p. IsInOrder (before.copy.omap ++ p.pairs))
page_ready None old new before page front told order = absurd front
page_ready (Some copy) old new before None front told order = tt
page_ready (Some copy) old new before (Some page) front told order =
    let n = length before.copy.omap in
    let is = page_is copy before page front order told.1 in
    let joined : take n copy.omap ++ take PAGE_PAIRS (drop n copy.omap) ≡ before.copy.omap ++ page.pairs =
    (λ i. sym front.omap i ++ (sym is i).pairs) in
    subst IsInOrder joined (page_in_order n PAGE_PAIRS copy.omap order)

ended : (E : Type 0) (more : Bool) (stride : ℕ) (copy : ObjCopy) (old new : Device) (before after : Read) (step : ReadingStep) → step ≡ step_of more → more ≡ leaves_more copy before
    → IsCalled (kind_of before) false old new → after ≡ read_on stride copy before → IsReadOn {E = E} stride copy old before (Ok step) new after
ended E true stride copy old new before after step s m called is = subst (λ t. IsReadOn {E = E} stride copy old before (Ok t) new after) (sym s) (called, sym m, is)
ended E false stride copy old new before after step s m called is = subst (λ t. IsReadOn {E = E} stride copy old before (Ok t) new after) (sym s) (called, sym m, is)

pub page_taken : {E : Type 0} (stride : ℕ) (copy : Option ObjCopy) (old new : Device) (before after : Read) (page : Option OmapPage) (answer : Result ReadingStep E)
    → has_data_left before ≡ false → IsFrontAt copy before → IsAnswer kinds.Omap (page_of (last_key before.copy.omap) copy) old page new
    → IfSome page (λ _. IfSome copy (λ c. IsInOrder c.omap)) → IsPageTaken page before answer after → IsReadOnAt stride copy old before answer new after
page_taken {E} stride None old new before after page answer none front told order taken = absurd front
page_taken {E} stride (Some copy) old new before after None answer none front told order taken =
    subst (λ a. IsReadOn {E = E} stride copy old before a new after) (sym taken.0) (subst (λ k. IsFailed k old new) (page_kind before none) told, taken.1)
page_taken {E} stride (Some copy) old new before after (Some page) (Ok step) none front told order taken =
    let n = length before.copy.omap in
    let is = page_is copy before page front order told.1 in
    let more : page.more ≡ leaves_more copy before = ap (λ p. p.more) is ∙ ap (nat_lt PAGE_PAIRS) (length-drop n copy.omap) ∙ sym (more_by_page copy before none) in
    let read : after ≡ read_on stride copy before = taken.1 ∙ ap (λ p. with_pairs p before) is ∙ sym (by_page stride copy before none) in
    ended E page.more stride copy old new before after step taken.0 more (subst (λ k. IsCalled k false old new) (page_kind before none) told.0) read
page_taken {E} stride (Some copy) old new before after (Some page) (Err e) none front told order taken = (called_only kinds.Omap false old new told.0, taken)

pub ruleset strides = (front_there, not_asked, stride_taken)

pub ruleset pages = (front_there, not_asked, page_ready, page_taken)
