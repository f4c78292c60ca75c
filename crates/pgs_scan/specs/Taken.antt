-- What a reading takes in of what a device answered.
use Rattle.std.specs.Prelude.{ℕ, ◌≡◌, Bool, true, false, List, ◌++◌, Option, Some, None, Result, Ok, Err}
use Rattle.pgs_copy.specs.Copies.{empty_copy}
use Rattle.pgs_copy.specs.Pairs.{Pairs}
use Rattle.pgs_medium.specs.declared.omap_page.OmapPage.{OmapPage}
use Rattle.pgs_scan.specs.Reads.{Read}
use Rattle.pgs_scan.specs.declared.reading_step.ReadingStep.{ReadingStep}
use Rattle.pgs_scan.specs.declared.reading_step.ReadingStep.TheVariants as steps

-- the size and the attributes, where no call failed
abbrev pub first_read : Option ℕ → Option Pairs → Option Read
first_read (Some size) (Some attrs) = Some (record { size = size; copy = record empty_copy { attrs = attrs } })
first_read (Some size) None = None
first_read None attrs = None

-- a step behind which more is left, or nothing
abbrev pub step_of : Bool → ReadingStep
step_of true = steps.More
step_of false = steps.Whole

-- with bytes behind the data
abbrev pub with_bytes : List ℕ → Read → Read
with_bytes bytes read = record read { copy = record read.copy { bytes = read.copy.bytes ++ bytes } }

-- with the pairs of a page behind those of the omap, and its header
abbrev pub with_pairs : OmapPage → Read → Read
with_pairs page read = record read { copy = record read.copy { omap = read.copy.omap ++ page.pairs; header = page.header } }

-- a stride, if the device gave one; without memory nothing
abbrev pub IsStrideTaken : {E : Type 0} → Option (List ℕ) → Read → Result ReadingStep E → Read → Type 0
IsStrideTaken None before answer after = (answer ≡ Ok steps.Failed) × (after ≡ before)
IsStrideTaken (Some bytes) before (Ok step) after = (step ≡ steps.More) × (after ≡ with_bytes bytes before)
IsStrideTaken (Some bytes) before (Err _) after = after ≡ before

-- a page, if the device gave one; without memory nothing
abbrev pub IsPageTaken : {E : Type 0} → Option OmapPage → Read → Result ReadingStep E → Read → Type 0
IsPageTaken None before answer after = (answer ≡ Ok steps.Failed) × (after ≡ before)
IsPageTaken (Some page) before (Ok step) after = (step ≡ step_of page.more) × (after ≡ with_pairs page before)
IsPageTaken (Some page) before (Err _) after = after ≡ before
