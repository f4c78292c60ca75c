-- The steps of a script that was read are spelled by their words.
use Rattle.std.proofs.Common.{◌≡◌, ℕ, true, List, [], ◌∷◌, ◌++◌, Some}
use Rattle.pgs_lines.specs.Lines.{line, line_said}
use Rattle.pgs_lines.specs.Steps.{step_said}
use Rattle.pgs_lines.proofs.LineLaws.{line_laws}
use Rattle.pgs_lines.specs.declared.step.Step.{Step}
use Rattle.pgs_lines.specs.declared.line.Line.{Line}
use Rattle.pgs_lines.specs.declared.line.Line.TheVariants as lines
use Rattle.pgs_order.specs.Order.{after}
use Rattle.pgs_script.specs.Script.{AreSpelled}
use Rattle.pgs_order.specs.declared.step_script.StepScript.{StepScript}

pub fits_of_read : (text : List ℕ) (l : Line) → line.read text ≡ Some l → (line_said l).fits ≡ true
fits_of_read text l e = (line_laws.found text l e).1

one_more : (xs : List Step) (step : Step) → AreSpelled xs → (step_said step).fits ≡ true → AreSpelled (xs ++ step ∷ [])
one_more [] step all e = (e, tt)
one_more (x ∷ xs) step all e = (all.0, one_more xs step all.1 e)

pub spelled_after : (s : StepScript) (l : Line) → (line_said l).fits ≡ true → AreSpelled s.steps → AreSpelled (after s l).steps
spelled_after s (lines.Pool bits) e all = all
spelled_after s (lines.Osd osd slots) e all = all
spelled_after s (lines.Group group epoch members) e all = all
spelled_after s (lines.Fail group osd call number) e all = all
spelled_after s (lines.Step step) e all = one_more s.steps step all e
spelled_after s lines.End e all = all
