-- No line of a script is one that is passed over.
use Rattle.std.proofs.Common.{◌≡◌, true, false, refl}
use Rattle.pgs_lines.specs.Lines.{line}
use Rattle.pgs_lines.specs.Steps.{step_said}
use Rattle.pgs_lines.specs.Basics.{basic_said}
use Rattle.std.specs.List.{join_with_byte}
use Rattle.pgs_lines.specs.declared.basic.Basic.{Basic}
use Rattle.pgs_lines.specs.declared.basic.Basic.TheVariants as basics
use Rattle.pgs_lines.specs.declared.step.Step.{Step}
use Rattle.pgs_lines.specs.declared.step.Step.TheVariants as steps
use Rattle.pgs_lines.specs.declared.line.Line.{Line}
use Rattle.pgs_lines.specs.declared.line.Line.TheVariants as lines
use Rattle.pgs_order.specs.Order.{passed}

basic_stays : (b : Basic) → passed (join_with_byte 32 (basic_said b).words) ≡ false
basic_stays (basics.Write client serial object context op) = refl
basic_stays (basics.Collect group client serial) = refl
basic_stays (basics.Pull group osd) = refl
basic_stays (basics.Apply group osd) = refl
basic_stays (basics.Tell group osd) = refl
basic_stays (basics.Damage group osd object snap damage) = refl
basic_stays (basics.Begin group kind) = refl
basic_stays (basics.Open group) = refl
basic_stays (basics.Scan group osd) = refl
basic_stays (basics.Take group osd) = refl
basic_stays (basics.Close group) = refl
basic_stays (basics.Interval group acting) = refl
basic_stays (basics.Claim group) = refl
basic_stays (basics.Release group osd) = refl
basic_stays (basics.Job group kind rank moment) = refl
basic_stays (basics.Unjob group) = refl
basic_stays (basics.Pick moment) = refl

step_stays : (s : Step) → passed (join_with_byte 32 (step_said s).words) ≡ false
step_stays (steps.Basic basic) = basic_stays basic
step_stays (steps.Settle group) = refl
step_stays (steps.Sweep group kind) = refl
step_stays (steps.ListObj group) = refl
step_stays (steps.ListSnap group) = refl

pub not_passed : (l : Line) → line.fits l ≡ true → passed (line.spell l) ≡ false
not_passed (lines.Pool bits) e = refl
not_passed (lines.Osd osd slots) e = refl
not_passed (lines.Group group epoch members) e = refl
not_passed (lines.Fail group osd call number) e = refl
not_passed (lines.Step step) e = step_stays step
not_passed lines.End e = refl
