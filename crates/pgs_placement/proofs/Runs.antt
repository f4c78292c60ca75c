-- A script's step keeps what is sound.
use Rattle.pgs_lines.specs.declared.step.Step.{Step}
use Rattle.pgs_lines.specs.declared.step.Step.TheVariants as steps
use Rattle.pgs_placement.specs.State.{PlacementState}
use Rattle.pgs_placement.specs.Steps.{after_step}
use Rattle.pgs_placement.specs.Counts.{IsNamedStep}
use Rattle.pgs_placement.specs.Sound.{IsSound}
use Rattle.pgs_placement.proofs.Settles.{on_settled}
use Rattle.pgs_placement.specs.Lists.{obj_text, snap_text}
use Rattle.pgs_placement.proofs.Sound.{IsOn, on_basic, on_list, all_members}
use Rattle.pgs_placement.proofs.Sweeps.{on_swept}

pub on_step : (w : PlacementState) (step : Step) → IsSound w → IsNamedStep w.made step → IsOn w (after_step w step)
on_step w (steps.Basic basic) s named = on_basic w basic s named
on_step w (steps.Settle group) s named = on_settled w group w.made.members s (all_members w s)
on_step w (steps.Sweep group kind) s named = on_swept w group kind s
on_step w (steps.ListObj group) s named = on_list w (obj_text w) s
on_step w (steps.ListSnap group) s named = on_list w (snap_text w) s

pub sound_step : (w : PlacementState) (step : Step) → IsSound w → IsNamedStep w.made step → IsSound (after_step w step)
sound_step w step s named = (on_step w step s named).sound
