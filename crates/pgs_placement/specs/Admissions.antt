-- The writes that waited and are taken up after a step.
use Rattle.std.specs.Prelude.{ℕ, zero, suc, ◌∷◌, length, Option, Some, None}
use Rattle.pgs_done.specs.declared.done.Done.{Done}
use Rattle.pgs_done.specs.declared.done.Done.TheVariants as dones
use Rattle.pgs_op.specs.declared.write.Write.{Write}
use Rattle.pgs_history.specs.Parked.{parked, next_admitted}
use Rattle.pgs_history.specs.Answers.{admit_answer}
use Rattle.pgs_history.specs.declared.event.Event.TheVariants.{Admit}
use Rattle.pgs_group.specs.Steps.{admitted_told}
use Rattle.pgs_group.specs.declared.admitted.Admitted.{Admitted}
use Rattle.pgs_placement.specs.Said.{write_said}
use Rattle.pgs_placement.specs.State.{PlacementState}

-- what is kept of a write that was taken up
abbrev pub admitted_line : Admitted → Done
admitted_line admitted = dones.Admit admitted.id.client admitted.id.serial (write_said admitted.answer)

-- a write is taken up, if one is due
abbrev pub admitting : Option Write → PlacementState → PlacementState
admitting None w = w
admitting (Some write) w = record w {
  past = Admit write (admit_answer w.made w.past write) ∷ w.past;
  done = admitted_line (admitted_told w.made w.past write) ∷ w.done;
}

abbrev pub admitted_times : ℕ → PlacementState → PlacementState
admitted_times zero w = w
admitted_times (suc n) w = admitted_times n (admitting (next_admitted w.past) w)

-- all that waited are taken up, in the order in which they came, where no chunk is open
abbrev pub all_admitted : PlacementState → PlacementState
all_admitted w = admitted_times (length (parked w.past)) w
