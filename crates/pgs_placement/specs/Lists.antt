-- Lists of what the scrubs of a group found.
use Rattle.std.specs.Prelude.{ℕ, List, ◌∷◌}
use Rattle.pgs_done.specs.declared.done.Done.TheVariants as dones
use Rattle.pgs_history.specs.Acting.{epoch}
use Rattle.pgs_history.specs.Findings.{findings}
use Rattle.pgs_list_json.specs.Obj.{list_obj_text}
use Rattle.pgs_list_json.specs.Snap.{list_snap_text}
use Rattle.pgs_placement.specs.State.{PlacementState}

-- of the copies, and of the snapshots, that are found inconsistent by now, in the present epoch
abbrev pub obj_text : PlacementState → List ℕ
obj_text w = list_obj_text (epoch w.made w.past) (findings w.past).found

abbrev pub snap_text : PlacementState → List ℕ
snap_text w = list_snap_text (epoch w.made w.past) (findings w.past).snaps

-- a list is printed, and is no event of the group
abbrev pub after_listing : List ℕ → PlacementState → PlacementState
after_listing text w = record w { done = dones.Listed text ∷ w.done }
