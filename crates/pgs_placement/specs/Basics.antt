-- What clients and members do at a single step, which of them act, and the answer that is kept with it.
use Rattle.std.specs.Prelude.{ℕ, List, ◌∷◌, reverse, option_map, if◌then◌else◌}
use Rattle.pgs_lines.specs.declared.object.Object.{Object}
use Rattle.pgs_lines.specs.declared.snap.Snap.{Snap}
use Rattle.pgs_lines.specs.declared.damage.Damage.{Damage as LineDamage}
use Rattle.pgs_done.specs.declared.done.Done.TheVariants as dones
use Rattle.pgs_request.specs.declared.op.Op.{Op}
use Rattle.pgs_request.specs.declared.snap_context.SnapContext.{SnapContext}
use Rattle.pgs_op_log.specs.Logs.{newer}
use Rattle.pgs_history.specs.Log.{log}
use Rattle.pgs_history.specs.Members.{pulled}
use Rattle.pgs_history.specs.Answers.{submit_answer, collect_answer, last_number, ask, new_ask, tell_answer, interval_answer}
use Rattle.pgs_history.specs.After.{gives, after_submit, after_collect, after_pull, after_tell, after_interval}
use Rattle.pgs_shard_history.specs.Stores.{applied}
use Rattle.pgs_shard_history.specs.declared.event.Event.{Event as ShardEvent}
use Rattle.pgs_shard_history.specs.declared.event.Event.TheVariants.{Fed}
use Rattle.pgs_shards.specs.Members.{past_in, with_event}
use Rattle.pgs_shards.specs.Applies.{apply_in, with_applied}
use Rattle.pgs_shards.specs.Damages.{damage_in, with_damage}
use Rattle.pgs_shards.specs.Scans.{scan_in, with_scanned}
use Rattle.pgs_placement.specs.Naming.{family_of, snap_of, damage_of, id_of, write_of}
use Rattle.pgs_placement.specs.Said.{write_said, collect_said, apply_said, damage_said, scan_said, interval_said}
use Rattle.pgs_placement.specs.State.{PlacementState}

-- ---- the group's steps

abbrev pub after_write : PlacementState → ℕ → ℕ → Object → SnapContext → Op → PlacementState
after_write w client serial object context op = record w {
  past = after_submit w.made w.past (write_of client serial object context op);
  done = dones.Write client serial object context op (write_said (submit_answer w.made w.past (write_of client serial object context op))) ∷ w.done;
}

abbrev pub after_collecting : PlacementState → ℕ → ℕ → ℕ → PlacementState
after_collecting w group client serial = record w {
  past = after_collect w.made w.past (id_of client serial);
  done = dones.Collect group client serial (collect_said (collect_answer w.made w.past (id_of client serial))) ∷ w.done;
}

-- an OSD is fed the items that it pulls, and what it is asked for, where any of it is new
abbrev pub given : PlacementState → ℕ → ShardEvent
given w osd = Fed (pulled w.past osd) (reverse (newer (pulled w.past osd) (log w.past))) (ask w.made w.past osd)

abbrev pub after_pulling : PlacementState → ℕ → ℕ → PlacementState
after_pulling w group osd = record w {
  past = after_pull w.made w.past osd;
  members = if gives w.past osd (new_ask w.made w.past osd) then with_event osd (given w osd) w.members else w.members;
  done = dones.Pull group osd (pulled w.past osd) (last_number w.past) (option_map (λ a. a.chunk) (ask w.made w.past osd)) ∷ w.done;
}

-- an OSD tells how far it has applied
abbrev pub applied_by : PlacementState → ℕ → ℕ
applied_by w osd = applied (past_in w.members osd)

abbrev pub after_telling : PlacementState → ℕ → ℕ → PlacementState
after_telling w group osd = record w {
  past = after_tell w.past osd (applied_by w osd);
  done = dones.Tell group osd (tell_answer w.past osd (applied_by w osd)) ∷ w.done;
}

-- other members are to act
abbrev pub after_changing : PlacementState → ℕ → List ℕ → PlacementState
after_changing w group osds = record w {
  past = after_interval w.made w.past osds;
  done = dones.Interval group osds (interval_said (interval_answer w.made w.past osds)) ∷ w.done;
}

-- ---- the shards' steps

abbrev pub after_applying : PlacementState → ℕ → ℕ → PlacementState
after_applying w group osd = record w {
  members = with_applied osd w.members;
  done = dones.Apply group osd (apply_said (apply_in w.members osd)) ∷ w.done;
}

abbrev pub after_damaging : PlacementState → ℕ → ℕ → Object → Snap → LineDamage → PlacementState
after_damaging w group osd object snap damage = record w {
  members = with_damage osd (family_of object) (snap_of snap) (damage_of damage) w.members;
  done = dones.Damage group osd object snap damage (damage_said (damage_in w.members osd (family_of object) (snap_of snap) (damage_of damage))) ∷ w.done;
}

abbrev pub after_scanning : PlacementState → ℕ → ℕ → PlacementState
after_scanning w group osd = record w {
  members = with_scanned w.stride osd w.members;
  done = dones.Scan group osd (scan_said (scan_in w.stride w.members osd)) ∷ w.done;
}
