use Rattle.pgs_placement.proofs.Sweeps.{opened_sound}
use Rattle.pgs_placement.proofs.placement_group.PlacementGroup.scrub_chunk.Goals as goal

pub scan_if-requires : goal.scan_if-requires
scan_if-requires c =
    record { sound = opened_sound c.args.self.now c.open.new.self c.admit_all.new.self c.args.group c.requires.sound c.in_ok-open.ensures c.in_ok-admit_all.ensures.after }
