use Rattle.pgs_placement.proofs.Sweeps.{claims_sound}
use Rattle.pgs_placement.proofs.placement_group.PlacementGroup.scrub_at.Goals as goal

pub walk_if-requires : goal.walk_if-requires
walk_if-requires c = record { sound = claims_sound c.args.self.now c.claim_all.new.self c.args.group c.args.osds.now c.requires.sound c.in_ok-granted.ensures.after }
