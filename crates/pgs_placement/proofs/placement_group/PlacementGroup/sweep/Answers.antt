use Rattle.pgs_placement.proofs.Sweeps.{begun_sound}
use Rattle.pgs_placement.proofs.placement_group.PlacementGroup.sweep.Goals as goal

pub scrub-requires : goal.scrub-requires
scrub-requires c = record { sound = begun_sound c.args.self.now c.begin_scrub.new.self c.args.group c.args.kind c.requires.sound c.in_ok-begin_scrub.ensures.after }
