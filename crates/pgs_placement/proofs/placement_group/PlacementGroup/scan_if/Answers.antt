use Rattle.pgs_placement.proofs.Sweeps.{scanned_sound}
use Rattle.pgs_placement.proofs.placement_group.PlacementGroup.scan_if.Goals as goal

pub close_if-requires : goal.close_if-requires
close_if-requires c = record { sound = scanned_sound c.args.self.now c.scrub_members.new.self c.args.group c.requires.sound c.in_ok-scrub_members.ensures }
