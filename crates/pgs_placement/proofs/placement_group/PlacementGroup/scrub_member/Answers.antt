use Rattle.pgs_placement.proofs.Sweeps.{out_is_sound}
use Rattle.pgs_placement.proofs.placement_group.PlacementGroup.scrub_member.Goals as goal

pub take-requires-clause-sound : goal.take-requires-clause-sound
take-requires-clause-sound c =
    out_is_sound c.args.self.now c.pull.new.self c.scan_out.new.self c.args.group c.args.osd c.requires.sound c.requires.member c.in_ok-pull.ensures c.in_ok-scan_out.ensures
