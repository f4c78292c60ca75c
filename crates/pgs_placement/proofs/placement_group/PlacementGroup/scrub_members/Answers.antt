use Rattle.std.proofs.Common.{sym, ◌∙◌}
use Rattle.pgs_placement.proofs.Sound.{member_at}
use Rattle.pgs_placement.proofs.Sweeps.{scrubbing_begins, scrubbing_next}
use Rattle.pgs_placement.proofs.placement_group.PlacementGroup.scrub_members.Goals as goal

pub loop-osd-init : goal.loop-osd-init
loop-osd-init c =
    scrubbing_begins c.args.self.now c.args.group c.as_slice-osd-items.result.now c.requires.sound (c.as_slice-osd-items.ensures ∙ c.in_ok-osds.ensures)

pub scrub_member-requires-clause-member : goal.scrub_member-requires-clause-member
scrub_member-requires-clause-member c =
    member_at c.loop-osd.self.made c.as_slice-osd-items.result.now c.loop-osd.osd-index 0 c.loop-osd-test.true c.loop-osd.invariant.members

pub loop-osd-preserved : goal.loop-osd-preserved
loop-osd-preserved c =
    scrubbing_next _ _ _ _ _ _ _ c.loop-osd.invariant c.loop-osd-test.true (sym c.is_going.ensures ∙ c.if-not-is_going.false) c.in_ok-scrub_member.ensures
