use Rattle.std.proofs.Common.{sym, ◌∙◌}
use Rattle.pgs_placement.proofs.Sweeps.{claiming_next, claiming_stops, claiming_count, claiming_ends, claiming_all}
use Rattle.pgs_placement.proofs.placement_group.PlacementGroup.claim_all.Goals as goal

pub claim-requires : goal.claim-requires
claim-requires c = record { sound = c.loop-place.invariant.sound }

pub loop-place-preserved : goal.loop-place-preserved
loop-place-preserved c =
    claiming_next c.args.self.now c.args.group c.args.osds.now c.loop-place.place c.loop-place.self c.claim.new.self c.loop-place.invariant c.loop-place-test.true
    (sym c.in_ok-claim.ensures.granted ∙ c.if-not-branch.false) c.in_ok-claim.ensures.after

pub returns-then-not-branch-clause-granted : goal.returns-then-not-branch-clause-granted
returns-then-not-branch-clause-granted c =
    claiming_count c.args.self.now c.args.group c.args.osds.now c.loop-place.place c.loop-place.self c.loop-place.invariant c.loop-place-test.true
    (sym c.in_ok-claim.ensures.granted ∙ c.if-not-branch.true)

pub returns-then-not-branch-clause-after : goal.returns-then-not-branch-clause-after
returns-then-not-branch-clause-after c =
    claiming_stops c.args.self.now c.args.group c.args.osds.now c.loop-place.place c.loop-place.self c.claim.new.self c.loop-place.invariant c.loop-place-test.true
    (sym c.in_ok-claim.ensures.granted ∙ c.if-not-branch.true) c.in_ok-claim.ensures.after

pub returns-clause-granted : goal.returns-clause-granted
returns-clause-granted c =
    claiming_all c.args.self.now c.args.group c.args.osds.now c.loop-place.place c.loop-place.self c.loop-place.invariant c.loop-place-test.false c.loop-place.auto.place-end

pub returns-clause-after : goal.returns-clause-after
returns-clause-after c = claiming_ends c.args.self.now c.args.group c.args.osds.now c.loop-place.place c.loop-place.self c.loop-place.invariant c.loop-place-test.false
