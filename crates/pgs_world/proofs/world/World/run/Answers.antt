use Rattle.pgs_world.proofs.Runs.{run_next, run_scrubbed}
use Rattle.pgs_world.proofs.world.World.run.Goals as goal

pub loop-step-preserved : goal.loop-step-preserved
loop-step-preserved c =
    run_next _ _ _ _ _ c.step-item.result c.loop-step.invariant c.loop-step-test.true c.step-item.is c.in_ok-step.ensures.after c.in_ok-step.ensures.sound

pub returns-clause-scrubbed : goal.returns-clause-scrubbed
returns-clause-scrubbed c = run_scrubbed _ _ _ _ c.loop-step.invariant
