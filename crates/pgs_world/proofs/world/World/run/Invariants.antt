use Rattle.pgs_world.proofs.Runs.{IsRunning}
use Rattle.pgs_world.proofs.world.World.run.Given as goal

abbrev pub invariant-loop-step : goal.invariant-loop-step
invariant-loop-step l = IsRunning l.fn.self l.fn.script l.step-index l.self
