use Rattle.std.proofs.Common.{Some, rules}
use Rattle.pgs_queue.proofs.Picks.{picked}
use Rattle.pgs_queue.proofs.scrub_queue.ScrubQueue.pick.Goals as goal

pub returns-clause-picked : goal.returns-clause-picked
returns-clause-picked c = picked (Some c.in_ok-job.job) c.args.now c.args.self.now c.remove.new.jobs.items (search rules) (search rules)
