use Rattle.std.proofs.Common.{◌==◌, not, rules}
use Rattle.std.proofs.lemmas.Fn.{filter_same}
use Rattle.pgs_queue.proofs.searches.remove.Goals as goal

pub returns : goal.returns
returns c = filter_same _ (λ job. not (job.group == c.args.group)) _ (λ x b f' k. search rules) _ _ c.retain.ensures.filtered
