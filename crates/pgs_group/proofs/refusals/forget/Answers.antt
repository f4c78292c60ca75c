use Rattle.std.proofs.Common.{not, rules}
use Rattle.std.proofs.lemmas.Fn.{filter_same}
use Rattle.pgs_op_log.specs.Logs.{same_id}
use Rattle.pgs_group.proofs.refusals.forget.Goals as goal

pub returns : goal.returns
returns c = filter_same _ (λ entry. not (same_id entry.0 c.args.id)) _ (λ x b f' k. search rules) _ _ c.retain.ensures.filtered
