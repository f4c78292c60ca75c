use Rattle.std.proofs.Common.{◌∙◌, ap, reverse}
use Rattle.pgs_op_log.proofs.Entries.{entries_more}
use Rattle.pgs_op_log.proofs.requests.put.Goals as goal

pub returns-in-Ok-clause-entries : goal.returns-in-Ok-clause-entries
returns-in-Ok-clause-entries c = ap reverse c.in-Ok.ensures.entries ∙ entries_more c.args.ids.now c.args.id c.args.version c.requires.absent
