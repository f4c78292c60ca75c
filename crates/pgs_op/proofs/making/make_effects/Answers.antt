use Rattle.std.proofs.Common.{rules}
use Rattle.pgs_op.specs.Clean.{clean, held_by}
use Rattle.pgs_op.proofs.Refusals.{refused_of_head}
use Rattle.pgs_op.proofs.making.make_effects.Goals as goal

pub returns-in-Some-clause-made : goal.returns-in-Some-clause-made
returns-in-Some-clause-made c =
    refused_of_head (held_by c.args.clean.now) (clean c.args.clean.now c.args.write.now.family) c.args.log_bytes c.args.write.now c.args.version c.in_ok-head.head
    c.in-Some.refusal (search rules) (search rules)
