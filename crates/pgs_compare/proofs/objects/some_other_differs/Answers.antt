use Rattle.std.proofs.Common.{◌||◌, ◌∙◌}
use Rattle.pgs_compare.proofs.Others.{some_other}
use Rattle.pgs_compare.proofs.objects.some_other_differs.Goals as goal

pub returns : goal.returns
returns c =
    c.either.ensures ∙ (λ i. c.some_differs-before.ensures i || c.some_differs-after.ensures i)
    ∙ some_other c.args.id.now c.args.chosen.now c.args.name c.args.front.now c.args.behind.now
