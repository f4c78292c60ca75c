use Rattle.std.proofs.Common.{sym}
use Rattle.std.specs.Range.Bound.{bound_map}
use Rattle.pgs_store.proofs.Filled.{one_first}
use Rattle.pgs_store.proofs.firsts.first_from.Goals as goal

pub returns : goal.returns
returns c =
    one_first c.args.families.now (bound_map (λ x. x.now) c.args.start) c.in-Some.family.now c.in-Some.copies.now c.in-Some-first_key_value.snap.now _
    c.filled.ensures.ordered (sym c.in-Some.ensures.first) c.in-Some-first_key_value.ensures.value c.in-Some-first_key_value.ensures.least
