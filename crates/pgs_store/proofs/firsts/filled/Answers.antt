use Rattle.std.proofs.Common.{rules}
use Rattle.std.proofs.lemmas.Bool.Decides.{nat_tests as tests}
use Rattle.std.proofs.lemmas.Iterator.Search.{find_from_yields_List}
use Rattle.std.proofs.lemmas.Iterator.Consumers.{YieldsList-from_rest}
use Rattle.pgs_store.specs.Firsts.{has_copies}
use Rattle.pgs_store.proofs.firsts.filled.Goals as goal

pub returns-clause-first : goal.returns-clause-first
returns-clause-first c =
    find_from_yields_List has_copies _ _ _ c.find.ensures.ran (YieldsList-from_rest _ (c.range.ensures.between tt)) (λ x b q k. search (rules, tests))
