use Rattle.std.proofs.Common.{sym, ◌∙◌}
use Rattle.pgs_store.specs.Firsts.{at_snap}
use Rattle.pgs_store.specs.Kept.{stored}
use Rattle.pgs_store.specs.Stores.{is_stored}
use Rattle.pgs_store.proofs.Nexts.{next_beyond}
use Rattle.pgs_store.proofs.store.Store.next.Goals as goal

pub returns-then-not-is_above : goal.returns-then-not-is_above
returns-then-not-is_above c =
    next_beyond (is_stored (stored c.args.self.now)) c.args.cursor.now c.args.to.now (at_snap c.in-Some.family.now c.in-Some.snap) c.in-Some.ensures
    (sym c.is_above.ensures ∙ c.if-not-is_above.true)
