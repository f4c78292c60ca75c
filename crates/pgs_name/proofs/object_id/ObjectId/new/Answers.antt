use Rattle.std.proofs.Common.{sym}
use Rattle.pgs_name.proofs.Named.{within_bounds, not_refused}
use Rattle.pgs_name.proofs.object_id.ObjectId.new.Goals as goal

pub returns-in-Some-clause-only_memory : goal.returns-in-Some-clause-only_memory
returns-in-Some-clause-only_memory c = λ within. absurd (not_refused _ _ _ _ _ (sym c.in-Some.ensures) within)

pub returns-clause-within : goal.returns-clause-within
returns-clause-within c = within_bounds _ _ _ _ (sym c.in_default.ensures)
