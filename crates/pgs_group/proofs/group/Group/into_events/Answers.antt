use Rattle.pgs_history.proofs.Gates.{waiting, none_above}
use Rattle.pgs_group.proofs.group.Group.into_events.Goals as goal

pub returns-clause-waiting : goal.returns-clause-waiting
returns-clause-waiting c = λ legal. waiting _ _ legal

pub returns-clause-outside : goal.returns-clause-outside
returns-clause-outside c = λ legal. none_above _ _ legal
