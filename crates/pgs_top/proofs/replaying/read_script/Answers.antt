use Rattle.std.proofs.Common.{ap, Err}
use Rattle.pgs_top.proofs.Dues.{long_due}
use Rattle.pgs_top.proofs.replaying.read_script.Goals as goal

pub returns-in-Err-TooLong-clause-due : goal.returns-in-Err-TooLong-clause-due
returns-in-Err-TooLong-clause-due g c = long_due _ _ _ (c.in-Err-TooLong.ensures.came (ap Err c.in-Err-TooLong.field-0-is))
