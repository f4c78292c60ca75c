-- The order in which jobs are picked.
use Rattle.std.proofs.Common.{◌≡◌, true, false, arith}
use Rattle.std.proofs.lemmas.Bool.Decides.{nat_tests}
use Rattle.pgs_queue.specs.declared.job.Job.{Job}
use Rattle.pgs_queue.specs.Jobs.{is_before}

pub before_itself : (a : Job) → is_before a a ≡ false
before_itself a = grind (arith, nat_tests)

pub before_turned : (a b : Job) → is_before a b ≡ true → is_before b a ≡ false
before_turned a b e = grind (arith, nat_tests, e)

-- where b isn't before a, nor c before b, c isn't before a
pub before_joined : (a b c : Job) → is_before b a ≡ false → is_before c b ≡ false → is_before c a ≡ false
before_joined a b c e f = grind (arith, nat_tests, e, f)
