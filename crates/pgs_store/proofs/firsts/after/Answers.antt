use Rattle.pgs_store.specs.Kept.{copies_in}
use Rattle.pgs_store.proofs.Nexts.{in_family}
use Rattle.pgs_store.proofs.firsts.after.Goals as goal

pub returns-in-Some : goal.returns-in-Some
returns-in-Some c = in_family (copies_in c.args.families.now) c.args.family.now c.args.snap c.in-Some.next c.in-Some.ensures
