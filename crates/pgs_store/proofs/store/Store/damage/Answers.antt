use Rattle.std.proofs.Common.{rules}
use Rattle.pgs_copy.specs.Copies.{after_damage}
use Rattle.pgs_store.proofs.Puts.{changed_seen, unchanged_seen, on_err}
use Rattle.pgs_store.proofs.store.Store.damage.Goals as goal

pub returns-in_err-apply_damage-clause-err : goal.returns-in_err-apply_damage-clause-err
returns-in_err-apply_damage-clause-err c =
    on_err c.from_residual.result _
    (unchanged_seen c.args.self.now.families (c.get_mut.follows.lender c.apply_damage.new.copies) c.args.family.now c.apply_damage.new.copies c.in-Some.copies.now
    (search rules) (search rules) c.in_err-apply_damage.ensures.err)

pub returns-in-Some-clause-ok : goal.returns-in-Some-clause-ok
returns-in-Some-clause-ok c =
    changed_seen c.args.self.now.families (c.get_mut.follows.lender c.apply_damage.new.copies) c.args.family.now c.apply_damage.new.copies c.in-Some.copies.now
    (after_damage c.args.snap c.args.damage.now) (search rules) (search rules) c.in_ok-apply_damage.ensures.ok
