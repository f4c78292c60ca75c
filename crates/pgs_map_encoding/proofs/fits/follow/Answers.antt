use Rattle.std.proofs.Common.{rules, ◌≡◌, true, List, [], sym, subst, ◌∙◌}
use Rattle.pgs_map.specs.declared.entry.Entry.{Entry}
use Rattle.pgs_map_encoding.specs.Chains.{chain_fits, last_of}
use Rattle.pgs_map_encoding.specs.Entries.{entry}
use Rattle.pgs_map_encoding.proofs.Chains.{follow_on}
use Rattle.pgs_map_encoding.proofs.fits.follow.Goals as goal

pub loop-at-preserved : goal.loop-at-preserved
loop-at-preserved c =
    let passed : c.entry_fits.result ≡ true = search rules in
    follow_on (entry c.args.range.now) c.args.entries.now c.loop-at.at c.index-entries-at.result (chain_fits (entry c.args.range.now) (last_of []) c.args.entries.now) c.loop-at-test.true c.index-entries-at.is
    (subst (λ (before : List Entry). (entry c.args.range.now (last_of before)).fits c.index-entries-at.result ≡ true) c.before-in-loop-at.ensures (sym c.entry_fits.ensures ∙ passed)) c.loop-at.invariant
