use Rattle.std.proofs.Common.{◌≡◌, ◌++◌, drop}
use Rattle.pgs_codec.specs.Fields.{all_spelled}
use Rattle.pgs_snapset.specs.Spelling.{clone}
use Rattle.pgs_snapset.proofs.writing.put_all_clones.Given as goal

-- what was spelled and what is still to be spelled
abbrev pub invariant-loop-clone : goal.invariant-loop-clone
invariant-loop-clone l = l.into.items ++ all_spelled clone (drop l.clone-index l.clones) ≡ l.fn.into.items ++ all_spelled clone l.clones
