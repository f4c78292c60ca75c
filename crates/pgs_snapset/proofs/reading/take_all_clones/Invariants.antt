use Rattle.std.proofs.Common.{◌≡◌, ◌-◌}
use Rattle.pgs_codec.specs.Fields.{read_all}
use Rattle.pgs_codec.proofs.Loop.{with_front}
use Rattle.pgs_snapset.specs.Spelling.{clone}
use Rattle.pgs_snapset.proofs.reading.take_all_clones.Given as goal

-- what was read and what is still to be read are all of it
abbrev pub invariant-loop : goal.invariant-loop
invariant-loop l = with_front l.clones (read_all clone (l.count - l.counter) l.reader) ≡ read_all clone l.count l.fn.reader
