use Rattle.std.proofs.Common.{◌≡◌, ◌-◌, []}
use Rattle.pgs_codec.proofs.Loop.{with_front}
use Rattle.pgs_map_encoding.specs.Chains.{read_chain, last_of}
use Rattle.pgs_map_encoding.specs.Entries.{entry}
use Rattle.pgs_map_encoding.proofs.entries_reading.take_all_entries.Given as goal

-- what was read and what is still to be read are all of it
abbrev pub invariant-loop : goal.invariant-loop
invariant-loop l = with_front l.entries (read_chain (entry l.range) (last_of l.entries) (l.count - l.counter) l.reader) ≡ read_chain (entry l.range) (last_of []) l.count l.fn.reader
