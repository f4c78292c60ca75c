use Rattle.pgs_map_encoding.specs.Entries.{entry_spelling}
use Rattle.pgs_map_encoding.proofs.Joined.{then_three}
use Rattle.pgs_map_encoding.proofs.entries_writing.put_entry.Goals as goal

pub returns : goal.returns
unfolding entry_spelling
returns c = then_three c.put_facts.result _ _ _ _ _ _ _ c.in_ok-put_id.ensures.ok c.in_ok-put_outcome.ensures c.put_facts.ensures
