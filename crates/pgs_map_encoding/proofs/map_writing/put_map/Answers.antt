use Rattle.pgs_map_encoding.specs.Maps.{map_spelling}
use Rattle.pgs_map_encoding.proofs.Joined.{then_four}
use Rattle.pgs_map_encoding.proofs.map_writing.put_map.Goals as goal

pub returns-clause-spelled : goal.returns-clause-spelled
unfolding map_spelling
returns-clause-spelled c = then_four c.put_entries.result _ _ _ _ _ _ _ _ _ c.in_ok-put_marks.ensures c.in_ok-put_numbers.ensures.spelled c.in_ok-put_range.ensures c.put_entries.ensures
