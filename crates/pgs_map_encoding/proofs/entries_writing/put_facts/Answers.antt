use Rattle.pgs_map_encoding.proofs.Joined.{then_three}
use Rattle.pgs_map_encoding.proofs.entries_writing.put_facts.Goals as goal

pub returns : goal.returns
returns c = then_three c.put_digests.result _ _ _ _ _ _ _ c.in_ok-put_u64.ensures.ok c.in_ok-put_attrs.ensures c.put_digests.ensures
