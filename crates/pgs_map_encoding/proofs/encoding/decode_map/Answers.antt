use Rattle.std.proofs.Common.{arith}
use Rattle.pgs_map_encoding.proofs.Maps.{decoded_found, decoded_only}
use Rattle.pgs_map_encoding.proofs.encoding.decode_map.Goals as goal

pub returns-clause-found : goal.returns-clause-found
returns-clause-found c = decoded_found c.args.text.now c.decode_all.result (λ i. omega (arith, c.type_inv.text i)) c.decode_all.ensures

pub returns-clause-only : goal.returns-clause-only
returns-clause-only c = λ m fits spelled. decoded_only c.args.text.now c.decode_all.result m c.decode_all.ensures fits spelled
