use Rattle.std.proofs.Common.{arith}
use Rattle.pgs_info.proofs.InfoLaws.{decoded_found, decoded_only}
use Rattle.pgs_info.proofs.info.ObjectInfo.decode.Goals as goal

pub returns-clause-found : goal.returns-clause-found
returns-clause-found c = decoded_found c.args.text.now c.decode_all.result (λ i. omega (arith, c.type_inv.text i)) c.decode_all.ensures

pub returns-clause-only : goal.returns-clause-only
returns-clause-only c = λ i fits spelled. decoded_only c.args.text.now c.decode_all.result i c.decode_all.ensures fits spelled
