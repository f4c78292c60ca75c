use Rattle.std.proofs.Common.{◌∙◌, ap}
use Rattle.pgs_crc.specs.Digest.{crc_from}
use Rattle.pgs_crc.proofs.Steps.{in_pieces}
use Rattle.pgs_crc.proofs.crc.Crc.update.Goals as goal

pub returns-clause-text : goal.returns-clause-text
returns-clause-text g c =
    in_pieces _ _ _ (c.with_bytes-self-inside.ensures ∙ ap (λ v. crc_from v c.args.piece.now) c.self.view_is)
