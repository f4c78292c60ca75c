use Rattle.std.proofs.Common.{◌+◌, ◌≤◌, length, rules}
use Rattle.pgs_edge.proofs.Pieces.{takes_more}
use Rattle.pgs_edge.proofs.reading.read_all.Goals as goal

pub returns-in_err-extend_from_slice-clause-front : goal.returns-in_err-extend_from_slice-clause-front
returns-in_err-extend_from_slice-clause-front g c =
    let fits : length c.loop-piece.text.items + length c.read.new.into ≤ c.args.max + 1 = search rules in
    takes_more _ _ _ _ _ _ _ c.loop-piece.invariant.front c.in_ok-count.ensures.bytes.0 fits
