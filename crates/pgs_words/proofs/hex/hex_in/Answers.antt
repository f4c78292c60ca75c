use Rattle.std.proofs.Common.{◌∙◌, sym}
use Rattle.pgs_words.proofs.HexLaws.{hex_turn, hex_done}
use Rattle.pgs_words.proofs.hex.hex_in.Goals as goal

pub loop-rest-preserved : goal.loop-rest-preserved
loop-rest-preserved c =
    rw (c.in_ok-push-in-Some.ensures.items, c.split_at.ensures.back)
    (hex_turn c.loop-rest.found.items c.loop-rest.rest.now c.args.text.now c.in-Some.byte c.loop-rest.invariant c.loop-rest-test.true (sym c.pair.ensures ∙ c.in-Some.is))

pub returns-then-is_empty : goal.returns-then-is_empty
returns-then-is_empty c =
    rw c.from_vec.ensures (hex_done c.loop-rest.found.items c.loop-rest.rest.now c.args.text.now c.loop-rest.invariant (sym c.is_empty.ensures ∙ c.if-is_empty.true))
