use Rattle.pgs_list_json.proofs.Digits.{digest_written}
use Rattle.pgs_list_json.proofs.object.digest_value.Goals as goal

pub returns : goal.returns
returns c = let text = c.in_ok-text.ensures.ok in digest_written c.args.digest c.in_ok-text.text (rw (c.laid_out.ensures, c.in_radix.ensures) at text)
