use Rattle.std.proofs.Common.{◌∙◌}
use Rattle.pgs_list_json.proofs.Floats.{snap_text}
use Rattle.pgs_list_json.proofs.snap.list_snap.Goals as goal

pub returns : goal.returns
returns c = c.from_vec.ensures ∙ snap_text c.args.epoch c.args.findings.now c.in_ok-value.value c.in_ok-text.text.items c.in_ok-value.ensures c.in_ok-text.ensures.text
