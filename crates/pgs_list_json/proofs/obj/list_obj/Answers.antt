use Rattle.std.proofs.Common.{◌∙◌}
use Rattle.pgs_list_json.proofs.Floats.{obj_text}
use Rattle.pgs_list_json.proofs.Sorting.{are_by_osd}
use Rattle.pgs_list_json.proofs.obj.list_obj.Goals as goal

pub returns-in_err-value-clause-order : goal.returns-in_err-value-clause-order
returns-in_err-value-clause-order c = are_by_osd

pub returns-in_err-text-clause-order : goal.returns-in_err-text-clause-order
returns-in_err-text-clause-order c = are_by_osd

pub returns-clause-order : goal.returns-clause-order
returns-clause-order c = are_by_osd

pub returns-clause-text : goal.returns-clause-text
returns-clause-text c = c.from_vec.ensures ∙ obj_text c.args.epoch c.args.findings.now c.in_ok-value.value c.in_ok-text.text.items c.in_ok-value.ensures c.in_ok-text.ensures.text
