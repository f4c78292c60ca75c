use Rattle.std.proofs.Common.{ap, ◌∙◌}
use Rattle.pgs_list_json.specs.Obj.{finding_data}
use Rattle.pgs_list_json.proofs.Turns.{value_next, value_end}
use Rattle.pgs_list_json.proofs.obj.findings_value.Goals as goal

pub loop-finding-preserved : goal.loop-finding-preserved
loop-finding-preserved c =
    value_next finding_data c.args.findings.now c.loop-finding.finding-index c.finding-item.result c.loop-finding.list.items c.push.new.list.items c.in_ok-value.value _
    c.loop-finding-test.true c.in_ok-push.ensures.ok (c.in_ok-value.ensures ∙ ap finding_data c.finding-item.is) c.loop-finding.invariant

pub returns : goal.returns
returns c = value_end finding_data c.args.findings.now c.loop-finding.finding-index c.loop-finding.list _ c.loop-finding-test.false c.loop-finding.invariant
