use Rattle.std.proofs.Common.{◌≡◌, ◌++◌, map, drop}
use Rattle.serde_json.specs.View.{view}
use Rattle.pgs_list_json.specs.Obj.{finding_data}
use Rattle.pgs_list_json.proofs.obj.findings_value.Given as goal

-- the values so far, and those of what is left
abbrev pub invariant-loop-finding : goal.invariant-loop-finding
invariant-loop-finding l = map view l.list.items ++ map finding_data (drop l.finding-index l.findings) ≡ map finding_data l.findings
