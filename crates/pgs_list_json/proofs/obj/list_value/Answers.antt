use Rattle.std.proofs.Common.{refl}
use Rattle.pgs_list_json.specs.Obj.{list_obj_data}
use Rattle.serde_json.proofs.Views.{view-Object}
use Rattle.pgs_list_json.proofs.obj.list_value.Goals as goal

pub returns : goal.returns
unfolding list_obj_data
returns c =
    rw (view-Object c.put-2.new.map, c.in_ok-put-2.ensures.ok, c.in_ok-put.ensures.ok, c.new-map.ensures.empty, c.from.ensures, c.in_ok-list.ensures) refl
