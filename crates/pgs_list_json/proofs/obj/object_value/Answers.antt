use Rattle.std.proofs.Common.{refl}
use Rattle.pgs_list_json.specs.Object.{put_name}
use Rattle.pgs_list_json.specs.Obj.{object_data}
use Rattle.serde_json.proofs.Views.{view-Object}
use Rattle.pgs_list_json.proofs.obj.object_value.Goals as goal

pub returns : goal.returns
unfolding put_name object_data
returns c =
    rw (view-Object c.put.new.map, c.in_ok-put.ensures.ok, c.in_ok-put_name.ensures, c.new-map.ensures.empty, c.from.ensures, c.chosen_number-number.ensures) refl
