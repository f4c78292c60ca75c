use Rattle.std.proofs.Common.{refl}
use Rattle.pgs_list_json.specs.Snap.{list_snap_data}
use Rattle.serde_json.proofs.Views.{view-Object}
use Rattle.pgs_list_json.proofs.snap.list_value.Goals as goal

pub returns : goal.returns
unfolding list_snap_data
returns c =
    rw (view-Object c.put-2.new.map, c.in_ok-put-2.ensures.ok, c.in_ok-put.ensures.ok, c.new-map.ensures.empty, c.from.ensures, c.in_ok-list.ensures) refl
