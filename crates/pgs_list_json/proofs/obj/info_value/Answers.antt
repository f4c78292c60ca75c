use Rattle.std.proofs.Common.{ap, option_map}
use Rattle.serde_json.specs.Data.{object, number, unsigned, boolean}
use Rattle.pgs_list_json.specs.Object.{digest_data, version_data}
use Rattle.pgs_list_json.specs.Obj.{info_data}
use Rattle.pgs_list_json.proofs.Tables.{info_members}
use Rattle.serde_json.proofs.Views.{view-Object}
use Rattle.pgs_list_json.proofs.obj.info_value.Goals as goal

pub returns : goal.returns
unfolding info_data
returns c =
    let info = c.args.info.now in
    let table = info_members (option_map digest_data info.data_digest) (option_map digest_data info.omap_digest) (version_data info.prior) (number (unsigned info.size)) (version_data info.version) (boolean info.whiteout) in
    rw (
      view-Object c.put-4.new.map,
      c.in_ok-put-4.ensures.ok,
      c.in_ok-put-3.ensures.ok,
      c.in_ok-put-2.ensures.ok,
      c.in_ok-put.ensures.ok,
      c.in_ok-put_digest-2.ensures,
      c.in_ok-put_digest.ensures,
      c.new-map.ensures.empty,
      c.in_ok-prior.ensures,
      c.in_ok-version.ensures,
      c.from.ensures,
      c.from-2.ensures,
    ) (ap object table)
