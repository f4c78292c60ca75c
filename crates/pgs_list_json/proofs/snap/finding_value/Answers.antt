use Rattle.std.proofs.Common.{ap}
use Rattle.serde_json.specs.Data.{object}
use Rattle.pgs_find.specs.SnapNames.{snap_word, snap_names_of, has_snap}
use Rattle.pgs_find.specs.declared.snap_error.SnapError.TheVariants.{CloneMissing, ExtraClones}
use Rattle.pgs_list_json.specs.Members.{words_data, numbers_data, only_where}
use Rattle.pgs_list_json.specs.Object.{text_data, locator_data, snap_data, put_name}
use Rattle.pgs_list_json.specs.Snap.{snap_finding_data}
use Rattle.pgs_list_json.proofs.Tables.{snap_members}
use Rattle.serde_json.proofs.Views.{view-Object}
use Rattle.pgs_list_json.proofs.snap.finding_value.Goals as goal

pub returns : goal.returns
unfolding put_name snap_finding_data
returns c =
    let finding = c.args.finding.now in
    let table = snap_members (only_where (has_snap finding.errors ExtraClones) (numbers_data finding.extra)) (only_where (has_snap finding.errors CloneMissing) (numbers_data finding.missing))
    (words_data snap_word (snap_names_of finding.errors)) (locator_data finding.id) (text_data finding.id.family.name) (text_data finding.id.family.space) (snap_data finding.id.snap) in
    rw (
      view-Object c.put_numbers_where-2.new.map,
      c.in_ok-put_numbers_where-2.ensures,
      c.in_ok-put_numbers_where.ensures,
      c.in_ok-put_name.ensures,
      c.in_ok-put.ensures.ok,
      c.new-map.ensures.empty,
      c.in_ok-errors.ensures,
      c.has-has_extra.ensures.told,
      c.has-lacks_some.ensures.told,
    ) (ap object table)
