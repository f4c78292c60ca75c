use Rattle.std.proofs.Common.{ap, option_map}
use Rattle.serde_json.specs.Data.{object}
use Rattle.pgs_find.specs.ObjectNames.{object_word, object_names_of}
use Rattle.pgs_find.specs.ShardNames.{shard_word}
use Rattle.pgs_list_json.specs.Members.{words_data, array_of}
use Rattle.pgs_list_json.specs.Obj.{object_data, chosen_data, shard_data, by_osd, union_of, finding_data}
use Rattle.pgs_list_json.proofs.Tables.{finding_members}
use Rattle.serde_json.proofs.Views.{view-Object}
use Rattle.pgs_list_json.proofs.obj.finding_value.Goals as goal

pub returns : goal.returns
unfolding finding_data
returns c =
    let finding = c.args.finding.now in
    let table = finding_members (option_map chosen_data finding.chosen) (words_data object_word (object_names_of finding.errors)) (object_data finding)
    (array_of shard_data (by_osd finding.shards)) (words_data shard_word (union_of finding.shards)) in
    rw (
      view-Object c.put-4.new.map,
      c.in_ok-put-4.ensures.ok,
      c.in_ok-put-3.ensures.ok,
      c.in_ok-put_chosen.ensures,
      c.in_ok-put-2.ensures.ok,
      c.in_ok-put.ensures.ok,
      c.new-map.ensures.empty,
      c.in_ok-errors.ensures,
      c.in_ok-object.ensures,
      c.in_ok-shards.ensures,
      c.in_ok-union.ensures,
      c.as_slice-found.ensures,
    ) (ap object table)
