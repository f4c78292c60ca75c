use Rattle.std.proofs.Common.{◌∙◌, ◌&&◌, Some, ap, sym}
use Rattle.std.specs.List.{list_all}
use Rattle.std.specs.Option.{option_copied}
use Rattle.pgs_find.specs.ObjectNames.{is_no_object}
use Rattle.pgs_find.specs.ShardNames.{is_no_shard}
use Rattle.pgs_compare.specs.Parts.{entries_seen, info_at}
use Rattle.pgs_compare.proofs.Choosing.{info_chosen}
use Rattle.pgs_compare.proofs.FindingLaws.{ArePartsOf, none_found, some_found}
use Rattle.pgs_compare.proofs.finding.finding.Goals as goal

pub returns-then-is_clean : goal.returns-then-is_clean
returns-then-is_clean c =
    let entries = entries_seen c.args.entries.now in
    let parts : ArePartsOf c.args.acting.now c.args.id.now entries c.args.place (option_copied c.info_at-info.result) c.in_ok-errors.errors c.in_ok-shards.shards =
    record {
      place_is = c.requires.chosen;
      info_is = c.info_at-info.ensures ∙ ap (λ copies. info_at copies c.args.place) c.requires.judged ∙ info_chosen c.args.id.now entries c.args.place c.requires.chosen;
      errors_are = c.in_ok-errors.ensures;
      shards_are = c.in_ok-shards.ensures c.args.id.now c.requires.judged;
    } in
    none_found c.args.acting.now c.args.version c.args.id.now entries c.args.place (option_copied c.info_at-info.result) c.in_ok-errors.errors c.in_ok-shards.shards parts
    (sym (ap (λ shards. is_no_object c.in_ok-errors.errors && list_all (λ shard. is_no_shard shard.errors) shards) c.as_slice.ensures) ∙ sym c.is_clean.ensures ∙ c.if-is_clean.true)

pub returns : goal.returns
returns c =
    let entries = entries_seen c.args.entries.now in
    let parts : ArePartsOf c.args.acting.now c.args.id.now entries c.args.place (option_copied c.info_at-info.result) c.in_ok-errors.errors c.in_ok-shards.shards =
    record {
      place_is = c.requires.chosen;
      info_is = c.info_at-info.ensures ∙ ap (λ copies. info_at copies c.args.place) c.requires.judged ∙ info_chosen c.args.id.now entries c.args.place c.requires.chosen;
      errors_are = c.in_ok-errors.ensures;
      shards_are = c.in_ok-shards.ensures c.args.id.now c.requires.judged;
    } in
    (λ i. Some (record { id = c.in_ok-id.ensures.cases i; version = c.args.version; errors = c.in_ok-errors.errors; shards = c.in_ok-shards.shards; chosen = c.in_ok-chosen.chosen }))
    ∙ some_found c.args.acting.now c.args.version c.args.id.now entries c.args.place (option_copied c.info_at-info.result) c.in_ok-errors.errors c.in_ok-shards.shards c.in_ok-chosen.chosen parts
    c.in_ok-chosen.ensures
    (sym (ap (λ shards. is_no_object c.in_ok-errors.errors && list_all (λ shard. is_no_shard shard.errors) shards) c.as_slice.ensures) ∙ sym c.is_clean.ensures ∙ c.if-is_clean.false)
