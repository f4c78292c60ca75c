use Rattle.std.proofs.Common.{refl, arith}
use Rattle.std.specs.Option.{option_copied}
use Rattle.std.proofs.lemmas.Option.{slice_get_past, slice_get_read}
use Rattle.pgs_compare.proofs.ShardLaws.{shard_next, no_entry_left}
use Rattle.pgs_compare.proofs.shards.shards_beside.Goals as goal

pub returns-in_default : goal.returns-in_default
returns-in_default c =
    λ id same.
    no_entry_left c.args.primary id (option_copied c.args.chosen) c.args.acting.now c.args.entries.now c.loop-place.place c.loop-place.shards _
    (slice_get_past c.args.entries.now c.loop-place.place c.in_default.ensures.lookup.3) (c.loop-place.invariant id same)

pub loop-place-preserved : goal.loop-place-preserved
loop-place-preserved c =
    λ id same.
    shard_next c.args.primary id (option_copied c.args.chosen) c.args.acting.now c.args.entries.now c.args.judged.now c.loop-place.place _ c.loop-place.shards c.push.new.self
    c.in-Some.entry.now c.in-Some-get.copy.now c.shard_finding.result _ (omega arith)
    (slice_get_read c.args.entries.now _ c.loop-place.place c.in-Some.entry.now refl c.in-Some.ensures.lookup.3.0 c.in-Some.ensures.lookup.1)
    (slice_get_read c.args.judged.now _ c.loop-place.place c.in-Some-get.copy.now refl c.in-Some-get.ensures.lookup.3.0 c.in-Some-get.ensures.lookup.1)
    same c.shard_finding.ensures c.in_ok-push.ensures.ok (c.loop-place.invariant id same)
