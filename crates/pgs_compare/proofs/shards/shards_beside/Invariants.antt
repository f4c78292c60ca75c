use Rattle.std.proofs.Common.{◌≡◌, ◌++◌, drop}
use Rattle.std.specs.Option.{option_copied}
use Rattle.pgs_name.specs.declared.object_id.ObjectId.{ObjectId}
use Rattle.pgs_compare.specs.Finding.{shards_from}
use Rattle.pgs_compare.specs.Parts.{entries_seen, all_judged}
use Rattle.pgs_compare.proofs.shards.shards_beside.Given as goal

abbrev pub invariant-loop-place : goal.invariant-loop-place
invariant-loop-place l =
    (id : ObjectId) → l.judged ≡ all_judged id (entries_seen l.entries)
    → l.shards ++ shards_from l.primary id (option_copied l.chosen) (drop l.place l.acting) (drop l.place (entries_seen l.entries))
    ≡ shards_from l.primary id (option_copied l.chosen) l.acting (entries_seen l.entries)
