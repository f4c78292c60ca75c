-- One more request stands first.
use Rattle.std.proofs.Common.{◌≡◌, [], ◌∷◌}
use Rattle.std.specs.Prelude.{None, reverse}
use Rattle.std.proofs.lemmas.List.{reverse-append}
use Rattle.indexmap.specs.IndexMap.{IndexMap, get, insert_entry}
use Rattle.indexmap.proofs.CallerLemmas.{insert_entry-new}
use Rattle.pgs_request.specs.declared.req_id.ReqId.{ReqId}
use Rattle.pgs_request.specs.declared.version.Version.{Version}
use Rattle.pgs_op_log.specs.Logs.{same_id}

pub entries_more : {S : Type 0} (m : IndexMap ReqId Version S) (id : ReqId) (version : Version) → get same_id m id ≡ None → reverse (insert_entry same_id m.entries id version) ≡ (id, version) ∷ reverse m.entries
entries_more m id version absent = rw (insert_entry-new same_id m id version absent) (reverse-append m.entries ((id, version) ∷ []))
