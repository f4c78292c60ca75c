-- What an acknowledgement promises.
use Rattle.std.specs.Prelude.{ℕ, ◌≡◌, ◌≤◌, true, List, Some}
use Rattle.std.specs.List.{AllByRecursion}
use Rattle.pgs_request.specs.declared.req_id.ReqId.{ReqId}
use Rattle.pgs_request.specs.declared.version.Version.{Version}
use Rattle.pgs_done.specs.declared.collect_answer.CollectAnswer.TheVariants.{Acked}
use Rattle.pgs_done.specs.declared.done.Done.{Done}
use Rattle.pgs_done.specs.declared.done.Done.TheVariants.{Collect}
use Rattle.pgs_op_log.specs.Logs.{version_in}
use Rattle.pgs_history.specs.Acting.{acts}
use Rattle.pgs_history.specs.Log.{ids}
use Rattle.pgs_history.specs.Members.{told}
use Rattle.pgs_history.specs.Facts.{times}
use Rattle.pgs_history.specs.declared.event.Event.{Event}
use Rattle.pgs_history.specs.declared.made.Made.{Made}
use Rattle.pgs_shard_history.specs.Stores.{applied}
use Rattle.pgs_shards.specs.Members.{Member, past_in}
use Rattle.pgs_placement.specs.Naming.{id_of}

-- A write is acknowledged: it stands in the log under its version, once; and every acting OSD has applied it and told so.
pub record IsAcknowledged (made : Made) (members : List Member) (past : List Event) (id : ReqId) (version : Version) : Type 0 where
  pub stands : version_in (ids past) id ≡ Some version
  pub once : times (ids past) id ≡ 1
  pub each_told : (osd : ℕ) → acts made past osd ≡ true → version.number ≤ told past osd
  pub each_applied : (osd : ℕ) → acts made past osd ≡ true → version.number ≤ applied (past_in members osd)

-- every answer of this group that a write is acknowledged holds now
abbrev pub StillHolds : Made → List Member → List Event → Done → Type 0
StillHolds made members past (Collect group client serial (Acked version)) = group ≡ made.number → IsAcknowledged made members past (id_of client serial) version
StillHolds made members past done = Unit {0}

abbrev pub AreAcknowledged : Made → List Member → List Event → List Done → Type 0
AreAcknowledged made members past dones = AllByRecursion (StillHolds made members past) dones
