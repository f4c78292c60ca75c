-- How a log in memory is seen, and what holds in it.
use Rattle.std.specs.Prelude.{◌≡◌, ◌≤◌, ◌-◌, min, reverse, vec_len, vec_capacity}
use Rattle.indexmap.specs.IndexMap.{get, spare}
use Rattle.pgs_request.specs.declared.req_id.ReqId.{ReqId}
use Rattle.pgs_op.specs.declared.limits.TheConstants.{LOG_MAX}
use Rattle.pgs_op_log.specs.Logs.{Log, AreNumbered, same_id, version_in}
use Rattle.pgs_op_log.specs.declared.group_log.GroupLog.TheInside.{Inside}

-- how it is seen
abbrev pub log_of : Inside → Log
log_of g = record {
  items = reverse g.items.items;
  ids = reverse g.ids.entries;
  bytes = g.bytes;
  room = min (vec_capacity g.items - vec_len g.items) (spare g.ids);
}

-- what holds in it: a request is found by the first look into the list of them
pub record IsKept (g : Inside) : Type 0 where
  pub numbered : AreNumbered (reverse g.items.items)
  pub found : (id : ReqId) → get same_id g.ids id ≡ version_in (reverse g.ids.entries) id
  pub within : g.bytes ≤ LOG_MAX
