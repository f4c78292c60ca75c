-- The fields of a group are what its events say.
use Rattle.std.specs.Prelude.{ℕ, ◌≡◌, List, reverse, Option, Some, None}
use Rattle.std.specs.HashSet.{contains}
use Rattle.pgs_request.specs.declared.req_id.ReqId.{ReqId}
use Rattle.pgs_store.specs.Stores.{AreSame}
use Rattle.pgs_op.specs.Clean.{clean as clean_of, held_by}
use Rattle.pgs_op_log.specs.Logs.{same_id}
use Rattle.pgs_history.specs.Log.{clean, held, log, ids, log_bytes}
use Rattle.pgs_history.specs.Members.{pulled, asked, told, collected}
use Rattle.pgs_history.specs.Acting.{acting, epoch}
use Rattle.pgs_history.specs.Causes.{causes}
use Rattle.pgs_history.specs.Scrubs.{fates}
use Rattle.pgs_history.specs.Parked.{parked, refusals, AreNew}
use Rattle.pgs_history.specs.History.{History}
use Rattle.pgs_history.specs.declared.event.Event.{Event}
use Rattle.pgs_history.specs.Chunks.{AreOrdered}
use Rattle.pgs_group.specs.Counts.{count_of}
use Rattle.pgs_group.specs.Given.{pulled_of, asked_of}
use Rattle.pgs_group.specs.Scrubbing.{scrubbing}
use Rattle.pgs_group.specs.declared.group.Group.TheInside.{Inside}

-- the acting list, where it changed; else all members
abbrev pub acting_in : Option (List ℕ) → List ℕ → List ℕ
acting_in None members = members
acting_in (Some osds) members = osds

pub record AreTied (g : Inside) (past : List Event) : Type 0 where
  pub log_items : g.log.items ≡ log past
  pub log_ids : g.log.ids ≡ ids past
  pub log_counts : g.log.bytes ≡ log_bytes past
  pub cleans : AreSame (clean_of g.clean) (clean (log past))
  pub holds : held_by g.clean ≡ held (log past)
  pub waits : g.waiting ≡ parked past
  pub fresh : AreNew (ids past) (parked past)
  pub refuses : g.refused.items ≡ refusals past
  pub pulls : (osd : ℕ) → pulled_of g.given osd ≡ pulled past osd
  pub asks : (osd : ℕ) → asked_of g.given osd ≡ asked past osd
  pub tells : (osd : ℕ) → count_of g.told osd ≡ told past osd
  pub scrubs : g.scrubs ≡ scrubbing past
  pub acts : acting_in g.acting.osds g.made.members ≡ acting g.made past
  pub epochs : g.acting.epoch ≡ epoch g.made past
  pub over : g.causes.items ≡ causes g.made past
  pub ended : g.fates.items ≡ fates g.made past
  pub ordered : AreOrdered past
  pub collects : (id : ReqId) → contains same_id g.collected id ≡ collected past id

-- how it is seen
abbrev pub history_of : Inside → History
history_of g = record { made = g.made; past = reverse g.events.items }
