-- How far the members are: what was told is applied, what is applied was pulled, what was pulled stands in the log.
use Rattle.std.specs.Prelude.{ℕ, Bool, ◌≡◌, ◌≤◌, ◌==◌, true, List, length, map, Option, Some, None}
use Rattle.std.specs.List.{list_any, AllByRecursion}
use Rattle.pgs_chunk.specs.declared.ask.Ask.{Ask}
use Rattle.pgs_lines.specs.declared.basic.Basic.{Basic}
use Rattle.pgs_lines.specs.declared.basic.Basic.TheVariants as basics
use Rattle.pgs_lines.specs.declared.step.Step.{Step}
use Rattle.pgs_lines.specs.declared.step.Step.TheVariants as steps
use Rattle.pgs_op_log.specs.Logs.{AreNumbered}
use Rattle.pgs_history.specs.Log.{log, ids}
use Rattle.pgs_history.specs.Members.{pulled, told}
use Rattle.pgs_history.specs.Acting.{IsActing}
use Rattle.pgs_history.specs.Scrubs.{IsBegun, opened, open_chunk, last_kind, is_deep}
use Rattle.pgs_history.specs.declared.chunk.Chunk.{Chunk}
use Rattle.pgs_history.specs.Facts.{upto, AreDistinct}
use Rattle.pgs_history.specs.Legal.{IsLegal}
use Rattle.pgs_history.specs.declared.event.Event.{Event}
use Rattle.pgs_history.specs.declared.made.Made.{Made}
use Rattle.pgs_shard_history.specs.Feeds.{fed}
use Rattle.pgs_shard_history.specs.Scanning.{scanning}
use Rattle.pgs_shard_history.specs.Stores.{applied}
use Rattle.pgs_shard_history.specs.declared.event.Event.{Event as ShardEvent}
use Rattle.pgs_shards.specs.Members.{past_in}
use Rattle.pgs_shards.specs.Whole.{IsWholeMember}
use Rattle.pgs_placement.specs.State.{PlacementState}

-- an OSD is a member
abbrev pub is_member : Made → ℕ → Bool
is_member made osd = list_any (λ other. other == osd) made.members

-- what an ask says of its chunk
pub record IsFor (chunk : Chunk) (ask : Ask) : Type 0 where
  pub serial : ask.serial ≡ chunk.serial
  pub range : ask.range ≡ chunk.range
  pub needed : ask.needed ≡ chunk.version

-- An ask is of a chunk that was opened, of a scrub that began; and where that is open still, it says of it, and of its scrub, what is so.
pub record IsOfOpened (past : List Event) (ask : Ask) : Type 0 where
  pub most : ask.chunk ≤ opened past
  pub deep : (chunk : Chunk) → open_chunk past ≡ Some chunk → chunk.number ≡ ask.chunk → ask.deep ≡ is_deep (last_kind past)
  pub now : (chunk : Chunk) → open_chunk past ≡ Some chunk → chunk.number ≡ ask.chunk → IsFor chunk ask
  pub some : 1 ≤ ask.chunk
  pub begun : IsBegun past ask.serial

abbrev pub IsAsked : List Event → Option Ask → Type 0
IsAsked past None = Unit {0}
IsAsked past (Some ask) = IsOfOpened past ask

-- A member's history, beside that of its group: it was fed the items of the log up to the number that it pulled, in
-- order; it applied some of them, from the first on; it told of no more than it had applied; and it scans what it was asked for.
pub record IsInStep (past : List Event) (osd : ℕ) (shard : List ShardEvent) : Type 0 where
  pub items : fed shard ≡ upto (pulled past osd) (log past)
  pub told_applied : told past osd ≤ applied shard
  pub applied_pulled : applied shard ≤ pulled past osd
  pub pulled_log : pulled past osd ≤ length (log past)
  pub asked : IsAsked past (scanning shard).ask

pub record AreInStep (w : PlacementState) : Type 0 where
  pub legal : IsLegal w.made w.past
  pub named : map (λ member. member.osd) w.members ≡ w.made.members
  -- what each member's device holds is what its history says, and that is legal
  pub whole : AllByRecursion (IsWholeMember w.stride) w.members
  pub each : (osd : ℕ) → is_member w.made osd ≡ true → IsInStep w.past osd (past_in w.members osd)

-- The log of a group: its items have the numbers from 1 on, without a gap, and no request stands in it twice.
pub record IsOrderly (w : PlacementState) : Type 0 where
  pub items : AreNumbered (log w.past)
  pub requests : AreDistinct (ids w.past)

-- What a step names, where its answer turns on that: the OSDs are members, and a write is asked for by the group's own number.
abbrev pub IsNamed : Made → Basic → Type 0
IsNamed made (basics.Collect group client serial) = group ≡ made.number
IsNamed made (basics.Pull group osd) = is_member made osd ≡ true
IsNamed made (basics.Take group osd) = is_member made osd ≡ true
IsNamed made (basics.Interval group osds) = IsActing made osds
IsNamed made basic = Unit {0}

abbrev pub IsNamedStep : Made → Step → Type 0
IsNamedStep made (steps.Basic basic) = IsNamed made basic
IsNamedStep made step = Unit {0}
